-- The turn to Bland's rule after a run of degenerate pivots, from any other rule (Chvatal, Linear
-- Programming, chapters 2 and 3).
use Rattle.std.specs.Prelude.{ℕ, List, ◌⊎◌}
use Rattle.gq_number.specs.Number.{Number}
use Rattle.lp_core.specs.declared.answer.Answer.{Answer}
use Rattle.lp_core.specs.declared.answer.Pivot.{Pivot}
use Rattle.lp_core.specs.declared.answer.Rule.TheVariants.{Bland}
use Rattle.lp_core.specs.declared.program.Lp.{Lp}
use Rattle.lp_core.specs.Dictionary.{Dictionary, Improves, IsProper}
use Rattle.lp_core.specs.Pivots.{IsChosen}
use Rattle.lp_core.specs.Answers.{IsAnswerByChoice}
use Rattle.lp_core.specs.LargestCoefficient.{HasTurned}

-- variable q may enter next, at the dictionary d to which `pivots` lead from `first`. If the search
-- has turned to Bland's rule in the phase of d, q is the improving variable with the least number;
-- else `Picks` picks q. The search turns after n + 1 successive degenerate pivots of a phase; the
-- variables, with slacks, are 0 to n
abbrev pub IsNextBy : (Dictionary → ℕ → Type 0) → Dictionary → List Pivot → Dictionary → ℕ → Type 0
IsNextBy Picks first pivots d q = (¬ (HasTurned first pivots d) × Picks d q) ⊎ (HasTurned first pivots d × IsChosen Bland d q)

-- the rule picks a variable at each dictionary with `IsProper`, the invariant of a program's
-- dictionaries, at which some variable improves
abbrev pub AlwaysPicks : (Dictionary → ℕ → Type 0) → Type 0
AlwaysPicks Picks = (d : Dictionary) → IsProper d → ((v : ℕ) × Improves d v) → (q : ℕ) × Picks d q

-- an answer of a program under `iterlim`, a limit of pivots. Except in the opening pivot of phase
-- 1, the entering variable is one that the rule `Picks` picks; but after as many successive
-- degenerate pivots of a phase as there are variables, slacks and variable 0 included, Bland's rule
-- picks to the end of the phase. `limit` bounds the numerators and denominators that the solver
-- computes with
abbrev pub IsTurningAnswer : {F : Type 0} → (F → Number) → ℕ → (Dictionary → ℕ → Type 0) → Lp F → ℕ → Answer F → Type 0
IsTurningAnswer value limit Picks lp iterlim answer = IsAnswerByChoice value limit lp iterlim (IsNextBy Picks) answer
