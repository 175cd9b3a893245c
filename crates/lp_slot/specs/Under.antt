-- Answers under the rule of a solver (Chvatal, Linear Programming, chapters 2, 3 and 8).
use Rattle.std.specs.Prelude.{◌⊎◌, ℕ, List}
use Rattle.gq_number.specs.Number.{Number}
use Rattle.lp_core.specs.declared.answer.Answer.{Answer}
use Rattle.lp_core.specs.declared.answer.Pivot.{Pivot}
use Rattle.lp_core.specs.declared.answer.Rule.TheVariants as by
use Rattle.lp_core.specs.declared.program.Lp.{Lp}
use Rattle.lp_core.specs.Answers.{IsAnswer, IsAnswerByChoice}
use Rattle.lp_core.specs.Dictionary.{Dictionary, Improves}
use Rattle.lp_core.specs.LargestCoefficient.{HasTurned, IsLargestAnswer}
use Rattle.lp_core.specs.Pivots.{IsChosen}
use Rattle.lp_slot.specs.declared.solver.SolverRule.{SolverRule}
use Rattle.lp_slot.specs.declared.solver.SolverRule.TheVariants.{Bland, LargestCoefficient, Turning, Legal}

-- variable q may enter next, at the dictionary d, which the pivots so far reach from `first`: q
-- improves, and if the search has turned to Bland's rule in the phase of d, no improving variable
-- has a lesser number. It turns after as many successive degenerate pivots as there are variables,
-- variable 0 included
abbrev pub IsNextImproving : Dictionary → List Pivot → Dictionary → ℕ → Type 0
IsNextImproving first pivots d q = (¬ (HasTurned first pivots d) × Improves d q) ⊎ (HasTurned first pivots d × IsChosen by.Bland d q)

-- an answer of a program, with at most `iterlim` pivots, by the rule with which a solver chooses
-- pivots: Bland's rule; LargestCoefficient; Turning, any improving variable; Legal, any legal
-- pivot. By LargestCoefficient and Turning the search turns to Bland's rule, to the end of the
-- phase, after as many successive degenerate pivots in the phase as there are variables, variable 0
-- included. `limit` bounds the numerators and denominators that the solver computes with
abbrev pub IsAnswerUnder : {F : Type 0} → (F → Number) → ℕ → Lp F → ℕ → SolverRule → Answer F → Type 0
IsAnswerUnder value limit lp iterlim Bland answer = IsAnswer value limit lp iterlim by.Bland answer
IsAnswerUnder value limit lp iterlim LargestCoefficient answer = IsLargestAnswer value limit lp iterlim answer
IsAnswerUnder value limit lp iterlim Turning answer = IsAnswerByChoice value limit lp iterlim IsNextImproving answer
IsAnswerUnder value limit lp iterlim Legal answer = IsAnswer value limit lp iterlim by.Legal answer
