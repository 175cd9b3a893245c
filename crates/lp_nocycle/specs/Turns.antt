-- The greatest number of pivots by a choice of the entering variable that turns to Bland's rule
-- after a run of degenerate pivots (Chvatal, Linear Programming, chapter 3).
use Rattle.std.specs.Prelude.{ℕ, ◌+◌, ◌*◌, ◌<◌, ◌≤◌, List, length}
use Rattle.gq_number.specs.Number.{Number}
use Rattle.lp_core.specs.declared.answer.Pivot.{Pivot}
use Rattle.lp_core.specs.declared.answer.Rule.TheVariants.{Bland}
use Rattle.lp_core.specs.declared.answer.Answer.{Answer}
use Rattle.lp_core.specs.declared.program.Lp.{Lp}
use Rattle.lp_core.specs.Dictionary.{Dictionary}
use Rattle.lp_core.specs.Pivots.{IsChosen}
use Rattle.lp_core.specs.LargestCoefficient.{HasTurned}
use Rattle.lp_nocycle.specs.PivotCount.{twice_sets, variable_count, IsInterrupted}

-- `choice` lets q enter only by Bland's rule, at a dictionary d in whose phase the search has
-- turned to that rule (`HasTurned`). `pivots` lead from the dictionary `first` to d. A search turns
-- after as many successive degenerate pivots as there are variables, variable 0 included
abbrev pub TurnsToBland : (Dictionary → List Pivot → Dictionary → ℕ → Type 0) → Type 0
TurnsToBland choice =
    (first : Dictionary) (pivots : List Pivot) (d : Dictionary) (q : ℕ) → choice first pivots d q → HasTurned first pivots d → IsChosen Bland d q

-- a bound of the number of pivots over n = `variables` variables: 2 · 2^n · (n + 1). There are two
-- phases and 2^n subsets of the variables. In a phase a basis may occur once for each count of
-- successive degenerate pivots, from 0 to n - 1, before the search turns to Bland's rule, and once
-- after that
abbrev pub pivots_by_turn : ℕ → ℕ
pivots_by_turn variables = twice_sets variables * (variables + 1)

-- an answer has fewer pivots than 2 · 2^n · (n + 1) (`pivots_by_turn`), where n is the number of
-- variables of the standard form, slacks and variable 0 included
abbrev pub HasFewPivotsByTurn : {F : Type 0} → (F → Number) → Lp F → Answer F → Type 0
HasFewPivotsByTurn value lp answer = length answer.pivots < pivots_by_turn (variable_count value lp)

-- if the limit of pivots `iterlim` is at least 2 · 2^n · (n + 1) (`pivots_by_turn`), where n is the
-- number of variables of the standard form, slacks and variable 0 included, the end is not
-- Interrupted
abbrev pub EndsUninterruptedByTurn : {F : Type 0} → (F → Number) → Lp F → ℕ → Answer F → Type 0
EndsUninterruptedByTurn value lp iterlim answer = pivots_by_turn (variable_count value lp) ≤ iterlim → ¬ (IsInterrupted answer.end)
