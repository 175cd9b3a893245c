-- When each solve of a run is answered: its answer is one of its linear program (Chvatal, "Linear
-- Programming", chapters 2, 3 and 8).
use Rattle.std.specs.Prelude.{◌≡◌, ℕ, List, slice_get, Some, All}
use Rattle.gq_number.specs.Number.{Number}
use Rattle.gms_event.specs.Events.{Event, solves}
use Rattle.lp_core.specs.Numbers.{lp_numbers}
use Rattle.lp_slot.specs.Under.{IsAnswerUnder}
use Rattle.lp_core.specs.declared.answer.Answer.{Answer}
use Rattle.lp_slot.specs.declared.solver.SolverRule.{SolverRule}
use Rattle.lp_core.specs.declared.program.Lp.{Lp}
use Rattle.gms_event.specs.Events.{Solved}

-- The solve `solved`, an event of a run, is answered. Its linear program is `lp`, with the number
-- that `value` gives each value of `F`. The answer at the index `solved.answer` of `answers` is an
-- answer of `lp`, under the limit `limit` on the size of numbers and the solve's setting `iterlim`,
-- a limit of pivots. The pivots obey the rule of the solver that the solve's settings choose;
-- `rules` has the pivot rule of each solver.
pub record IsSolved {F : Type 0} (value : F → Number) (limit : ℕ) (rules : List SolverRule) (answers : List (Answer F)) (solved : Solved) : Type 0 where
  pub lp : Lp F
  pub shows : lp_numbers value lp ≡ solved.lp
  pub answer : Answer F
  pub occurs : slice_get answers solved.answer ≡ Some answer
  pub rule : SolverRule
  pub chosen : slice_get rules solved.settings.solver ≡ Some rule
  pub is_answer : IsAnswerUnder value limit lp solved.settings.iterlim rule answer

-- if the event is a solve, `answers` has an answer of its linear program, under the limit `limit`
-- on the size of numbers and by the pivot rule of its solver (`IsSolved`); any other event needs no
-- answer
abbrev pub IsAnswered : {F : Type 0} → (F → Number) → ℕ → List SolverRule → List (Answer F) → Event → Type 0
IsAnswered value limit rules answers (solves solved) = IsSolved value limit rules answers solved
IsAnswered value limit rules answers event = Unit {0}

-- for each solve among these events, `answers` has an answer of its linear program, under the limit
-- `limit` on the size of numbers and by the pivot rule of its solver (`IsSolved`)
abbrev pub AreAnswered : {F : Type 0} → (F → Number) → ℕ → List SolverRule → List (Answer F) → List Event → Type 0
AreAnswered value limit rules answers events = All (IsAnswered value limit rules answers) events
