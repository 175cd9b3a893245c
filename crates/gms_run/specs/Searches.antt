-- That the searches of a run end (Chvatal, "Linear Programming", chapter 3).
use Rattle.std.specs.Prelude.{◌≡◌, ◌≤◌, ℕ, List, slice_get, Some, IfSome, All}
use Rattle.gq_number.specs.Number.{Number}
use Rattle.gq_frac.specs.declared.frac.Frac.{Frac}
use Rattle.gms_event.specs.Events.{Event, solves}
use Rattle.lp_core.specs.declared.answer.Answer.{Answer}
use Rattle.lp_slot.specs.declared.solver.SolverRule.{SolverRule}
use Rattle.lp_slot.specs.declared.solver.SolverRule.TheVariants.{Bland, LargestCoefficient, Turning, Legal}
use Rattle.lp_nocycle.specs.PivotCount.{twice_sets, variable_count, IsInterrupted}
use Rattle.lp_nocycle.specs.Turns.{pivots_by_turn}

-- `iterlim`, a limit of pivots, is at least the known bound of the pivots of a solve under this
-- rule, over n variables (`variables`): 2 · 2^n for Bland (`twice_sets`), and n + 1 times that for
-- LargestCoefficient and Turning (`pivots_by_turn`). For the rule Legal no bound is known, so no
-- limit is enough
abbrev pub IsEnough : SolverRule → ℕ → ℕ → Type 0
IsEnough Bland variables iterlim = twice_sets variables ≤ iterlim
IsEnough LargestCoefficient variables iterlim = pivots_by_turn variables ≤ iterlim
IsEnough Turning variables iterlim = pivots_by_turn variables ≤ iterlim
IsEnough Legal variables iterlim = ⊥

-- If the event is a solve whose limit of pivots is enough for the rule of its solver, over the
-- variables of the standard form of its linear program, slacks and the auxiliary variable 0
-- included, then its answer is not Interrupted. Any other event satisfies this.
abbrev pub SearchEnds : List SolverRule → List (Answer Frac) → Event → Type 0
SearchEnds rules answers (solves solved) =
    (rule : SolverRule) → slice_get rules solved.settings.solver ≡ Some rule → IsEnough rule (variable_count (λ (x : Number). x) solved.lp) solved.settings.iterlim →
    IfSome (slice_get answers solved.answer) (λ answer. ¬ (IsInterrupted answer.end))
SearchEnds rules answers event = Unit {0}

-- For each solve among the events: if its limit of pivots is at least the known bound of the pivots
-- under its solver's rule (`IsEnough`), its answer is not Interrupted. `rules` are those of the
-- solvers, and `answers` are those to the solves.
abbrev pub SearchesEnd : List SolverRule → List (Answer Frac) → List Event → Type 0
SearchesEnd rules answers events = All (SearchEnds rules answers) events
