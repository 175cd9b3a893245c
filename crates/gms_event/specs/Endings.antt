-- The status of a model and of a solver after a solve (GAMS User's Guide, "GAMS Output", model
-- status and solver status).
use Rattle.std.specs.Prelude.{ℕ, ◌==◌, if◌then◌else◌}
use Rattle.gms_store.specs.declared.status.SolveStatus.{SolveStatus}
use Rattle.gms_store.specs.declared.status.SolveStatus.TheVariants as status
use Rattle.lp_core.specs.declared.answer.End.{End}
use Rattle.lp_core.specs.declared.answer.End.TheVariants.{Optimal, Infeasible, Unbounded, Interrupted, Refused}

-- the status of a model after a solve that its limit of pivots interrupts: Intermediate in phase 1,
-- in which no feasible point is found, and else Feasible
abbrev pub interrupted : ℕ → SolveStatus
interrupted phase = if phase == 1 then status.Intermediate else status.Feasible

-- The status of a model after a solve with this end. `Interrupted` is an end at the limit of
-- pivots, in phase 1 or 2. `Refused` is an end at the step `name`, whose result exceeds the
-- limit of the number field.
abbrev pub solve_status : {F : Type 0} → End F → SolveStatus
solve_status (Optimal levels row_levels duals reduced) = status.Optimal
solve_status (Unbounded levels row_levels ray) = status.Unbounded
solve_status (Infeasible duals crossed) = status.Infeasible
solve_status (Interrupted phase levels row_levels) = interrupted phase
solve_status (Refused name) = status.Unanswered
