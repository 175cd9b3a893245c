-- No loop holds the statement.
use Rattle.std.proofs.Common.{map, subst}
use Rattle.gq_frac.specs.Frac.{frac_value, frac_limit}
use Rattle.gms_exec.specs.Executing.{run_view}
use Rattle.gms_exec.specs.Run.{of_statement}
use Rattle.gms_exec.specs.Stepping.{Runs}
use Rattle.gms_run.proofs.execution.step_alone.Goals as goal

pub returns-clause-runs : goal.returns-clause-runs
returns-clause-runs g c =
    subst (λ b. Runs frac_value c.step.result (of_statement frac_value frac_limit (record { program = c.args.program.now; solvers = map (λ b. (goal.LpSolver-dyn g (b.vtable, b.value)).name b.value) c.args.solvers.now.items }) c.args.s.now b) (run_view c.args.run.now) (run_view c.step.new.run)) c.new-none.ensures c.step.ensures.runs

pub returns-clause-leaves : goal.returns-clause-leaves
returns-clause-leaves g c = c.step.ensures.leaves
