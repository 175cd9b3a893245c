use Rattle.lp_slot.specs.SolverNames.{IsSolverName}
use Rattle.gms_run.proofs.Reports.{named_all, named_more}
use Rattle.gms_run.proofs.report.names_of.Goals as goal

pub loop-solver-preserved : goal.loop-solver-preserved
loop-solver-preserved g c = (
  named_more (λ b. (goal.LpSolver-dyn g (b.vtable, b.value)).name b.value) c.args.solvers.now c.loop-solver.solver-index c.solver-item.result c.loop-solver.names.items c.push.new.self.items c.in_ok-text.text c.loop-solver-test.true c.solver-item.is c.loop-solver.invariant.0 c.in_ok-push.ensures.items c.in_ok-text.ensures.text,
  named_all IsSolverName c.loop-solver.names.items c.push.new.self.items c.in_ok-text.text c.loop-solver.invariant.1 c.in_ok-push.ensures.items c.in_ok-text.ensures.named,
)
