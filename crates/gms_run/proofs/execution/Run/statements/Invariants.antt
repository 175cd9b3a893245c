use Rattle.std.proofs.Common.{length}
use Rattle.gms_run.specs.InnerRuns.{between, pending}
use Rattle.gms_run.specs.InnerSteps.{work}
use Rattle.gms_run.specs.Solving.{solver_views}
use Rattle.gms_run.proofs.Executing.{AtStatement}
use Rattle.gms_run.proofs.execution.Run.statements.Given as goal

-- the loop reaches a statement
abbrev pub invariant-loop-s : goal.invariant-loop-s
invariant-loop-s g l =
    AtStatement (work l.program l.fn.self.progress.store l.list) (solver_views (λ b. (goal.LpSolver-dyn g (b.vtable, b.value)).name b.value) (λ b. (goal.LpSolver-dyn g (b.vtable, b.value)).rule b.value) (λ b. (goal.LpSolver-dyn g (b.vtable, b.value)).paths b.value) l.fn.solvers.items)
    l.keep (length l.fn.solvers.items) (g.H.Host.meaning l.fn.host) (g.H.Host.meaning l.host) (pending l.fn.self) l.s-index (between (solver_views (λ b. (goal.LpSolver-dyn g (b.vtable, b.value)).name b.value) (λ b. (goal.LpSolver-dyn g (b.vtable, b.value)).rule b.value) (λ b. (goal.LpSolver-dyn g (b.vtable, b.value)).paths b.value) l.solvers.items) l.self) (pending l.self)
