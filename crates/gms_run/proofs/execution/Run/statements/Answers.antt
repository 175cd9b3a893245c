use Rattle.std.proofs.Common.{◌<◌, ◌^◌, ◌∙◌, ap, refl, subst, sym}
use Rattle.std.proofs.lemmas.Result.{err_from_is_err_and}
use Rattle.gms_host.specs.Meaning.{Outside}
use Rattle.gms_host.proofs.Counting.{writing_done, writing_more, writing_none}
use Rattle.gms_run.specs.InnerRuns.{between, pending}
use Rattle.gms_exec.specs.Executing.{CanExecute}
use Rattle.gms_run.specs.InnerSteps.{work}
use Rattle.gms_run.specs.Solving.{solver_views}
use Rattle.gms_run.proofs.CallResults.{comes_broken, writing_failed, writing_memory}
use Rattle.gms_run.proofs.Executing.{Executes, broke, came_done, came_stopped, come_more, come_start, executes_run, bound_after, same_many}
use Rattle.gms_run.proofs.execution.Run.statements.Goals as goal

pub loop-s-init : goal.loop-s-init
loop-s-init g c =
    record {
      come = come_start (work c.args.program.now c.args.self.now.progress.store c.args.list.now) (solver_views (λ b. (goal.LpSolver-dyn g (b.vtable, b.value)).name b.value) (λ b. (goal.LpSolver-dyn g (b.vtable, b.value)).rule b.value) (λ b. (goal.LpSolver-dyn g (b.vtable, b.value)).paths b.value) c.args.solvers.now.items) c.args.keep _ _ c.args.self.now.progress.answers.items c.args.self.now.solved.items c.requires.unsolved.unanswered c.requires.unsolved.unsolved;
      within_bound = c.requires.within_bound;
      can_execute = c.requires.can_execute;
      counts = writing_none tt _;
    }

pub statement-requires-clause-few : goal.statement-requires-clause-few
statement-requires-clause-few g c = subst (λ n. n < 2 ^ 32) (sym (same_many (λ b. (goal.LpSolver-dyn g (b.vtable, b.value)).name b.value) c.loop-s.solvers.items c.args.solvers.now.items c.loop-s.invariant.come.done.extended.names)) c.requires.few

pub statement-requires-clause-can_execute : goal.statement-requires-clause-can_execute
statement-requires-clause-can_execute g c =
    subst (λ n. CanExecute n c.args.program.now.statements.items c.loop-s.self.progress.store) (sym (same_many (λ b. (goal.LpSolver-dyn g (b.vtable, b.value)).name b.value) c.loop-s.solvers.items c.args.solvers.now.items c.loop-s.invariant.come.done.extended.names)) c.loop-s.invariant.can_execute

pub pass-requires : goal.pass-requires
pass-requires g c = ap (λ (o : Outside). o.writing) c.loop-s.invariant.come.passes.written ∙ c.requires.open

pub returns-in_err-continues-clause-outside : goal.returns-in_err-continues-clause-outside
returns-in_err-continues-clause-outside g c =
    let p = err_from_is_err_and c.from_residual.result c.from_residual.ensures.1 in
    rw (p.1, p.2) tt

pub returns-in_err-continues-clause-counts : goal.returns-in_err-continues-clause-counts
returns-in_err-continues-clause-counts g c =
    let p = err_from_is_err_and c.from_residual.result c.from_residual.ensures.1 in
    rw (p.1, p.2) (writing_more tt c.loop-s.invariant.counts (writing_memory _ _))

pub returns-in_err-pass-clause-outside : goal.returns-in_err-pass-clause-outside
returns-in_err-pass-clause-outside g c =
    let to_run = work c.args.program.now c.args.self.now.progress.store c.args.list.now in
    let before = (solver_views (λ b. (goal.LpSolver-dyn g (b.vtable, b.value)).name b.value) (λ b. (goal.LpSolver-dyn g (b.vtable, b.value)).rule b.value) (λ b. (goal.LpSolver-dyn g (b.vtable, b.value)).paths b.value) c.args.solvers.now.items) in
    let old = (g.H.Host.meaning c.args.host.now).outside in
    let mid = (g.H.Host.meaning c.loop-s.host).outside in
    let expected = pending c.args.self.now in
    let these = (solver_views (λ b. (goal.LpSolver-dyn g (b.vtable, b.value)).name b.value) (λ b. (goal.LpSolver-dyn g (b.vtable, b.value)).rule b.value) (λ b. (goal.LpSolver-dyn g (b.vtable, b.value)).paths b.value) c.loop-s.solvers.items) in
    let those = (solver_views (λ b. (goal.LpSolver-dyn g (b.vtable, b.value)).name b.value) (λ b. (goal.LpSolver-dyn g (b.vtable, b.value)).rule b.value) (λ b. (goal.LpSolver-dyn g (b.vtable, b.value)).paths b.value) c.statement.new.solvers.items) in
    let run = c.statement.new.self in
    let next = between those run in
    let at = c.loop-s.invariant in
    let executes =
    executes_run to_run before c.args.keep old expected mid c.in_ok-continues.continues c.loop-s.s-index c.s-item.result these those c.loop-s.self run c.args.list.now at.come at.within_bound refl c.loop-s-test.true c.s-item.is c.in_ok-continues.ensures.listed c.in_ok-continues.ensures.spool in
    let p = err_from_is_err_and c.from_residual-in_err-pass.result c.from_residual-in_err-pass.ensures.1 in
    rw (p.1, p.2) (comes_broken _ c.in_err-pass.field-0.0 (broke to_run before c.args.keep old expected mid (g.H.Host.meaning c.pass.new.host).outside c.in_ok-continues.continues c.loop-s.s-index next (pending run) executes c.in_err-pass.ensures.outside.0))

pub returns-in_err-pass-clause-counts : goal.returns-in_err-pass-clause-counts
returns-in_err-pass-clause-counts g c =
    let p = err_from_is_err_and c.from_residual-in_err-pass.result c.from_residual-in_err-pass.ensures.1 in
    rw (p.1, p.2) (writing_failed _ tt c.in_err-pass.field-0.0 c.loop-s.invariant.counts c.in_err-pass.ensures.counts)

pub returns-then-not-continues-clause-outside : goal.returns-then-not-continues-clause-outside
returns-then-not-continues-clause-outside g c =
    let to_run = work c.args.program.now c.args.self.now.progress.store c.args.list.now in
    let before = (solver_views (λ b. (goal.LpSolver-dyn g (b.vtable, b.value)).name b.value) (λ b. (goal.LpSolver-dyn g (b.vtable, b.value)).rule b.value) (λ b. (goal.LpSolver-dyn g (b.vtable, b.value)).paths b.value) c.args.solvers.now.items) in
    let old = (g.H.Host.meaning c.args.host.now).outside in
    let mid = (g.H.Host.meaning c.loop-s.host).outside in
    let expected = pending c.args.self.now in
    let these = (solver_views (λ b. (goal.LpSolver-dyn g (b.vtable, b.value)).name b.value) (λ b. (goal.LpSolver-dyn g (b.vtable, b.value)).rule b.value) (λ b. (goal.LpSolver-dyn g (b.vtable, b.value)).paths b.value) c.loop-s.solvers.items) in
    let those = (solver_views (λ b. (goal.LpSolver-dyn g (b.vtable, b.value)).name b.value) (λ b. (goal.LpSolver-dyn g (b.vtable, b.value)).rule b.value) (λ b. (goal.LpSolver-dyn g (b.vtable, b.value)).paths b.value) c.statement.new.solvers.items) in
    let run = c.statement.new.self in
    let next = between those run in
    let at = c.loop-s.invariant in
    let executes =
    executes_run to_run before c.args.keep old expected mid c.in_ok-continues.continues c.loop-s.s-index c.s-item.result these those c.loop-s.self run c.args.list.now at.come at.within_bound refl c.loop-s-test.true c.s-item.is c.in_ok-continues.ensures.listed c.in_ok-continues.ensures.spool in
    let stops = subst (λ b. Executes to_run before c.args.keep old expected mid b c.loop-s.s-index next (pending run)) c.if-not-continues.true executes in
    came_stopped to_run before c.args.keep old expected mid (g.H.Host.meaning c.pass.new.host).outside c.loop-s.s-index next (pending run) c.pass.new.self.spool c.pass.new.self.listing stops c.in_ok-pass.ensures.outside c.in_ok-pass.ensures.within_bound c.in_ok-pass.ensures.none

pub returns-then-not-continues-clause-counts : goal.returns-then-not-continues-clause-counts
returns-then-not-continues-clause-counts g c =
    writing_more tt c.loop-s.invariant.counts (writing_done _ _ c.in_ok-pass.ensures.counts)

pub loop-s-preserved : goal.loop-s-preserved
loop-s-preserved g c =
    let to_run = work c.args.program.now c.args.self.now.progress.store c.args.list.now in
    let before = (solver_views (λ b. (goal.LpSolver-dyn g (b.vtable, b.value)).name b.value) (λ b. (goal.LpSolver-dyn g (b.vtable, b.value)).rule b.value) (λ b. (goal.LpSolver-dyn g (b.vtable, b.value)).paths b.value) c.args.solvers.now.items) in
    let old = (g.H.Host.meaning c.args.host.now).outside in
    let mid = (g.H.Host.meaning c.loop-s.host).outside in
    let expected = pending c.args.self.now in
    let these = (solver_views (λ b. (goal.LpSolver-dyn g (b.vtable, b.value)).name b.value) (λ b. (goal.LpSolver-dyn g (b.vtable, b.value)).rule b.value) (λ b. (goal.LpSolver-dyn g (b.vtable, b.value)).paths b.value) c.loop-s.solvers.items) in
    let those = (solver_views (λ b. (goal.LpSolver-dyn g (b.vtable, b.value)).name b.value) (λ b. (goal.LpSolver-dyn g (b.vtable, b.value)).rule b.value) (λ b. (goal.LpSolver-dyn g (b.vtable, b.value)).paths b.value) c.statement.new.solvers.items) in
    let run = c.statement.new.self in
    let next = between those run in
    let at = c.loop-s.invariant in
    let executes =
    executes_run to_run before c.args.keep old expected mid c.in_ok-continues.continues c.loop-s.s-index c.s-item.result these those c.loop-s.self run c.args.list.now at.come at.within_bound refl c.loop-s-test.true c.s-item.is c.in_ok-continues.ensures.listed c.in_ok-continues.ensures.spool in
    let goes = subst (λ b. Executes to_run before c.args.keep old expected mid b c.loop-s.s-index next (pending run)) c.if-not-continues.false executes in
    record {
      come = come_more to_run before c.args.keep old expected mid (g.H.Host.meaning c.pass.new.host).outside c.loop-s.s-index next (pending run) c.pass.new.self.spool c.pass.new.self.listing goes c.in_ok-pass.ensures.outside c.in_ok-pass.ensures.none;
      within_bound = bound_after c.pass.new.self.spool c.pass.new.self.listing c.in_ok-pass.ensures.within_bound c.in_ok-pass.ensures.none;
      can_execute = subst (λ n. CanExecute n c.args.program.now.statements.items run.progress.store) (same_many (λ b. (goal.LpSolver-dyn g (b.vtable, b.value)).name b.value) c.loop-s.solvers.items c.args.solvers.now.items c.loop-s.invariant.come.done.extended.names) c.in_ok-continues.ensures.can_execute;
      counts = writing_more tt at.counts (writing_done _ tt c.in_ok-pass.ensures.counts);
    }

pub returns-clause-outside : goal.returns-clause-outside
returns-clause-outside g c =
    came_done (work c.args.program.now c.args.self.now.progress.store c.args.list.now) (solver_views (λ b. (goal.LpSolver-dyn g (b.vtable, b.value)).name b.value) (λ b. (goal.LpSolver-dyn g (b.vtable, b.value)).rule b.value) (λ b. (goal.LpSolver-dyn g (b.vtable, b.value)).paths b.value) c.args.solvers.now.items) c.args.keep (g.H.Host.meaning c.args.host.now).outside (pending c.args.self.now) (g.H.Host.meaning c.loop-s.host).outside c.loop-s.s-index
    (between (solver_views (λ b. (goal.LpSolver-dyn g (b.vtable, b.value)).name b.value) (λ b. (goal.LpSolver-dyn g (b.vtable, b.value)).rule b.value) (λ b. (goal.LpSolver-dyn g (b.vtable, b.value)).paths b.value) c.loop-s.solvers.items) c.loop-s.self) (pending c.loop-s.self) c.args.list.now
    c.loop-s.invariant.come c.loop-s.invariant.within_bound refl c.loop-s-test.false

pub returns-clause-counts : goal.returns-clause-counts
returns-clause-counts g c = writing_done tt _ c.loop-s.invariant.counts
