-- The echo, the statements after it, and what follows the listing.
use Rattle.std.proofs.Common.{◌∙◌, ap, map}
use Rattle.std.specs.Prelude.{string_bytes}
use Rattle.std.proofs.lemmas.Result.{err_from_is_err_and}
use Rattle.gms_host.specs.Meaning.{Outside}
use Rattle.gms_host.proofs.Counting.{writing_more}
use Rattle.gms_command.specs.CommandLine.{asked_by}
use Rattle.gms_run.specs.InnerReports.{script_in}
use Rattle.gms_run.specs.ProgramsToRun.{program_to_run}
use Rattle.gms_run.specs.Scripts.{scripted}
use Rattle.gms_run.specs.Solving.{solver_views, solving}
use Rattle.gms_run.proofs.CallResults.{comes_as, comes_err, both_of, told_as, writing_err}
use Rattle.gms_run.proofs.Executing.{breaks_echoed, breaks_first, ends_echoed, bound_after}
use Rattle.gms_run.proofs.Reports.{follows_program, program_of_script, prepares_program, unwritten_program}
use Rattle.gms_run.proofs.execution.Run.execute.Goals as goal

pub to_end-requires-clause-open : goal.to_end-requires-clause-open
to_end-requires-clause-open g c = ap (λ (o : Outside). o.writing) c.in_ok-pass_echo.ensures.outside.written ∙ c.requires.open

pub to_end-requires-clause-can_execute : goal.to_end-requires-clause-can_execute
to_end-requires-clause-can_execute g c = c.requires.can_execute

pub to_end-requires-clause-unsolved : goal.to_end-requires-clause-unsolved
to_end-requires-clause-unsolved g c =
    record { unanswered = c.requires.fresh.start.unanswered; unsolved = c.requires.fresh.start.unsolved }

pub to_end-requires-clause-within_bound : goal.to_end-requires-clause-within_bound
to_end-requires-clause-within_bound g c = bound_after c.pass_echo.new.outlet.spool c.pass_echo.new.outlet.listing c.in_ok-pass_echo.ensures.within_bound c.in_ok-pass_echo.ensures.none

pub returns-in_err-pass_echo-clause-outside : goal.returns-in_err-pass_echo-clause-outside
returns-in_err-pass_echo-clause-outside g c state begins =
    let p = err_from_is_err_and c.from_residual.result c.from_residual.ensures.1 in
    let to_run = program_to_run (script_in c.args.script state) c.args.program.now in
    rw (p.1, p.2) (comes_err _ _ c.in_err-pass_echo.field-0.0
    (λ beginning. unwritten_program (solving (λ b. (goal.LpSolver-dyn g (b.vtable, b.value)).name b.value) (λ b. (goal.LpSolver-dyn g (b.vtable, b.value)).rule b.value) (λ b. (goal.LpSolver-dyn g (b.vtable, b.value)).paths b.value) c.args.solvers.now.items c.args.solvers.now.items c.args.self.now.progress.answers.items) (g.H.Host.meaning c.args.host.now).outside (g.H.Host.meaning c.pass_echo.new.host).outside (scripted (script_in c.args.script state)) to_run (program_of_script (map (λ b. (goal.LpSolver-dyn g (b.vtable, b.value)).name b.value) c.args.solvers.now.items) (script_in c.args.script state) c.args.program.now begins.accepted)
    (breaks_first to_run (solver_views (λ b. (goal.LpSolver-dyn g (b.vtable, b.value)).name b.value) (λ b. (goal.LpSolver-dyn g (b.vtable, b.value)).rule b.value) (λ b. (goal.LpSolver-dyn g (b.vtable, b.value)).paths b.value) c.args.solvers.now.items) c.args.self.now.progress.answers.items _ _ c.requires.fresh.start.unanswered beginning)) c.in_err-pass_echo.ensures.outside)

pub returns-in_err-pass_echo-clause-counts : goal.returns-in_err-pass_echo-clause-counts
returns-in_err-pass_echo-clause-counts g c =
    let p = err_from_is_err_and c.from_residual.result c.from_residual.ensures.1 in
    rw (p.1, p.2) (writing_err c.in_err-pass_echo.field-0.0 c.in_err-pass_echo.ensures.counts)

pub returns-clause-outside : goal.returns-clause-outside
returns-clause-outside g c state begins =
    let to_run = program_to_run (script_in c.args.script state) c.args.program.now in
    let is_to_run = program_of_script (map (λ b. (goal.LpSolver-dyn g (b.vtable, b.value)).name b.value) c.args.solvers.now.items) (script_in c.args.script state) c.args.program.now begins.accepted in
    comes_as c.to_end.result _ _
    (λ status ends. prepares_program c.args.request.ranges status (solving (λ b. (goal.LpSolver-dyn g (b.vtable, b.value)).name b.value) (λ b. (goal.LpSolver-dyn g (b.vtable, b.value)).rule b.value) (λ b. (goal.LpSolver-dyn g (b.vtable, b.value)).paths b.value) c.args.solvers.now.items c.to_end.new.solvers.items c.to_end.new.self.progress.answers.items) (g.H.Host.meaning c.args.host.now).outside (g.H.Host.meaning c.to_end.new.host).outside (scripted (script_in c.args.script state)) _ to_run c.to_end.new.self.progress.store c.to_end.new.self.solved.items is_to_run
    (ends_echoed to_run (g.H.Host.meaning c.args.host.now).outside (g.H.Host.meaning c.pass_echo.new.host).outside c.pass_echo.new.outlet.spool c.pass_echo.new.outlet.listing c.in_ok-pass_echo.ensures.outside c.in_ok-pass_echo.ensures.none c.args.request.ranges status (solving (λ b. (goal.LpSolver-dyn g (b.vtable, b.value)).name b.value) (λ b. (goal.LpSolver-dyn g (b.vtable, b.value)).rule b.value) (λ b. (goal.LpSolver-dyn g (b.vtable, b.value)).paths b.value) c.args.solvers.now.items c.to_end.new.solvers.items c.to_end.new.self.progress.answers.items) c.args.self.now.progress.store c.to_end.new.self.progress.store c.to_end.new.self.solved.items (g.H.Host.meaning c.to_end.new.host).outside _ begins.first ends))
    (λ broken. unwritten_program (solving (λ b. (goal.LpSolver-dyn g (b.vtable, b.value)).name b.value) (λ b. (goal.LpSolver-dyn g (b.vtable, b.value)).rule b.value) (λ b. (goal.LpSolver-dyn g (b.vtable, b.value)).paths b.value) c.args.solvers.now.items c.to_end.new.solvers.items c.to_end.new.self.progress.answers.items) (g.H.Host.meaning c.args.host.now).outside (g.H.Host.meaning c.to_end.new.host).outside (scripted (script_in c.args.script state)) to_run is_to_run
    (breaks_echoed to_run (g.H.Host.meaning c.args.host.now).outside (g.H.Host.meaning c.pass_echo.new.host).outside c.pass_echo.new.outlet.spool c.pass_echo.new.outlet.listing c.in_ok-pass_echo.ensures.outside c.in_ok-pass_echo.ensures.none (solving (λ b. (goal.LpSolver-dyn g (b.vtable, b.value)).name b.value) (λ b. (goal.LpSolver-dyn g (b.vtable, b.value)).rule b.value) (λ b. (goal.LpSolver-dyn g (b.vtable, b.value)).paths b.value) c.args.solvers.now.items c.to_end.new.solvers.items c.to_end.new.self.progress.answers.items) c.args.self.now.progress.store (g.H.Host.meaning c.to_end.new.host).outside begins.first broken)) (c.to_end.ensures.outside state)

pub returns-clause-follows : goal.returns-clause-follows
returns-clause-follows g c state begins =
    let to_run = program_to_run (script_in c.args.script state) c.args.program.now in
    let is_to_run = program_of_script (map (λ b. (goal.LpSolver-dyn g (b.vtable, b.value)).name b.value) c.args.solvers.now.items) (script_in c.args.script state) c.args.program.now begins.accepted in
    told_as c.to_end.result _ _ _ _
    (λ status ends both. follows_program status (solving (λ b. (goal.LpSolver-dyn g (b.vtable, b.value)).name b.value) (λ b. (goal.LpSolver-dyn g (b.vtable, b.value)).rule b.value) (λ b. (goal.LpSolver-dyn g (b.vtable, b.value)).paths b.value) c.args.solvers.now.items c.to_end.new.solvers.items c.to_end.new.self.progress.answers.items) (asked_by c.args.request) (scripted (script_in c.args.script state)) (string_bytes c.to_end.new.self.remarks) c.to_end.new.self.save.items to_run c.to_end.new.self.progress.store c.to_end.new.self.solved.items (map (λ b. (goal.LpSolver-dyn g (b.vtable, b.value)).name b.value) c.to_end.new.solvers.items) is_to_run begins.origin
    (ends_echoed to_run (g.H.Host.meaning c.args.host.now).outside (g.H.Host.meaning c.pass_echo.new.host).outside c.pass_echo.new.outlet.spool c.pass_echo.new.outlet.listing c.in_ok-pass_echo.ensures.outside c.in_ok-pass_echo.ensures.none c.args.request.ranges status (solving (λ b. (goal.LpSolver-dyn g (b.vtable, b.value)).name b.value) (λ b. (goal.LpSolver-dyn g (b.vtable, b.value)).rule b.value) (λ b. (goal.LpSolver-dyn g (b.vtable, b.value)).paths b.value) c.args.solvers.now.items c.to_end.new.solvers.items c.to_end.new.self.progress.answers.items) c.args.self.now.progress.store c.to_end.new.self.progress.store c.to_end.new.self.solved.items (g.H.Host.meaning c.to_end.new.host).outside _ begins.first ends).ends both.0 both.1 ends.ends.solved.extended.names begins.named) (c.to_end.ensures.outside state) (both_of c.to_end.result _ _ c.to_end.ensures.remarks c.to_end.ensures.saved)

pub returns-clause-counts : goal.returns-clause-counts
returns-clause-counts g c = writing_more _ c.in_ok-pass_echo.ensures.counts c.to_end.ensures.counts
