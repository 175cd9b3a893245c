use Rattle.std.proofs.Common.{refl, subst, Vec, ℕ}
use Rattle.std.specs.declared.alloc.Global.{Global}
use Rattle.gms_host.specs.Rules.{CountsReading, IsThere}
use Rattle.gms_command.specs.CommandLine.{asked_by}
use Rattle.gms_run.specs.Solving.{solving}
use Rattle.gms_run.proofs.CallResults.{failed_with}
use Rattle.gms_run.proofs.Runs.{counts_read, counts_read_memory, counts_unread, of_after, unread_after}
use Rattle.gms_run.proofs.top_call.run_after_save.Goals as goal

pub returns-clause-ran : goal.returns-clause-ran
returns-clause-ran g c =
    of_after c.run_save.result (solving (λ b. (goal.LpSolver-dyn g (b.vtable, b.value)).name b.value) (λ b. (goal.LpSolver-dyn g (b.vtable, b.value)).rule b.value) (λ b. (goal.LpSolver-dyn g (b.vtable, b.value)).paths b.value) c.args.solvers.now.items c.run_save.new.solvers.items c.run_save.new.run.progress.answers.items) (g.H.Host.meaning c.args.host.now) (g.H.Host.meaning c.read_file.new.host) (g.H.Host.meaning c.run_save.new.host) (asked_by c.args.request) c.args.save.items c.args.file.now c.in-Ok.source c.as_slice.result.now c.as_slice.ensures.value c.in-Ok.ensures.outside c.run_save.ensures.ran

pub returns-clause-counts : goal.returns-clause-counts
returns-clause-counts g c = counts_read c.in-Ok.source (IsThere (g.H.Host.meaning c.args.host.now).outside c.args.file.now) c.run_save.result _ _ _ c.in-Ok.ensures.counts c.run_save.ensures.counts

pub returns-in-Err-Fault-clause-ran : goal.returns-in-Err-Fault-clause-ran
returns-in-Err-Fault-clause-ran g c =
    let counts = subst (λ e. CountsReading (failed_with (Vec ℕ Global) e) (IsThere (g.H.Host.meaning c.args.host.now).outside c.args.file.now) (g.H.Host.meaning c.args.host.now).counts (g.H.Host.meaning c.read_file.new.host).counts) c.in-Err-Fault.field-0-is c.in-Err-Fault.ensures.counts in
    unread_after c.report_read_fault.result (solving (λ b. (goal.LpSolver-dyn g (b.vtable, b.value)).name b.value) (λ b. (goal.LpSolver-dyn g (b.vtable, b.value)).rule b.value) (λ b. (goal.LpSolver-dyn g (b.vtable, b.value)).paths b.value) c.args.solvers.now.items c.args.solvers.now.items c.args.run.now.progress.answers.items) (g.H.Host.meaning c.args.host.now) (g.H.Host.meaning c.read_file.new.host) (g.H.Host.meaning c.report_read_fault.new.host) (asked_by c.args.request) c.args.save.items c.args.file.now c.in-Err-Fault.ensures.outside counts c.report_read_fault.ensures.status c.report_read_fault.ensures.said (c.requires.fresh.start.unanswered, refl)

pub returns-in-Err-Fault-clause-counts : goal.returns-in-Err-Fault-clause-counts
returns-in-Err-Fault-clause-counts g c =
    let counts = subst (λ e. CountsReading (failed_with (Vec ℕ Global) e) (IsThere (g.H.Host.meaning c.args.host.now).outside c.args.file.now) (g.H.Host.meaning c.args.host.now).counts (g.H.Host.meaning c.read_file.new.host).counts) c.in-Err-Fault.field-0-is c.in-Err-Fault.ensures.counts in
    counts_unread (IsThere (g.H.Host.meaning c.args.host.now).outside c.args.file.now) c.report_read_fault.result _ _ _ counts c.report_read_fault.ensures.counts c.report_read_fault.ensures.status

pub returns-in-Err-Memory-clause-counts : goal.returns-in-Err-Memory-clause-counts
returns-in-Err-Memory-clause-counts g c = counts_read_memory _ (IsThere (g.H.Host.meaning c.args.host.now).outside c.args.file.now) _ _ _ c.in-Err-Memory.ensures.counts
