use Rattle.std.proofs.Common.{◌≡◌, true, inl, refl, subst, sym, Vec, ℕ}
use Rattle.std.specs.declared.alloc.Global.{Global}
use Rattle.gms_host.specs.Rules.{CountsReading, IsThere}
use Rattle.gms_command.specs.CommandLine.{Origin, asked_by}
use Rattle.gms_run.specs.Solving.{solving}
use Rattle.gms_run.specs.Statuses.{IsUnreadOf}
use Rattle.gms_run.proofs.CallResults.{failed_with}
use Rattle.gms_run.proofs.Runs.{counts_read_memory, counts_restart, counts_sure, counts_unread, of_restart, unread}
use Rattle.gms_run.proofs.top_call.run_restart.Goals as goal

pub returns-clause-ran : goal.returns-clause-ran
returns-clause-ran g c =
    of_restart c.run_after_save.result (solving (λ b. (goal.LpSolver-dyn g (b.vtable, b.value)).name b.value) (λ b. (goal.LpSolver-dyn g (b.vtable, b.value)).rule b.value) (λ b. (goal.LpSolver-dyn g (b.vtable, b.value)).paths b.value) c.args.solvers.now.items c.run_after_save.new.solvers.items c.run_after_save.new.run.progress.answers.items) (g.H.Host.meaning c.args.host.now) (g.H.Host.meaning c.read_file.new.host) (g.H.Host.meaning c.run_after_save.new.host) (asked_by c.args.request) c.args.saved.now c.args.file.now c.in-Ok.save c.in-Ok.save.items c.requires.named refl c.in-Ok.ensures.outside c.in-Ok.ensures.counts c.run_after_save.ensures.ran

pub returns-clause-counts : goal.returns-clause-counts
returns-clause-counts g c = counts_restart c.run_after_save.result (g.H.Host.meaning c.args.host.now) (g.H.Host.meaning c.read_file.new.host) (g.H.Host.meaning c.run_after_save.new.host) c.args.saved.now c.args.file.now c.in-Ok.save c.in-Ok.ensures.outside c.in-Ok.ensures.counts c.run_after_save.ensures.counts

pub returns-in-Err-Fault-clause-ran : goal.returns-in-Err-Fault-clause-ran
returns-in-Err-Fault-clause-ran g c =
    let counts = subst (λ e. CountsReading (failed_with (Vec ℕ Global) e) (IsThere (g.H.Host.meaning c.args.host.now).outside c.args.saved.now) (g.H.Host.meaning c.args.host.now).counts (g.H.Host.meaning c.read_file.new.host).counts) c.in-Err-Fault.field-0-is c.in-Err-Fault.ensures.counts in
    let not = subst (λ (o : Origin). IsUnreadOf (g.H.Host.meaning c.args.host.now).outside (g.H.Host.meaning c.read_file.new.host).outside o c.args.saved.now) (sym c.requires.named) (inl (refl, c.in-Err-Fault.ensures.outside)) in
    unread c.report_read_fault.result (solving (λ b. (goal.LpSolver-dyn g (b.vtable, b.value)).name b.value) (λ b. (goal.LpSolver-dyn g (b.vtable, b.value)).rule b.value) (λ b. (goal.LpSolver-dyn g (b.vtable, b.value)).paths b.value) c.args.solvers.now.items c.args.solvers.now.items c.args.run.now.progress.answers.items) (g.H.Host.meaning c.args.host.now) (g.H.Host.meaning c.read_file.new.host) (g.H.Host.meaning c.report_read_fault.new.host) (asked_by c.args.request) c.args.saved.now not counts c.report_read_fault.ensures.status c.report_read_fault.ensures.said (c.requires.fresh.start.unanswered, refl)

pub returns-in-Err-Fault-clause-counts : goal.returns-in-Err-Fault-clause-counts
returns-in-Err-Fault-clause-counts g c =
    let counts = subst (λ e. CountsReading (failed_with (Vec ℕ Global) e) (IsThere (g.H.Host.meaning c.args.host.now).outside c.args.saved.now) (g.H.Host.meaning c.args.host.now).counts (g.H.Host.meaning c.read_file.new.host).counts) c.in-Err-Fault.field-0-is c.in-Err-Fault.ensures.counts in
    counts_sure c.report_read_fault.result (((g.H.Host.meaning c.args.host.now).counts.reliable ≡ true) × IsThere (g.H.Host.meaning c.args.host.now).outside c.args.saved.now) _ _ _ (λ (t : ((g.H.Host.meaning c.args.host.now).counts.reliable ≡ true) × (IsThere (g.H.Host.meaning c.args.host.now).outside c.args.saved.now × IsThere (g.H.Host.meaning c.args.host.now).outside c.args.file.now)). (t.0, t.1.0)) (counts_unread (IsThere (g.H.Host.meaning c.args.host.now).outside c.args.saved.now) c.report_read_fault.result _ _ _ counts c.report_read_fault.ensures.counts c.report_read_fault.ensures.status)

pub returns-in-Err-Memory-clause-counts : goal.returns-in-Err-Memory-clause-counts
returns-in-Err-Memory-clause-counts g c = counts_sure _ (((g.H.Host.meaning c.args.host.now).counts.reliable ≡ true) × IsThere (g.H.Host.meaning c.args.host.now).outside c.args.saved.now) _ _ _ (λ (t : ((g.H.Host.meaning c.args.host.now).counts.reliable ≡ true) × (IsThere (g.H.Host.meaning c.args.host.now).outside c.args.saved.now × IsThere (g.H.Host.meaning c.args.host.now).outside c.args.file.now)). (t.0, t.1.0)) (counts_read_memory _ (IsThere (g.H.Host.meaning c.args.host.now).outside c.args.saved.now) _ _ _ c.in-Err-Memory.ensures.counts)
