-- A refusal, or what becomes of a program.
use Rattle.std.proofs.Common.{refl, subst, inl}
use Rattle.std.specs.Prelude.{string_bytes}
use Rattle.gms_parse.specs.Outcomes.{IsSourceRefusal}
use Rattle.gms_host.proofs.Counting.{writing_none}
use Rattle.gms_command.specs.CommandLine.{asked_by}
use Rattle.gms_run.specs.InnerReports.{script_in}
use Rattle.gms_run.specs.Listings.{refusal_text}
use Rattle.gms_run.specs.Scripts.{scripted}
use Rattle.gms_run.specs.Solving.{solving}
use Rattle.gms_run.proofs.Reports.{nothing_follows, prepares_why}
use Rattle.gms_run.proofs.report.parsed.Goals as goal
use Rattle.gq_frac.specs.Frac.{frac_limit}

pub returns-in-Ok-clause-outside : goal.returns-in-Ok-clause-outside
returns-in-Ok-clause-outside g c = c.checked.ensures.outside

pub returns-in-Ok-clause-follows : goal.returns-in-Ok-clause-follows
returns-in-Ok-clause-follows g c = c.checked.ensures.follows

pub returns-in-Ok-clause-counts : goal.returns-in-Ok-clause-counts
returns-in-Ok-clause-counts g c = c.checked.ensures.counts

pub returns-in_ok-status-in-Err-Fault-clause-outside : goal.returns-in_ok-status-in-Err-Fault-clause-outside
returns-in_ok-status-in-Err-Fault-clause-outside g c =
    let refusal = c.in_ok-status-in-Err-Fault.ensures in
    prepares_why c.in_ok-status-in-Err-Fault.status (solving (λ b. (goal.LpSolver-dyn g (b.vtable, b.value)).name b.value) (λ b. (goal.LpSolver-dyn g (b.vtable, b.value)).rule b.value) (λ b. (goal.LpSolver-dyn g (b.vtable, b.value)).paths b.value) c.args.solvers.now.items c.args.solvers.now.items c.args.run.now.progress.answers.items) (g.H.Host.meaning c.args.host.now).outside (scripted (script_in c.args.script c.args.run.now.progress.store)) c.args.run.now.outlet.spool c.args.run.now.outlet.listing c.refused.new.outlet.spool c.refused.new.outlet.listing (refusal_text (script_in c.args.script c.args.run.now.progress.store) c.in-Err-Fault.fault)
    refusal.status (c.requires.fresh.start.unanswered, refl) c.requires.fresh.unlisted refusal.spool (refusal.text c.args.run.now.progress.store)
    (inl (record { fault = c.in-Err-Fault.fault; refused = subst (λ e. IsSourceRefusal frac_limit c.args.script.source.now e) c.in-Err-Fault.field-0-is c.in-Err-Fault.ensures; listing = refl }))

pub returns-in_ok-status-in-Err-Fault-clause-follows : goal.returns-in_ok-status-in-Err-Fault-clause-follows
returns-in_ok-status-in-Err-Fault-clause-follows g c =
    nothing_follows c.in_ok-status-in-Err-Fault.status (solving (λ b. (goal.LpSolver-dyn g (b.vtable, b.value)).name b.value) (λ b. (goal.LpSolver-dyn g (b.vtable, b.value)).rule b.value) (λ b. (goal.LpSolver-dyn g (b.vtable, b.value)).paths b.value) c.args.solvers.now.items c.args.solvers.now.items c.args.run.now.progress.answers.items) (asked_by c.args.request) (scripted (script_in c.args.script c.args.run.now.progress.store)) (string_bytes c.args.run.now.remarks) c.args.run.now.save.items c.in_ok-status-in-Err-Fault.ensures.status c.requires.fresh.silent

pub returns-in_ok-status-in-Err-Fault-clause-counts : goal.returns-in_ok-status-in-Err-Fault-clause-counts
returns-in_ok-status-in-Err-Fault-clause-counts g c = writing_none _ _
