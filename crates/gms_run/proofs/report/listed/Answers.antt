-- Why a save cannot be restored.
use Rattle.std.proofs.Common.{map, refl}
use Rattle.std.specs.Prelude.{string_bytes}
use Rattle.gms_command.specs.CommandLine.{asked_by}
use Rattle.gms_run.specs.declared.status.Status.TheVariants.{Compile}
use Rattle.gms_run.specs.InnerReports.{loaded_input_in}
use Rattle.gms_run.specs.Listings.{unrestored_text}
use Rattle.gms_run.specs.Solving.{solving}
use Rattle.gms_run.proofs.Reports.{nothing_follows, prepares_why, unrestored_why}
use Rattle.gms_run.proofs.report.listed.Goals as goal

pub returns-in_ok-list_unrestored-in-Unrestored-clause-outside :
    goal.returns-in_ok-list_unrestored-in-Unrestored-clause-outside
returns-in_ok-list_unrestored-in-Unrestored-clause-outside g c =
    prepares_why Compile (solving (λ b. (goal.LpSolver-dyn g (b.vtable, b.value)).name b.value) (λ b. (goal.LpSolver-dyn g (b.vtable, b.value)).rule b.value) (λ b. (goal.LpSolver-dyn g (b.vtable, b.value)).paths b.value) c.args.solvers.now.items c.args.solvers.now.items c.args.run.now.progress.answers.items) (g.H.Host.meaning c.args.host.now).outside (loaded_input_in c.args.loaded_input c.args.run.now.progress.store) c.args.run.now.outlet.spool c.args.run.now.outlet.listing c.args.run.now.outlet.spool c.list_unrestored.new.listing (unrestored_text c.in-Unrestored.fault)
    refl (c.requires.fresh.start.unanswered, refl) c.requires.fresh.unlisted refl c.in_ok-list_unrestored-in-Unrestored.ensures
    (unrestored_why (map (λ b. (goal.LpSolver-dyn g (b.vtable, b.value)).name b.value) c.args.solvers.now.items) c.args.loaded_input c.args.run.now.progress.store c.in-Unrestored.fault c.in-Unrestored.is)

pub returns-in_ok-list_unrestored-in-Unrestored-clause-follows :
    goal.returns-in_ok-list_unrestored-in-Unrestored-clause-follows
returns-in_ok-list_unrestored-in-Unrestored-clause-follows g c =
    nothing_follows Compile (solving (λ b. (goal.LpSolver-dyn g (b.vtable, b.value)).name b.value) (λ b. (goal.LpSolver-dyn g (b.vtable, b.value)).rule b.value) (λ b. (goal.LpSolver-dyn g (b.vtable, b.value)).paths b.value) c.args.solvers.now.items c.args.solvers.now.items c.args.run.now.progress.answers.items) (asked_by c.args.request) (loaded_input_in c.args.loaded_input c.args.run.now.progress.store) (string_bytes c.args.run.now.remarks) c.args.run.now.save.items refl c.requires.fresh.silent
