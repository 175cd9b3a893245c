-- A restored save is resumed; of any other save the listing says why not.
use Rattle.std.proofs.Common.{◌≡◌, ◌<◌, ◌^◌, length, map, List, ℕ, ap, subst, sym}
use Rattle.std.specs.Prelude.{Ok}
use Rattle.gms_save.specs.Saves.{GivesBack, IsRestored}
use Rattle.gms_command.specs.CommandLine.{asked_by}
use Rattle.gms_run.specs.Scripts.{IsUnrestored}
use Rattle.gms_run.specs.Solving.{solving}
use Rattle.gms_run.proofs.Restorable.{can_go_on}
use Rattle.gms_run.proofs.Runs.{counts_nothing, of_joint, of_unrestored}
use Rattle.gms_run.proofs.top_call.run_save.Goals as goal

pub restored-requires : goal.restored-requires
restored-requires g c = subst (λ n. n < 2 ^ 32) (ap length (sym c.as_slice.ensures.value)) c.requires.few

pub run_joint-requires-clause-short : goal.run_joint-requires-clause-short
run_joint-requires-clause-short g c = c.in-Ok.ensures.answer.1.is_save.is_program.short

pub run_joint-requires-clause-sound : goal.run_joint-requires-clause-sound
run_joint-requires-clause-sound g c =
    let names : map (λ b. (goal.LpSolver-dyn g (b.vtable, b.value)).name b.value) c.as_slice.result.now ≡ map (λ b. (goal.LpSolver-dyn g (b.vtable, b.value)).name b.value) c.args.solvers.now.items = ap (map (λ b. (goal.LpSolver-dyn g (b.vtable, b.value)).name b.value)) c.as_slice.ensures.value in
    can_go_on (map (λ b. (goal.LpSolver-dyn g (b.vtable, b.value)).name b.value) c.args.solvers.now.items) c.args.save.items c.in-Ok.saved (subst (λ (ns : List (List ℕ)). IsRestored ns c.args.save.items c.in-Ok.saved) names c.in-Ok.ensures.answer.1) c.args.file.now

pub returns-in-Ok-clause-ran : goal.returns-in-Ok-clause-ran
returns-in-Ok-clause-ran g c =
    let names : map (λ b. (goal.LpSolver-dyn g (b.vtable, b.value)).name b.value) c.as_slice.result.now ≡ map (λ b. (goal.LpSolver-dyn g (b.vtable, b.value)).name b.value) c.args.solvers.now.items = ap (map (λ b. (goal.LpSolver-dyn g (b.vtable, b.value)).name b.value)) c.as_slice.ensures.value in
    of_joint c.run_joint.result (solving (λ b. (goal.LpSolver-dyn g (b.vtable, b.value)).name b.value) (λ b. (goal.LpSolver-dyn g (b.vtable, b.value)).rule b.value) (λ b. (goal.LpSolver-dyn g (b.vtable, b.value)).paths b.value) c.args.solvers.now.items c.run_joint.new.solvers.items c.run_joint.new.run.progress.answers.items) (g.H.Host.meaning c.args.host.now).outside (g.H.Host.meaning c.run_joint.new.host).outside (asked_by c.args.request) c.args.save.items c.args.file.now c.in-Ok.saved c.in-Ok.ensures.answer.0 (subst (λ (ns : List (List ℕ)). IsRestored ns c.args.save.items c.in-Ok.saved) names c.in-Ok.ensures.answer.1) (subst (λ (ns : List (List ℕ)). GivesBack ns c.args.save.items (Ok c.in-Ok.saved)) names c.in-Ok.ensures.back) c.run_joint.ensures.ran

pub run_loaded-requires-clause-sound : goal.run_loaded-requires-clause-sound
run_loaded-requires-clause-sound g c = tt

pub returns-in-Err-Fault-clause-ran : goal.returns-in-Err-Fault-clause-ran
returns-in-Err-Fault-clause-ran g c =
    let names : map (λ b. (goal.LpSolver-dyn g (b.vtable, b.value)).name b.value) c.as_slice.result.now ≡ map (λ b. (goal.LpSolver-dyn g (b.vtable, b.value)).name b.value) c.args.solvers.now.items = ap (map (λ b. (goal.LpSolver-dyn g (b.vtable, b.value)).name b.value)) c.as_slice.ensures.value in
    of_unrestored c.run_loaded.result (solving (λ b. (goal.LpSolver-dyn g (b.vtable, b.value)).name b.value) (λ b. (goal.LpSolver-dyn g (b.vtable, b.value)).rule b.value) (λ b. (goal.LpSolver-dyn g (b.vtable, b.value)).paths b.value) c.args.solvers.now.items c.run_loaded.new.solvers.items c.run_loaded.new.run.progress.answers.items) (g.H.Host.meaning c.args.host.now).outside (g.H.Host.meaning c.run_loaded.new.host).outside (asked_by c.args.request) c.args.save.items c.args.file.now c.in-Err-Fault.fault (subst (λ (ns : List (List ℕ)). IsUnrestored ns c.args.save.items c.in-Err-Fault.fault) names (record { answer = rw c.in-Err-Fault.field-0-is at c.in-Err-Fault.ensures.answer; back = rw c.in-Err-Fault.field-0-is at c.in-Err-Fault.ensures.back })) c.run_loaded.ensures.ran

pub returns-in-Err-Memory-clause-counts : goal.returns-in-Err-Memory-clause-counts
returns-in-Err-Memory-clause-counts g c = counts_nothing _ _ _
