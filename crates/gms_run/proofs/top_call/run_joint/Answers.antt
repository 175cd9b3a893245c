-- The run holds the restored state, and the joint source begins with the saved one.
use Rattle.std.proofs.Common.{◌∙◌, List, ap, map, subst, sym, ℕ}
use Rattle.gms_store.specs.State.{State}
use Rattle.gms_command.specs.CommandLine.{asked_by}
use Rattle.gms_run.specs.InnerReports.{CanContinue}
use Rattle.gms_run.specs.Scripts.{first_line, joint_source}
use Rattle.gms_run.specs.Solving.{solving}
use Rattle.gms_run.proofs.Runs.{ran_joint}
use Rattle.gms_run.proofs.top_call.run_joint.Goals as goal

pub run_loaded-requires-clause-fresh : goal.run_loaded-requires-clause-fresh
run_loaded-requires-clause-fresh g c =
    let fresh = c.requires.fresh in
    record {
      start = record { unanswered = fresh.start.unanswered; unsolved = fresh.start.unsolved };
      unlisted = fresh.unlisted;
      silent = fresh.silent;
    }

pub run_loaded-requires-clause-sound : goal.run_loaded-requires-clause-sound
run_loaded-requires-clause-sound g c =
    subst (λ (t : List ℕ). CanContinue (map (λ b. (goal.LpSolver-dyn g (b.vtable, b.value)).name b.value) c.args.solvers.now.items) t c.first_line-line.result c.swap.new.x) (sym (c.as_slice-3.ensures.value ∙ c.in_ok-source.ensures ∙ ap (λ (t : List ℕ). joint_source t c.args.file.now) c.as_slice.ensures.value))
    (subst (λ (n : ℕ). CanContinue (map (λ b. (goal.LpSolver-dyn g (b.vtable, b.value)).name b.value) c.args.solvers.now.items) (joint_source c.args.saved.now.source.items c.args.file.now) n c.swap.new.x) (sym (c.first_line-line.ensures ∙ ap first_line c.as_slice-2.ensures.value))
    (subst (λ (s : State). CanContinue (map (λ b. (goal.LpSolver-dyn g (b.vtable, b.value)).name b.value) c.args.solvers.now.items) (joint_source c.args.saved.now.source.items c.args.file.now) (first_line c.args.saved.now.source.items) s) (sym c.swap.ensures.x_after) c.requires.sound))

pub returns-clause-ran : goal.returns-clause-ran
returns-clause-ran g c =
    ran_joint c.run_loaded.result (solving (λ b. (goal.LpSolver-dyn g (b.vtable, b.value)).name b.value) (λ b. (goal.LpSolver-dyn g (b.vtable, b.value)).rule b.value) (λ b. (goal.LpSolver-dyn g (b.vtable, b.value)).paths b.value) c.args.solvers.now.items c.run_loaded.new.solvers.items c.run_loaded.new.run.progress.answers.items) (g.H.Host.meaning c.args.host.now).outside (g.H.Host.meaning c.run_loaded.new.host).outside (asked_by c.args.request) c.as_slice-3.result.now c.args.file.now c.args.saved.now.source.items c.first_line-line.result c.swap.new.x c.args.saved.now.store
    (c.as_slice-3.ensures.value ∙ c.in_ok-source.ensures ∙ ap (λ (t : List ℕ). joint_source t c.args.file.now) c.as_slice.ensures.value) (c.first_line-line.ensures ∙ ap first_line c.as_slice-2.ensures.value) c.swap.ensures.x_after c.run_loaded.ensures.ran
