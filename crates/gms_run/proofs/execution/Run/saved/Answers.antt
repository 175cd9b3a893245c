-- The text is the save, and the numbers were examined.
use Rattle.std.proofs.Common.{◌≡◌, ◌<◌, ◌∙◌, List, Vec, ap, codes, map, slice_get, subst, sym, unwrap_or, ℕ}
use Rattle.std.specs.Prelude.{IfOk}
use Rattle.std.specs.declared.alloc.Global.{Global}
use Rattle.gms_store.specs.declared.settings.Settings.{Settings}
use Rattle.gms_save_text.specs.SavedState.{saved_text}
use Rattle.gms_command.specs.CommandLine.{asked_by}
use Rattle.gms_run.specs.Listings.{save_file}
use Rattle.gms_run.proofs.Saving.{keeps_state}
use Rattle.gms_run.proofs.execution.Run.saved.Goals as goal

pub returns : goal.returns
returns g c =
    keeps_state c.save.result (save_file c.args.status (asked_by c.args.request)) (map (λ b. (goal.LpSolver-dyn g (b.vtable, b.value)).name b.value) c.args.solvers.now) c.args.source.now c.args.program.now c.args.self.now.progress.store
    (subst (λ (solver : List ℕ). IfOk c.save.result (λ (bytes : Vec ℕ Global). bytes.items ≡ saved_text c.args.source.now c.args.program.now.names c.args.self.now.progress.store solver))
    (c.solver_name-solver.ensures ∙ ap (λ (settings : Settings). unwrap_or (slice_get (map (λ b. (goal.LpSolver-dyn g (b.vtable, b.value)).name b.value) c.args.solvers.now) settings.solver) (codes "none")) c.settings.ensures) c.save.ensures)
    (λ name below. c.look_at_numbers.ensures name (subst (λ n. name < n) (sym c.len.ensures.len) below))
