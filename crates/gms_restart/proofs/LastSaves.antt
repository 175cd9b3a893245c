-- What the run of a source's program without errors ends in is a saved state of it.
use Rattle.std.proofs.Common.{◌≡◌, ℕ, true, List, []}
use Rattle.gq_number.specs.Number.{Number}
use Rattle.gq_frac.specs.declared.frac.Frac.{Frac}
use Rattle.gq_frac.specs.Frac.{frac_value, frac_limit}
use Rattle.gms_parse.specs.Outcomes.{IsProgram}
use Rattle.gms_store.specs.State.{symbol_at, fits_at}
use Rattle.gms_check.specs.CompileErrors.{compile_errors}
use Rattle.gms_check.specs.Loaded.{IsAccepted}
use Rattle.lp_core.specs.declared.answer.Answer.{Answer}
use Rattle.gms_exec.specs.Run.{World}
use Rattle.gms_save.specs.Saves.{IsSavedBy}
use Rattle.gms_save_text.specs.Validity.{is_solver_name}
use Rattle.gms_restart.specs.LastStates.{last_state}
use Rattle.gms_restart.proofs.ChosenSolvers.{no-error-chosen}
use Rattle.gms_restart.proofs.OwnLoaded.{has-its-labels}
use Rattle.gms_restart.proofs.Saved.{kept-saved, state-kept}

pub last-saved : (limit : ℕ) (source : List ℕ) (world : World Frac) (answers : List (Answer Number)) (solver : List ℕ) → IsProgram frac_limit source frac_value world.program → compile_errors frac_value world.program world.solvers ≡ [] →
    ((name : ℕ) (t : List ℕ) → fits_at frac_limit (symbol_at (last_state frac_value limit world answers) name).content t ≡ true) → is_solver_name solver ≡ true → IsSavedBy world.program (last_state frac_value limit world answers) solver
last-saved limit source world answers solver is none fit named =
    let accepted : IsAccepted frac_value world.program = (world.solvers, none) in
    record {
      no_error = no-error-chosen world.program world.solvers none;
      is_saved = kept-saved frac_value world.program accepted (last_state frac_value limit world answers) (state-kept frac_value limit world accepted (has-its-labels frac_limit source world.program is) answers) frac_limit solver fit named;
    }
