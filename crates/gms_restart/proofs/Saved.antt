-- What the run of a program ends in is a saved state of it.
use Rattle.std.proofs.Common.{◌≡◌, ℕ, true, List, [], length, refl, ap, ◌∙◌}
use Rattle.gq_number.specs.Number.{Number}
use Rattle.gms_ast.specs.declared.program.Program.{Program}
use Rattle.gms_store.specs.Declarations.{declared_state}
use Rattle.gms_store.specs.State.{State, symbol_at, fits_at}
use Rattle.gms_scope.specs.DynamicSets.{dynamic_sets}
use Rattle.gms_check.specs.Loaded.{IsAccepted, loaded}
use Rattle.gms_check.specs.Past.{is_among}
use Rattle.lp_core.specs.declared.answer.Answer.{Answer}
use Rattle.gms_exec.specs.Run.{World}
use Rattle.gms_save.proofs.LoadedNames.{loaded-declares}
use Rattle.gms_save_text.specs.Validity.{IsSavedOf, is_solver_name}
use Rattle.gms_restart.specs.Labels.{WritesItsLabels}
use Rattle.gms_restart.specs.LastStates.{last_state}
use Rattle.gms_restart.proofs.Grounds.{among, same-names}
use Rattle.gms_restart.proofs.Kept.{Kept}
use Rattle.gms_restart.proofs.Runs.{first-kept, kept-few, kept-occur, last-kept}

module _ {F : Type 0} (v : F → Number) (program : Program F) (accepted : IsAccepted v program) where
  -- a state that keeps what the run keeps is a saved state
  pub kept-saved : (last : State) → Kept (length program.labels) (loaded v program) (among v program accepted) last → (most : ℕ) (solver : List ℕ) → ((name : ℕ) (t : List ℕ) → fits_at most (symbol_at last name).content t ≡ true) → is_solver_name solver ≡ true → IsSavedOf most (length program.labels) (declared_state program) (loaded v program) (is_among (dynamic_sets program)) last solver
  kept-saved last kept most solver fit named =
      record {
        declares = kept.lasts.later.declares ∙ loaded-declares v program;
        given = λ name. record {
          ordered = (kept.lasts.later.given name).ordered;
          few = kept-few v program accepted (length program.labels) last kept name;
          occur = kept-occur v program accepted (length program.labels) last kept name;
          fit = fit name;
          differs = (kept.lasts.later.given name).differs;
          statuses = (kept.lasts.later.given name).statuses;
        };
        static = λ name none. kept.lasts.later.static name (ap (λ (ns : List ℕ). is_among ns name) (same-names v program accepted) ∙ none);
        ranges = kept.lasts.later.ranges;
        named = named;
      }

module _ {F : Type 0} (v : F → Number) (limit : ℕ) (world : World F) (accepted : IsAccepted v world.program) (own : WritesItsLabels v world.program) where
  -- the last state of the run from the first state keeps it
  pub state-kept : (answers : List (Answer Number)) → Kept (length world.program.labels) (loaded v world.program) (among v world.program accepted) (last_state v limit world answers)
  state-kept answers =
      last-kept v limit world accepted (length world.program.labels) own [] world.program.statements.items refl (loaded v world.program) (first-kept v limit world accepted (length world.program.labels) own) answers
