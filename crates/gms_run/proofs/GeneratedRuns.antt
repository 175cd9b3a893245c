-- A generated model that arguments request can be run.
use Rattle.std.proofs.Common.{◌≡◌, ℕ, List, refl, sym, subst}
use Rattle.gms_host.specs.Meaning.{Outside}
use Rattle.gms_command.specs.CommandLine.{Origin, in_file, restarted, generated}
use Rattle.gms_command.proofs.RequestedSizes.{requested_within}
use Rattle.gms_laws.proofs.GeneratedSizes.{generated as all_accepted}
use Rattle.gms_run.specs.Scripts.{RunInput, from_save, from_start}
use Rattle.gms_run.specs.Statuses.{CanRun, CanRunFrom, IsContentOf, NamesProgram}

-- What arguments name can be run, since each generated model is accepted.
pub can_run : (solvers : List (List ℕ)) (old : Outside) (words : List (List ℕ)) (n : NamesProgram solvers old words) → CanRun solvers n.source.taken
can_run solvers old words n = by n.source.request.source refl n.source.taken n.source.found n.can_run
  where
    by : (o : Origin) → n.source.request.source ≡ o → (taken : RunInput) → IsContentOf old o taken → CanRunFrom solvers o taken → CanRun solvers taken
    by (in_file file) is taken found can = can
    by (restarted saved file) is taken found can = can
    by (generated size) is (from_save save file) found can = absurd found
    by (generated size) is (from_start source) found can =
        let within = requested_within words n.source.request size n.source.named is in
        let model = all_accepted size within.0 within.1 solvers in
        subst (λ (text : List ℕ). CanRun solvers (from_start text)) (sym found) (record { view = model.view; has_program = model.has_program; no_error = model.no_error })
