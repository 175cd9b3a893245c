use Rattle.std.proofs.Common.{◌≡◌, take}
use Rattle.std.specs.Prelude.{flat_map}
use Rattle.gms_check.specs.Errors.{first_error}
use Rattle.gms_save.specs.JointErrors.{restarts_at, targets}
use Rattle.gms_save.specs.InnerRestartChecks.{fixed_by}
use Rattle.gms_save.proofs.restart.RestartCheck.+targets.Given as goal

abbrev pub invariant-target_error_among-loop-statement : goal.invariant-target_error_among-loop-statement
invariant-target_error_among-loop-statement l =
    l.first ≡ first_error (restarts_at (fixed_by l.self) (flat_map targets (take l.statement-index l.statements)))
