use Rattle.std.proofs.Common.{◌≡◌, take}
use Rattle.gms_check.specs.Errors.{first_error}
use Rattle.gms_save.specs.JointErrors.{names_at, restarts_at}
use Rattle.gms_save.specs.InnerRestartChecks.{variable_in}
use Rattle.gms_save.proofs.restart.RestartCheck.type_error_among.Given as goal

abbrev pub invariant-loop-item : goal.invariant-loop-item
invariant-loop-item l = l.first ≡ first_error (restarts_at (variable_in l.self.saved) (names_at (take l.item-index l.items)))
