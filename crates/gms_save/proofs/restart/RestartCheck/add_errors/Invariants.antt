use Rattle.std.proofs.Common.{◌≡◌, take}
use Rattle.gms_save.specs.JointErrors.{each_sooner}
use Rattle.gms_save.specs.InnerRestartChecks.{error_by}
use Rattle.gms_save.proofs.restart.RestartCheck.add_errors.Given as goal

abbrev pub invariant-loop-place : goal.invariant-loop-place
invariant-loop-place l = l.each ≡ each_sooner (error_by l.self) l.initial.each (take l.place l.statements)
