use Rattle.std.proofs.Common.{◌≡◌, take}
use Rattle.gms_check.specs.InnerChecking.{seen, with_controlled}
use Rattle.gms_check.proofs.checker.Checker.control_indices.Given as goal

abbrev pub invariant-loop-set : goal.invariant-loop-set
invariant-loop-set g l = seen l.self ≡ with_controlled (seen l.fn.self) (take l.set-index l.set-items)
