use Rattle.std.proofs.Common.{◌≡◌, take}
use Rattle.std.specs.Prelude.{flat_map}
use Rattle.gms_check.specs.InnerChecking.{noted, seen}
use Rattle.gms_check.specs.DeclarationUses.{domain_use}
use Rattle.gms_check.proofs.checker.Checker.domain_sets.Given as goal

abbrev pub invariant-loop-position : goal.invariant-loop-position
invariant-loop-position g l =
    seen l.self ≡ noted g.F.ExactField.value (seen l.fn.self) (flat_map domain_use (take l.position-index l.domain))
