use Rattle.std.proofs.Common.{◌≡◌, drop}
use Rattle.gms_set.specs.Expansion.{has_outside}
use Rattle.gms_set.proofs.outside.has_outside.Given as goal

abbrev pub invariant-loop-position : goal.invariant-loop-position
invariant-loop-position g l =
    has_outside l.store (drop l.position l.domain) (drop l.position l.parts) ≡ has_outside l.store l.domain l.parts
