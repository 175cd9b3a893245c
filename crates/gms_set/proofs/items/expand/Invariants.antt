use Rattle.std.proofs.Common.{◌≡◌, drop}
use Rattle.gms_set.specs.Expansion.{expanded, with_items}
use Rattle.gms_set.proofs.items.expand.Given as goal

abbrev pub invariant-loop-item : goal.invariant-loop-item
invariant-loop-item g l =
    with_items l.store l.domain l.expansion (drop l.item-index l.items) ≡ expanded l.store l.domain l.items
