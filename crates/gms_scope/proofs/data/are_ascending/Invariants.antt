use Rattle.std.proofs.Common.{◌≡◌, drop}
use Rattle.gms_scope.specs.Data.{labels_of_items, least_after}
use Rattle.gms_scope.proofs.data.are_ascending.Given as goal

abbrev pub invariant-loop-item : goal.invariant-loop-item
invariant-loop-item g l = least_after l.least (labels_of_items (drop l.item-index l.items)) ≡ least_after 0 (labels_of_items l.items)
