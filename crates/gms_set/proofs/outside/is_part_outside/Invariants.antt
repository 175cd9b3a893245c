use Rattle.std.proofs.Common.{◌≡◌, false, take, Some}
use Rattle.std.specs.List.{list_any}
use Rattle.gms_set.specs.Expansion.{is_outside}
use Rattle.gms_set.proofs.outside.is_part_outside.Given as goal

abbrev pub invariant-loop-label : goal.invariant-loop-label
invariant-loop-label g l = list_any (is_outside l.store (Some l.name)) (take l.label-index l.labels) ≡ false
