use Rattle.std.proofs.Common.{◌≡◌, ◌≤◌, ◌-◌, false, length, take}
use Rattle.std.specs.List.{list_any}
use Rattle.gms_scope.specs.Facts.{is_missing}
use Rattle.gms_scope.proofs.model.defined_from.Given as goal

abbrev pub invariant-loop-count : goal.invariant-loop-count
invariant-loop-count l = (l.count ≤ length l.equations) × (list_any (is_missing l.defined) (take l.count l.equations) ≡ false)

abbrev pub decreases-loop-count : goal.decreases-loop-count
decreases-loop-count l = length l.equations - l.count
