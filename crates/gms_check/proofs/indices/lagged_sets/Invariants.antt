use Rattle.std.proofs.Common.{◌≡◌, take}
use Rattle.gms_check.specs.StatementUses.{index_list}
use Rattle.gms_check.specs.Controls.{lagged_sets}
use Rattle.gms_check.proofs.indices.lagged_sets.Given as goal

abbrev pub invariant-loop-index : goal.invariant-loop-index
invariant-loop-index g l = l.sets.items ≡ lagged_sets (index_list (take l.index-index l.indices))
