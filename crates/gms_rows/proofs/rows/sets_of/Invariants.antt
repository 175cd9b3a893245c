use Rattle.std.proofs.Common.{◌≡◌, map, take}
use Rattle.gms_ast.specs.TreeView.{index_tree, indices_of}
use Rattle.gms_rows.specs.Rows.{distinct_numbers, sets_among}
use Rattle.gms_rows.proofs.rows.sets_of.Given as goal

abbrev pub invariant-loop-index : goal.invariant-loop-index
invariant-loop-index g l =
    l.sets.items ≡ distinct_numbers (sets_among (indices_of (map index_tree (take l.index-index l.indices))))
