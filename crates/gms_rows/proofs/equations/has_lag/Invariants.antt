use Rattle.std.proofs.Common.{◌≡◌, drop, map}
use Rattle.gms_ast.specs.TreeView.{index_tree, indices_of}
use Rattle.gms_rows.specs.Rows.{has_lag}
use Rattle.gms_rows.proofs.equations.has_lag.Given as goal

abbrev pub invariant-loop-index : goal.invariant-loop-index
invariant-loop-index g l =
    has_lag (indices_of (map index_tree l.indices)) ≡ has_lag (indices_of (map index_tree (drop l.index-index l.indices)))
