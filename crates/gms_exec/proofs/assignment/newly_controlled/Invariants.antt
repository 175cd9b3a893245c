use Rattle.std.proofs.Common.{◌≡◌, map, drop}
use Rattle.gms_ast.specs.TreeView.{index_tree, indices_of}
use Rattle.gms_rows.specs.Rows.{sets_among}
use Rattle.gms_exec.specs.Assignment.{newly_controlled}
use Rattle.gms_exec.proofs.LeftSides.{noting}
use Rattle.gms_exec.proofs.assignment.newly_controlled.Given as goal

abbrev pub invariant-loop-index : goal.invariant-loop-index
invariant-loop-index g l =
    newly_controlled l.b (indices_of (map index_tree l.indices)) ≡ noting l.b l.sets.items (sets_among (indices_of (map index_tree (drop l.index-index l.indices))))
