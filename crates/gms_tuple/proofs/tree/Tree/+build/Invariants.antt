use Rattle.gms_tuple.proofs.tree.Tree.+build.Given as goal

abbrev pub decreases-build : goal.decreases-build
decreases-build l = l.size
