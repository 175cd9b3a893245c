use Rattle.std.proofs.Common.{◌≡◌, map, take}
use Rattle.gms_ast.specs.InnerGreatest.{greatest}
use Rattle.gms_ast.specs.Nesting.{capped, nesting, deepest_amount}
use Rattle.gms_ast.specs.TreeView.{tree_of, index_tree}
use Rattle.gms_ast.specs.Trees.{no_index}
use Rattle.gms_ast.proofs.nesting.+nesting.Given as goal

abbrev pub invariant-deepest-loop-part : goal.invariant-deepest-loop-part
invariant-deepest-loop-part g l = l.most ≡ capped (greatest (map (λ part. nesting (tree_of part)) (take l.part-index l.parts)))

abbrev pub invariant-deepest_chosen-loop-part : goal.invariant-deepest_chosen-loop-part
invariant-deepest_chosen-loop-part g l = l.most ≡ capped (greatest (map (λ part. nesting (tree_of part.1)) (take l.part-index l.parts)))

abbrev pub invariant-deepest_index-loop-index : goal.invariant-deepest_index-loop-index
invariant-deepest_index-loop-index g l = l.most ≡ capped (greatest (map (λ index. deepest_amount (index_tree index no_index)) (take l.index-index l.indices)))

abbrev pub invariant-deepest_placed-loop-part : goal.invariant-deepest_placed-loop-part
invariant-deepest_placed-loop-part g l = l.most ≡ capped (greatest (map (λ part. nesting (tree_of part.1)) (take l.part-index l.parts)))

abbrev pub invariant-deepest_related-loop-part : goal.invariant-deepest_related-loop-part
invariant-deepest_related-loop-part g l = l.most ≡ capped (greatest (map (λ part. nesting (tree_of part.1)) (take l.part-index l.parts)))

abbrev pub invariant-deepest_signed-loop-part : goal.invariant-deepest_signed-loop-part
invariant-deepest_signed-loop-part g l = l.most ≡ capped (greatest (map (λ part. nesting (tree_of part.2)) (take l.part-index l.parts)))
