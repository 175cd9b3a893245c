use Rattle.std.proofs.Common.{max, ap, ◌∙◌, arith}
use Rattle.gms_ast.specs.Nesting.{nesting, deepest_amount}
use Rattle.gms_ast.specs.TreeView.{tree_of, index_tree}
use Rattle.gms_ast.specs.Trees.{plain, placed, signed, related, chosen, no_index}
use Rattle.gms_ast.proofs.Deepest.{capped-more, deepest-parts_of, deepest_amount-indices_of}
use Rattle.gms_ast.proofs.TreeEquations.{tree_of-Ref, tree_of-Call, tree_of-Fold, tree_of-Neg, tree_of-Not, tree_of-Guard, tree_of-And, tree_of-Plus, tree_of-Times, tree_of-Power, tree_of-Relate, tree_of-Or}
use Rattle.gms_ast.proofs.nesting.+nesting.Goals as goal

pub deepest-loop-part-preserved : goal.deepest-loop-part-preserved
deepest-loop-part-preserved g t c =
    c.max-most.ensures ∙ ap (λ n. max n c.loop-part.most) c.depth.ensures ∙ capped-more (λ part. nesting (tree_of part)) c.args.parts.now c.loop-part.part-index c.part-item.result c.loop-part.most c.loop-part-test.true c.part-item.is c.loop-part.invariant

pub deepest_chosen-loop-part-preserved : goal.deepest_chosen-loop-part-preserved
deepest_chosen-loop-part-preserved g t c =
    c.max-most.ensures ∙ ap (λ n. max n c.loop-part.most) c.depth.ensures ∙ capped-more (λ part. nesting (tree_of part.1)) c.args.parts.now c.loop-part.part-index c.loop-part-item.result c.loop-part.most c.loop-part-test.true c.loop-part-item.is c.loop-part.invariant

pub deepest_index-loop-index-preserved : goal.deepest_index-loop-index-preserved
deepest_index-loop-index-preserved g t c =
    c.max-most.ensures ∙ ap (λ n. max n c.loop-index.most) c.depth_of_index.ensures ∙ capped-more (λ index. deepest_amount (index_tree index no_index)) c.args.indices.now c.loop-index.index-index c.index-item.result c.loop-index.most c.loop-index-test.true c.index-item.is c.loop-index.invariant

pub deepest_placed-loop-part-preserved : goal.deepest_placed-loop-part-preserved
deepest_placed-loop-part-preserved g t c =
    c.max-most.ensures ∙ ap (λ n. max n c.loop-part.most) c.depth.ensures ∙ capped-more (λ part. nesting (tree_of part.1)) c.args.parts.now c.loop-part.part-index c.loop-part-item.result c.loop-part.most c.loop-part-test.true c.loop-part-item.is c.loop-part.invariant

pub deepest_related-loop-part-preserved : goal.deepest_related-loop-part-preserved
deepest_related-loop-part-preserved g t c =
    c.max-most.ensures ∙ ap (λ n. max n c.loop-part.most) c.depth.ensures ∙ capped-more (λ part. nesting (tree_of part.1)) c.args.parts.now c.loop-part.part-index c.loop-part-item.result c.loop-part.most c.loop-part-test.true c.loop-part-item.is c.loop-part.invariant

pub deepest_signed-loop-part-preserved : goal.deepest_signed-loop-part-preserved
deepest_signed-loop-part-preserved g t c =
    c.max-most.ensures ∙ ap (λ n. max n c.loop-part.most) c.depth.ensures ∙ capped-more (λ part. nesting (tree_of part.2)) c.args.parts.now c.loop-part.part-index c.loop-part-item.result c.loop-part.most c.loop-part-test.true c.loop-part-item.is c.loop-part.invariant

pub depth-returns-in-Plus : goal.depth-returns-in-Plus
depth-returns-in-Plus g t c =
    rw (c.in-Plus.is, tree_of-Plus c.in-Plus.parts, deepest-parts_of (λ p. signed p.0 p.1) (λ p. tree_of p.2) c.in-Plus.parts.items, ← c.deref-in-Plus.ensures.value) (omega (arith, c.deepest_signed.ensures, c.saturating_add-in-Plus.ensures))

pub depth-returns-in-Times : goal.depth-returns-in-Times
depth-returns-in-Times g t c =
    rw (c.in-Times.is, tree_of-Times c.in-Times.parts, deepest-parts_of (λ p. signed p.0 p.1) (λ p. tree_of p.2) c.in-Times.parts.items, ← c.deref-in-Times.ensures.value) (omega (arith, c.deepest_signed-in-Times.ensures, c.saturating_add-in-Times.ensures))

pub depth-returns-in-Power : goal.depth-returns-in-Power
depth-returns-in-Power g t c =
    rw (c.in-Power.is, tree_of-Power c.in-Power.parts, deepest-parts_of (λ p. placed p.0) (λ p. tree_of p.1) c.in-Power.parts.items, ← c.deref-in-Power.ensures.value) (omega (arith, c.deepest_placed.ensures, c.saturating_add-in-Power.ensures))

pub depth-returns-in-Relate : goal.depth-returns-in-Relate
depth-returns-in-Relate g t c =
    rw (c.in-Relate.is, tree_of-Relate c.in-Relate.parts, deepest-parts_of (λ p. related p.0) (λ p. tree_of p.1) c.in-Relate.parts.items, ← c.deref-in-Relate.ensures.value) (omega (arith, c.deepest_related.ensures, c.saturating_add-in-Relate.ensures))

pub depth-returns-in-Or : goal.depth-returns-in-Or
depth-returns-in-Or g t c =
    rw (c.in-Or.is, tree_of-Or c.in-Or.parts, deepest-parts_of (λ p. chosen p.0) (λ p. tree_of p.1) c.in-Or.parts.items, ← c.deref-in-Or.ensures.value) (omega (arith, c.deepest_chosen.ensures, c.saturating_add-in-Or.ensures))

pub depth-returns-in-And : goal.depth-returns-in-And
depth-returns-in-And g t c =
    rw (c.in-And.is, tree_of-And c.in-And.parts, deepest-parts_of (λ p. plain) tree_of c.in-And.parts.items, ← c.deref-in-And.ensures.value) (omega (arith, c.deepest-in-And.ensures, c.saturating_add-in-And.ensures))

pub depth-returns-in-Call : goal.depth-returns-in-Call
depth-returns-in-Call g t c =
    rw (c.in-Call.is, tree_of-Call c.in-Call.at c.in-Call.function c.in-Call.args, deepest-parts_of (λ p. plain) tree_of c.in-Call.args.items, ← c.deref-in-Call.ensures.value) (omega (arith, c.deepest.ensures, c.saturating_add-in-Call.ensures))

pub depth-returns-in-Guard : goal.depth-returns-in-Guard
depth-returns-in-Guard g t c =
    rw (c.in-Guard.is, tree_of-Guard c.in-Guard.operand c.in-Guard.guards, deepest-parts_of (λ p. plain) tree_of c.in-Guard.guards.items, ← c.deref-in-Guard.ensures, ← c.deref-in-Guard-2.ensures.value) (omega (arith, c.depth-in-Guard.ensures, c.deepest-in-Guard.ensures, c.max-in-Guard.ensures, c.saturating_add-in-Guard.ensures))

pub depth-returns-in-Ref : goal.depth-returns-in-Ref
depth-returns-in-Ref g t c =
    rw (c.in-Ref.is, tree_of-Ref c.in-Ref.at c.in-Ref.name c.in-Ref.suffix c.in-Ref.indices, deepest_amount-indices_of c.in-Ref.indices.items, ← c.deref.ensures.value) (omega (arith, c.deepest_index.ensures, c.saturating_add.ensures))

pub depth-returns-in-Fold : goal.depth-returns-in-Fold
depth-returns-in-Fold g t c =
    rw (c.in-Fold.is, tree_of-Fold c.in-Fold.at c.in-Fold.op c.in-Fold.control c.in-Fold.body, ← c.deref-in-Fold.ensures) (omega (arith, c.depth_of_control.ensures, c.depth.ensures, c.max.ensures, c.saturating_add-in-Fold.ensures))

pub depth-returns-in-Neg : goal.depth-returns-in-Neg
depth-returns-in-Neg g t c =
    rw (c.in-Neg.is, tree_of-Neg c.in-Neg.operand, ← c.deref-in-Neg.ensures) (omega (arith, c.depth-in-Neg.ensures, c.saturating_add-in-Neg.ensures))

pub depth-returns-in-Not : goal.depth-returns-in-Not
depth-returns-in-Not g t c =
    rw (c.in-Not.is, tree_of-Not c.in-Not.operand, ← c.deref-in-Not.ensures) (omega (arith, c.depth-in-Not.ensures, c.saturating_add-in-Not.ensures))
