use Rattle.std.proofs.Common.{ap, sym, ◌∙◌}
use Rattle.gms_ast.specs.TreeView.{tree_of}
use Rattle.gms_eval.specs.Bindings.{controlled}
use Rattle.gms_eval.proofs.Answering.{stops-same, handed_on}
use Rattle.gms_eval.proofs.Inner.{inner-start, inner-controlled, inner-kept}
use Rattle.gms_exec.specs.Assignment.{target_of, element_under}
use Rattle.gms_exec.specs.InnerContracts.{all_given_in, found_in}
use Rattle.gms_exec.proofs.LeftSides.{finding, finding-more, finding-end, finding-stops}
use Rattle.gms_exec.proofs.assignment.Assignment.each_given.Goals as goal

pub loop-element-init : goal.loop-element-init
loop-element-init g c =
    (ap (λ items. finding g.F.ExactField.value g.F.ExactField.limit c.args.store.now (λ element. element_under g.F.ExactField.value g.F.ExactField.limit c.args.store.now (target_of c.args.self.now.target.now) c.args.self.now.right_at (tree_of c.args.self.now.right.now) (controlled c.args.b.now c.args.sets.now element)) (all_given_in g.F.ExactField.value items) c.args.elements.now) (sym c.new-all.ensures.items), inner-start c.args.b.now c.in_ok-inner.inner c.in_ok-inner.ensures)

pub returns-in_err-found : goal.returns-in_err-found
returns-in_err-found g c =
    handed_on g.F.ExactField.value (λ all. all_given_in g.F.ExactField.value all.items) c.from_residual-in_err-found.result c.in_err-found.field-0.0 _ c.from_residual-in_err-found.ensures.1 (finding-stops g.F.ExactField.value g.F.ExactField.limit c.args.store.now (λ element. element_under g.F.ExactField.value g.F.ExactField.limit c.args.store.now (target_of c.args.self.now.target.now) c.args.self.now.right_at (tree_of c.args.self.now.right.now) (controlled c.args.b.now c.args.sets.now element)) c.in_err-found.field-0.0 _ (all_given_in g.F.ExactField.value c.loop-element.all.items) c.args.elements.now c.loop-element.element-index c.element-item.result c.loop-element.invariant.0 c.loop-element-test.true c.element-item.is (stops-same g.F.ExactField.value c.in_err-found.field-0.0 _ _ (ap (element_under g.F.ExactField.value g.F.ExactField.limit c.args.store.now (target_of c.args.self.now.target.now) c.args.self.now.right_at (tree_of c.args.self.now.right.now)) (sym (inner-controlled c.args.b.now c.loop-element.inner c.control.new.self c.args.sets.now c.element-item.result c.as_slice.result.now c.len.result c.loop-element.invariant.1 c.len.ensures c.as_slice.ensures.value c.in_ok-control.ensures))) c.in_err-found.ensures))

pub loop-element-preserved : goal.loop-element-preserved
loop-element-preserved g c =
    (finding-more g.F.ExactField.value g.F.ExactField.limit c.args.store.now (λ element. element_under g.F.ExactField.value g.F.ExactField.limit c.args.store.now (target_of c.args.self.now.target.now) c.args.self.now.right_at (tree_of c.args.self.now.right.now) (controlled c.args.b.now c.args.sets.now element)) _ (all_given_in g.F.ExactField.value c.loop-element.all.items) (all_given_in g.F.ExactField.value c.add.new.all.items) c.args.elements.now c.loop-element.element-index c.element-item.result (found_in g.F.ExactField.value c.in_ok-found.found) c.loop-element.invariant.0 c.loop-element-test.true c.element-item.is (ap (element_under g.F.ExactField.value g.F.ExactField.limit c.args.store.now (target_of c.args.self.now.target.now) c.args.self.now.right_at (tree_of c.args.self.now.right.now)) (sym (inner-controlled c.args.b.now c.loop-element.inner c.control.new.self c.args.sets.now c.element-item.result c.as_slice.result.now c.len.result c.loop-element.invariant.1 c.len.ensures c.as_slice.ensures.value c.in_ok-control.ensures)) ∙ c.in_ok-found.ensures) c.in_ok-add.ensures, inner-kept c.args.b.now c.control.new.self c.args.sets.now c.element-item.result (inner-controlled c.args.b.now c.loop-element.inner c.control.new.self c.args.sets.now c.element-item.result c.as_slice.result.now c.len.result c.loop-element.invariant.1 c.len.ensures c.as_slice.ensures.value c.in_ok-control.ensures))

pub returns : goal.returns
returns g c =
    finding-end g.F.ExactField.value g.F.ExactField.limit c.args.store.now (λ element. element_under g.F.ExactField.value g.F.ExactField.limit c.args.store.now (target_of c.args.self.now.target.now) c.args.self.now.right_at (tree_of c.args.self.now.right.now) (controlled c.args.b.now c.args.sets.now element)) _ (all_given_in g.F.ExactField.value c.loop-element.all.items) c.args.elements.now c.loop-element.element-index c.loop-element.invariant.0 c.loop-element-test.false
