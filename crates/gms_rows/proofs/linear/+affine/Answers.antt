use Rattle.std.proofs.Common.{ℕ, pos, Bool, false, if◌then◌else◌, List, map, Some, option_map, unwrap_or, Ok, refl, sym, ap, ◌∙◌}
use Rattle.gq_number.specs.Number.{whole, neg_ℚ}
use Rattle.gms_ast.specs.Trees.{signed}
use Rattle.gms_ast.specs.TreeView.{tree_of, control_tree, index_tree, indices_of}
use Rattle.gms_eval.specs.Bindings.{controlled}
use Rattle.gms_eval.specs.Faults.{Answer, ◌and_then◌}
use Rattle.gms_eval.specs.Nodes.{each_holds}
use Rattle.gms_eval.specs.Value.{domain, sets_of}
use Rattle.gms_eval.specs.declared.steps.Signed.TheVariants as signs
use Rattle.gms_eval.proofs.Answering.{handed_on, stops-same, stops-then, gives-same}
use Rattle.gms_eval.proofs.Inner.{inner-start, inner-controlled, inner-kept}
use Rattle.gms_eval.proofs.NodeValues.{of_expr}
use Rattle.gms_eval.proofs.Shapes.{tree-sets}
use Rattle.gms_rows.specs.Affine.{plus, affine}
use Rattle.gms_rows.specs.Forms.{Form, form_in, zero_form, scaled_form}
use Rattle.gms_rows.specs.InnerContracts.{parts_in, signed_join, added_at, chain_form, total_form}
use Rattle.gms_rows.proofs.Joins.{join-more, join-end, part-stops, join-stops}
use Rattle.gms_rows.proofs.OtherNodes.{form-other}
use Rattle.gms_rows.proofs.Parts.{affine-none, variable_answer, form-Ref, form-Fold, form-Neg, form-Plus, form-Times, form-Guard, part_mark, part_form, following, prefix_form, chain-is, chosen-so, chosen-not, constant-shows}
use Rattle.gms_rows.proofs.linear.+affine.Goals as goal

pub affine-returns-then-not-has_variables : goal.affine-returns-then-not-has_variables
affine-returns-then-not-has_variables g t c =
    let v = g.F.ExactField.value in
    let limit = g.F.ExactField.limit in
    let state = c.args.store.now in
    let b = c.args.b.now in
    gives-same v (form_in v) c.constant.result _ _ (affine-none v limit state c.args.at b (tree_of c.args.e.now) (sym c.has_variables.ensures ∙ c.if-not-has_variables.true)) c.constant.ensures

pub affine-returns-in-Ref : goal.affine-returns-in-Ref
affine-returns-in-Ref g t c =
    let v = g.F.ExactField.value in
    let limit = g.F.ExactField.limit in
    let state = c.args.store.now in
    let b = c.args.b.now in
    gives-same v (form_in v) c.variable.result _ _ (form-Ref v limit state c.args.at b c.args.e.now (sym c.has_variables.ensures ∙ c.if-not-has_variables.false) _ c.in-Ref.name _ c.in-Ref.indices c.in-Ref.is ∙ ap (λ indices. variable_answer v limit state b c.in-Ref.name (indices_of (map index_tree indices))) (sym c.deref.ensures.value)) c.variable.ensures

pub affine-returns-in-Fold : goal.affine-returns-in-Fold
affine-returns-in-Fold g t c =
    let v = g.F.ExactField.value in
    let limit = g.F.ExactField.limit in
    let state = c.args.store.now in
    let b = c.args.b.now in
    gives-same v (form_in v) c.total.result _ _ (form-Fold v limit state c.args.at b c.args.e.now (sym c.has_variables.ensures ∙ c.if-not-has_variables.false) c.in-Fold.at _ c.in-Fold.control c.in-Fold.body c.in-Fold.is ∙ ap (λ body. total_form v limit state c.in-Fold.at b (control_tree c.in-Fold.control) (tree_of body)) (sym c.deref-in-Fold.ensures)) c.total.ensures

pub affine-returns-in_err-form-in-Neg : goal.affine-returns-in_err-form-in-Neg
affine-returns-in_err-form-in-Neg g t c =
    let v = g.F.ExactField.value in
    let limit = g.F.ExactField.limit in
    let state = c.args.store.now in
    let b = c.args.b.now in
    let stop = c.in_err-form-in-Neg.field-0.0 in
    let whole_is = form-Neg v limit state c.args.at b c.args.e.now (sym c.has_variables.ensures ∙ c.if-not-has_variables.false) c.in-Neg.operand c.in-Neg.is ∙ ap (λ i. affine v limit state c.args.at b (tree_of i) and_then λ form. scaled_form limit c.args.at b false form (neg_ℚ (whole (pos 1)))) (sym c.deref-in-Neg.ensures) in
    handed_on v (form_in v) c.from_residual.result stop (affine v limit state c.args.at b (tree_of c.args.e.now)) c.from_residual.ensures.1 (stops-same v stop _ _ whole_is (stops-then v stop (affine v limit state c.args.at b (tree_of c.deref-in-Neg.result.now)) (λ form. scaled_form limit c.args.at b false form (neg_ℚ (whole (pos 1)))) c.in_err-form-in-Neg.ensures))

pub affine-returns-in_ok-form-in-Neg : goal.affine-returns-in_ok-form-in-Neg
affine-returns-in_ok-form-in-Neg g t c =
    let v = g.F.ExactField.value in
    let limit = g.F.ExactField.limit in
    let state = c.args.store.now in
    let b = c.args.b.now in
    let whole_is = form-Neg v limit state c.args.at b c.args.e.now (sym c.has_variables.ensures ∙ c.if-not-has_variables.false) c.in-Neg.operand c.in-Neg.is ∙ ap (λ i. affine v limit state c.args.at b (tree_of i) and_then λ form. scaled_form limit c.args.at b false form (neg_ℚ (whole (pos 1)))) (sym c.deref-in-Neg.ensures) in
    gives-same v (form_in v) c.scale.result _ _ (whole_is ∙ ap (λ a. a and_then λ form. scaled_form limit c.args.at b false form (neg_ℚ (whole (pos 1)))) c.in_ok-form-in-Neg.ensures ∙ ap (scaled_form limit c.args.at b false (form_in v c.in_ok-form-in-Neg.form)) (sym (c.neg.ensures ∙ ap neg_ℚ c.one.ensures))) c.scale.ensures

pub affine-returns-in-Plus : goal.affine-returns-in-Plus
affine-returns-in-Plus g t c =
    let v = g.F.ExactField.value in
    let limit = g.F.ExactField.limit in
    let state = c.args.store.now in
    let b = c.args.b.now in
    gives-same v (form_in v) c.chain.result _ _ (form-Plus v limit state c.args.at b c.args.e.now (sym c.has_variables.ensures ∙ c.if-not-has_variables.false) c.in-Plus.parts c.in-Plus.is ∙ ap (λ ps. chain_form v limit state b signs.Sum (parts_in ps)) (sym c.deref-in-Plus.ensures.value)) c.chain.ensures

pub affine-returns-in-Times : goal.affine-returns-in-Times
affine-returns-in-Times g t c =
    let v = g.F.ExactField.value in
    let limit = g.F.ExactField.limit in
    let state = c.args.store.now in
    let b = c.args.b.now in
    gives-same v (form_in v) c.chain-in-Times.result _ _ (form-Times v limit state c.args.at b c.args.e.now (sym c.has_variables.ensures ∙ c.if-not-has_variables.false) c.in-Times.parts c.in-Times.is ∙ ap (λ ps. chain_form v limit state b signs.Product (parts_in ps)) (sym c.deref-in-Times.ensures.value)) c.chain-in-Times.ensures

pub affine-returns-in_err-all_hold-in-Guard : goal.affine-returns-in_err-all_hold-in-Guard
affine-returns-in_err-all_hold-in-Guard g t c =
    let v = g.F.ExactField.value in
    let limit = g.F.ExactField.limit in
    let state = c.args.store.now in
    let b = c.args.b.now in
    let stop = c.in_err-all_hold-in-Guard.field-0.0 in
    let choice : Bool → Answer Form = λ hold. if hold then affine v limit state c.args.at b (tree_of c.in-Guard.operand.value) else Ok zero_form in
    handed_on v (form_in v) c.from_residual-in_err-all_hold-in-Guard.result stop (affine v limit state c.args.at b (tree_of c.args.e.now)) c.from_residual-in_err-all_hold-in-Guard.ensures.1 (stops-same v stop _ _ (form-Guard v limit state c.args.at b c.args.e.now (sym c.has_variables.ensures ∙ c.if-not-has_variables.false) c.in-Guard.operand c.in-Guard.guards c.in-Guard.is ∙ ap (λ gs. each_holds (map (of_expr v limit state b) gs) and_then choice) (sym c.deref-in-Guard.ensures.value)) (stops-then v stop (each_holds (map (of_expr v limit state b) c.deref-in-Guard.result.now)) choice c.in_err-all_hold-in-Guard.ensures))

pub affine-returns-then-branch : goal.affine-returns-then-branch
affine-returns-then-branch g t c =
    let v = g.F.ExactField.value in
    let limit = g.F.ExactField.limit in
    let state = c.args.store.now in
    let b = c.args.b.now in
    let choice : Bool → Answer Form = λ hold. if hold then affine v limit state c.args.at b (tree_of c.in-Guard.operand.value) else Ok zero_form in
    gives-same v (form_in v) c.affine-then-branch.result _ _ ((form-Guard v limit state c.args.at b c.args.e.now (sym c.has_variables.ensures ∙ c.if-not-has_variables.false) c.in-Guard.operand c.in-Guard.guards c.in-Guard.is ∙ ap (λ gs. each_holds (map (of_expr v limit state b) gs) and_then choice) (sym c.deref-in-Guard.ensures.value)) ∙ chosen-so (each_holds (map (of_expr v limit state b) c.deref-in-Guard.result.now)) c.in_ok-all_hold-in-Guard.field-0 (affine v limit state c.args.at b (tree_of c.in-Guard.operand.value)) (Ok zero_form) c.in_ok-all_hold-in-Guard.ensures c.if-branch.true ∙ ap (λ i. affine v limit state c.args.at b (tree_of i)) (sym c.deref-then-branch.ensures)) c.affine-then-branch.ensures

pub affine-returns-else-branch : goal.affine-returns-else-branch
affine-returns-else-branch g t c =
    let v = g.F.ExactField.value in
    let limit = g.F.ExactField.limit in
    let state = c.args.store.now in
    let b = c.args.b.now in
    let choice : Bool → Answer Form = λ hold. if hold then affine v limit state c.args.at b (tree_of c.in-Guard.operand.value) else Ok zero_form in
    (form-Guard v limit state c.args.at b c.args.e.now (sym c.has_variables.ensures ∙ c.if-not-has_variables.false) c.in-Guard.operand c.in-Guard.guards c.in-Guard.is ∙ ap (λ gs. each_holds (map (of_expr v limit state b) gs) and_then choice) (sym c.deref-in-Guard.ensures.value)) ∙ chosen-not (each_holds (map (of_expr v limit state b) c.deref-in-Guard.result.now)) c.in_ok-all_hold-in-Guard.field-0 (affine v limit state c.args.at b (tree_of c.in-Guard.operand.value)) (Ok zero_form) c.in_ok-all_hold-in-Guard.ensures c.if-branch.false ∙ ap Ok (constant-shows v c.constant-else-branch.result (whole (pos 0)) (ap v c.constant-else-branch.ensures.constant ∙ c.zero.ensures) c.constant-else-branch.ensures.keys)

pub affine-returns-in_default : goal.affine-returns-in_default
affine-returns-in_default g t c =
    let v = g.F.ExactField.value in
    gives-same v (form_in v) c.constant-in_default.result _ _ (form-other v g.F.ExactField.limit c.args.store.now c.args.at c.args.b.now c.args.e.now c.in_default.not-Ref c.in_default.not-Fold c.in_default.not-Neg c.in_default.not-Plus c.in_default.not-Times c.in_default.not-Guard) c.constant-in_default.ensures

-- ---- sums over domains

pub total-returns-in_err-elements : goal.total-returns-in_err-elements
total-returns-in_err-elements g t c =
    let v = g.F.ExactField.value in
    let limit = g.F.ExactField.limit in
    let state = c.args.store.now in
    let b = c.args.b.now in
    let stop = c.in_err-elements.field-0.0 in
    let control = control_tree c.args.control.now in
    handed_on v (form_in v) c.from_residual-in_err-elements.result stop (total_form v limit state c.args.at b control (tree_of c.args.body.now)) c.from_residual-in_err-elements.ensures.1 (stops-then v stop (domain v limit state b c.args.at control) (added_at v limit state c.args.at b (sets_of control) (tree_of c.args.body.now) zero_form) c.in_err-elements.ensures)

pub total-returns-in_err-add_elements : goal.total-returns-in_err-add_elements
total-returns-in_err-add_elements g t c =
    let v = g.F.ExactField.value in
    let limit = g.F.ExactField.limit in
    let state = c.args.store.now in
    let b = c.args.b.now in
    let stop = c.in_err-add_elements.field-0.0 in
    let control = control_tree c.args.control.now in
    let added : List ℕ → Form → List (List ℕ) → Answer Form = λ sets form elements. added_at v limit state c.args.at b sets (tree_of c.args.body.now) form elements in
    handed_on v (form_in v) c.from_residual-in_err-add_elements.result stop (total_form v limit state c.args.at b control (tree_of c.args.body.now)) c.from_residual-in_err-add_elements.ensures.1 (stops-same v stop _ _
    (ap (λ a. a and_then added (sets_of control) zero_form) c.in_ok-elements.ensures
    ∙ ap (added (sets_of control) zero_form) (sym c.deref.ensures.value)
    ∙ ap (λ sets. added sets zero_form c.deref.result.now) (sym (c.as_slice.ensures ∙ sym (tree-sets c.args.control.now)))
    ∙ ap (λ form. added c.as_slice.result.now form c.deref.result.now) (constant-shows v c.new-total.result (whole (pos 0)) c.new-total.ensures.constant c.new-total.ensures.keys))
    c.in_err-add_elements.ensures)

pub total-returns : goal.total-returns
total-returns g t c =
    let v = g.F.ExactField.value in
    let limit = g.F.ExactField.limit in
    let state = c.args.store.now in
    let b = c.args.b.now in
    let control = control_tree c.args.control.now in
    let added : List ℕ → Form → List (List ℕ) → Answer Form = λ sets form elements. added_at v limit state c.args.at b sets (tree_of c.args.body.now) form elements in
    (ap (λ a. a and_then added (sets_of control) zero_form) c.in_ok-elements.ensures
    ∙ ap (added (sets_of control) zero_form) (sym c.deref.ensures.value)
    ∙ ap (λ sets. added sets zero_form c.deref.result.now) (sym (c.as_slice.ensures ∙ sym (tree-sets c.args.control.now)))
    ∙ ap (λ form. added c.as_slice.result.now form c.deref.result.now) (constant-shows v c.new-total.result (whole (pos 0)) c.new-total.ensures.constant c.new-total.ensures.keys))
    ∙ c.in_ok-add_elements.ensures
    ∙ ap Ok (sym c.in_ok-sum.ensures)

pub add_elements-loop-element-init : goal.add_elements-loop-element-init
add_elements-loop-element-init g t c =
    (refl, inner-start c.args.b.now c.args.inner.now c.requires)

pub add_elements-returns-in_err-form : goal.add_elements-returns-in_err-form
add_elements-returns-in_err-form g t c =
    let v = g.F.ExactField.value in
    let limit = g.F.ExactField.limit in
    let state = c.args.store.now in
    let b = c.args.b.now in
    let stop = c.in_err-form.field-0.0 in
    let body = tree_of c.args.body.now in
    let bound = inner-controlled b c.loop-element.inner c.control.new.self c.args.sets.now c.element-item.result c.as_slice.result.now c.len.result c.loop-element.invariant.1 c.len.ensures c.as_slice.ensures.value c.in_ok-control.ensures in
    handed_on v _ c.from_residual-in_err-form.result stop (added_at v limit state c.args.at b c.args.sets.now body (form_in v c.args.so_far.now) c.args.elements.now) c.from_residual-in_err-form.ensures.1 (part-stops (plus limit b) (λ _. signed c.args.at false) (λ element. affine v limit state c.args.at (controlled b c.args.sets.now element) body) v stop _ (Some (form_in v c.loop-element.so_far)) c.args.elements.now c.loop-element.element-index c.element-item.result c.loop-element.invariant.0 c.loop-element-test.true c.element-item.is (stops-same v stop _ _ (ap (λ pairs. affine v limit state c.args.at pairs body) (sym bound)) c.in_err-form.ensures))

pub add_elements-returns-in_err-add_to : goal.add_elements-returns-in_err-add_to
add_elements-returns-in_err-add_to g t c =
    let v = g.F.ExactField.value in
    let limit = g.F.ExactField.limit in
    let state = c.args.store.now in
    let b = c.args.b.now in
    let stop = c.in_err-add_to.field-0.0 in
    let body = tree_of c.args.body.now in
    let bound = inner-controlled b c.loop-element.inner c.control.new.self c.args.sets.now c.element-item.result c.as_slice.result.now c.len.result c.loop-element.invariant.1 c.len.ensures c.as_slice.ensures.value c.in_ok-control.ensures in
    handed_on v _ c.from_residual-in_err-add_to.result stop (added_at v limit state c.args.at b c.args.sets.now body (form_in v c.args.so_far.now) c.args.elements.now) c.from_residual-in_err-add_to.ensures.1 (join-stops (plus limit b) (λ _. signed c.args.at false) (λ element. affine v limit state c.args.at (controlled b c.args.sets.now element) body) v stop _ (Some (form_in v c.loop-element.so_far)) c.args.elements.now c.loop-element.element-index c.element-item.result c.loop-element.invariant.0 c.loop-element-test.true c.element-item.is (form_in v c.in_ok-form.form) (ap (λ pairs. affine v limit state c.args.at pairs body) (sym bound) ∙ c.in_ok-form.ensures) c.in_err-add_to.ensures)

pub add_elements-loop-element-preserved : goal.add_elements-loop-element-preserved
add_elements-loop-element-preserved g t c =
    let v = g.F.ExactField.value in
    let limit = g.F.ExactField.limit in
    let state = c.args.store.now in
    let b = c.args.b.now in
    let body = tree_of c.args.body.now in
    let bound = inner-controlled b c.loop-element.inner c.control.new.self c.args.sets.now c.element-item.result c.as_slice.result.now c.len.result c.loop-element.invariant.1 c.len.ensures c.as_slice.ensures.value c.in_ok-control.ensures in
    (c.loop-element.invariant.0 ∙ join-more (plus limit b) (λ _. signed c.args.at false) (λ element. affine v limit state c.args.at (controlled b c.args.sets.now element) body) (Some (form_in v c.loop-element.so_far)) (form_in v c.in_ok-form.form) (form_in v c.add_to.new.sum) c.args.elements.now c.loop-element.element-index c.element-item.result c.loop-element-test.true c.element-item.is (ap (λ pairs. affine v limit state c.args.at pairs body) (sym bound) ∙ c.in_ok-form.ensures) c.in_ok-add_to.ensures, inner-kept b c.control.new.self c.args.sets.now c.element-item.result bound)

pub add_elements-returns : goal.add_elements-returns
add_elements-returns g t c =
    let v = g.F.ExactField.value in
    let limit = g.F.ExactField.limit in
    let state = c.args.store.now in
    let b = c.args.b.now in
    c.loop-element.invariant.0 ∙ join-end (plus limit b) (λ _. signed c.args.at false) (λ element. affine v limit state c.args.at (controlled b c.args.sets.now element) (tree_of c.args.body.now)) (Some (form_in v c.loop-element.so_far)) c.args.elements.now c.loop-element.element-index c.loop-element-test.false

-- ---- sums and products

pub chain-returns-in_err-so_far : goal.chain-returns-in_err-so_far
chain-returns-in_err-so_far g t c =
    let v = g.F.ExactField.value in
    let limit = g.F.ExactField.limit in
    let state = c.args.store.now in
    let b = c.args.b.now in
    let stop = c.in_err-so_far.field-0.0 in
    handed_on v (form_in v) c.from_residual.result stop (chain_form v limit state b c.args.kind (parts_in c.args.parts.now)) c.from_residual.ensures.1 (stops-same v stop _ _ (chain-is v limit state b c.args.kind c.args.parts.now c.split_at.result.0.now c.split_at.result.1.now c.count_before_variables-count.result c.count_before_variables-count.ensures.count c.split_at.ensures.front c.split_at.ensures.back) (stops-then v stop (prefix_form v limit state b c.args.kind c.split_at.result.0.now) (following v limit state b c.args.kind c.split_at.result.1.now) c.in_err-so_far.ensures))

pub chain-loop-at-init : goal.chain-loop-at-init
chain-loop-at-init g t c =
    let v = g.F.ExactField.value in
    let limit = g.F.ExactField.limit in
    let state = c.args.store.now in
    let b = c.args.b.now in
    chain-is v limit state b c.args.kind c.args.parts.now c.split_at.result.0.now c.split_at.result.1.now c.count_before_variables-count.result c.count_before_variables-count.ensures.count c.split_at.ensures.front c.split_at.ensures.back
    ∙ ap (λ a. a and_then following v limit state b c.args.kind c.split_at.result.1.now) c.in_ok-so_far.ensures

pub chain-returns-in_err-form : goal.chain-returns-in_err-form
chain-returns-in_err-form g t c =
    let v = g.F.ExactField.value in
    let limit = g.F.ExactField.limit in
    let state = c.args.store.now in
    let b = c.args.b.now in
    let stop = c.in_err-form.field-0.0 in
    handed_on v (form_in v) c.from_residual-in_err-form.result stop (chain_form v limit state b c.args.kind (parts_in c.args.parts.now)) c.from_residual-in_err-form.ensures.1 (part-stops (signed_join limit b c.args.kind) part_mark (part_form v limit state b) v stop _ (option_map (form_in v) c.loop-at.so_far) c.split_at.result.1.now c.loop-at.at-index c.loop-at-item.result c.loop-at.invariant c.loop-at-test.true c.loop-at-item.is c.in_err-form.ensures)

pub chain-returns-in_err-next : goal.chain-returns-in_err-next
chain-returns-in_err-next g t c =
    let v = g.F.ExactField.value in
    let limit = g.F.ExactField.limit in
    let state = c.args.store.now in
    let b = c.args.b.now in
    let stop = c.in_err-next.field-0.0 in
    handed_on v (form_in v) c.from_residual-in_err-next.result stop (chain_form v limit state b c.args.kind (parts_in c.args.parts.now)) c.from_residual-in_err-next.ensures.1 (join-stops (signed_join limit b c.args.kind) part_mark (part_form v limit state b) v stop _ (option_map (form_in v) c.loop-at.so_far) c.split_at.result.1.now c.loop-at.at-index c.loop-at-item.result c.loop-at.invariant c.loop-at-test.true c.loop-at-item.is (form_in v c.in_ok-form.form) c.in_ok-form.ensures c.in_err-next.ensures)

pub chain-loop-at-preserved : goal.chain-loop-at-preserved
chain-loop-at-preserved g t c =
    let v = g.F.ExactField.value in
    let limit = g.F.ExactField.limit in
    let state = c.args.store.now in
    let b = c.args.b.now in
    c.loop-at.invariant ∙ join-more (signed_join limit b c.args.kind) part_mark (part_form v limit state b) (option_map (form_in v) c.loop-at.so_far) (form_in v c.in_ok-form.form) (form_in v c.in_ok-next.next) c.split_at.result.1.now c.loop-at.at-index c.loop-at-item.result c.loop-at-test.true c.loop-at-item.is c.in_ok-form.ensures c.in_ok-next.ensures

pub chain-returns-in-Some : goal.chain-returns-in-Some
chain-returns-in-Some g t c =
    let v = g.F.ExactField.value in
    let limit = g.F.ExactField.limit in
    let state = c.args.store.now in
    let b = c.args.b.now in
    c.loop-at.invariant
    ∙ join-end (signed_join limit b c.args.kind) part_mark (part_form v limit state b) (option_map (form_in v) c.loop-at.so_far) c.split_at.result.1.now c.loop-at.at-index c.loop-at-test.false
    ∙ ap (λ o. Ok (unwrap_or (option_map (form_in v) o) zero_form)) c.in-Some.is

pub chain-returns-in-None : goal.chain-returns-in-None
chain-returns-in-None g t c =
    let v = g.F.ExactField.value in
    let limit = g.F.ExactField.limit in
    let state = c.args.store.now in
    let b = c.args.b.now in
    c.loop-at.invariant
    ∙ join-end (signed_join limit b c.args.kind) part_mark (part_form v limit state b) (option_map (form_in v) c.loop-at.so_far) c.split_at.result.1.now c.loop-at.at-index c.loop-at-test.false
    ∙ ap (λ o. Ok (unwrap_or (option_map (form_in v) o) zero_form)) c.in-None.is
    ∙ ap Ok (constant-shows v c.constant.result (whole (pos 0)) (ap v c.constant.ensures.constant ∙ c.zero.ensures) c.constant.ensures.keys)
