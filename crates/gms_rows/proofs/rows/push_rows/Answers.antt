use Rattle.std.proofs.Common.{[], ◌++◌, map, option_map, Ok, refl, sym, ap, subst, ◌∙◌}
use Rattle.gms_eval.specs.Bindings.{controlled}
use Rattle.gms_eval.specs.Faults.{◌and_then◌}
use Rattle.gms_eval.proofs.Answering.{handed_on, stops-same}
use Rattle.gms_eval.proofs.Inner.{inner-controlled}
use Rattle.gms_rows.specs.Rows.{row_under, rows_of_definition}
use Rattle.gms_rows.specs.InnerContracts.{definition_in, form_row_in}
use Rattle.gms_rows.specs.ElementRows.{AreInOrder}
use Rattle.gms_rows.proofs.RowSequences.{row_of, rows_of-given, rows_of-stops, rows_from, rows_from-more, rows_from-stops, rows_from-end, lent-condition, order-of_one}
use Rattle.gms_rows.proofs.rows.push_rows.Goals as goal

pub returns-in_err-elements-clause-rows : goal.returns-in_err-elements-clause-rows
returns-in_err-elements-clause-rows g c =
    handed_on g.F.ExactField.value _ c.from_residual-in_err-elements.result c.in_err-elements.field-0.0 (rows_of_definition g.F.ExactField.value g.F.ExactField.limit c.args.store.now (definition_in c.args.definition.now) and_then λ those. Ok (map (form_row_in g.F.ExactField.value) c.args.rows.now.items ++ those)) c.from_residual-in_err-elements.ensures.1 (rows_of-stops g.F.ExactField.value g.F.ExactField.limit c.args.store.now (definition_in c.args.definition.now) _ _ _ c.new-inner.ensures (c.deref-2.ensures.value ∙ c.in_ok-sets.ensures) (lent-condition c.args.definition.now.condition) (map (form_row_in g.F.ExactField.value) c.args.rows.now.items) c.in_err-elements.field-0.0 c.in_err-elements.ensures)

pub loop-element-init : goal.loop-element-init
loop-element-init g c =
    rows_of-given g.F.ExactField.value g.F.ExactField.limit c.args.store.now (definition_in c.args.definition.now) _ _ _ c.new-inner.ensures (c.deref-2.ensures.value ∙ c.in_ok-sets.ensures) (lent-condition c.args.definition.now.condition) (map (form_row_in g.F.ExactField.value) c.args.rows.now.items) c.in_ok-elements.elements.items c.in_ok-elements.ensures
    ∙ ap (rows_from (row_of g.F.ExactField.value g.F.ExactField.limit c.args.store.now (definition_in c.args.definition.now)) (map (form_row_in g.F.ExactField.value) c.args.rows.now.items)) (sym c.deref-element-items.ensures.value)

pub returns-in_err-row-clause-rows : goal.returns-in_err-row-clause-rows
returns-in_err-row-clause-rows g c =
    handed_on g.F.ExactField.value _ c.from_residual-in_err-row.result c.in_err-row.field-0.0 (rows_of_definition g.F.ExactField.value g.F.ExactField.limit c.args.store.now (definition_in c.args.definition.now) and_then λ those. Ok (map (form_row_in g.F.ExactField.value) c.args.rows.now.items ++ those)) c.from_residual-in_err-row.ensures.1 (rows_from-stops (row_of g.F.ExactField.value g.F.ExactField.limit c.args.store.now (definition_in c.args.definition.now)) g.F.ExactField.value c.in_err-row.field-0.0 (rows_of_definition g.F.ExactField.value g.F.ExactField.limit c.args.store.now (definition_in c.args.definition.now) and_then λ those. Ok (map (form_row_in g.F.ExactField.value) c.args.rows.now.items ++ those)) (map (form_row_in g.F.ExactField.value) c.loop-element.rows.items) c.deref-element-items.result.now c.loop-element.element-index c.element-item.result c.loop-element.invariant c.loop-element-test.true c.element-item.is (stops-same g.F.ExactField.value c.in_err-row.field-0.0 _ _ (ap (row_under g.F.ExactField.value g.F.ExactField.limit c.args.store.now (definition_in c.args.definition.now)) (sym (inner-controlled [] c.loop-element.inner c.control.new.self c.deref-in-loop-element.result.now c.element-item.result c.as_slice.result.now 0 refl refl c.as_slice.ensures.value c.in_ok-control.ensures ∙ ap (λ sets. controlled [] sets c.element-item.result) (c.deref-in-loop-element.ensures.value ∙ c.in_ok-sets.ensures)))) c.in_err-row.ensures))

pub loop-element-preserved : goal.loop-element-preserved
loop-element-preserved g c =
    c.loop-element.invariant ∙ rows_from-more (row_of g.F.ExactField.value g.F.ExactField.limit c.args.store.now (definition_in c.args.definition.now)) (map (form_row_in g.F.ExactField.value) c.loop-element.rows.items) _ c.deref-element-items.result.now c.loop-element.element-index c.element-item.result (option_map (form_row_in g.F.ExactField.value) c.in_ok-row.row) c.loop-element-test.true c.element-item.is (ap (row_under g.F.ExactField.value g.F.ExactField.limit c.args.store.now (definition_in c.args.definition.now)) (sym (inner-controlled [] c.loop-element.inner c.control.new.self c.deref-in-loop-element.result.now c.element-item.result c.as_slice.result.now 0 refl refl c.as_slice.ensures.value c.in_ok-control.ensures ∙ ap (λ sets. controlled [] sets c.element-item.result) (c.deref-in-loop-element.ensures.value ∙ c.in_ok-sets.ensures))) ∙ c.in_ok-row.ensures) c.in_ok-push_row.ensures

pub returns-clause-rows : goal.returns-clause-rows
returns-clause-rows g c =
    c.loop-element.invariant ∙ rows_from-end (row_of g.F.ExactField.value g.F.ExactField.limit c.args.store.now (definition_in c.args.definition.now)) (map (form_row_in g.F.ExactField.value) c.loop-element.rows.items) c.deref-element-items.result.now c.loop-element.element-index c.loop-element-test.false

pub returns-clause-ordered : goal.returns-clause-ordered
returns-clause-ordered g c =
    order-of_one c.args.store.now (definition_in c.args.definition.now) (subst (AreInOrder c.args.store.now) (c.deref.ensures.value ∙ c.in_ok-sets.ensures) c.look_at.ensures)
