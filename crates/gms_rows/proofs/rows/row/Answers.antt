use Rattle.std.proofs.Common.{option_map, Ok, refl, ap, ◌∙◌}
use Rattle.gms_eval.specs.Faults.{◌and_then◌}
use Rattle.gms_eval.proofs.Answering.{handed_on, stops-same, stops-then}
use Rattle.gms_rows.specs.Forms.{form_in}
use Rattle.gms_rows.specs.Rows.{row_under}
use Rattle.gms_rows.specs.InnerContracts.{definition_in, form_row_in}
use Rattle.gms_rows.proofs.Parts.{tuple_answer}
use Rattle.gms_rows.proofs.OneRow.{row_at, row-is, row-left_stops, row-right_stops, row-step_stops, row-made}
use Rattle.gms_rows.proofs.rows.row.Goals as goal

pub returns-in_err-tuple : goal.returns-in_err-tuple
returns-in_err-tuple g c =
    handed_on g.F.ExactField.value (option_map (form_row_in g.F.ExactField.value)) c.from_residual.result c.in_err-tuple.field-0.0 (row_under g.F.ExactField.value g.F.ExactField.limit c.args.store.now (definition_in c.args.definition.now) c.args.b.now) c.from_residual.ensures.1 (stops-same g.F.ExactField.value c.in_err-tuple.field-0.0 (row_under g.F.ExactField.value g.F.ExactField.limit c.args.store.now (definition_in c.args.definition.now) c.args.b.now) _ (row-is g.F.ExactField.value g.F.ExactField.limit c.args.store.now (definition_in c.args.definition.now) c.args.b.now c.args.definition.now.indices.now refl) (stops-then g.F.ExactField.value c.in_err-tuple.field-0.0 (tuple_answer g.F.ExactField.value g.F.ExactField.limit c.args.store.now c.args.b.now (definition_in c.args.definition.now).equation c.args.definition.now.indices.now) (row_at g.F.ExactField.value g.F.ExactField.limit c.args.store.now (definition_in c.args.definition.now) c.args.b.now) c.in_err-tuple.ensures))

pub returns-in_default : goal.returns-in_default
returns-in_default g c =
    row-is g.F.ExactField.value g.F.ExactField.limit c.args.store.now (definition_in c.args.definition.now) c.args.b.now c.args.definition.now.indices.now refl ∙ ap (λ a. a and_then row_at g.F.ExactField.value g.F.ExactField.limit c.args.store.now (definition_in c.args.definition.now) c.args.b.now) (c.in_ok-tuple.ensures ∙ ap Ok c.in_default.is)

pub returns-in_err-left : goal.returns-in_err-left
returns-in_err-left g c =
    handed_on g.F.ExactField.value (option_map (form_row_in g.F.ExactField.value)) c.from_residual-in_err-left.result c.in_err-left.field-0.0 (row_under g.F.ExactField.value g.F.ExactField.limit c.args.store.now (definition_in c.args.definition.now) c.args.b.now) c.from_residual-in_err-left.ensures.1 (row-left_stops g.F.ExactField.value g.F.ExactField.limit c.args.store.now (definition_in c.args.definition.now) c.args.b.now c.args.definition.now.indices.now refl c.in-Some.tuple (c.in_ok-tuple.ensures ∙ ap Ok c.in-Some.is) c.in_err-left.field-0.0 c.in_err-left.ensures)

pub returns-in_err-right : goal.returns-in_err-right
returns-in_err-right g c =
    handed_on g.F.ExactField.value (option_map (form_row_in g.F.ExactField.value)) c.from_residual-in_err-right.result c.in_err-right.field-0.0 (row_under g.F.ExactField.value g.F.ExactField.limit c.args.store.now (definition_in c.args.definition.now) c.args.b.now) c.from_residual-in_err-right.ensures.1 (row-right_stops g.F.ExactField.value g.F.ExactField.limit c.args.store.now (definition_in c.args.definition.now) c.args.b.now c.args.definition.now.indices.now refl c.in-Some.tuple (c.in_ok-tuple.ensures ∙ ap Ok c.in-Some.is) (form_in g.F.ExactField.value c.in_ok-left.left) c.in_ok-left.ensures c.in_err-right.field-0.0 c.in_err-right.ensures)

pub returns-in_err-form : goal.returns-in_err-form
returns-in_err-form g c =
    handed_on g.F.ExactField.value (option_map (form_row_in g.F.ExactField.value)) c.from_residual-in_err-form.result c.in_err-form.field-0.0 (row_under g.F.ExactField.value g.F.ExactField.limit c.args.store.now (definition_in c.args.definition.now) c.args.b.now) c.from_residual-in_err-form.ensures.1 (row-step_stops g.F.ExactField.value g.F.ExactField.limit c.args.store.now (definition_in c.args.definition.now) c.args.b.now c.args.definition.now.indices.now refl c.in-Some.tuple (c.in_ok-tuple.ensures ∙ ap Ok c.in-Some.is) (form_in g.F.ExactField.value c.in_ok-left.left) c.in_ok-left.ensures (form_in g.F.ExactField.value c.in_ok-right.right) c.in_ok-right.ensures c.in_err-form.field-0.0 c.in_err-form.ensures)

pub returns : goal.returns
returns g c =
    row-made g.F.ExactField.value g.F.ExactField.limit c.args.store.now (definition_in c.args.definition.now) c.args.b.now c.args.definition.now.indices.now refl c.in-Some.tuple (c.in_ok-tuple.ensures ∙ ap Ok c.in-Some.is) (form_in g.F.ExactField.value c.in_ok-left.left) c.in_ok-left.ensures (form_in g.F.ExactField.value c.in_ok-right.right) c.in_ok-right.ensures (form_in g.F.ExactField.value c.in_ok-form.form) c.sense_of.result c.in_ok-form.ensures c.sense_of.ensures
