use Rattle.std.proofs.Common.{pos, Ok, ap, ◌∙◌}
use Rattle.gq_number.specs.Number.{whole}
use Rattle.gms_eval.specs.Faults.{◌and_then◌}
use Rattle.gms_eval.proofs.Answering.{handed_on, stops-same, stops-then}
use Rattle.gms_rows.specs.Affine.{element_form}
use Rattle.gms_rows.specs.Forms.{form_in}
use Rattle.gms_rows.proofs.Parts.{variable-is, tuple_answer, column-shows, constant-shows}
use Rattle.gms_rows.proofs.linear.variable.Goals as goal

pub returns-in_err-tuple : goal.returns-in_err-tuple
returns-in_err-tuple g c =
    let v = g.F.ExactField.value in
    let given = tuple_answer v g.F.ExactField.limit c.args.store.now c.args.b.now c.args.name c.args.indices.now in
    handed_on v (form_in v) c.from_residual.result c.in_err-tuple.field-0.0 _ c.from_residual.ensures.1 (stops-same v c.in_err-tuple.field-0.0 _ _ (variable-is v g.F.ExactField.limit c.args.store.now c.args.b.now c.args.name c.args.indices.now) (stops-then v c.in_err-tuple.field-0.0 given (λ t. Ok (element_form c.args.name t)) c.in_err-tuple.ensures))

pub returns-in_ok-column-in-Some : goal.returns-in_ok-column-in-Some
returns-in_ok-column-in-Some g c =
    let v = g.F.ExactField.value in
    let made = c.in_ok-column-in-Some.ensures in
    variable-is v g.F.ExactField.limit c.args.store.now c.args.b.now c.args.name c.args.indices.now
    ∙ ap (λ a. a and_then λ t. Ok (element_form c.args.name t)) (c.in_ok-tuple.ensures ∙ ap Ok c.in-Some.is)
    ∙ ap Ok (column-shows v c.in_ok-column-in-Some.field-0 (record { symbol = c.args.name; tuple = c.in-Some.tuple }) made.constant made.keys made.number)

pub returns-in-None : goal.returns-in-None
returns-in-None g c =
    let v = g.F.ExactField.value in
    variable-is v g.F.ExactField.limit c.args.store.now c.args.b.now c.args.name c.args.indices.now
    ∙ ap (λ a. a and_then λ t. Ok (element_form c.args.name t)) (c.in_ok-tuple.ensures ∙ ap Ok c.in-None.is)
    ∙ ap Ok (constant-shows v c.constant.result (whole (pos 0)) (ap v c.constant.ensures.constant ∙ c.zero.ensures) c.constant.ensures.keys)
