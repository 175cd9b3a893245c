use Rattle.std.proofs.Common.{false, length, ◌==◌, ap, sym, ◌∙◌}
use Rattle.gms_eval.proofs.Answering.{gives-same}
use Rattle.gms_rows.specs.Forms.{form_in, scaled_form, multiple}
use Rattle.gms_rows.proofs.Faulting.{times-number, number-times}
use Rattle.gms_rows.proofs.steps.multiply.Goals as goal

pub returns-then-is_empty : goal.returns-then-is_empty
returns-then-is_empty g c =
    let v = g.F.ExactField.value in
    gives-same v (form_in v) c.scale.result _ _ (times-number v g.F.ExactField.limit c.args.at c.args.b.now c.args.left.now c.args.right.now c.keys.ensures.form (ap (λ keys. length keys == 0) (sym c.keys.ensures.keys) ∙ sym c.is_empty.ensures ∙ c.if-is_empty.true) ∙ ap (λ x. scaled_form g.F.ExactField.limit c.args.at c.args.b.now false (form_in v c.args.left.now) (v x)) (sym c.offset.ensures)) c.scale.ensures

pub returns-else-is_empty : goal.returns-else-is_empty
returns-else-is_empty g c =
    let v = g.F.ExactField.value in
    gives-same v (form_in v) c.multiple.result _ _ (number-times v g.F.ExactField.limit c.args.at c.args.b.now c.args.left.now c.args.right.now c.keys.ensures.form (ap (λ keys. length keys == 0) (sym c.keys.ensures.keys) ∙ sym c.is_empty.ensures ∙ c.if-is_empty.false) ∙ ap (λ x. multiple g.F.ExactField.limit c.args.at c.args.b.now (v x) (form_in v c.args.right.now)) (sym c.offset-else-is_empty.ensures)) c.multiple.ensures
