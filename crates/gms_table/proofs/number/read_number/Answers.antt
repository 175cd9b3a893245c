use Rattle.std.proofs.Common.{Err, sym, subst}
use Rattle.gq_text.specs.Literal.{ReadsLiteral}
use Rattle.gms_table.proofs.NumberLemmas.{value_negative, value_plain, past_limit, no_number}
use Rattle.gms_table.proofs.number.read_number.Goals as goal

pub returns-in-Ok : goal.returns-in-Ok
returns-in-Ok g c = value_negative g.F.ExactField.limit c.args.text.now c.unsigned.result.now (g.F.ExactField.value c.in-Ok.magnitude) (g.F.ExactField.value c.neg.result) c.unsigned.ensures (sym c.if-is_negative.ensures) c.in-Ok.ensures.0 c.in-Ok.ensures.1 c.neg.ensures

pub returns-in-Ok-2 : goal.returns-in-Ok-2
returns-in-Ok-2 g c = value_plain g.F.ExactField.limit c.args.text.now c.unsigned.result.now (g.F.ExactField.value c.in-Ok.magnitude) c.unsigned.ensures (sym c.if-is_negative.ensures) c.in-Ok.ensures.0 c.in-Ok.ensures.1

pub returns-in-Err-Limit : goal.returns-in-Err-Limit
returns-in-Err-Limit g c = let h = subst (λ f. ReadsLiteral g.F.ExactField.limit g.F.ExactField.value c.unsigned.result.now (Err f)) c.in-Err-Limit.field-0-is c.in-Err-Limit.ensures in past_limit g.F.ExactField.limit c.args.text.now c.unsigned.result.now c.unsigned.ensures h.0 h.1 h.2

pub returns-in-Err-Shape : goal.returns-in-Err-Shape
returns-in-Err-Shape g c = no_number g.F.ExactField.limit c.args.text.now c.unsigned.result.now c.unsigned.ensures (subst (λ f. ReadsLiteral g.F.ExactField.limit g.F.ExactField.value c.unsigned.result.now (Err f)) c.in-Err-Shape.field-0-is c.in-Err-Shape.ensures)
