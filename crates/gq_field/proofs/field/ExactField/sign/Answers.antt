-- The sign of the magnitude.
use Rattle.gq_field.proofs.Signs.{sign_at_zero, sign_if_negative, sign_if_positive}
use Rattle.gq_field.proofs.field.ExactField.sign.Goals as goal

pub returns-then-fraction-eq0 : goal.returns-then-fraction-eq0
returns-then-fraction-eq0 g c = sign_at_zero c.widened-fraction.result _ c.widened-fraction.ensures c.if-fraction-eq0.true

pub returns-then-fraction : goal.returns-then-fraction
returns-then-fraction g c = sign_if_negative c.widened-fraction.result _ c.widened-fraction.ensures c.if-fraction-eq0.false c.if-fraction.true

pub returns-else-fraction : goal.returns-else-fraction
returns-else-fraction g c = sign_if_positive c.widened-fraction.result _ c.widened-fraction.ensures c.if-fraction-eq0.false c.if-fraction.false
