-- A value is 0 where its magnitude is.
use Rattle.gq_field.proofs.Signs.{zero_test}
use Rattle.gq_field.proofs.field.ExactField.is_zero.Goals as goal

pub returns : goal.returns
returns g c = zero_test c.widened.result _ c.widened.ensures
