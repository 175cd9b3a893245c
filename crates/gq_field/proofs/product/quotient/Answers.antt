-- The quotient is the product with the reciprocal.
use Rattle.gq_number.specs.Number.{◌/ℚ◌}
use Rattle.gq_field.proofs.product.quotient.Goals as goal

pub returns : goal.returns
unfolding ◌/ℚ◌
returns c = rw (← c.reciprocal.ensures) c.product.ensures
