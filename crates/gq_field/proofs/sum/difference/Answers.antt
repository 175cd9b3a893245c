-- The sum with the negated.
use Rattle.gq_number.specs.Number.{◌-ℚ◌}
use Rattle.gq_field.proofs.sum.difference.Goals as goal

pub returns-clause-value : goal.returns-clause-value
unfolding ◌-ℚ◌
returns-clause-value c = rw (← c.negated.ensures) c.sum.ensures.value
