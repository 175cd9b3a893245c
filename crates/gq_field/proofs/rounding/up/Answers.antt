-- The floor of the negated, negated.
use Rattle.gq_field.proofs.Roundings.{up_is}
use Rattle.gq_field.proofs.rounding.up.Goals as goal

pub returns : goal.returns
returns c = up_is _ _ _ _ c.negated.ensures c.down.ensures c.negated-2.ensures
