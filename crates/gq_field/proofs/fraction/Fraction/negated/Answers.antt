-- The negated fraction shows the negated number.
use Rattle.gq_field.proofs.Fractions.{value_from_shows}
use Rattle.gq_field.proofs.Signs.{negated_shows}
use Rattle.gq_field.proofs.fraction.Fraction.negated.Goals as goal

pub returns : goal.returns
returns c = value_from_shows _ _ (negated_shows c.args.self)
