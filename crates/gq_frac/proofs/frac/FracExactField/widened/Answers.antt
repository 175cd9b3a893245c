-- The fraction with the same parts.
use Rattle.std.proofs.Common.{◌∙◌}
use Rattle.gq_number.proofs.Means.{number_from_parts}
use Rattle.gq_field.specs.Parts.{number_of_parts}
use Rattle.gq_field.proofs.Casts.{cast_same}
use Rattle.gq_frac.specs.Frac.{frac_value}
use Rattle.gq_frac.proofs.frac.FracExactField.widened.Goals as goal

pub returns : goal.returns
unfolding frac_value number_of_parts
returns c =
    number_from_parts _ _ (c.new.ensures.numerator ∙ cast_same c.args.self.numerator c.args.self.parts.numerator_small) c.new.ensures.denominator
