-- The fraction with the same parts.
use Rattle.std.proofs.Common.{◌∙◌, arith, w8}
use Rattle.gq_number.proofs.Means.{number_from_parts}
use Rattle.gq_field.specs.Parts.{number_of_parts}
use Rattle.gq_field.specs.Values.{tiny_value}
use Rattle.gq_field.proofs.Casts.{cast_up}
use Rattle.gq_field.proofs.tiny.TinyExactField.widened.Goals as goal

pub returns : goal.returns
unfolding tiny_value number_of_parts
returns c =
    number_from_parts _ _ (c.new.ensures.numerator ∙ cast_up w8 c.args.self.numerator c.args.self.parts.numerator_small (omega arith)) c.new.ensures.denominator
