-- The parts of the fraction are those of the number.
use Rattle.std.proofs.Common.{◌∙◌, ap}
use Rattle.std.specs.Int.{w128}
use Rattle.std.proofs.lemmas.Int.{to_z-of_z}
use Rattle.gq_number.specs.Number.{Number}
use Rattle.gq_field.proofs.Signs.{denominator_of}
use Rattle.gq_field.proofs.field.ExactField.parts.Goals as goal

pub returns-clause-numerator : goal.returns-clause-numerator
returns-clause-numerator g c =
    to_z-of_z w128 c.numerator.result (record { sfits = c.numerator.type_inv }) ∙ c.numerator.ensures ∙ ap (λ (v : Number). v.numerator) c.widened-fraction.ensures

pub returns-clause-denominator : goal.returns-clause-denominator
returns-clause-denominator g c = denominator_of c.widened-fraction.result _ c.widened-fraction.ensures
