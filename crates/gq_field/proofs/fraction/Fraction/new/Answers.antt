-- A signed numerator by its sign and its magnitude.
use Rattle.std.proofs.Common.{◌∙◌, ap, sym, refl, arith, int_lt, pos, nat_abs}
use Rattle.std.specs.Int.{w128}
use Rattle.std.proofs.lemmas.Int.{to_z-of_z}
use Rattle.gq_field.specs.Values.{fraction_value}
use Rattle.gq_field.proofs.Casts.{reduced_magnitude}
use Rattle.gq_field.proofs.Signs.{signed-parts}
use Rattle.gq_field.proofs.fraction.Fraction.new.Goals as goal

pub invariant_of-result : goal.invariant_of-result
invariant_of-result c =
    let magnitude = c.unsigned_abs.ensures.value ∙ ap nat_abs (to_z-of_z w128 c.args.numerator c.ranges.numerator) in
    record {
      reduced = reduced_magnitude c.args.numerator c.unsigned_abs.result c.args.denominator magnitude c.requires.reduced;
      magnitude_small = omega arith;
      denominator_small = omega arith;
    }

pub returns : goal.returns
unfolding fraction_value
returns c =
    let back = to_z-of_z w128 c.args.numerator c.ranges.numerator in
    record {
      numerator = sym (signed-parts c.args.numerator _ _ (ap (λ z. int_lt z (pos 0)) back) (c.unsigned_abs.ensures.value ∙ ap nat_abs back));
      denominator = refl;
    }
