-- A whole number is reduced over 1.
use Rattle.std.proofs.Common.{arith}
use Rattle.gq_field.proofs.Fractions.{value_from_shows, shown_reduced}
use Rattle.gq_field.proofs.Signs.{whole_shows}
use Rattle.gq_field.proofs.fraction.Fraction.whole.Goals as goal

pub invariant_of-result : goal.invariant_of-result
invariant_of-result c =
    record {
      reduced = shown_reduced (whole_shows c.args.negative c.args.magnitude);
      magnitude_small = omega arith;
      denominator_small = omega arith;
    }

pub returns : goal.returns
returns c = value_from_shows _ _ (whole_shows c.args.negative c.args.magnitude)
