-- A fraction turned over is reduced, and is the reciprocal.
use Rattle.std.proofs.Common.{arith}
use Rattle.gq_field.proofs.Fractions.{shown_reduced, value_from_shows}
use Rattle.gq_field.proofs.Products.{reciprocal_shows}
use Rattle.gq_field.proofs.product.reciprocal.Goals as goal

pub invariant_of-result : goal.invariant_of-result
invariant_of-result c =
    record {
      reduced = shown_reduced (reciprocal_shows c.args.x (omega arith));
      magnitude_small = omega arith;
      denominator_small = omega arith;
    }

pub returns : goal.returns
returns c = value_from_shows _ _ (reciprocal_shows c.args.x (omega arith))
