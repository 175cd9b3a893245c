-- A pair divided by its greatest common divisor.
use Rattle.std.proofs.Common.{arith}
use Rattle.gq_field.proofs.Fractions.{fits_yes, too_high, too_low, shown_reduced, value_from_shows}
use Rattle.gq_field.proofs.Products.{reduced_by_parts}
use Rattle.gq_field.proofs.product.reduced.Goals as goal
use Rattle.gq_field.proofs.product.reduced.Goals.{else-magnitude-limit-via-then-magnitude-limit+else-denominator-limit, else-magnitude-limit-via-else-magnitude-limit}

pub invariant_of-result : goal.invariant_of-result
invariant_of-result c =
    let shown = reduced_by_parts c.args.negative c.args.magnitude c.args.denominator _ _ _ c.gcd-common.ensures.value c.requires.denominator c.over-magnitude.ensures c.over-denominator.ensures in
    record { reduced = shown_reduced shown; magnitude_small = omega arith; denominator_small = omega arith }

pub returns-then-denominator-limit : goal.returns-then-denominator-limit
returns-then-denominator-limit c =
    let shown = reduced_by_parts c.args.negative c.args.magnitude c.args.denominator _ _ _ c.gcd-common.ensures.value c.requires.denominator c.over-magnitude.ensures c.over-denominator.ensures in
    (fits_yes c.args.limit shown (omega arith) (omega arith), value_from_shows _ _ shown)

pub returns-else-magnitude-limit : goal.returns-else-magnitude-limit
returns-else-magnitude-limit c =
    let shown = reduced_by_parts c.args.negative c.args.magnitude c.args.denominator _ _ _ c.gcd-common.ensures.value c.requires.denominator c.over-magnitude.ensures c.over-denominator.ensures in
    elim c.else-magnitude-limit.branch [
      | else-magnitude-limit-via-then-magnitude-limit+else-denominator-limit w ↦ too_low c.args.limit shown (omega arith)
      | else-magnitude-limit-via-else-magnitude-limit w ↦ too_high c.args.limit shown (omega arith)
    ]
