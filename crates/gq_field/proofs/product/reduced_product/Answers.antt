-- The product is what its parts show.
use Rattle.std.proofs.Common.{arith, refl}
use Rattle.gq_field.proofs.Fractions.{fits_yes, too_high, too_low, shown_reduced, value_from_shows, answers_err}
use Rattle.gq_field.proofs.Products.{product_by_parts}
use Rattle.gq_field.proofs.product.reduced_product.Goals as goal

pub returns-in_err-magnitude : goal.returns-in_err-magnitude
returns-in_err-magnitude c =
    let shown = product_by_parts c.args.x c.args.y _ _ _ _ _ _ _ _ c.gcd-left.ensures.value c.gcd-right.ensures.value c.over.ensures c.over-2.ensures refl refl refl refl in
    answers_err _ _ _ c.from_residual.result c.from_residual.ensures.0 (too_high c.args.limit shown c.in_err-magnitude.ensures)

pub returns-in_err-denominator : goal.returns-in_err-denominator
returns-in_err-denominator c =
    let shown = product_by_parts c.args.x c.args.y _ _ _ _ _ _ _ _ c.gcd-left.ensures.value c.gcd-right.ensures.value c.over.ensures c.over-2.ensures c.over-3.ensures c.over-4.ensures refl refl in
    answers_err _ _ _ c.from_residual-in_err-denominator.result c.from_residual-in_err-denominator.ensures.0 (too_low c.args.limit shown c.in_err-denominator.ensures)

pub invariant_of-result : goal.invariant_of-result
invariant_of-result c =
    let shown = product_by_parts c.args.x c.args.y _ _ _ _ _ _ _ _ c.gcd-left.ensures.value c.gcd-right.ensures.value c.over.ensures c.over-2.ensures c.over-3.ensures c.over-4.ensures c.in_ok-magnitude.ensures.1 c.in_ok-denominator.ensures.1 in
    record { reduced = shown_reduced shown; magnitude_small = omega arith; denominator_small = omega arith }

pub returns : goal.returns
returns c =
    let shown = product_by_parts c.args.x c.args.y _ _ _ _ _ _ _ _ c.gcd-left.ensures.value c.gcd-right.ensures.value c.over.ensures c.over-2.ensures c.over-3.ensures c.over-4.ensures c.in_ok-magnitude.ensures.1 c.in_ok-denominator.ensures.1 in
    (fits_yes c.args.limit shown (omega arith) (omega arith), value_from_shows _ _ shown)
