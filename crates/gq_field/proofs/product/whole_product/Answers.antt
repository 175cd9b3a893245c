-- The product of the numerators.
use Rattle.std.proofs.Common.{arith, refl}
use Rattle.gq_field.proofs.Fractions.{fits_yes, too_high, shown_reduced, value_from_shows, answers_err}
use Rattle.gq_field.proofs.Products.{product_of_wholes}
use Rattle.gq_field.proofs.product.whole_product.Goals as goal

pub returns-in_err-magnitude : goal.returns-in_err-magnitude
returns-in_err-magnitude c =
    let shown = product_of_wholes c.args.x c.args.y _ c.requires.first c.requires.second refl in
    answers_err _ _ _ c.from_residual.result c.from_residual.ensures.0 (too_high c.args.limit shown c.in_err-magnitude.ensures)

pub invariant_of-result : goal.invariant_of-result
invariant_of-result c =
    let shown = product_of_wholes c.args.x c.args.y _ c.requires.first c.requires.second c.in_ok-magnitude.ensures.1 in
    record { reduced = shown_reduced shown; magnitude_small = omega arith; denominator_small = omega arith }

pub returns : goal.returns
returns c =
    let shown = product_of_wholes c.args.x c.args.y _ c.requires.first c.requires.second c.in_ok-magnitude.ensures.1 in
    (fits_yes c.args.limit shown (omega arith) (omega arith), value_from_shows _ _ shown)
