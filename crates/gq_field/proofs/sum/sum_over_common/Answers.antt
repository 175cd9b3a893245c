-- The sum is what its parts show, and it gives up at the first number that is too large.
use Rattle.std.proofs.Common.{◌*◌, ◌∙◌, ℤ, pos, ◌+ℤ◌, nat_abs, int_lt, arith, refl, div-le_self}
use Rattle.gq_field.specs.Values.{signed}
use Rattle.gq_field.proofs.Fractions.{shown_reduced, value_from_shows, answers_err, fraction_shows, fits_yes}
use Rattle.gq_field.proofs.Signs.{signed-abs}
use Rattle.gq_field.proofs.Sums.{sum_by_parts, first_large, second_large, top_large, low_large, none_large}
use Rattle.gq_field.proofs.sum.sum_over_common.Goals as goal

pub returns-in_err-first-clause-value : goal.returns-in_err-first-clause-value
returns-in_err-first-clause-value c =
    let x = c.args.x in
    let y = c.args.y in
    let z : ℤ = signed x.negative (x.magnitude * c.over.result) +ℤ signed y.negative (y.magnitude * c.over-left.result) in
    let is = sum_by_parts c.args.limit x y _ _ _ _ _ (int_lt z (pos 0)) (nat_abs z) _ _ _ _ c.gcd-common.ensures.value c.over-left.ensures c.over.ensures refl refl (signed-abs z) refl refl refl refl in
    answers_err _ _ _ c.from_residual.result c.from_residual.ensures.0 (is.tests ∙ first_large c.args.limit _ _ _ _ c.in_err-first.ensures)

pub returns-in_err-second-clause-value : goal.returns-in_err-second-clause-value
returns-in_err-second-clause-value c =
    let x = c.args.x in
    let y = c.args.y in
    let z : ℤ = signed x.negative (x.magnitude * c.over.result) +ℤ signed y.negative (y.magnitude * c.over-left.result) in
    let is = sum_by_parts c.args.limit x y _ _ _ _ _ (int_lt z (pos 0)) (nat_abs z) _ _ _ _ c.gcd-common.ensures.value c.over-left.ensures c.over.ensures refl refl (signed-abs z) refl refl refl refl in
    answers_err _ _ _ c.from_residual-in_err-second.result c.from_residual-in_err-second.ensures.0 (is.tests ∙ second_large c.args.limit _ _ _ _ c.in_err-second.ensures)

pub returns-then-top-limit-clause-value : goal.returns-then-top-limit-clause-value
returns-then-top-limit-clause-value c =
    let is = sum_by_parts c.args.limit c.args.x c.args.y _ _ _ _ _ _ _ _ _ _ _ c.gcd-common.ensures.value c.over-left.ensures c.over.ensures c.in_ok-first.ensures.1 c.in_ok-second.ensures.1 c.signed_sum-negative.ensures refl refl refl refl in
    is.tests ∙ top_large c.args.limit _ _ _ _ (omega arith)

pub returns-in_err-denominator-clause-value : goal.returns-in_err-denominator-clause-value
returns-in_err-denominator-clause-value c =
    let is = sum_by_parts c.args.limit c.args.x c.args.y _ _ _ _ _ _ _ _ _ _ _ c.gcd-common.ensures.value c.over-left.ensures c.over.ensures c.in_ok-first.ensures.1 c.in_ok-second.ensures.1 c.signed_sum-negative.ensures c.gcd-shared.ensures.value c.over-2.ensures refl refl in
    answers_err _ _ _ c.from_residual-in_err-denominator.result c.from_residual-in_err-denominator.ensures.0 (is.tests ∙ low_large c.args.limit _ _ _ _ c.in_err-denominator.ensures)

pub invariant_of-result : goal.invariant_of-result
invariant_of-result c =
    let is = sum_by_parts c.args.limit c.args.x c.args.y _ _ _ _ _ _ _ _ _ _ _ c.gcd-common.ensures.value c.over-left.ensures c.over.ensures c.in_ok-first.ensures.1 c.in_ok-second.ensures.1 c.signed_sum-negative.ensures c.gcd-shared.ensures.value c.over-2.ensures c.over-3.ensures c.in_ok-denominator.ensures.1 in
    let small = div-le_self c.signed_sum-negative.result.1 c.gcd-shared.result in
    let high = c.over-3.ensures in
    record { reduced = shown_reduced is.shows; magnitude_small = omega arith; denominator_small = omega arith }

pub returns-clause-value : goal.returns-clause-value
returns-clause-value c =
    let is = sum_by_parts c.args.limit c.args.x c.args.y _ _ _ _ _ _ _ _ _ _ _ c.gcd-common.ensures.value c.over-left.ensures c.over.ensures c.in_ok-first.ensures.1 c.in_ok-second.ensures.1 c.signed_sum-negative.ensures c.gcd-shared.ensures.value c.over-2.ensures c.over-3.ensures c.in_ok-denominator.ensures.1 in
    (is.tests ∙ none_large c.args.limit _ _ _ _ (omega arith) (omega arith) (omega arith) (omega arith), value_from_shows _ _ is.shows)

pub returns-clause-within : goal.returns-clause-within
returns-clause-within c =
    let small = div-le_self c.signed_sum-negative.result.1 c.gcd-shared.result in
    let high = c.over-3.ensures in
    fits_yes c.args.limit (fraction_shows _) (omega arith) (omega arith)
