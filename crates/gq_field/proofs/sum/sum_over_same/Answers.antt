-- The sum of the numerators over the one denominator.
use Rattle.std.proofs.Common.{◌∙◌, ℤ, pos, ◌+ℤ◌, nat_abs, int_lt, arith, refl, div-le_self}
use Rattle.gq_field.specs.Values.{signed}
use Rattle.gq_field.proofs.Fractions.{shown_reduced, value_from_shows, fraction_shows, fits_yes}
use Rattle.gq_field.proofs.Signs.{signed-abs}
use Rattle.gq_field.proofs.Sums.{sum_of_same, first_large, second_large, top_large, low_large, none_large}
use Rattle.gq_field.proofs.sum.sum_over_same.Goals as goal
use Rattle.gq_field.proofs.sum.sum_over_same.Goals.{then-x-limit-via-then-x-limit, then-x-limit-via-else-x-limit+then-y-limit, then-top-limit-via-then-top-limit, then-top-limit-via-else-top-limit+then-denominator-limit}

pub returns-then-x-limit-clause-value : goal.returns-then-x-limit-clause-value
returns-then-x-limit-clause-value c =
    let x = c.args.x in
    let y = c.args.y in
    let z : ℤ = signed x.negative x.magnitude +ℤ signed y.negative y.magnitude in
    let is = sum_of_same c.args.limit x y (int_lt z (pos 0)) (nat_abs z) _ _ _ c.requires.same (signed-abs z) refl refl refl in
    elim c.then-x-limit.branch [
      | then-x-limit-via-then-x-limit w ↦ is.tests ∙ first_large c.args.limit _ _ _ _ (omega arith)
      | then-x-limit-via-else-x-limit+then-y-limit w ↦ is.tests ∙ second_large c.args.limit _ _ _ _ (omega arith)
    ]

pub returns-then-top-limit-clause-value : goal.returns-then-top-limit-clause-value
returns-then-top-limit-clause-value c =
    let is = sum_of_same c.args.limit c.args.x c.args.y _ _ _ _ _ c.requires.same c.signed_sum-negative.ensures c.gcd-shared.ensures.value refl c.over-denominator.ensures in
    elim c.then-top-limit.branch [
      | then-top-limit-via-then-top-limit w ↦ is.tests ∙ top_large c.args.limit _ _ _ _ (omega arith)
      | then-top-limit-via-else-top-limit+then-denominator-limit w ↦ is.tests ∙ low_large c.args.limit _ _ _ _ (omega arith)
    ]

pub invariant_of-result : goal.invariant_of-result
invariant_of-result c =
    let is = sum_of_same c.args.limit c.args.x c.args.y _ _ _ _ _ c.requires.same c.signed_sum-negative.ensures c.gcd-shared.ensures.value c.over.ensures c.over-denominator.ensures in
    let small = div-le_self c.signed_sum-negative.result.1 c.gcd-shared.result in
    let high = c.over.ensures in
    record { reduced = shown_reduced is.shows; magnitude_small = omega arith; denominator_small = omega arith }

pub returns-clause-value : goal.returns-clause-value
returns-clause-value c =
    let is = sum_of_same c.args.limit c.args.x c.args.y _ _ _ _ _ c.requires.same c.signed_sum-negative.ensures c.gcd-shared.ensures.value c.over.ensures c.over-denominator.ensures in
    (is.tests ∙ none_large c.args.limit _ _ _ _ (omega arith) (omega arith) (omega arith) (omega arith), value_from_shows _ _ is.shows)

pub returns-clause-within : goal.returns-clause-within
returns-clause-within c =
    let small = div-le_self c.signed_sum-negative.result.1 c.gcd-shared.result in
    let high = c.over.ensures in
    fits_yes c.args.limit (fraction_shows _) (omega arith) (omega arith)
