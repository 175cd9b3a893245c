use Rattle.std.proofs.Common.{◌≡◌, None, Some, arith, sym, ap, ◌∙◌}
use Rattle.gq_text.proofs.ReadingBack.{parts_back, below_back, numerator_small, denominator_small}
use Rattle.gq_text.proofs.exact.quotient_in.Goals as goal
use Rattle.gq_field.specs.Values.{signed}

pub returns-in_err-above : goal.returns-in_err-above
returns-in_err-above g c x f is =
    let l = g.met.F.ExactField.limit_range.1 in
    let parts = parts_back x c.args.text.now c.split_sign-negative.result.1.now c.split_digits.result.0.now c.split_digits.result.1.now c.split_sign-negative.result.0 (numerator_small g.F.ExactField.limit x l f) is c.split_sign-negative.ensures c.split_digits.ensures in
    let small = parts.small in
    absurd (c.in_err-above.ensures (omega (arith, small)))

pub returns-in_err-below : goal.returns-in_err-below
returns-in_err-below g c x f is =
    let l = g.met.F.ExactField.limit_range.1 in
    let parts = parts_back x c.args.text.now c.split_sign-negative.result.1.now c.split_digits.result.0.now c.split_digits.result.1.now c.split_sign-negative.result.0 (numerator_small g.F.ExactField.limit x l f) is c.split_sign-negative.ensures c.split_digits.ensures in
    absurd (below_back x c.split_digits.result.1.now None (denominator_small g.F.ExactField.limit x l f) parts.rest_is c.in_err-below.ensures.one c.in_err-below.ensures.other)

pub returns : goal.returns
returns g c x f is =
    let l = g.met.F.ExactField.limit_range.1 in
    let parts = parts_back x c.args.text.now c.split_sign-negative.result.1.now c.split_digits.result.0.now c.split_digits.result.1.now c.split_sign-negative.result.0 (numerator_small g.F.ExactField.limit x l f) is c.split_sign-negative.ensures c.split_digits.ensures in
    let above = c.in_ok-above.ensures.1 in
    let same : c.in_ok-above.above ≡ _ = above ∙ omega arith in
    c.fraction.ensures x f (parts.signed_is ∙ ap (signed c.split_sign-negative.result.0) (sym same)) (sym (below_back x c.split_digits.result.1.now (Some c.in_ok-below.below) (denominator_small g.F.ExactField.limit x l f) parts.rest_is c.in_ok-below.ensures.one c.in_ok-below.ensures.other))
