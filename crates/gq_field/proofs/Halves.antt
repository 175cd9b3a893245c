-- Values of `Half` that are there: 0, and with each value the one of the other sign.
use Rattle.std.proofs.Common.{◌≡◌, ◌<◌, ◌^◌, refl, arith}
use Rattle.std.specs.Prelude.{pos, neg_ℤ, nat_abs}
use Rattle.gq_number.specs.Number.{whole, neg_ℚ}
use Rattle.gq_number.specs.Reduced.{whole_reduced, neg_reduced, nat_abs-neg}
use Rattle.gq_field.specs.declared.half.Half.{Half}
use Rattle.gq_field.specs.Parts.{number_of_parts}
use Rattle.gq_field.specs.Values.{half_value}

-- the value 0
pub zero_half : Half
zero_half = record { numerator = pos 0; denominator = 1; parts = record { reduced = whole_reduced (pos 0); numerator_small = omega arith; denominator_small = omega arith } }

pub zero_means : half_value zero_half ≡ whole (pos 0)
unfolding half_value number_of_parts zero_half whole
zero_means = refl

-- the value of the other sign
pub negated : Half → Half
negated h =
    let small : nat_abs (neg_ℤ h.numerator) < 2 ^ 63 = rw (nat_abs-neg h.numerator) h.parts.numerator_small in
    record { numerator = neg_ℤ h.numerator; denominator = h.denominator; parts = record { reduced = neg_reduced h.numerator h.denominator h.parts.reduced; numerator_small = small; denominator_small = h.parts.denominator_small } }

pub negated_means : (h : Half) → half_value (negated h) ≡ neg_ℚ (half_value h)
unfolding half_value number_of_parts negated neg_ℚ
negated_means h = refl
