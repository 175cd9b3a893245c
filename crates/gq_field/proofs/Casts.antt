-- Fractions whose parts go into narrower integers, and back.
use Rattle.std.proofs.Common.{◌≡◌, ℕ, ◌-◌, ◌^◌, ◌<◌, ◌≤◌, true, ◌&&◌, nat_le, ℤ, pos, nat_abs, refl, sym, ap, ◌∙◌, subst₂, arith, to_z, of_z}
use Rattle.std.proofs.lemmas.Bool.Decides.{nat_tests}
use Rattle.std.proofs.lemmas.Nat.{pow_pos}
use Rattle.std.proofs.Math.Nat.{pow-le-pow_right}
use Rattle.std.proofs.lemmas.Int.{to_z-of_z, fits_signed_from_abs}
use Rattle.std.specs.Int.{Width, w128}
use mir.Val.{hbits}
use Rattle.gq_number.specs.Gcd.{gcd}
use Rattle.gq_number.specs.Reduced.{IsReduced}
use Rattle.gq_number.specs.Number.{Number}
use Rattle.gq_field.specs.declared.fraction.Fraction.{Fraction}
use Rattle.gq_field.specs.Fits.{fits}
use Rattle.gq_number.proofs.Means.{number_from_parts}
use Rattle.gq_field.specs.Parts.{IsFraction, number_of_parts}
use Rattle.gq_field.specs.Values.{fraction_value}
use Rattle.gq_field.proofs.Fractions.{nat_abs-signed}

both_small : (m d limit : ℕ) → (nat_le m limit && nat_le d limit) ≡ true → (m ≤ limit) × (d ≤ limit)
both_small m d limit e = grind (arith, nat_tests)

-- the parts of a number that fits
pub parts_small : (x : Number) (limit : ℕ) → fits limit x ≡ true → (nat_abs x.numerator ≤ limit) × (x.denominator ≤ limit)
parts_small x limit e = both_small (nat_abs x.numerator) x.denominator limit e

-- the denominator of a fraction is that of its number
pub fraction_denominator : (f : Fraction) → (fraction_value f).denominator ≡ f.denominator
unfolding fraction_value
fraction_denominator f = refl

-- a signed integer of 128 bits that fits a narrower type is there what it was
pub cast_twice : (w : Width) (z n : ℤ) → z ≡ n → nat_abs n < 2 ^ hbits w → nat_abs n < 2 ^ 127 → to_z w (of_z w (to_z w128 (of_z w128 z))) ≡ n
cast_twice w z n e narrow wide =
    ap (λ k. to_z w (of_z w (to_z w128 (of_z w128 k)))) e
    ∙ ap (λ k. to_z w (of_z w k)) (to_z-of_z w128 n (fits_signed_from_abs w128 n wide))
    ∙ to_z-of_z w n (fits_signed_from_abs w n narrow)

-- a fraction that fits this many bits, with its numerator by another name
pub fitting_parts : (bits : ℕ) (f : Fraction) (n : ℤ) → n ≡ (fraction_value f).numerator → fits (2 ^ bits - 1) (fraction_value f) ≡ true → IsFraction bits n f.denominator
fitting_parts bits f n e fit =
    let small = parts_small (fraction_value f) (2 ^ bits - 1) fit in
    let below = fraction_denominator f in
    let some : 0 < 2 ^ bits = pow_pos bits in
    record {
      reduced = subst₂ IsReduced (sym e) below (fraction_value f).reduced;
      numerator_small = let k = ap nat_abs e in omega arith;
      denominator_small = omega arith;
    }

-- a fraction with a numerator, within this many bits: the bounds of both, and that they are its
-- number
pub record Fitting (bits : ℕ) (f : Fraction) (n : ℤ) : Type 0 where
  pub parts : IsFraction bits n f.denominator
  pub same : (p : IsFraction bits n f.denominator) → number_of_parts n f.denominator p ≡ fraction_value f

pub fitting : (bits : ℕ) (f : Fraction) (n : ℤ) → n ≡ (fraction_value f).numerator → fits (2 ^ bits - 1) (fraction_value f) ≡ true → Fitting bits f n
unfolding number_of_parts
fitting bits f n e fit =
    record { parts = fitting_parts bits f n e fit; same = λ p. number_from_parts _ _ e (sym (fraction_denominator f)) }

-- such a fraction goes into signed integers of this width, and is there what it was
pub narrowed_fits : (w : Width) (f : Fraction) (z : ℤ) → hbits w ≤ 127 → z ≡ (fraction_value f).numerator → fits (2 ^ hbits w - 1) (fraction_value f) ≡ true → Fitting (hbits w) f (to_z w (of_z w (to_z w128 (of_z w128 z))))
narrowed_fits w f z most e fit =
    let own = fitting_parts (hbits w) f (fraction_value f).numerator refl fit in
    let wide : 2 ^ hbits w ≤ 2 ^ 127 = pow-le-pow_right (omega arith) most in
    fitting (hbits w) f _ (cast_twice w z (fraction_value f).numerator e own.numerator_small (omega arith)) fit

-- a whole number that fits 128 bits is there what it was
pub cast_same : (n : ℤ) → nat_abs n < 2 ^ 127 → to_z w128 (of_z w128 n) ≡ n
cast_same n wide = to_z-of_z w128 n (fits_signed_from_abs w128 n wide)

-- the numerator as a signed integer of 128 bits
pub cast_once : (f : Fraction) (z : ℤ) → z ≡ (fraction_value f).numerator → to_z w128 (of_z w128 z) ≡ (fraction_value f).numerator
unfolding fraction_value
cast_once f z e =
    let wide : nat_abs z < 2 ^ 127 = rw (e, nat_abs-signed f.negative f.magnitude) f.magnitude_small in
    cast_same z wide ∙ e

-- a reduced pair by its magnitude
pub reduced_magnitude : (n : ℤ) (m d : ℕ) → m ≡ nat_abs n → IsReduced n d → IsReduced (pos m) d
reduced_magnitude n m d e r = record { coprime = ap (λ k. gcd k d) e ∙ r.coprime; positive = r.positive }

-- and a narrower integer that goes to 128 bits
pub cast_up : (w : Width) (n : ℤ) → nat_abs n < 2 ^ hbits w → nat_abs n < 2 ^ 127 → to_z w128 (of_z w128 (to_z w (of_z w n))) ≡ n
cast_up w n narrow wide =
    ap (λ k. to_z w128 (of_z w128 k)) (to_z-of_z w n (fits_signed_from_abs w n narrow)) ∙ to_z-of_z w128 n (fits_signed_from_abs w128 n wide)
