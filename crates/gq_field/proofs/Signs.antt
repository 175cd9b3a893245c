-- Zero, signs and magnitudes of fractions.
use Rattle.std.proofs.Common.{◌≡◌, ◌≢◌, ℕ, zero, suc, ◌<◌, ◌≤◌, Bool, true, false, not, ◌&&◌, nat_le, nat_lt, ℤ, pos, negsuc, neg_ℤ, nat_abs, int_lt, refl, sym, ap, ap₂, ◌∙◌, subst, arith, IsTrue, ◌↔◌, eqb}
use Rattle.std.proofs.lemmas.Bool.Decides.{nat_tests}
use Rattle.gq_number.specs.Reduced.{IsReduced, nat_abs-neg}
use Rattle.gq_number.specs.Number.{Number, whole, neg_ℚ, sign_of, sign_of_ℤ}
use Rattle.gq_number.proofs.Gcd.{gcd_comm, gcd-zero}
use Rattle.gq_number.proofs.Means.{number_from_parts}
use Rattle.gq_field.specs.declared.fraction.Fraction.{Fraction}
use Rattle.gq_field.specs.Fits.{fits}
use Rattle.gq_field.specs.Values.{fraction_value, signed}
use Rattle.gq_field.proofs.Fractions.{Shows, nat_abs-signed}
use Rattle.std.proofs.Math.IntN.{neg_ℤ-neg_ℤ}

-- the whole number n shows itself over 1
pub whole_shows : (s : Bool) (m : ℕ) → Shows (whole (signed s m)) s m 1
unfolding whole
whole_shows s m = record { above = refl; below = refl }

one_below_zero : (d : ℕ) → IsReduced (pos 0) d → d ≡ 1
one_below_zero d r = sym (gcd_comm 0 d ∙ gcd-zero d) ∙ r.coprime

signed-zero : (s : Bool) → signed s 0 ≡ pos 0
signed-zero false = refl
signed-zero true = refl

pub zero_from_magnitude : (f : Fraction) → f.magnitude ≡ 0 → fraction_value f ≡ whole (pos 0)
unfolding fraction_value whole
zero_from_magnitude f none =
    number_from_parts (fraction_value f) (whole (pos 0)) (ap (signed f.negative) none ∙ signed-zero f.negative) (one_below_zero f.denominator (subst (λ m. IsReduced (pos m) f.denominator) none f.reduced))

pub magnitude_from_zero : (f : Fraction) → fraction_value f ≡ whole (pos 0) → f.magnitude ≡ 0
unfolding fraction_value whole
magnitude_from_zero f e = sym (nat_abs-signed f.negative f.magnitude) ∙ ap (λ (x : Number). nat_abs x.numerator) e

-- a test of the magnitude tells whether a number that the fraction has is 0
pub zero_test : (f : Fraction) (x : Number) → fraction_value f ≡ x → IsTrue (eqb f.magnitude 0) ↔ (x ≡ whole (pos 0))
zero_test f x e = (
  (λ t. sym e ∙ zero_from_magnitude f (let h : f.magnitude ≡ 0 = grind (arith, nat_tests) in h)),
  (λ z. let h : f.magnitude ≡ 0 = magnitude_from_zero f (e ∙ z) in grind (arith, nat_tests)),
)

pub sign_at_zero : (f : Fraction) (x : Number) → fraction_value f ≡ x → f.magnitude ≡ 0 → pos 0 ≡ sign_of x
unfolding sign_of fraction_value whole
sign_at_zero f x e none = ap sign_of (sym (zero_from_magnitude f none) ∙ e)

sign_below : (m : ℕ) → 0 < m → negsuc 0 ≡ sign_of_ℤ (signed true m)
sign_below zero some = absurd (omega arith)
sign_below (suc m) some = refl

sign_above : (m : ℕ) → 0 < m → pos 1 ≡ sign_of_ℤ (signed false m)
sign_above zero some = absurd (omega arith)
sign_above (suc m) some = refl

pub sign_if_negative : (f : Fraction) (x : Number) → fraction_value f ≡ x → f.magnitude ≢ 0 → f.negative ≡ true → negsuc 0 ≡ sign_of x
unfolding sign_of fraction_value
sign_if_negative f x e some negative = sign_below f.magnitude (omega arith) ∙ ap (λ s. sign_of_ℤ (signed s f.magnitude)) (sym negative) ∙ ap sign_of e

pub sign_if_positive : (f : Fraction) (x : Number) → fraction_value f ≡ x → f.magnitude ≢ 0 → f.negative ≡ false → pos 1 ≡ sign_of x
unfolding sign_of fraction_value
sign_if_positive f x e some positive = sign_above f.magnitude (omega arith) ∙ ap (λ s. sign_of_ℤ (signed s f.magnitude)) (sym positive) ∙ ap sign_of e

-- the numerator and the denominator of the number that a fraction has
pub numerator_of : (f : Fraction) (x : Number) → fraction_value f ≡ x → signed f.negative f.magnitude ≡ x.numerator
unfolding fraction_value
numerator_of f x e = ap (λ (v : Number). v.numerator) e

pub denominator_of : (f : Fraction) (x : Number) → fraction_value f ≡ x → f.denominator ≡ x.denominator
unfolding fraction_value
denominator_of f x e = ap (λ (v : Number). v.denominator) e

signed-not : (s : Bool) (m : ℕ) → signed (not s) m ≡ neg_ℤ (signed s m)
signed-not false m = refl
signed-not true m = sym (neg_ℤ-neg_ℤ (pos m))

-- the negated number
pub negated_shows : (f : Fraction) → Shows (neg_ℚ (fraction_value f)) (not f.negative) f.magnitude f.denominator
unfolding neg_ℚ fraction_value
negated_shows f = record { above = sym (signed-not f.negative f.magnitude); below = refl }

pub fits-neg : (limit : ℕ) (x : Number) → fits limit (neg_ℚ x) ≡ fits limit x
unfolding neg_ℚ
fits-neg limit x = ap (λ m. nat_le m limit && nat_le x.denominator limit) (nat_abs-neg x.numerator)

none_below : (n : ℕ) → nat_lt n 0 ≡ false
none_below n = grind (arith, nat_tests)

-- a signed integer by its sign and its magnitude
pub signed-abs : (n : ℤ) → signed (int_lt n (pos 0)) (nat_abs n) ≡ n
signed-abs (pos n) = ap (λ (s : Bool). signed s n) (none_below n)
signed-abs (negsuc n) = refl

pub whole_fits : (limit : ℕ) (n : ℤ) → nat_abs n ≤ limit → 1 ≤ limit → fits limit (whole n) ≡ true
unfolding whole
whole_fits limit n p q = grind (arith, nat_tests)

-- a fraction made of a signed integer fits where that does
pub integer_fits : (f : Fraction) (n : ℤ) (m limit : ℕ) → fraction_value f ≡ whole (signed (int_lt n (pos 0)) m) → m ≡ nat_abs n → nat_abs n ≤ limit → 1 ≤ limit → fits limit (fraction_value f) ≡ true
integer_fits f n m limit e same p q =
    let value : fraction_value f ≡ whole n = e ∙ ap whole (ap (signed (int_lt n (pos 0))) same ∙ signed-abs n) in
    ap (fits limit) value ∙ whole_fits limit n p q

-- a signed integer by a sign and a magnitude that are its own
pub signed-parts : (n : ℤ) (s : Bool) (m : ℕ) → s ≡ int_lt n (pos 0) → m ≡ nat_abs n → n ≡ signed s m
signed-parts n s m e f = sym (ap₂ signed e f ∙ signed-abs n)
