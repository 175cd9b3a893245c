-- Signs as the code reads them, and magnitudes by them.
use Rattle.std.proofs.Common.{◌≡◌, ℕ, zero, suc, ◌≤◌, true, false, ℤ, pos, negsuc, nat_abs, int_lt, inl, inr, refl, sym, ap, ◌∙◌, arith, w8, w64, to_z, of_z}
use Rattle.gq_number.specs.Number.{Number, whole, neg_ℚ, sign_of, sign_of_ℤ}
use Rattle.gq_number.specs.Order.{abs_ℚ}
use Rattle.gq_number.proofs.Order
use Rattle.gq_number.proofs.Signs.{sign_is}
use Rattle.gq_number.proofs.Compares.{abs_above, abs_below}
use Rattle.gq_extended.specs.Extended.{Extended, number, plus_infinity, minus_infinity, na, direction}

small_sign : (n : ℤ) → nat_abs (sign_of_ℤ n) ≤ 1
small_sign (pos zero) = omega arith
small_sign (pos (suc n)) = omega arith
small_sign (negsuc n) = omega arith

small_direction : (x : Extended) → nat_abs (direction x) ≤ 1
unfolding sign_of
small_direction (number x) = small_sign x.numerator
small_direction plus_infinity = omega arith
small_direction minus_infinity = omega arith
small_direction na = omega arith

read_sign : (n : ℤ) → to_z w64 (of_z w64 (to_z w8 (of_z w8 (sign_of_ℤ n)))) ≡ sign_of_ℤ n
read_sign (pos zero) = refl
read_sign (pos (suc n)) = refl
read_sign (negsuc n) = refl

read_direction : (x : Extended) → to_z w64 (of_z w64 (to_z w8 (of_z w8 (direction x)))) ≡ direction x
unfolding sign_of
read_direction (number x) = read_sign x.numerator
read_direction plus_infinity = refl
read_direction minus_infinity = refl
read_direction na = refl

-- a sign, widened, fits every field
pub direction_fits : (x : Extended) (a b : ℤ) (limit : ℕ) → a ≡ to_z w8 (of_z w8 b) → b ≡ direction x → 1 ≤ limit → nat_abs (to_z w64 (of_z w64 a)) ≤ limit
direction_fits x a b limit e f some =
    rw (e, f, read_direction x) (let small = small_direction x in omega arith)

-- the magnitude by the sign that is read
read_number : (x : Number) → int_lt (to_z w8 (of_z w8 (sign_of x))) (pos 0) ≡ int_lt (sign_of x) (pos 0)
unfolding sign_of
read_number x = cases x.numerator
  where
    cases : (n : ℤ) → int_lt (to_z w8 (of_z w8 (sign_of_ℤ n))) (pos 0) ≡ int_lt (sign_of_ℤ n) (pos 0)
    cases (pos zero) = refl
    cases (pos (suc n)) = refl
    cases (negsuc n) = refl

pub abs_if_below : (x : Number) (s : ℤ) → s ≡ sign_of x → int_lt (to_z w8 (of_z w8 s)) (pos 0) ≡ true → neg_ℚ x ≡ abs_ℚ x
abs_if_below x s e below =
    let told : int_lt (sign_of x) (pos 0) ≡ true = sym (read_number x) ∙ ap (λ n. int_lt (to_z w8 (of_z w8 n)) (pos 0)) (sym e) ∙ below in
    elim (sign_is x) [
      | inl h ↦ absurd (let f : false ≡ true = sym (ap (λ n. int_lt n (pos 0)) h.0) ∙ told in cc)
      | inr (inl h) ↦ absurd (let f : false ≡ true = sym (ap (λ n. int_lt n (pos 0)) h.0) ∙ told in cc)
      | inr (inr h) ↦ sym (abs_below x (Order.≤ℚ_from_<ℚ x (whole (pos 0)) h.1))
    ]

pub abs_if_not_below : (x : Number) (s : ℤ) → s ≡ sign_of x → int_lt (to_z w8 (of_z w8 s)) (pos 0) ≡ false → x ≡ abs_ℚ x
abs_if_not_below x s e above =
    let told : int_lt (sign_of x) (pos 0) ≡ false = sym (read_number x) ∙ ap (λ n. int_lt (to_z w8 (of_z w8 n)) (pos 0)) (sym e) ∙ above in
    elim (sign_is x) [
      | inl h ↦ sym (abs_above x (Order.≤ℚ_from_<ℚ (whole (pos 0)) x h.1))
      | inr (inl h) ↦ sym (abs_above x (Order.≤ℚ_from_≡ (whole (pos 0)) x (sym h.1)))
      | inr (inr h) ↦ absurd (let f : true ≡ false = sym (ap (λ n. int_lt n (pos 0)) h.0) ∙ told in cc)
    ]
