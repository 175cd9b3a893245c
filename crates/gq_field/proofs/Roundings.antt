-- The four roundings of a fraction, by its magnitudes, and that they fit.
use Rattle.std.proofs.Common.{◌≡◌, ℕ, zero, suc, ◌+◌, ◌-◌, ◌*◌, ◌/◌, ◌%◌, ◌<◌, ◌≤◌, Bool, true, false, ◌&&◌, nat_le, nat_lt, ℤ, pos, negsuc, neg_ℤ, nat_abs, refl, sym, ap, ◌∙◌, subst, arith, div-le_self, div-add-mod', mod-lt, div-lt_iff_lt-mul, le-mul_of_pos_right, true≢false}
use Rattle.std.proofs.lemmas.Bool.Decides.{nat_tests}
use Rattle.std.proofs.Math.Nat.{zero-div, div-eq_of_lt, div-eq_of_lt-le}
use Rattle.gq_number.specs.Reduced.{nat_abs-neg}
use Rattle.gq_number.specs.Number.{Number, whole, neg_ℚ, truncated, floor_of, ceiling_of, rounded, quotient_towards_zero, quotient_down, quotient_to_nearest}
use Rattle.gq_number.proofs.Means.{number_from_parts}
use Rattle.gq_field.specs.declared.fraction.Fraction.{Fraction}
use Rattle.gq_field.specs.Fits.{fits}
use Rattle.gq_field.specs.Values.{fraction_value, signed}

-- ---- what the program computes

towards_zero : (s : Bool) (m d : ℕ) → signed s (m / d) ≡ quotient_towards_zero (signed s m) d
towards_zero false m d = refl
towards_zero true zero d = rw (zero-div d) refl
towards_zero true (suc m) d = refl

pub towards_zero_is : (x : Fraction) → signed x.negative (x.magnitude / x.denominator) ≡ truncated (fraction_value x)
unfolding truncated fraction_value
towards_zero_is x = towards_zero x.negative x.magnitude x.denominator

down_below : (s : Bool) (m d : ℕ) → (s && nat_lt 0 m) ≡ true → signed true ((m - 1) / d + 1) ≡ quotient_down (signed s m) d
down_below false m d e = absurd (true≢false (sym e))
down_below true zero d e = absurd (true≢false (sym e))
down_below true (suc k) d e =
    let next : (suc k - 1) / d + 1 ≡ suc (k / d) = let f : suc k - 1 ≡ k = omega arith in ap (λ n. n / d + 1) f ∙ omega arith in
    ap (λ n. neg_ℤ (pos n)) next

down_above : (s : Bool) (m d : ℕ) → (s && nat_lt 0 m) ≡ false → signed false (m / d) ≡ quotient_down (signed s m) d
down_above false m d e = refl
down_above true zero d e = refl
down_above true (suc m) d e = absurd (true≢false (sym (some m) ∙ e))
  where
    some : (m : ℕ) → nat_lt 0 (suc m) ≡ true
    some m = grind (arith, nat_tests)

pub down_if_negative : (x : Fraction) → (x.negative && nat_lt 0 x.magnitude) ≡ true → signed true ((x.magnitude - 1) / x.denominator + 1) ≡ floor_of (fraction_value x)
unfolding floor_of fraction_value
down_if_negative x e = down_below x.negative x.magnitude x.denominator e

pub down_if_not : (x : Fraction) → (x.negative && nat_lt 0 x.magnitude) ≡ false → signed false (x.magnitude / x.denominator) ≡ floor_of (fraction_value x)
unfolding floor_of fraction_value
down_if_not x e = down_above x.negative x.magnitude x.denominator e

pub up_is : (x y z w : Number) → y ≡ neg_ℚ x → z ≡ whole (floor_of y) → w ≡ neg_ℚ z → w ≡ whole (ceiling_of x)
unfolding ceiling_of neg_ℚ whole
up_is x y z w e f h =
    h ∙ ap neg_ℚ (f ∙ ap (λ v. whole (floor_of v)) e) ∙ number_from_parts (neg_ℚ (whole (floor_of (neg_ℚ x)))) (whole (ceiling_of x)) refl refl

nearest_none : (d : ℕ) → 0 < d → (2 * 0 + d) / (2 * d) ≡ 0
nearest_none d pos_d = div-eq_of_lt (omega arith)

nearest : (s : Bool) (m d : ℕ) → 0 < d → signed s ((2 * m + d) / (2 * d)) ≡ quotient_to_nearest (signed s m) d
nearest false m d pos_d = refl
nearest true zero d pos_d = rw (nearest_none d pos_d) refl
nearest true (suc m) d pos_d = refl

near_above : (m d : ℕ) → 0 < d → d - m % d ≤ m % d → (2 * m + d) / (2 * d) ≡ m / d + 1
near_above m d pos_d h =
    let split = div-add-mod' m d in
    let rest = mod-lt m pos_d in
    div-eq_of_lt-le (2 * d) (omega arith) (omega arith)

near_below : (m d : ℕ) → 0 < d → m % d < d - m % d → (2 * m + d) / (2 * d) ≡ m / d
near_below m d pos_d h =
    let split = div-add-mod' m d in
    let rest = mod-lt m pos_d in
    div-eq_of_lt-le (2 * d) (omega arith) (omega arith)

pub nearest_above : (x : Fraction) → x.denominator - x.magnitude % x.denominator ≤ x.magnitude % x.denominator → signed x.negative (x.magnitude / x.denominator + 1) ≡ rounded (fraction_value x)
unfolding rounded fraction_value
nearest_above x h =
    ap (signed x.negative) (sym (near_above x.magnitude x.denominator x.reduced.positive h)) ∙ nearest x.negative x.magnitude x.denominator x.reduced.positive

pub nearest_below : (x : Fraction) → x.magnitude % x.denominator < x.denominator - x.magnitude % x.denominator → signed x.negative (x.magnitude / x.denominator) ≡ rounded (fraction_value x)
unfolding rounded fraction_value
nearest_below x h =
    ap (signed x.negative) (sym (near_below x.magnitude x.denominator x.reduced.positive h)) ∙ nearest x.negative x.magnitude x.denominator x.reduced.positive

-- ---- a rounded value fits

still_small : (limit m n d : ℕ) → (nat_le m limit && nat_le d limit) ≡ true → n ≤ m → 0 < d → (nat_le n limit && nat_le 1 limit) ≡ true
still_small limit m n d e h pos_d = grind (arith, nat_tests)

no_larger_fits : (limit : ℕ) (x : Number) (n : ℤ) → fits limit x ≡ true → nat_abs n ≤ nat_abs x.numerator → fits limit (whole n) ≡ true
unfolding whole
no_larger_fits limit x n e h = still_small limit (nat_abs x.numerator) (nat_abs n) x.denominator e h x.reduced.positive

towards_zero-abs : (n : ℤ) (d : ℕ) → nat_abs (quotient_towards_zero n d) ≤ nat_abs n
towards_zero-abs (pos n) d = div-le_self n d
towards_zero-abs (negsuc n) d = subst (λ k. k ≤ suc n) (sym (nat_abs-neg (pos (suc n / d)))) (div-le_self (suc n) d)

down-abs : (n : ℤ) (d : ℕ) → nat_abs (quotient_down n d) ≤ nat_abs n
down-abs (pos n) d = div-le_self n d
down-abs (negsuc k) d = let h = div-le_self k d in omega arith

nearest-le : (m d : ℕ) → 0 < d → (2 * m + d) / (2 * d) ≤ m
nearest-le zero d pos_d = rw (nearest_none d pos_d) (omega arith)
nearest-le (suc m) d pos_d =
    let wide : suc m ≤ suc m * d = le-mul_of_pos_right (suc m) pos_d in
    let below : (2 * suc m + d) / (2 * d) < suc m + 1 = (div-lt_iff_lt-mul {k = 2 * d} {x = 2 * suc m + d} {y = suc m + 1} (omega arith)).1 (omega arith) in
    omega arith

nearest-abs : (n : ℤ) (d : ℕ) → 0 < d → nat_abs (quotient_to_nearest n d) ≤ nat_abs n
nearest-abs (pos n) d pos_d = nearest-le n d pos_d
nearest-abs (negsuc n) d pos_d = subst (λ k. k ≤ suc n) (sym (nat_abs-neg (pos ((2 * suc n + d) / (2 * d))))) (nearest-le (suc n) d pos_d)

pub truncated_fits : (limit : ℕ) (x : Number) → fits limit x ≡ true → fits limit (whole (truncated x)) ≡ true
unfolding truncated
truncated_fits limit x e = no_larger_fits limit x (truncated x) e (towards_zero-abs x.numerator x.denominator)

pub floor_fits : (limit : ℕ) (x : Number) → fits limit x ≡ true → fits limit (whole (floor_of x)) ≡ true
unfolding floor_of
floor_fits limit x e = no_larger_fits limit x (floor_of x) e (down-abs x.numerator x.denominator)

pub ceiling_fits : (limit : ℕ) (x : Number) → fits limit x ≡ true → fits limit (whole (ceiling_of x)) ≡ true
unfolding ceiling_of floor_of neg_ℚ
ceiling_fits limit x e =
    no_larger_fits limit x (ceiling_of x) e
    (subst (λ k. k ≤ nat_abs x.numerator) (sym (nat_abs-neg (quotient_down (neg_ℤ x.numerator) x.denominator)))
    (subst (λ k. nat_abs (quotient_down (neg_ℤ x.numerator) x.denominator) ≤ k) (nat_abs-neg x.numerator) (down-abs (neg_ℤ x.numerator) x.denominator)))

pub rounded_fits : (limit : ℕ) (x : Number) → fits limit x ≡ true → fits limit (whole (rounded x)) ≡ true
unfolding rounded
rounded_fits limit x e = no_larger_fits limit x (rounded x) e (nearest-abs x.numerator x.denominator x.reduced.positive)
