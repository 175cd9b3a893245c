-- The number that a decimal means, as its digits without zeros times one power of ten over another.
use Rattle.std.proofs.Common.{◌≡◌, ℕ, zero, suc, ◌+◌, ◌-◌, ◌*◌, ◌^◌, ◌<◌, ◌≤◌, Bool, true, false, not, List, ◌++◌, length, refl, sym, ap, ap₂, ◌∙◌, arith, inl, inr, pos, neg_ℤ, mul-pos, mul-le-mul_right}
use Rattle.std.proofs.Math.Nat.{pow-le-pow_right, le-mul_of_pos_right}
use Rattle.std.proofs.Math.Pow.{pow-add}
use Rattle.std.proofs.lemmas.Bool.{cases_lt}
use Rattle.gq_number.specs.Number.{whole, ratio, ◌+ℚ◌, ◌*ℚ◌, ◌/ℚ◌}
use Rattle.gq_number.proofs.Means.{same_by_means, ratio_means}
use Rattle.gq_number.proofs.Field.{means-*ℚ, means-whole}
use Rattle.gq_number.proofs.Quotients.{≡-/ℚ}
use Rattle.gq_number.proofs.Naming.{decimal_parts, ratio-one, whole-≢-zero}
use Rattle.gq_text.specs.Numeral.{spelled}
use Rattle.gq_text.specs.Decimal.{scaled_by_ten, number_of}
use Rattle.gq_text.specs.Literal.{HasNoTrailingZero, FitsLiteral}
use Rattle.gq_text.specs.InnerParts.{exponent_of}
use Rattle.gq_text.specs.InnerShortest.{Shortens, added}
use Rattle.gq_text.proofs.Numerals.{spelled-append}
use Rattle.gq_text.proofs.Literals.{tens_above, cross_nat, whole_fits, fraction_fits}

pub times_tens : (a b k : ℕ) → 0 < b → ratio (pos a) b *ℚ whole (pos (10 ^ k)) ≡ ratio (pos (a * 10 ^ k)) b
times_tens a b k some =
    same_by_means (means-*ℚ (ratio_means (pos a) b some) (means-whole (pos (10 ^ k)))) (ratio_means (pos (a * 10 ^ k)) b some) (ap pos (omega arith))

pub over_tens : (a b k : ℕ) → 0 < b → ratio (pos a) b /ℚ whole (pos (10 ^ k)) ≡ ratio (pos a) (b * 10 ^ k)
over_tens a b k some =
    let some_below : 0 < b * 10 ^ k = mul-pos some (tens_above k) in
    sym ((≡-/ℚ (ratio (pos a) (b * 10 ^ k)) (ratio (pos a) b) (whole (pos (10 ^ k))) (whole-≢-zero (10 ^ k) (tens_above k))).1
    (same_by_means (means-*ℚ (ratio_means (pos a) (b * 10 ^ k) some_below) (means-whole (pos (10 ^ k)))) (ratio_means (pos a) b some) (ap pos (omega arith))))

-- times ten to an exponent by its sign
scaled_is : (a b e : ℕ) (negative : Bool) (digits : List ℕ) → 0 < b → e ≡ spelled digits → scaled_by_ten (ratio (pos a) b) (exponent_of negative digits) ≡ ratio (pos (a * 10 ^ added (not negative) e)) (b * 10 ^ added negative e)
scaled_is a b e false digits some f = ap (λ k. ratio (pos a) b *ℚ whole (pos (10 ^ k))) (sym f) ∙ times_tens a b e some ∙ ap (ratio (pos (a * 10 ^ e))) (omega arith)
scaled_is a b e true digits some f = ap (λ k. scaled_by_ten (ratio (pos a) b) (neg_ℤ (pos k))) (sym f) ∙ down e
  where
    down : (e : ℕ) → scaled_by_ten (ratio (pos a) b) (neg_ℤ (pos e)) ≡ ratio (pos (a * 10 ^ 0)) (b * 10 ^ e)
    down zero = times_tens a b 0 some ∙ ap (ratio (pos (a * 10 ^ 0))) (omega arith)
    down (suc k) = over_tens a b (suc k) some ∙ ap (λ n. ratio (pos n) (b * 10 ^ suc k)) (omega arith)

-- digits and powers of ten, moved about
moved : (n d z q e f p' p : ℕ) → n ≡ d * 10 ^ (z + q) → p ≡ p' + q → ratio (pos (n * 10 ^ e)) (10 ^ p * 10 ^ f) ≡ ratio (pos (d * 10 ^ (z + e))) (10 ^ (p' + f))
moved n d z q e f p' p n_is p_is =
    let zq = pow-add 10 z q in let ze = pow-add 10 z e in let pf = pow-add 10 p' f in
    let unit : 10 ^ p ≡ 10 ^ p' * 10 ^ q = ap (λ k. 10 ^ k) p_is ∙ pow-add 10 p' q in
    let number : n ≡ d * (10 ^ z * 10 ^ q) = n_is ∙ ap (λ u. d * u) zq in
    cross_nat (n * 10 ^ e) (10 ^ p * 10 ^ f) (d * 10 ^ (z + e)) (10 ^ (p' + f)) (mul-pos (tens_above p) (tens_above f)) (tens_above (p' + f))
    (ap₂ (λ m u. m * 10 ^ e * u) number pf ∙ omega arith ∙ sym (ap₂ (λ u v. d * u * (v * 10 ^ f)) ze unit))

-- the number by the shortened digits
pub number_is : (before following whole' fraction digits : List ℕ) (negative : Bool) → Shortens before following whole' fraction → number_of (record { before = before; following = following; exponent = exponent_of negative digits }) ≡ ratio (pos (spelled (whole' ++ fraction) * 10 ^ ((length before - length whole') + added (not negative) (spelled digits)))) (10 ^ (length fraction + added negative (spelled digits)))
number_is before following whole' fraction digits negative s =
    let n = spelled (before ++ following) in
    let places = length following in
    let shorter = s.fraction_shorter in
    let pair : whole (pos (spelled before)) +ℚ ratio (pos (spelled following)) (10 ^ places) ≡ ratio (pos n) (10 ^ places) =
    sym (decimal_parts (spelled before) (spelled following) places) ∙ ap (λ m. ratio (pos m) (10 ^ places)) (sym (spelled-append before following)) in
    ap (λ x. scaled_by_ten x (exponent_of negative digits)) pair ∙ scaled_is n (10 ^ places) (spelled digits) negative digits (tens_above places) refl
    ∙ moved n (spelled (whole' ++ fraction)) (length before - length whole') (length following - length fraction) (added (not negative) (spelled digits)) (added negative (spelled digits)) (length fraction) places s.spells (omega arith)

-- digits that are 0
pub none_fits : (limit m u w : ℕ) → m ≡ 0 → FitsLiteral limit (ratio (pos (m * 10 ^ u)) (10 ^ w)) × (ratio (pos (m * 10 ^ u)) (10 ^ w) ≡ whole (pos 0))
none_fits limit m u w none =
    let zero_is : ratio (pos (m * 10 ^ u)) (10 ^ w) ≡ whole (pos 0) = ap (λ n. ratio (pos (n * 10 ^ u)) (10 ^ w)) none ∙ cross_nat (0 * 10 ^ u) (10 ^ w) 0 1 (tens_above w) (omega arith) (omega arith) ∙ ratio-one (pos 0) in
    (record { m = 0; e = 0; shortest = inl refl; within = inl (zero_is, omega arith) }, zero_is)

-- ---- what is past 128 bits is past the limit

far_tens : (k : ℕ) → 39 ≤ k → 2 ^ 127 < 10 ^ k
far_tens k far = let wide : 10 ^ 39 ≤ 10 ^ k = pow-le-pow_right {n = 10} (omega arith) {i = 39} {j = k} far in omega arith

-- digits past it
pub far_digits : (limit m u w : ℕ) → limit < 2 ^ 127 → HasNoTrailingZero m → ¬ (m < 2 ^ 128) → ¬ FitsLiteral limit (ratio (pos (m * 10 ^ u)) (10 ^ w))
far_digits limit m u w small h far f =
    elim (cases_lt u w) [
      | inl less ↦ (let fit = fraction_fits limit m u w (w - u - 1) (omega arith) h (omega arith) f in omega (arith, fit.0))
      | inr more ↦ (let fit = whole_fits limit m u w (u - w) (omega arith) h (omega arith) f in let grows = le-mul_of_pos_right m (tens_above (u - w)) in omega arith)
    ]

far_above : (limit m u w k : ℕ) → limit < 2 ^ 127 → 0 < m → HasNoTrailingZero m → u ≡ w + k → 39 ≤ k → ¬ FitsLiteral limit (ratio (pos (m * 10 ^ u)) (10 ^ w))
far_above limit m u w k small some h e far f =
    let fit = whole_fits limit m u w k some h e f in
    let unit = far_tens k far in
    let grows : 1 * 10 ^ k ≤ m * 10 ^ k = mul-le-mul_right (10 ^ k) (omega arith) in
    omega arith

far_below : (limit m u w k : ℕ) → limit < 2 ^ 127 → 0 < m → HasNoTrailingZero m → w ≡ u + suc k → 39 ≤ suc k → ¬ FitsLiteral limit (ratio (pos (m * 10 ^ u)) (10 ^ w))
far_below limit m u w k small some h e far f =
    let fit = fraction_fits limit m u w k some h e f in
    let unit = far_tens (suc k) far in
    omega (arith, fit.1)

-- an exponent past it, added to a count of zeros or of places
pub far_up : (limit m e zeros places : ℕ) (negative : Bool) → limit < 2 ^ 127 → 0 < m → HasNoTrailingZero m → zeros < 2 ^ 64 → places < 2 ^ 64 → ¬ (zeros + added (not negative) e < 2 ^ 128) → ¬ FitsLiteral limit (ratio (pos (m * 10 ^ (zeros + added (not negative) e))) (10 ^ (places + added negative e)))
far_up limit m e zeros places true small some h few_zeros few_places far f = far (omega arith)
far_up limit m e zeros places false small some h few_zeros few_places far f = far_above limit m (zeros + e) (places + 0) (zeros + e - (places + 0)) small some h (omega arith) (omega arith) f

pub far_down : (limit m e zeros places : ℕ) (negative : Bool) → limit < 2 ^ 127 → 0 < m → HasNoTrailingZero m → zeros < 2 ^ 64 → places < 2 ^ 64 → ¬ (places + added negative e < 2 ^ 128) → ¬ FitsLiteral limit (ratio (pos (m * 10 ^ (zeros + added (not negative) e))) (10 ^ (places + added negative e)))
far_down limit m e zeros places false small some h few_zeros few_places far f = far (omega arith)
far_down limit m e zeros places true small some h few_zeros few_places far f = far_below limit m (zeros + 0) (places + e) (places + e - (zeros + 0) - 1) small some h (omega arith) (omega arith) f
