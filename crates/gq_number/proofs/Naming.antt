-- How numbers are named: by whole numbers, by numerator and denominator, by decimal literals; and
-- when two names are of one number.
use Rattle.std.proofs.Common.{◌≡◌, ◌≢◌, ◌↔◌, ℕ, zero, suc, ◌+◌, ◌*◌, ◌^◌, ◌<◌, ℤ, pos, ◌+ℤ◌, ◌*ℤ◌, neg_ℤ, ◌≤ℤ◌, ◌<ℤ◌, refl, sym, ap, ap₂, ◌∙◌, subst₂, arith, mul-pos}
use Rattle.std.proofs.lemmas.Int.{ints}
use Rattle.std.proofs.lemmas.Grind.{pow_more}
use Rattle.std.proofs.Math.Nat.{one-le-pow}
use Rattle.gq_number.specs.Number.{Number, IsReduced, whole, ratio, ◌+ℚ◌, ◌*ℚ◌, ◌/ℚ◌, neg_ℚ}
use Rattle.gq_number.specs.Order.{◌≤ℚ◌, ◌<ℚ◌}
use Rattle.gq_number.proofs.Whole.{from_less, less_pos, reads, less-*ℤ}
use Rattle.gq_number.proofs.Means.{same_by_means, ratio_means, number_from_cross, number_of, ratio_itself}
use Rattle.gq_number.proofs.Field.{means-+ℚ, means-*ℚ, means-neg_ℚ, means-whole}
use Rattle.gq_number.proofs.Quotients.{≡-/ℚ, /ℚ-zero, numerator-whole}
use Rattle.gq_number.proofs.Order

-- two numbers are one exactly where their cross products are equal
pub number-≡ : (x y : Number) → (x ≡ y) ↔ (x.numerator *ℤ pos y.denominator ≡ y.numerator *ℤ pos x.denominator)
number-≡ x y = (λ e. ap₂ (λ (n : ℤ) (d : ℕ). n *ℤ pos d) (ap (λ (v : Number). v.numerator) e) (sym (ap (λ (v : Number). v.denominator) e)), number_from_cross x y)

-- ---- whole numbers

pub times_one : (n : ℤ) → n *ℤ pos 1 ≡ n
times_one n = let a = reads n in from_less (less-*ℤ a.2 (less_pos 1)) a.2 (omega arith)

pub whole_injective : (n m : ℤ) → whole n ≡ whole m → n ≡ m
whole_injective n m e = sym (numerator-whole n) ∙ ap (λ (v : Number). v.numerator) e ∙ numerator-whole m

pub whole-+ℚ : (n m : ℤ) → whole n +ℚ whole m ≡ whole (n +ℤ m)
whole-+ℚ n m =
    same_by_means (means-+ℚ (means-whole n) (means-whole m)) (means-whole (n +ℤ m)) (times_one _ ∙ ap₂ (λ a b. a +ℤ b) (times_one n) (times_one m) ∙ sym (times_one (n +ℤ m)))

pub whole-*ℚ : (n m : ℤ) → whole n *ℚ whole m ≡ whole (n *ℤ m)
whole-*ℚ n m = same_by_means (means-*ℚ (means-whole n) (means-whole m)) (means-whole (n *ℤ m)) refl

pub neg-whole : (n : ℤ) → neg_ℚ (whole n) ≡ whole (neg_ℤ n)
neg-whole n = same_by_means (means-neg_ℚ (means-whole n)) (means-whole (neg_ℤ n)) refl

pub whole-≤ℚ : (n m : ℤ) → (whole n ≤ℚ whole m) ↔ (n ≤ℤ m)
whole-≤ℚ n m =
    (λ h. subst₂ (λ a b. a ≤ℤ b) (times_one n) (times_one m) (Order.le_means (means-whole n) (means-whole m) h), λ h. Order.means_le (means-whole n) (means-whole m) (subst₂ (λ a b. a ≤ℤ b) (sym (times_one n)) (sym (times_one m)) h))

pub whole-<ℚ : (n m : ℤ) → (whole n <ℚ whole m) ↔ (n <ℤ m)
whole-<ℚ n m =
    (λ h. subst₂ (λ a b. a <ℤ b) (times_one n) (times_one m) (Order.lt_means (means-whole n) (means-whole m) h), λ h. Order.means_lt (means-whole n) (means-whole m) (subst₂ (λ a b. a <ℤ b) (sym (times_one n)) (sym (times_one m)) h))

pub whole_above : (n : ℕ) → 0 < n → whole (pos 0) <ℚ whole (pos n)
whole_above n h = (whole-<ℚ (pos 0) (pos n)).1 (omega (arith, ints))

pub whole-≢-zero : (n : ℕ) → 0 < n → whole (pos n) ≢ whole (pos 0)
whole-≢-zero n h e = let f = whole_injective (pos n) (pos 0) e in absurd (omega (arith, ints))

-- the next whole number
pub whole_suc : (n : ℕ) → whole (pos (suc n)) ≡ whole (pos n) +ℚ whole (pos 1)
whole_suc n = sym (whole-+ℚ (pos n) (pos 1) ∙ ap (λ m. whole (pos m)) (omega arith))

pub two_is : whole (pos 2) ≡ whole (pos 1) +ℚ whole (pos 1)
two_is = whole_suc 1

-- ---- pairs of parts

pub ratio-≡ : (n m : ℤ) (d e : ℕ) → 0 < d → 0 < e → (ratio n d ≡ ratio m e) ↔ (n *ℤ pos e ≡ m *ℤ pos d)
ratio-≡ n m d e pos_d pos_e =
    (λ same. let f = Order.le_means (ratio_means n d pos_d) (ratio_means m e pos_e) (Order.≤ℚ_from_≡ _ _ same) in let g = Order.le_means (ratio_means m e pos_e) (ratio_means n d pos_d) (Order.≤ℚ_from_≡ _ _ (sym same)) in omega (arith, ints), λ cross. same_by_means (ratio_means n d pos_d) (ratio_means m e pos_e) cross)

pub ratio-≤ℚ : (n m : ℤ) (d e : ℕ) → 0 < d → 0 < e → (ratio n d ≤ℚ ratio m e) ↔ ((n *ℤ pos e) ≤ℤ (m *ℤ pos d))
ratio-≤ℚ n m d e pos_d pos_e =
    (λ h. Order.le_means (ratio_means n d pos_d) (ratio_means m e pos_e) h, λ h. Order.means_le (ratio_means n d pos_d) (ratio_means m e pos_e) h)

pub ratio-one : (n : ℤ) → ratio n 1 ≡ whole n
ratio-one n = same_by_means (ratio_means n 1 (omega arith)) (means-whole n) refl

pub ratio-zero : (n : ℤ) → ratio n 0 ≡ whole (pos 0)
unfolding ratio
ratio-zero n = refl

-- a fraction that is reduced already keeps its parts
pub ratio_keeps : (n : ℤ) (d : ℕ) → IsReduced n d → ((ratio n d).numerator ≡ n) × ((ratio n d).denominator ≡ d)
unfolding number_of
ratio_keeps n d r =
    let e : ratio n d ≡ number_of n d r = ratio_itself (number_of n d r) in
    (ap (λ (v : Number). v.numerator) e, ap (λ (v : Number). v.denominator) e)

-- a pair is the quotient of its parts
pub ratio_is : (n : ℤ) (d : ℕ) → ratio n d ≡ whole n /ℚ whole (pos d)
ratio_is n zero = ratio-zero n ∙ sym (/ℚ-zero (whole n))
ratio_is n (suc d) =
    (≡-/ℚ (ratio n (suc d)) (whole n) (whole (pos (suc d))) (whole-≢-zero (suc d) (omega arith))).1
    (same_by_means (means-*ℚ (ratio_means n (suc d) (omega arith)) (means-whole (pos (suc d)))) (means-whole n) (let a = reads n in from_less (less-*ℤ (less-*ℤ a.2 (less_pos (suc d))) (less_pos 1)) (less-*ℤ a.2 (less_pos (suc d * 1))) (omega arith)))

-- both parts times one number
pub ratio-times : (n : ℤ) (d k : ℕ) → 0 < d → 0 < k → ratio (n *ℤ pos k) (d * k) ≡ ratio n d
ratio-times n d k pos_d pos_k =
    same_by_means (ratio_means (n *ℤ pos k) (d * k) (mul-pos pos_d pos_k)) (ratio_means n d pos_d) (let a = reads n in from_less (less-*ℤ (less-*ℤ a.2 (less_pos k)) (less_pos d)) (less-*ℤ a.2 (less_pos (d * k))) (omega arith))

-- ---- decimal literals

tens_above : (k : ℕ) → 0 < 10 ^ k
tens_above k = one-le-pow k 10 (omega arith)

-- the digits before and after the point
pub decimal_parts : (before after places : ℕ) → ratio (pos (before * 10 ^ places + after)) (10 ^ places) ≡ whole (pos before) +ℚ ratio (pos after) (10 ^ places)
decimal_parts before after places =
    let p = tens_above places in
    same_by_means (ratio_means (pos (before * 10 ^ places + after)) (10 ^ places) p) (means-+ℚ (means-whole (pos before)) (ratio_means (pos after) (10 ^ places) p)) (ap pos (omega arith))

-- a 0 after the last digit
pub decimal_more : (digits places : ℕ) → ratio (pos (digits * 10)) (10 ^ (places + 1)) ≡ ratio (pos digits) (10 ^ places)
decimal_more digits places =
    ap (ratio (pos (digits * 10))) (pow_more 10 places) ∙ ratio-times (pos digits) (10 ^ places) 10 (tens_above places) (omega arith)
