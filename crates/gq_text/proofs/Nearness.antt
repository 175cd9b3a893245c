-- The rounded text is the nearest of its form, and the shortest digits of a number determine it.
use Rattle.std.proofs.Common.{◌≡◌, ◌≢◌, ℕ, suc, ◌*◌, ◌%◌, ◌^◌, List, sym, ap, ◌∙◌, subst, subst₂, arith, inl, inr, ℤ, pos, negsuc}
use Rattle.gq_number.specs.Number.{Number, whole, ratio, ◌+ℚ◌, ◌-ℚ◌, ◌*ℚ◌, ◌/ℚ◌, neg_ℚ, rounded}
use Rattle.gq_number.specs.Order.{◌≤ℚ◌, ◌<ℚ◌, abs_ℚ}
use Rattle.gq_number.proofs.Naming.{ratio_is, ratio-one, whole_above, whole-≢-zero}
use Rattle.gq_number.proofs.Ring.{ring_ℚ}
use Rattle.gq_number.proofs.Quotients.{field_ℚ}
use Rattle.gq_number.proofs.Linear.{≤ℚ_from, <ℚ_from}
use Rattle.gq_number.proofs.Signs.{≤ℚ-/ℚ, <ℚ-/ℚ}
use Rattle.gq_number.proofs.Compares.{abs_within, abs-≤ℚ, ≤ℚ-abs, neg-≤ℚ-abs}
use Rattle.gq_number.proofs.Rounding.{rounded_near, rounded_above, rounded_below, floor_unique, ceiling_unique, half_twice}
use Rattle.gq_number.proofs.Order
use Rattle.gq_text.specs.Decimal.{scaled_by_ten, MeansSigned}
use Rattle.gq_text.specs.Shown.{IsFixedSigned, IsRoundedText}
use Rattle.gq_text.proofs.Literals.{tens_above, nat_cross, same_shortest, ends_in_zero}
use Rattle.gq_text.proofs.Combined.{times_tens, over_tens}
use Rattle.gq_text.proofs.Texts.{fixed_reads}
use Rattle.gq_text.proofs.Slashes.{one_signed}

-- ---- within half a unit

-- half a unit of the last place
half_unit : (d : ℕ) → ratio (pos 1) (2 * 10 ^ d) ≡ ratio (pos 1) 2 /ℚ whole (pos (10 ^ d))
half_unit d = sym (over_tens 1 2 d (omega arith))

-- differences in units are differences times the unit
times_back : (x k t : Number) → t ≢ whole (pos 0) → (x -ℚ k /ℚ t) *ℚ t ≡ x *ℚ t -ℚ k
times_back x k t some = simp field_ℚ

neg_times_back : (x k t : Number) → t ≢ whole (pos 0) → neg_ℚ (x -ℚ k /ℚ t) *ℚ t ≡ neg_ℚ (x *ℚ t -ℚ k)
neg_times_back x k t some = simp field_ℚ

pub near : (d : ℕ) (x : Number) → abs_ℚ (x -ℚ ratio (rounded (x *ℚ whole (pos (10 ^ d)))) (10 ^ d)) ≤ℚ ratio (pos 1) (2 * 10 ^ d)
near d x =
    let t = whole (pos (10 ^ d)) in
    let above : whole (pos 0) <ℚ t = whole_above (10 ^ d) (tens_above d) in
    let some : t ≢ whole (pos 0) = whole-≢-zero (10 ^ d) (tens_above d) in
    let k = whole (rounded (x *ℚ t)) in
    let within = (abs_within (x *ℚ t -ℚ k) (ratio (pos 1) 2)).0 (rounded_near (x *ℚ t)) in
    let low : neg_ℚ (x *ℚ t -ℚ k) ≤ℚ ratio (pos 1) 2 = ≤ℚ_from within.0 (simp ring_ℚ) in
    subst₂ (λ y h. abs_ℚ (x -ℚ y) ≤ℚ h) (sym (ratio_is (rounded (x *ℚ t)) (10 ^ d))) (sym (half_unit d))
    (abs-≤ℚ (x -ℚ k /ℚ t) (ratio (pos 1) 2 /ℚ t)
    ((≤ℚ-/ℚ (x -ℚ k /ℚ t) (ratio (pos 1) 2) t above).1 (subst (λ z. z ≤ℚ ratio (pos 1) 2) (sym (times_back x k t some)) within.1))
    ((≤ℚ-/ℚ (neg_ℚ (x -ℚ k /ℚ t)) (ratio (pos 1) 2) t above).1 (subst (λ z. z ≤ℚ ratio (pos 1) 2) (sym (neg_times_back x k t some)) low)))

-- a whole number less than one half away is what a number is rounded to
nearest_is : (y : Number) (k : ℤ) → y -ℚ whole k <ℚ ratio (pos 1) 2 → neg_ℚ (y -ℚ whole k) <ℚ ratio (pos 1) 2 → rounded y ≡ k
nearest_is y k high low =
    elim (Order.≤ℚ_total (whole (pos 0)) y) [
      | inl up ↦ rounded_above y up ∙ floor_unique k (y +ℚ ratio (pos 1) 2) (≤ℚ_from (Order.≤ℚ_from_<ℚ _ _ low) (simp ring_ℚ)) (<ℚ_from high (simp (← half_twice, ring_ℚ)))
      | inr down ↦ rounded_below y down ∙ ceiling_unique k (y -ℚ ratio (pos 1) 2) (≤ℚ_from (Order.≤ℚ_from_<ℚ _ _ high) (simp ring_ℚ)) (<ℚ_from low (simp (← half_twice, ring_ℚ)))
    ]

pub only : (d : ℕ) (x : Number) (k : ℤ) → abs_ℚ (x -ℚ ratio k (10 ^ d)) <ℚ ratio (pos 1) (2 * 10 ^ d) → rounded (x *ℚ whole (pos (10 ^ d))) ≡ k
only d x k h =
    let t = whole (pos (10 ^ d)) in
    let above : whole (pos 0) <ℚ t = whole_above (10 ^ d) (tens_above d) in
    let some : t ≢ whole (pos 0) = whole-≢-zero (10 ^ d) (tens_above d) in
    let z = x -ℚ whole k /ℚ t in
    let near : abs_ℚ z <ℚ ratio (pos 1) 2 /ℚ t = subst₂ (λ y u. abs_ℚ (x -ℚ y) <ℚ u) (ratio_is k (10 ^ d)) (half_unit d) h in
    let high : z <ℚ ratio (pos 1) 2 /ℚ t = Order.≤ℚ-<ℚ_trans z (abs_ℚ z) _ (≤ℚ-abs z) near in
    let low : neg_ℚ z <ℚ ratio (pos 1) 2 /ℚ t = Order.≤ℚ-<ℚ_trans (neg_ℚ z) (abs_ℚ z) _ (neg-≤ℚ-abs z) near in
    nearest_is (x *ℚ t) k
    (subst (λ w. w <ℚ ratio (pos 1) 2) (times_back x (whole k) t some) ((<ℚ-/ℚ z (ratio (pos 1) 2) t above).0 high))
    (subst (λ w. w <ℚ ratio (pos 1) 2) (neg_times_back x (whole k) t some) ((<ℚ-/ℚ (neg_ℚ z) (ratio (pos 1) 2) t above).0 low))

pub rounded_near' : (d : ℕ) (x : Number) (text : List ℕ) → IsRoundedText d x text → (y : Number) × MeansSigned text y × (abs_ℚ (x -ℚ y) ≤ℚ ratio (pos 1) (2 * 10 ^ d))
rounded_near' d x text h = (ratio (rounded (x *ℚ whole (pos (10 ^ d)))) (10 ^ d), fixed_reads d _ text h, near d x)

pub rounded_only : (d : ℕ) (x y : Number) (n : ℤ) (text : List ℕ) → IsFixedSigned d n text → MeansSigned text y → abs_ℚ (x -ℚ y) <ℚ ratio (pos 1) (2 * 10 ^ d) → IsRoundedText d x text
rounded_only d x y n text f m h =
    let same : y ≡ ratio n (10 ^ d) = one_signed text y _ m (fixed_reads d n text f) in
    let k = only d x n (subst (λ y. abs_ℚ (x -ℚ y) <ℚ ratio (pos 1) (2 * 10 ^ d)) same h) in
    subst (λ k. IsFixedSigned d k text) (sym k) f

-- ---- shortest digits

-- digits times ten to a power, as a fraction
scaled_up : (m k : ℕ) → scaled_by_ten (whole (pos m)) (pos k) ≡ ratio (pos (m * 10 ^ k)) 1
scaled_up m k = ap (λ x. x *ℚ whole (pos (10 ^ k))) (sym (ratio-one (pos m))) ∙ times_tens m 1 k (omega arith)

scaled_down : (m k : ℕ) → scaled_by_ten (whole (pos m)) (negsuc k) ≡ ratio (pos m) (10 ^ suc k)
scaled_down m k = sym (ratio_is (pos m) (10 ^ suc k))

pub one_power : (m n : ℕ) (e f : ℤ) → m % 10 ≢ 0 → n % 10 ≢ 0 → scaled_by_ten (whole (pos m)) e ≡ scaled_by_ten (whole (pos n)) f → (m ≡ n) × (e ≡ f)
one_power m n (pos i) (pos j) h k e =
    let cross = nat_cross (m * 10 ^ i) 1 (n * 10 ^ j) 1 (omega arith) (omega arith) (sym (scaled_up m i) ∙ e ∙ scaled_up n j) in
    let same = same_shortest m n i j h k (omega arith) in (same.0, ap pos same.1)
one_power m n (pos i) (negsuc j) h k e =
    let cross = nat_cross (m * 10 ^ i) 1 n (10 ^ suc j) (omega arith) (tens_above (suc j)) (sym (scaled_up m i) ∙ e ∙ scaled_down n j) in
    absurd (k (ends_in_zero n (m * 10 ^ i) j (omega arith)))
one_power m n (negsuc i) (pos j) h k e =
    let cross = nat_cross m (10 ^ suc i) (n * 10 ^ j) 1 (tens_above (suc i)) (omega arith) (sym (scaled_down m i) ∙ e ∙ scaled_up n j) in
    absurd (h (ends_in_zero m (n * 10 ^ j) i (omega arith)))
one_power m n (negsuc i) (negsuc j) h k e =
    let cross = nat_cross m (10 ^ suc i) n (10 ^ suc j) (tens_above (suc i)) (tens_above (suc j)) (sym (scaled_down m i) ∙ e ∙ scaled_down n j) in
    let same = same_shortest m n (suc j) (suc i) h k cross in
    (same.0, let f : i ≡ j = omega arith in ap negsuc f)
