-- Truncation, floor, ceiling and rounding as the whole numbers that they state.
use Rattle.std.proofs.Common.{◌≡◌, ◌↔◌, ℕ, zero, suc, ◌+◌, ◌*◌, ◌/◌, ◌%◌, ◌<◌, ℤ, pos, negsuc, ◌+ℤ◌, ◌*ℤ◌, neg_ℤ, ◌≤ℤ◌, ◌<ℤ◌, refl, sym, ap, ◌∙◌, subst, subst₂, arith, inl, inr, div-add-mod', mod-lt, zero-mul}
use Rattle.std.proofs.lemmas.Int.{ints}
use Rattle.std.proofs.Math.Nat.{div-eq_of_lt, zero-div}
use Rattle.gq_number.specs.Number.{Number, whole, ratio, ◌+ℚ◌, ◌-ℚ◌, neg_ℚ, floor_of, ceiling_of, truncated, rounded, quotient_down, quotient_towards_zero, quotient_to_nearest}
use Rattle.gq_number.specs.Order.{◌≤ℚ◌, ◌<ℚ◌, abs_ℚ}
use Rattle.gq_number.proofs.Whole.{less_pos, less_negsuc, less-+ℤ, less-*ℤ}
use Rattle.gq_number.proofs.Means.{means_itself, ratio_means, same_by_means}
use Rattle.gq_number.proofs.Field.{means-+ℚ, means-whole}
use Rattle.gq_number.proofs.Ring.{ring_ℚ, neg_neg}
use Rattle.gq_number.proofs.Naming.{times_one, whole-+ℚ, neg-whole, whole-≤ℚ, whole-<ℚ}
use Rattle.gq_number.proofs.Signs.{numerator-zero-≤ℚ, neg-zero-≤ℚ, zero-<ℚ-one}
use Rattle.gq_number.proofs.Linear.{≤ℚ_from, <ℚ_from}
use Rattle.gq_number.proofs.Compares.{abs-≤ℚ}
use Rattle.gq_number.proofs.Order

-- ---- floor

down_low : (n : ℤ) (d : ℕ) → 0 < d → (quotient_down n d *ℤ pos d) ≤ℤ (n *ℤ pos 1)
down_low (pos n) d h =
    let e = div-add-mod' n d in Order.le_in (less_pos (n / d * d)) (less_pos (n * 1)) (omega arith)
down_low (negsuc k) d h =
    let e = div-add-mod' k d in let l : k % d < d = mod-lt k h in
    Order.le_in (less-*ℤ (less_negsuc (k / d)) (less_pos d)) (less-*ℤ (less_negsuc k) (less_pos 1)) (omega arith)

down_high : (n : ℤ) (d : ℕ) → 0 < d → (n *ℤ pos 1) <ℤ ((quotient_down n d +ℤ pos 1) *ℤ pos d)
down_high (pos n) d h =
    let e = div-add-mod' n d in let l : n % d < d = mod-lt n h in
    Order.lt_in (less-*ℤ (less_pos n) (less_pos 1)) (less-*ℤ (less-+ℤ (less_pos (n / d)) (less_pos 1)) (less_pos d)) (omega arith)
down_high (negsuc k) d h =
    let e = div-add-mod' k d in
    Order.lt_in (less-*ℤ (less_negsuc k) (less_pos 1)) (less-*ℤ (less-+ℤ (less_negsuc (k / d)) (less_pos 1)) (less_pos d)) (omega arith)

next : (n : ℤ) → whole (n +ℤ pos 1) ≡ whole n +ℚ whole (pos 1)
next n = sym (whole-+ℚ n (pos 1))

pub floor-≤ℚ : (x : Number) → whole (floor_of x) ≤ℚ x
unfolding floor_of
floor-≤ℚ x =
    Order.means_le (means-whole (quotient_down x.numerator x.denominator)) (means_itself x) (down_low x.numerator x.denominator x.reduced.positive)

pub <ℚ-floor : (x : Number) → x <ℚ whole (floor_of x) +ℚ whole (pos 1)
unfolding floor_of
<ℚ-floor x =
    subst (λ w. x <ℚ w) (next (quotient_down x.numerator x.denominator))
    (Order.means_lt (means_itself x) (means-whole (quotient_down x.numerator x.denominator +ℤ pos 1)) (down_high x.numerator x.denominator x.reduced.positive))

near : (n m : ℤ) (x : Number) → whole n ≤ℚ x → x <ℚ whole m +ℚ whole (pos 1) → n ≤ℤ m
near n m x h k =
    let l = (whole-<ℚ n (m +ℤ pos 1)).0 (Order.≤ℚ-<ℚ_trans (whole n) x (whole (m +ℤ pos 1)) h (subst (λ w. x <ℚ w) (sym (next m)) k)) in omega (arith, ints)

-- the floor is the greatest whole number that is at most x
pub floor_greatest : (n : ℤ) (x : Number) → (whole n ≤ℚ x) ↔ (n ≤ℤ floor_of x)
floor_greatest n x =
    (λ h. near n (floor_of x) x h (<ℚ-floor x), λ h. Order.≤ℚ_trans (whole n) (whole (floor_of x)) x ((whole-≤ℚ n (floor_of x)).1 h) (floor-≤ℚ x))

-- and is known by its bounds
pub floor_unique : (n : ℤ) (x : Number) → whole n ≤ℚ x → x <ℚ whole n +ℚ whole (pos 1) → floor_of x ≡ n
floor_unique n x h k =
    let low = near n (floor_of x) x h (<ℚ-floor x) in let high = near (floor_of x) n x (floor-≤ℚ x) k in omega (arith, ints)

after_one : (x : Number) → x <ℚ x +ℚ whole (pos 1)
after_one x = <ℚ_from zero-<ℚ-one (simp ring_ℚ)

pub floor-whole : (n : ℤ) → floor_of (whole n) ≡ n
floor-whole n = floor_unique n (whole n) (Order.≤ℚ_refl (whole n)) (after_one (whole n))

-- ---- ceiling

whole-ceiling : (x : Number) → whole (ceiling_of x) ≡ neg_ℚ (whole (floor_of (neg_ℚ x)))
unfolding ceiling_of
whole-ceiling x = sym (neg-whole (floor_of (neg_ℚ x)))

pub ≤ℚ-ceiling : (x : Number) → x ≤ℚ whole (ceiling_of x)
≤ℚ-ceiling x = subst (λ w. x ≤ℚ w) (sym (whole-ceiling x)) (≤ℚ_from (floor-≤ℚ (neg_ℚ x)) (simp ring_ℚ))

pub ceiling-<ℚ : (x : Number) → whole (ceiling_of x) <ℚ x +ℚ whole (pos 1)
ceiling-<ℚ x = subst (λ w. w <ℚ x +ℚ whole (pos 1)) (sym (whole-ceiling x)) (<ℚ_from (<ℚ-floor (neg_ℚ x)) (simp ring_ℚ))

pub ceiling_unique : (n : ℤ) (x : Number) → x ≤ℚ whole n → whole n <ℚ x +ℚ whole (pos 1) → ceiling_of x ≡ n
ceiling_unique n x h k =
    let low = near n (ceiling_of x) (whole n) (Order.≤ℚ_refl (whole n)) (Order.<ℚ-≤ℚ_trans (whole n) (x +ℚ whole (pos 1)) _ k (Order.+ℚ-≤ℚ_right x (whole (ceiling_of x)) (whole (pos 1)) (≤ℚ-ceiling x))) in
    let high = near (ceiling_of x) n (whole (ceiling_of x)) (Order.≤ℚ_refl _) (Order.<ℚ-≤ℚ_trans (whole (ceiling_of x)) (x +ℚ whole (pos 1)) _ (ceiling-<ℚ x) (Order.+ℚ-≤ℚ_right x (whole n) (whole (pos 1)) h)) in
    omega (arith, ints)

-- the ceiling is the least whole number that is at least x
pub ceiling_least : (n : ℤ) (x : Number) → (x ≤ℚ whole n) ↔ (ceiling_of x ≤ℤ n)
ceiling_least n x =
    (λ h. near (ceiling_of x) n (whole (ceiling_of x)) (Order.≤ℚ_refl _) (Order.<ℚ-≤ℚ_trans (whole (ceiling_of x)) (x +ℚ whole (pos 1)) _ (ceiling-<ℚ x) (Order.+ℚ-≤ℚ_right x (whole n) (whole (pos 1)) h)), λ h. Order.≤ℚ_trans x (whole (ceiling_of x)) (whole n) (≤ℚ-ceiling x) ((whole-≤ℚ (ceiling_of x) n).1 h))

pub ceiling-whole : (n : ℤ) → ceiling_of (whole n) ≡ n
ceiling-whole n = ceiling_unique n (whole n) (Order.≤ℚ_refl (whole n)) (after_one (whole n))

-- ---- truncation

towards_down : (n : ℤ) (d : ℕ) → pos 0 ≤ℤ n → quotient_towards_zero n d ≡ quotient_down n d
towards_down (pos n) d h = refl
towards_down (negsuc n) d h = absurd (omega (arith, ints))

towards_up : (n : ℤ) (d : ℕ) → n ≤ℤ pos 0 → quotient_towards_zero n d ≡ neg_ℤ (quotient_down (neg_ℤ n) d)
towards_up (pos zero) d h = rw zero-div
towards_up (pos (suc n)) d h = absurd (omega (arith, ints))
towards_up (negsuc n) d h = refl

numerator_below : (x : Number) → x ≤ℚ whole (pos 0) → x.numerator ≤ℤ pos 0
numerator_below x h = let l = Order.le_means (means_itself x) (means-whole (pos 0)) h in below (x.numerator) x.denominator l
  where
    below : (n : ℤ) (d : ℕ) → (n *ℤ pos 1) ≤ℤ (pos 0 *ℤ pos d) → n ≤ℤ pos 0
    below n d l = subst₂ (λ a b. a ≤ℤ b) (times_one n) (ap pos (zero-mul d)) l

pub truncated_above : (x : Number) → whole (pos 0) ≤ℚ x → truncated x ≡ floor_of x
unfolding truncated floor_of
truncated_above x h = towards_down x.numerator x.denominator (numerator-zero-≤ℚ (means_itself x) h)

pub truncated_below : (x : Number) → x ≤ℚ whole (pos 0) → truncated x ≡ ceiling_of x
unfolding truncated ceiling_of floor_of neg_ℚ
truncated_below x h = towards_up x.numerator x.denominator (numerator_below x h)

-- ---- rounding

pub half_twice : ratio (pos 1) 2 +ℚ ratio (pos 1) 2 ≡ whole (pos 1)
half_twice =
    same_by_means (means-+ℚ (ratio_means (pos 1) 2 (omega arith)) (ratio_means (pos 1) 2 (omega arith))) (means-whole (pos 1)) refl

pub half_above : whole (pos 0) <ℚ ratio (pos 1) 2
half_above = Order.means_lt (means-whole (pos 0)) (ratio_means (pos 1) 2 (omega arith)) (omega (arith, ints))

nearest_low : (n : ℤ) (d : ℕ) → 0 < d → pos 0 ≤ℤ n → (quotient_to_nearest n d *ℤ pos (d * 2)) ≤ℤ ((n *ℤ pos 2 +ℤ pos 1 *ℤ pos d) *ℤ pos 1)
nearest_low (pos n) d pos_d h =
    let e = div-add-mod' (2 * n + d) (2 * d) in
    Order.le_in (less-*ℤ (less_pos ((2 * n + d) / (2 * d))) (less_pos (d * 2))) (less-*ℤ (less-+ℤ (less-*ℤ (less_pos n) (less_pos 2)) (less-*ℤ (less_pos 1) (less_pos d))) (less_pos 1)) (omega arith)
nearest_low (negsuc n) d pos_d h = absurd (omega (arith, ints))

nearest_high : (n : ℤ) (d : ℕ) → 0 < d → pos 0 ≤ℤ n → ((n *ℤ pos 2 +ℤ pos 1 *ℤ pos d) *ℤ pos 1) <ℤ ((quotient_to_nearest n d +ℤ pos 1) *ℤ pos (d * 2))
nearest_high (pos n) d pos_d h =
    let e = div-add-mod' (2 * n + d) (2 * d) in let l : (2 * n + d) % (2 * d) < 2 * d = mod-lt (2 * n + d) (omega arith) in
    Order.lt_in (less-*ℤ (less-+ℤ (less-*ℤ (less_pos n) (less_pos 2)) (less-*ℤ (less_pos 1) (less_pos d))) (less_pos 1)) (less-*ℤ (less-+ℤ (less_pos ((2 * n + d) / (2 * d))) (less_pos 1)) (less_pos (d * 2))) (omega arith)
nearest_high (negsuc n) d pos_d h = absurd (omega (arith, ints))

nearest_neg : (n : ℤ) (d : ℕ) → 0 < d → quotient_to_nearest (neg_ℤ n) d ≡ neg_ℤ (quotient_to_nearest n d)
nearest_neg (pos zero) d h = let e : (2 * 0 + d) / (2 * d) ≡ 0 = div-eq_of_lt (omega arith) in rw e refl
nearest_neg (pos (suc n)) d h = refl
nearest_neg (negsuc n) d h = let e = negated_twice (pos ((2 * suc n + d) / (2 * d))) in sym e
  where
    negated_twice : (z : ℤ) → neg_ℤ (neg_ℤ z) ≡ z
    negated_twice z = omega (arith, ints)

pub rounded-neg : (x : Number) → rounded (neg_ℚ x) ≡ neg_ℤ (rounded x)
unfolding rounded neg_ℚ
rounded-neg x = nearest_neg x.numerator x.denominator x.reduced.positive

-- from 0 on: one half more, rounded down
pub rounded_above : (x : Number) → whole (pos 0) ≤ℚ x → rounded x ≡ floor_of (x +ℚ ratio (pos 1) 2)
unfolding rounded
rounded_above x h =
    let sum = means-+ℚ (means_itself x) (ratio_means (pos 1) 2 (omega arith)) in
    let sign = numerator-zero-≤ℚ (means_itself x) h in
    sym (floor_unique (quotient_to_nearest x.numerator x.denominator) (x +ℚ ratio (pos 1) 2) (Order.means_le (means-whole _) sum (nearest_low x.numerator x.denominator x.reduced.positive sign)) (subst (λ w. x +ℚ ratio (pos 1) 2 <ℚ w) (next _) (Order.means_lt sum (means-whole _) (nearest_high x.numerator x.denominator x.reduced.positive sign))))

-- up to 0: one half less, rounded up
pub rounded_below : (x : Number) → x ≤ℚ whole (pos 0) → rounded x ≡ ceiling_of (x -ℚ ratio (pos 1) 2)
unfolding ceiling_of
rounded_below x h =
    ap rounded (sym (neg_neg x)) ∙ rounded-neg (neg_ℚ x) ∙ ap neg_ℤ (rounded_above (neg_ℚ x) (neg-zero-≤ℚ x h)) ∙ ap (λ w. neg_ℤ (floor_of w)) (simp ring_ℚ)

-- the number is within one half of what it is rounded to
pub rounded_near : (x : Number) → abs_ℚ (x -ℚ whole (rounded x)) ≤ℚ ratio (pos 1) 2
rounded_near x =
    elim (Order.≤ℚ_or_above (whole (pos 0)) x) [
      | inl h ↦ let e = rounded_above x h in
          abs-≤ℚ (x -ℚ whole (rounded x)) (ratio (pos 1) 2)
          (≤ℚ_from (Order.≤ℚ_from_<ℚ _ _ (subst (λ n. x +ℚ ratio (pos 1) 2 <ℚ whole n +ℚ whole (pos 1)) (sym e) (<ℚ-floor (x +ℚ ratio (pos 1) 2)))) (simp (← half_twice, ring_ℚ)))
          (≤ℚ_from (subst (λ n. whole n ≤ℚ x +ℚ ratio (pos 1) 2) (sym e) (floor-≤ℚ (x +ℚ ratio (pos 1) 2))) (simp ring_ℚ))
      | inr k ↦ let e = rounded_below x (Order.≤ℚ_from_<ℚ x (whole (pos 0)) k) in
          abs-≤ℚ (x -ℚ whole (rounded x)) (ratio (pos 1) 2)
          (≤ℚ_from (subst (λ n. x -ℚ ratio (pos 1) 2 ≤ℚ whole n) (sym e) (≤ℚ-ceiling (x -ℚ ratio (pos 1) 2))) (simp ring_ℚ))
          (≤ℚ_from (Order.≤ℚ_from_<ℚ _ _ (subst (λ n. whole n <ℚ x -ℚ ratio (pos 1) 2 +ℚ whole (pos 1)) (sym e) (ceiling-<ℚ (x -ℚ ratio (pos 1) 2)))) (simp (← half_twice, ring_ℚ)))
    ]

pub rounded-whole : (n : ℤ) → rounded (whole n) ≡ n
rounded-whole n =
    elim (Order.≤ℚ_total (whole (pos 0)) (whole n)) [
      | inl h ↦ rounded_above (whole n) h ∙ floor_unique n _ (≤ℚ_from (Order.≤ℚ_from_<ℚ _ _ half_above) (simp ring_ℚ)) (<ℚ_from half_above (simp (← half_twice, ring_ℚ)))
      | inr h ↦ rounded_below (whole n) h ∙ ceiling_unique n _ (≤ℚ_from (Order.≤ℚ_from_<ℚ _ _ half_above) (simp ring_ℚ)) (<ℚ_from half_above (simp (← half_twice, ring_ℚ)))
    ]

pub truncated-whole : (n : ℤ) → truncated (whole n) ≡ n
truncated-whole n =
    elim (Order.≤ℚ_total (whole (pos 0)) (whole n)) [ inl h ↦ truncated_above (whole n) h ∙ floor-whole n | inr h ↦ truncated_below (whole n) h ∙ ceiling-whole n ]
