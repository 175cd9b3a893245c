-- Products and quotients under the order: the rules of signs.
use Rattle.std.proofs.Common.{◌≡◌, ◌≢◌, ◌↔◌, ℕ, zero, suc, ℤ, pos, negsuc, ◌*ℤ◌, ◌≤ℤ◌, ◌⊎◌, inl, inr, refl, sym, ap, ◌∙◌, subst, subst₂, arith}
use Rattle.std.proofs.lemmas.Int.{ints}
use Rattle.gq_number.specs.Number.{Number, whole, ◌-ℚ◌, ◌*ℚ◌, ◌/ℚ◌, neg_ℚ, inv_ℚ, sign_of, sign_of_ℤ}
use Rattle.gq_number.specs.Order.{◌≤ℚ◌, ◌<ℚ◌}
use Rattle.gq_number.proofs.Means.{Means, means_itself}
use Rattle.gq_number.proofs.Field.{means-*ℚ, means-whole, *ℚ_comm, /ℚ_is}
use Rattle.gq_number.proofs.Ring.{ring_ℚ, zero-*ℚ, neg_neg, neg-zero}
use Rattle.gq_number.proofs.Quotients.{zero_from_numerator, numerator-zero, *ℚ-≢-zero, *ℚ-inv, inv-zero, inv-neg, one-≢-zero, is_zero_or_not, /ℚ-*ℚ_self}
use Rattle.gq_number.proofs.Order

-- ---- the sign of a number is that of its numerator

from_numerator : (z : ℤ) (d : ℕ) → pos 0 ≤ℤ z → (pos 0 *ℤ pos d) ≤ℤ (z *ℤ pos 1)
from_numerator (pos n) d h = omega (arith, ints)
from_numerator (negsuc n) d h = absurd (omega (arith, ints))

to_numerator : (z : ℤ) (d : ℕ) → (pos 0 *ℤ pos d) ≤ℤ (z *ℤ pos 1) → pos 0 ≤ℤ z
to_numerator (pos n) d h = omega (arith, ints)
to_numerator (negsuc n) d h = absurd (omega (arith, ints))

pub zero-≤ℚ_from_numerator : {x : Number} {n : ℤ} {d : ℕ} → Means x n d → pos 0 ≤ℤ n → whole (pos 0) ≤ℚ x
zero-≤ℚ_from_numerator {x} {n} {d} m h = Order.means_le (means-whole (pos 0)) m (from_numerator n d h)

pub numerator-zero-≤ℚ : {x : Number} {n : ℤ} {d : ℕ} → Means x n d → whole (pos 0) ≤ℚ x → pos 0 ≤ℤ n
numerator-zero-≤ℚ {x} {n} {d} m h = to_numerator n d (Order.le_means (means-whole (pos 0)) m h)

product_above : (a b : ℤ) → pos 0 ≤ℤ a → pos 0 ≤ℤ b → pos 0 ≤ℤ (a *ℤ b)
product_above (pos a) (pos b) h k = omega (arith, ints)
product_above (pos a) (negsuc b) h k = absurd (omega (arith, ints))
product_above (negsuc a) b h k = absurd (omega (arith, ints))

-- ---- products

pub *ℚ-zero-≤ℚ : (x y : Number) → whole (pos 0) ≤ℚ x → whole (pos 0) ≤ℚ y → whole (pos 0) ≤ℚ x *ℚ y
*ℚ-zero-≤ℚ x y h k =
    zero-≤ℚ_from_numerator (means-*ℚ (means_itself x) (means_itself y)) (product_above x.numerator y.numerator (numerator-zero-≤ℚ (means_itself x) h) (numerator-zero-≤ℚ (means_itself y) k))

pub ≢-zero_above : (x : Number) → whole (pos 0) <ℚ x → x ≢ whole (pos 0)
≢-zero_above x h e = Order.≢_from_<ℚ (whole (pos 0)) x h (sym e)

pub ≢-zero_below : (x : Number) → x <ℚ whole (pos 0) → x ≢ whole (pos 0)
≢-zero_below x h = Order.≢_from_<ℚ x (whole (pos 0)) h

pub *ℚ-zero-<ℚ : (x y : Number) → whole (pos 0) <ℚ x → whole (pos 0) <ℚ y → whole (pos 0) <ℚ x *ℚ y
*ℚ-zero-<ℚ x y h k =
    Order.<ℚ_from_≤ℚ (whole (pos 0)) (x *ℚ y) (*ℚ-zero-≤ℚ x y (Order.≤ℚ_from_<ℚ _ x h) (Order.≤ℚ_from_<ℚ _ y k)) (λ e. *ℚ-≢-zero x y (≢-zero_above x h) (≢-zero_above y k) (sym e))

-- a factor at least 0 on both sides
pub *ℚ-≤ℚ_right : (x y z : Number) → whole (pos 0) ≤ℚ z → x ≤ℚ y → x *ℚ z ≤ℚ y *ℚ z
*ℚ-≤ℚ_right x y z pos_z h =
    Order.≤ℚ_from_gap (x *ℚ z) (y *ℚ z) (subst (λ w. whole (pos 0) ≤ℚ w) (let e : (y -ℚ x) *ℚ z ≡ y *ℚ z -ℚ x *ℚ z = simp ring_ℚ in e) (*ℚ-zero-≤ℚ (y -ℚ x) z (Order.gap_≤ℚ x y h) pos_z))

pub *ℚ-≤ℚ_left : (x y z : Number) → whole (pos 0) ≤ℚ z → x ≤ℚ y → z *ℚ x ≤ℚ z *ℚ y
*ℚ-≤ℚ_left x y z pos_z h = subst₂ (λ a b. a ≤ℚ b) (*ℚ_comm x z) (*ℚ_comm y z) (*ℚ-≤ℚ_right x y z pos_z h)

-- a factor above 0 on both sides
pub *ℚ-<ℚ_right : (x y z : Number) → whole (pos 0) <ℚ z → x <ℚ y → x *ℚ z <ℚ y *ℚ z
*ℚ-<ℚ_right x y z pos_z h =
    Order.<ℚ_from_gap (x *ℚ z) (y *ℚ z) (subst (λ w. whole (pos 0) <ℚ w) (let e : (y -ℚ x) *ℚ z ≡ y *ℚ z -ℚ x *ℚ z = simp ring_ℚ in e) (*ℚ-zero-<ℚ (y -ℚ x) z (Order.gap_<ℚ x y h) pos_z))

pub *ℚ-<ℚ_left : (x y z : Number) → whole (pos 0) <ℚ z → x <ℚ y → z *ℚ x <ℚ z *ℚ y
*ℚ-<ℚ_left x y z pos_z h = subst₂ (λ a b. a <ℚ b) (*ℚ_comm x z) (*ℚ_comm y z) (*ℚ-<ℚ_right x y z pos_z h)

-- and left out again
pub *ℚ-≤ℚ_cancel_right : (x y z : Number) → whole (pos 0) <ℚ z → x *ℚ z ≤ℚ y *ℚ z → x ≤ℚ y
*ℚ-≤ℚ_cancel_right x y z pos_z h = Order.≤ℚ_from_not_above x y (λ k. Order.not_above _ _ h (*ℚ-<ℚ_right y x z pos_z k))

pub *ℚ-<ℚ_cancel_right : (x y z : Number) → whole (pos 0) ≤ℚ z → x *ℚ z <ℚ y *ℚ z → x <ℚ y
*ℚ-<ℚ_cancel_right x y z pos_z h = Order.<ℚ_from_not_≤ℚ x y (λ k. Order.not_above _ _ (*ℚ-≤ℚ_right y x z pos_z k) h)

-- both factors grow
pub *ℚ-≤ℚ : (x y z w : Number) → whole (pos 0) ≤ℚ x → whole (pos 0) ≤ℚ z → x ≤ℚ y → z ≤ℚ w → x *ℚ z ≤ℚ y *ℚ w
*ℚ-≤ℚ x y z w above_x above_z h k =
    Order.≤ℚ_trans _ (y *ℚ z) _ (*ℚ-≤ℚ_right x y z above_z h) (*ℚ-≤ℚ_left z w y (Order.≤ℚ_trans _ x y above_x h) k)

-- ---- numbers below 0

pub neg-zero-≤ℚ : (x : Number) → x ≤ℚ whole (pos 0) → whole (pos 0) ≤ℚ neg_ℚ x
neg-zero-≤ℚ x h = subst (λ w. w ≤ℚ neg_ℚ x) neg-zero (Order.neg-≤ℚ x (whole (pos 0)) h)

pub neg-zero-<ℚ : (x : Number) → x <ℚ whole (pos 0) → whole (pos 0) <ℚ neg_ℚ x
neg-zero-<ℚ x h = subst (λ w. w <ℚ neg_ℚ x) neg-zero (Order.neg-<ℚ x (whole (pos 0)) h)

pub below_from_neg : (x : Number) → whole (pos 0) <ℚ neg_ℚ x → x <ℚ whole (pos 0)
below_from_neg x h = subst₂ (λ a b. a <ℚ b) (neg_neg x) neg-zero (Order.neg-<ℚ (whole (pos 0)) (neg_ℚ x) h)

pub at_most_from_neg : (x : Number) → whole (pos 0) ≤ℚ neg_ℚ x → x ≤ℚ whole (pos 0)
at_most_from_neg x h = subst₂ (λ a b. a ≤ℚ b) (neg_neg x) neg-zero (Order.neg-≤ℚ (whole (pos 0)) (neg_ℚ x) h)

-- a factor at most 0, and below 0, turns the order round
pub *ℚ-≤ℚ_turned : (x y z : Number) → z ≤ℚ whole (pos 0) → x ≤ℚ y → y *ℚ z ≤ℚ x *ℚ z
*ℚ-≤ℚ_turned x y z neg_z h =
    Order.≤ℚ_from_gap (y *ℚ z) (x *ℚ z) (subst (λ w. whole (pos 0) ≤ℚ w) (let e : (y -ℚ x) *ℚ neg_ℚ z ≡ x *ℚ z -ℚ y *ℚ z = simp ring_ℚ in e) (*ℚ-zero-≤ℚ (y -ℚ x) (neg_ℚ z) (Order.gap_≤ℚ x y h) (neg-zero-≤ℚ z neg_z)))

pub *ℚ-<ℚ_turned : (x y z : Number) → z <ℚ whole (pos 0) → x <ℚ y → y *ℚ z <ℚ x *ℚ z
*ℚ-<ℚ_turned x y z neg_z h =
    Order.<ℚ_from_gap (y *ℚ z) (x *ℚ z) (subst (λ w. whole (pos 0) <ℚ w) (let e : (y -ℚ x) *ℚ neg_ℚ z ≡ x *ℚ z -ℚ y *ℚ z = simp ring_ℚ in e) (*ℚ-zero-<ℚ (y -ℚ x) (neg_ℚ z) (Order.gap_<ℚ x y h) (neg-zero-<ℚ z neg_z)))

pub *ℚ-≤ℚ_turned_back : (x y z : Number) → z <ℚ whole (pos 0) → y *ℚ z ≤ℚ x *ℚ z → x ≤ℚ y
*ℚ-≤ℚ_turned_back x y z neg_z h = Order.≤ℚ_from_not_above x y (λ k. Order.not_above _ _ h (*ℚ-<ℚ_turned y x z neg_z k))

pub *ℚ-<ℚ_turned_back : (x y z : Number) → z ≤ℚ whole (pos 0) → y *ℚ z <ℚ x *ℚ z → x <ℚ y
*ℚ-<ℚ_turned_back x y z neg_z h = Order.<ℚ_from_not_≤ℚ x y (λ k. Order.not_above _ _ (*ℚ-≤ℚ_turned y x z neg_z k) h)

pub *ℚ_above-below : (x y : Number) → whole (pos 0) <ℚ x → y <ℚ whole (pos 0) → x *ℚ y <ℚ whole (pos 0)
*ℚ_above-below x y h k = subst (λ w. x *ℚ y <ℚ w) (zero-*ℚ y) (*ℚ-<ℚ_turned (whole (pos 0)) x y k h)

pub *ℚ_below-below : (x y : Number) → x <ℚ whole (pos 0) → y <ℚ whole (pos 0) → whole (pos 0) <ℚ x *ℚ y
*ℚ_below-below x y h k = subst (λ w. w <ℚ x *ℚ y) (zero-*ℚ y) (*ℚ-<ℚ_turned x (whole (pos 0)) y k h)

-- a square is at least 0
pub square-≤ℚ : (x : Number) → whole (pos 0) ≤ℚ x *ℚ x
square-≤ℚ x =
    elim (Order.≤ℚ_or_above (whole (pos 0)) x) [ inl h ↦ *ℚ-zero-≤ℚ x x h h | inr h ↦ Order.≤ℚ_from_<ℚ _ _ (*ℚ_below-below x x h h) ]

-- ---- reciprocals and quotients

pub zero-≤ℚ-one : whole (pos 0) ≤ℚ whole (pos 1)
zero-≤ℚ-one = zero-≤ℚ_from_numerator (means-whole (pos 1)) (omega (arith, ints))

pub zero-<ℚ-one : whole (pos 0) <ℚ whole (pos 1)
zero-<ℚ-one = Order.<ℚ_from_≤ℚ (whole (pos 0)) (whole (pos 1)) zero-≤ℚ-one (λ e. one-≢-zero (sym e))

pub inv-zero-<ℚ : (x : Number) → whole (pos 0) <ℚ x → whole (pos 0) <ℚ inv_ℚ x
inv-zero-<ℚ x h =
    *ℚ-<ℚ_cancel_right (whole (pos 0)) (inv_ℚ x) x (Order.≤ℚ_from_<ℚ _ x h) (subst₂ (λ a b. a <ℚ b) (sym (zero-*ℚ x)) (sym (*ℚ_comm (inv_ℚ x) x ∙ *ℚ-inv x (≢-zero_above x h))) zero-<ℚ-one)

pub inv_below : (x : Number) → x <ℚ whole (pos 0) → inv_ℚ x <ℚ whole (pos 0)
inv_below x h = below_from_neg (inv_ℚ x) (subst (λ w. whole (pos 0) <ℚ w) (inv-neg x) (inv-zero-<ℚ (neg_ℚ x) (neg-zero-<ℚ x h)))

pub inv-zero-≤ℚ : (x : Number) → whole (pos 0) ≤ℚ x → whole (pos 0) ≤ℚ inv_ℚ x
inv-zero-≤ℚ x h =
    elim (is_zero_or_not x) [
      | inl none ↦ Order.≤ℚ_from_≡ _ _ (sym (ap inv_ℚ none ∙ inv-zero))
      | inr some ↦ Order.≤ℚ_from_<ℚ _ _ (inv-zero-<ℚ x (Order.<ℚ_from_≤ℚ _ x h (λ e. some (sym e))))
    ]

-- a quotient on one side of an order, the divisor above 0
pub /ℚ-≤ℚ : (x y z : Number) → whole (pos 0) <ℚ y → (x /ℚ y ≤ℚ z) ↔ (x ≤ℚ z *ℚ y)
/ℚ-≤ℚ x y z h =
    (λ k. subst (λ a. a ≤ℚ z *ℚ y) (/ℚ-*ℚ_self x y (≢-zero_above y h)) (*ℚ-≤ℚ_right (x /ℚ y) z y (Order.≤ℚ_from_<ℚ _ y h) k), λ k. *ℚ-≤ℚ_cancel_right (x /ℚ y) z y h (subst (λ a. a ≤ℚ z *ℚ y) (sym (/ℚ-*ℚ_self x y (≢-zero_above y h))) k))

pub ≤ℚ-/ℚ : (x y z : Number) → whole (pos 0) <ℚ z → (x ≤ℚ y /ℚ z) ↔ (x *ℚ z ≤ℚ y)
≤ℚ-/ℚ x y z h =
    (λ k. subst (λ a. x *ℚ z ≤ℚ a) (/ℚ-*ℚ_self y z (≢-zero_above z h)) (*ℚ-≤ℚ_right x (y /ℚ z) z (Order.≤ℚ_from_<ℚ _ z h) k), λ k. *ℚ-≤ℚ_cancel_right x (y /ℚ z) z h (subst (λ a. x *ℚ z ≤ℚ a) (sym (/ℚ-*ℚ_self y z (≢-zero_above z h))) k))

pub /ℚ-<ℚ : (x y z : Number) → whole (pos 0) <ℚ y → (x /ℚ y <ℚ z) ↔ (x <ℚ z *ℚ y)
/ℚ-<ℚ x y z h =
    (λ k. subst (λ a. a <ℚ z *ℚ y) (/ℚ-*ℚ_self x y (≢-zero_above y h)) (*ℚ-<ℚ_right (x /ℚ y) z y h k), λ k. *ℚ-<ℚ_cancel_right (x /ℚ y) z y (Order.≤ℚ_from_<ℚ _ y h) (subst (λ a. a <ℚ z *ℚ y) (sym (/ℚ-*ℚ_self x y (≢-zero_above y h))) k))

pub <ℚ-/ℚ : (x y z : Number) → whole (pos 0) <ℚ z → (x <ℚ y /ℚ z) ↔ (x *ℚ z <ℚ y)
<ℚ-/ℚ x y z h =
    (λ k. subst (λ a. x *ℚ z <ℚ a) (/ℚ-*ℚ_self y z (≢-zero_above z h)) (*ℚ-<ℚ_right x (y /ℚ z) z h k), λ k. *ℚ-<ℚ_cancel_right x (y /ℚ z) z (Order.≤ℚ_from_<ℚ _ z h) (subst (λ a. x *ℚ z <ℚ a) (sym (/ℚ-*ℚ_self y z (≢-zero_above z h))) k))

pub /ℚ-zero-<ℚ : (x y : Number) → whole (pos 0) <ℚ x → whole (pos 0) <ℚ y → whole (pos 0) <ℚ x /ℚ y
/ℚ-zero-<ℚ x y h k = subst (λ w. whole (pos 0) <ℚ w) (sym (/ℚ_is x y)) (*ℚ-zero-<ℚ x (inv_ℚ y) h (inv-zero-<ℚ y k))

pub /ℚ-zero-≤ℚ : (x y : Number) → whole (pos 0) ≤ℚ x → whole (pos 0) ≤ℚ y → whole (pos 0) ≤ℚ x /ℚ y
/ℚ-zero-≤ℚ x y h k = subst (λ w. whole (pos 0) ≤ℚ w) (sym (/ℚ_is x y)) (*ℚ-zero-≤ℚ x (inv_ℚ y) h (inv-zero-≤ℚ y k))

pub /ℚ_above-below : (x y : Number) → whole (pos 0) <ℚ x → y <ℚ whole (pos 0) → x /ℚ y <ℚ whole (pos 0)
/ℚ_above-below x y h k = subst (λ w. w <ℚ whole (pos 0)) (sym (/ℚ_is x y)) (*ℚ_above-below x (inv_ℚ y) h (inv_below y k))

pub /ℚ_below-below : (x y : Number) → x <ℚ whole (pos 0) → y <ℚ whole (pos 0) → whole (pos 0) <ℚ x /ℚ y
/ℚ_below-below x y h k = subst (λ w. whole (pos 0) <ℚ w) (sym (/ℚ_is x y)) (*ℚ_below-below x (inv_ℚ y) h (inv_below y k))

-- ---- the sign

sign_cases : (n : ℤ) → ((sign_of_ℤ n ≡ pos 1) × (pos 0 ≤ℤ n) × (n ≢ pos 0)) ⊎ ((n ≡ pos 0) ⊎ ((sign_of_ℤ n ≡ negsuc 0) × ¬ (pos 0 ≤ℤ n)))
sign_cases (pos zero) = inr (inl refl)
sign_cases (pos (suc n)) = inl (refl, omega (arith, ints), λ e. cc)
sign_cases (negsuc n) = inr (inr (refl, omega (arith, ints)))

-- which of the three a number is, and its sign
pub sign_is : (x : Number) → ((sign_of x ≡ pos 1) × (whole (pos 0) <ℚ x)) ⊎ (((sign_of x ≡ pos 0) × (x ≡ whole (pos 0))) ⊎ ((sign_of x ≡ negsuc 0) × (x <ℚ whole (pos 0))))
unfolding sign_of
sign_is x =
    elim (sign_cases x.numerator) [
      | inl h ↦ inl (h.0, Order.<ℚ_from_≤ℚ (whole (pos 0)) x (zero-≤ℚ_from_numerator (means_itself x) h.1) (λ e. h.2 (numerator-zero x (sym e))))
      | inr (inl e) ↦ inr (inl (ap sign_of_ℤ e, zero_from_numerator x e))
      | inr (inr h) ↦ inr (inr (h.0, Order.<ℚ_from_not_≤ℚ x (whole (pos 0)) (λ k. h.1 (numerator-zero-≤ℚ (means_itself x) k))))
    ]

pub sign-above : (x : Number) → (sign_of x ≡ pos 1) ↔ (whole (pos 0) <ℚ x)
sign-above x =
    elim (sign_is x) [
      | inl h ↦ (λ _. h.1, λ _. h.0)
      | inr (inl h) ↦ (λ e. absurd (let f : pos 1 ≡ pos 0 = sym e ∙ h.0 in cc), λ k. absurd (≢-zero_above x k h.1))
      | inr (inr h) ↦ (λ e. absurd (let f : pos 1 ≡ negsuc 0 = sym e ∙ h.0 in cc), λ k. absurd (Order.<ℚ_irrefl x (Order.<ℚ_trans x _ x h.1 k)))
    ]

pub sign-below : (x : Number) → (sign_of x ≡ negsuc 0) ↔ (x <ℚ whole (pos 0))
sign-below x =
    elim (sign_is x) [
      | inl h ↦ (λ e. absurd (let f : negsuc 0 ≡ pos 1 = sym e ∙ h.0 in cc), λ k. absurd (Order.<ℚ_irrefl x (Order.<ℚ_trans x _ x k h.1)))
      | inr (inl h) ↦ (λ e. absurd (let f : negsuc 0 ≡ pos 0 = sym e ∙ h.0 in cc), λ k. absurd (≢-zero_below x k h.1))
      | inr (inr h) ↦ (λ _. h.1, λ _. h.0)
    ]

pub sign-zero : (x : Number) → (sign_of x ≡ pos 0) ↔ (x ≡ whole (pos 0))
sign-zero x =
    elim (sign_is x) [
      | inl h ↦ (λ e. absurd (let f : pos 0 ≡ pos 1 = sym e ∙ h.0 in cc), λ k. absurd (≢-zero_above x h.1 k))
      | inr (inl h) ↦ (λ _. h.1, λ _. h.0)
      | inr (inr h) ↦ (λ e. absurd (let f : pos 0 ≡ negsuc 0 = sym e ∙ h.0 in cc), λ k. absurd (≢-zero_below x h.1 k))
    ]
