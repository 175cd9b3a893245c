-- The comparison decides the order; the lesser and the greater of two numbers, and the magnitude.
use Rattle.std.proofs.Common.{◌≡◌, ◌↔◌, pos, ◌*ℤ◌, ◌⊎◌, inl, inr, refl, sym, ap, ◌∙◌, subst, Ordering, Less, Equal, Greater}
use Rattle.std.specs.Ordering.{MatchOrdering, ordering_reverse}
use Rattle.std.specs.Cmp.{int_ranks, IsTotalOrder}
use Rattle.gq_number.specs.Number.{Number, whole, ◌+ℚ◌, ◌*ℚ◌, neg_ℚ}
use Rattle.gq_number.specs.Order.{number_cmp, ◌≤ℚ◌, ◌<ℚ◌, the_lesser, min_ℚ, max_ℚ, abs_ℚ}
use Rattle.gq_number.proofs.Means.{number_from_cross}
use Rattle.gq_number.proofs.Ring.{neg_neg, neg-zero, neg-+ℚ, neg-*ℚ, *ℚ-neg}
use Rattle.gq_number.proofs.Order
use Rattle.gq_number.proofs.Signs.{neg-zero-≤ℚ, neg-zero-<ℚ, *ℚ-zero-≤ℚ, at_most_from_neg}

ranked_as : (r : Ordering) {A B C P Q R : Type 0} → MatchOrdering r A B C → (A → P) → (B → Q) → (C → R) → MatchOrdering r P Q R
ranked_as Less h p q r = p h
ranked_as Equal h p q r = q h
ranked_as Greater h p q r = r h

-- the comparison tells which of the three holds
pub number_ranks : (x y : Number) → MatchOrdering (number_cmp x y) (x <ℚ y) (x ≡ y) (y <ℚ x)
unfolding number_cmp
number_ranks x y =
    ranked_as (number_cmp x y) (int_ranks (x.numerator *ℤ pos y.denominator) (y.numerator *ℤ pos x.denominator)) (λ h. record { cross = h }) (number_from_cross x y) (λ h. record { cross = h })

-- the comparison answers r exactly where r tells the truth
abbrev Decided : Ordering → Number → Number → Type 0
Decided r x y = ((r ≡ Less) ↔ (x <ℚ y)) × ((r ≡ Equal) ↔ (x ≡ y)) × ((r ≡ Greater) ↔ (y <ℚ x))

decided : (r : Ordering) (x y : Number) → MatchOrdering r (x <ℚ y) (x ≡ y) (y <ℚ x) → Decided r x y
decided Less x y h =
    ((λ _. h, λ _. refl), (λ e. absurd (cc), λ k. absurd (Order.≢_from_<ℚ x y h k)), (λ e. absurd (cc), λ k. absurd (Order.<ℚ_irrefl x (Order.<ℚ_trans x y x h k))))
decided Equal x y h =
    ((λ e. absurd (cc), λ k. absurd (Order.≢_from_<ℚ x y k h)), (λ _. h, λ _. refl), (λ e. absurd (cc), λ k. absurd (Order.≢_from_<ℚ y x k (sym h))))
decided Greater x y h =
    ((λ e. absurd (cc), λ k. absurd (Order.<ℚ_irrefl x (Order.<ℚ_trans x y x k h))), (λ e. absurd (cc), λ k. absurd (Order.≢_from_<ℚ y x h (sym k))), (λ _. h, λ _. refl))

pub number_cmp_decides : (x y : Number) → ((number_cmp x y ≡ Less) ↔ (x <ℚ y)) × ((number_cmp x y ≡ Equal) ↔ (x ≡ y)) × ((number_cmp x y ≡ Greater) ↔ (y <ℚ x))
number_cmp_decides x y = decided (number_cmp x y) x y (number_ranks x y)

reversed_from : (r s : Ordering) (x y : Number) → MatchOrdering r (x <ℚ y) (x ≡ y) (y <ℚ x) → MatchOrdering s (y <ℚ x) (y ≡ x) (x <ℚ y) → r ≡ ordering_reverse s
reversed_from Less Less x y h k = absurd (Order.<ℚ_irrefl x (Order.<ℚ_trans x y x h k))
reversed_from Less Equal x y h k = absurd (Order.≢_from_<ℚ x y h (sym k))
reversed_from Less Greater x y h k = refl
reversed_from Equal Less x y h k = absurd (Order.≢_from_<ℚ y x k (sym h))
reversed_from Equal Equal x y h k = refl
reversed_from Equal Greater x y h k = absurd (Order.≢_from_<ℚ x y k h)
reversed_from Greater Less x y h k = refl
reversed_from Greater Equal x y h k = absurd (Order.≢_from_<ℚ y x h k)
reversed_from Greater Greater x y h k = absurd (Order.<ℚ_irrefl x (Order.<ℚ_trans x y x k h))

-- a total order in the sense of `Ord`
pub number_cmp_total : IsTotalOrder number_cmp
number_cmp_total =
    record {
      antisymm = λ x y. reversed_from (number_cmp x y) (number_cmp y x) x y (number_ranks x y) (number_ranks y x);
      trans = λ x y z h k. (number_cmp_decides x z).0.1 (Order.<ℚ_trans x y z ((number_cmp_decides x y).0.0 h) ((number_cmp_decides y z).0.0 k));
      congr = λ x y z h. ap (λ w. number_cmp w z) ((number_cmp_decides x y).1.0 h);
    }

-- ---- the lesser and the greater

lesser_is : (r : Ordering) (x y : Number) → MatchOrdering r (x <ℚ y) (x ≡ y) (y <ℚ x) → ((the_lesser r x y ≡ x) × (x ≤ℚ y)) ⊎ ((the_lesser r x y ≡ y) × (y ≤ℚ x))
lesser_is Less x y h = inl (refl, Order.≤ℚ_from_<ℚ x y h)
lesser_is Equal x y h = inl (refl, Order.≤ℚ_from_≡ x y h)
lesser_is Greater x y h = inr (refl, Order.≤ℚ_from_<ℚ y x h)

greater_is : (r : Ordering) (x y : Number) → MatchOrdering r (y <ℚ x) (y ≡ x) (x <ℚ y) → ((the_lesser r x y ≡ x) × (y ≤ℚ x)) ⊎ ((the_lesser r x y ≡ y) × (x ≤ℚ y))
greater_is Less x y h = inl (refl, Order.≤ℚ_from_<ℚ y x h)
greater_is Equal x y h = inl (refl, Order.≤ℚ_from_≡ y x h)
greater_is Greater x y h = inr (refl, Order.≤ℚ_from_<ℚ x y h)

-- which of the two it is
pub min_is : (x y : Number) → ((min_ℚ x y ≡ x) × (x ≤ℚ y)) ⊎ ((min_ℚ x y ≡ y) × (y ≤ℚ x))
unfolding min_ℚ
min_is x y = lesser_is (number_cmp x y) x y (number_ranks x y)

pub max_is : (x y : Number) → ((max_ℚ x y ≡ x) × (y ≤ℚ x)) ⊎ ((max_ℚ x y ≡ y) × (x ≤ℚ y))
unfolding max_ℚ
max_is x y = greater_is (number_cmp y x) x y (number_ranks y x)

pub min-≤ℚ_left : (x y : Number) → min_ℚ x y ≤ℚ x
min-≤ℚ_left x y =
    elim (min_is x y) [ inl h ↦ Order.≤ℚ_from_≡ _ x h.0 | inr h ↦ subst (λ w. w ≤ℚ x) (sym h.0) h.1 ]

pub min-≤ℚ_right : (x y : Number) → min_ℚ x y ≤ℚ y
min-≤ℚ_right x y =
    elim (min_is x y) [ inl h ↦ subst (λ w. w ≤ℚ y) (sym h.0) h.1 | inr h ↦ Order.≤ℚ_from_≡ _ y h.0 ]

-- the greatest of what is at most both
pub ≤ℚ-min : (x y z : Number) → z ≤ℚ x → z ≤ℚ y → z ≤ℚ min_ℚ x y
≤ℚ-min x y z h k =
    elim (min_is x y) [ inl l ↦ subst (λ w. z ≤ℚ w) (sym l.0) h | inr l ↦ subst (λ w. z ≤ℚ w) (sym l.0) k ]

pub ≤ℚ-max_left : (x y : Number) → x ≤ℚ max_ℚ x y
≤ℚ-max_left x y =
    elim (max_is x y) [ inl h ↦ Order.≤ℚ_from_≡ x _ (sym h.0) | inr h ↦ subst (λ w. x ≤ℚ w) (sym h.0) h.1 ]

pub ≤ℚ-max_right : (x y : Number) → y ≤ℚ max_ℚ x y
≤ℚ-max_right x y =
    elim (max_is x y) [ inl h ↦ subst (λ w. y ≤ℚ w) (sym h.0) h.1 | inr h ↦ Order.≤ℚ_from_≡ y _ (sym h.0) ]

-- the least of what is at least both
pub max-≤ℚ : (x y z : Number) → x ≤ℚ z → y ≤ℚ z → max_ℚ x y ≤ℚ z
max-≤ℚ x y z h k =
    elim (max_is x y) [ inl l ↦ subst (λ w. w ≤ℚ z) (sym l.0) h | inr l ↦ subst (λ w. w ≤ℚ z) (sym l.0) k ]

pub min_comm : (x y : Number) → min_ℚ x y ≡ min_ℚ y x
min_comm x y =
    Order.≤ℚ_antisymm _ _ (≤ℚ-min y x _ (min-≤ℚ_right x y) (min-≤ℚ_left x y)) (≤ℚ-min x y _ (min-≤ℚ_right y x) (min-≤ℚ_left y x))

pub max_comm : (x y : Number) → max_ℚ x y ≡ max_ℚ y x
max_comm x y =
    Order.≤ℚ_antisymm _ _ (max-≤ℚ x y _ (≤ℚ-max_right y x) (≤ℚ-max_left y x)) (max-≤ℚ y x _ (≤ℚ-max_right x y) (≤ℚ-max_left x y))

-- ---- the magnitude

above_from_neg : (x : Number) → neg_ℚ x ≤ℚ x → whole (pos 0) ≤ℚ x
above_from_neg x h =
    Order.≤ℚ_from_not_above (whole (pos 0)) x (λ k. Order.not_above _ _ h (Order.<ℚ_trans x _ _ k (neg-zero-<ℚ x k)))

below_from_neg : (x : Number) → x ≤ℚ neg_ℚ x → x ≤ℚ whole (pos 0)
below_from_neg x h = at_most_from_neg x (above_from_neg (neg_ℚ x) (subst (λ w. w ≤ℚ neg_ℚ x) (sym (neg_neg x)) h))

pub abs_is : (x : Number) → ((abs_ℚ x ≡ x) × (whole (pos 0) ≤ℚ x)) ⊎ ((abs_ℚ x ≡ neg_ℚ x) × (x ≤ℚ whole (pos 0)))
unfolding abs_ℚ
abs_is x =
    elim (max_is x (neg_ℚ x)) [ inl h ↦ inl (h.0, above_from_neg x h.1) | inr h ↦ inr (h.0, below_from_neg x h.1) ]

pub abs_above : (x : Number) → whole (pos 0) ≤ℚ x → abs_ℚ x ≡ x
abs_above x h =
    elim (abs_is x) [
      | inl k ↦ k.0
      | inr k ↦ let e : x ≡ whole (pos 0) = Order.≤ℚ_antisymm x _ k.1 h in k.0 ∙ ap neg_ℚ e ∙ neg-zero ∙ sym e
    ]

pub abs_below : (x : Number) → x ≤ℚ whole (pos 0) → abs_ℚ x ≡ neg_ℚ x
abs_below x h =
    elim (abs_is x) [
      | inl k ↦ let e : x ≡ whole (pos 0) = Order.≤ℚ_antisymm x _ h k.1 in k.0 ∙ e ∙ sym (ap neg_ℚ e ∙ neg-zero)
      | inr k ↦ k.0
    ]

pub zero-≤ℚ-abs : (x : Number) → whole (pos 0) ≤ℚ abs_ℚ x
zero-≤ℚ-abs x =
    elim (abs_is x) [ inl h ↦ subst (λ w. whole (pos 0) ≤ℚ w) (sym h.0) h.1 | inr h ↦ subst (λ w. whole (pos 0) ≤ℚ w) (sym h.0) (neg-zero-≤ℚ x h.1) ]

pub ≤ℚ-abs : (x : Number) → x ≤ℚ abs_ℚ x
unfolding abs_ℚ
≤ℚ-abs x = ≤ℚ-max_left x (neg_ℚ x)

pub neg-≤ℚ-abs : (x : Number) → neg_ℚ x ≤ℚ abs_ℚ x
unfolding abs_ℚ
neg-≤ℚ-abs x = ≤ℚ-max_right x (neg_ℚ x)

-- within z of 0
pub abs-≤ℚ : (x z : Number) → x ≤ℚ z → neg_ℚ x ≤ℚ z → abs_ℚ x ≤ℚ z
unfolding abs_ℚ
abs-≤ℚ x z h k = max-≤ℚ x (neg_ℚ x) z h k

pub abs_within : (x z : Number) → (abs_ℚ x ≤ℚ z) ↔ ((neg_ℚ z ≤ℚ x) × (x ≤ℚ z))
abs_within x z =
    (λ h. (subst (λ w. neg_ℚ z ≤ℚ w) (neg_neg x) (Order.neg-≤ℚ (neg_ℚ x) z (Order.≤ℚ_trans _ _ _ (neg-≤ℚ-abs x) h)), Order.≤ℚ_trans _ _ _ (≤ℚ-abs x) h), λ h. abs-≤ℚ x z h.1 (subst (λ w. neg_ℚ x ≤ℚ w) (neg_neg z) (Order.neg-≤ℚ (neg_ℚ z) x h.0)))

pub abs-neg : (x : Number) → abs_ℚ (neg_ℚ x) ≡ abs_ℚ x
unfolding abs_ℚ
abs-neg x = ap (max_ℚ (neg_ℚ x)) (neg_neg x) ∙ max_comm (neg_ℚ x) x

pub abs_zero : (x : Number) → abs_ℚ x ≡ whole (pos 0) → x ≡ whole (pos 0)
abs_zero x e =
    elim (abs_is x) [ inl h ↦ sym h.0 ∙ e | inr h ↦ sym (neg_neg x) ∙ ap neg_ℚ (sym h.0 ∙ e) ∙ neg-zero ]

-- the triangle inequality
pub abs-+ℚ : (x y : Number) → abs_ℚ (x +ℚ y) ≤ℚ abs_ℚ x +ℚ abs_ℚ y
abs-+ℚ x y =
    abs-≤ℚ (x +ℚ y) _ (Order.+ℚ-≤ℚ _ _ _ _ (≤ℚ-abs x) (≤ℚ-abs y)) (subst (λ w. w ≤ℚ abs_ℚ x +ℚ abs_ℚ y) (sym (neg-+ℚ x y)) (Order.+ℚ-≤ℚ _ _ _ _ (neg-≤ℚ-abs x) (neg-≤ℚ-abs y)))

abs_times_above : (x y : Number) → whole (pos 0) ≤ℚ x → abs_ℚ (x *ℚ y) ≡ x *ℚ abs_ℚ y
abs_times_above x y h =
    elim (abs_is y) [
      | inl k ↦ abs_above (x *ℚ y) (*ℚ-zero-≤ℚ x y h k.1) ∙ ap (λ w. x *ℚ w) (sym k.0)
      | inr k ↦ sym (abs-neg (x *ℚ y)) ∙ ap abs_ℚ (sym (*ℚ-neg x y)) ∙ abs_above (x *ℚ neg_ℚ y) (*ℚ-zero-≤ℚ x (neg_ℚ y) h (neg-zero-≤ℚ y k.1)) ∙ ap (λ w. x *ℚ w) (sym k.0)
    ]

pub abs-*ℚ : (x y : Number) → abs_ℚ (x *ℚ y) ≡ abs_ℚ x *ℚ abs_ℚ y
abs-*ℚ x y =
    elim (abs_is x) [
      | inl h ↦ abs_times_above x y h.1 ∙ ap (λ w. w *ℚ abs_ℚ y) (sym h.0)
      | inr h ↦ sym (abs-neg (x *ℚ y)) ∙ ap abs_ℚ (sym (neg-*ℚ x y)) ∙ abs_times_above (neg_ℚ x) y (neg-zero-≤ℚ x h.1) ∙ ap (λ w. w *ℚ abs_ℚ y) (sym h.0)
    ]
