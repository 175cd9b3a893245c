-- The laws of reciprocals and quotients, and the set of them by which `simp` proves an identity
-- with quotients.
use Rattle.std.proofs.Common.{◌≡◌, ◌≢◌, ◌↔◌, ℕ, zero, suc, ◌*◌, ℤ, pos, negsuc, ◌*ℤ◌, neg_ℤ, ◌⊎◌, inl, inr, refl, sym, ap, ◌∙◌, arith, zero-mul}
use Rattle.gq_number.specs.Number.{Number, whole, turned_over, ◌+ℚ◌, ◌-ℚ◌, ◌*ℚ◌, ◌/ℚ◌, neg_ℚ, inv_ℚ}
use Rattle.gq_number.proofs.Whole.{from_less, less_pos, less_negsuc, less-*ℤ, less-neg}
use Rattle.gq_number.proofs.Means.{Means, same_by_means, means_itself, ratio_means}
use Rattle.gq_number.proofs.Field.{*ℚ_comm, *ℚ_assoc, *ℚ-one, /ℚ_is, means-*ℚ, means-whole}
use Rattle.gq_number.proofs.Ring.{ring_ℚ, *ℚ-zero, zero-*ℚ, one-*ℚ, neg_neg, neg-zero, neg-*ℚ, *ℚ-neg, *ℚ_left_comm}

-- ---- 0 and the others

pub zero_from_numerator : (x : Number) → x.numerator ≡ pos 0 → x ≡ whole (pos 0)
zero_from_numerator x e = same_by_means (means_itself x) (means-whole (pos 0)) (ap (λ n. n *ℤ pos 1) e ∙ sym (ap pos (zero-mul x.denominator)))

pub numerator-zero : (x : Number) → x ≡ whole (pos 0) → x.numerator ≡ pos 0
unfolding whole
numerator-zero x e = ap (λ (y : Number). y.numerator) e

zero_or : (n : ℤ) → (n ≡ pos 0) ⊎ (n ≢ pos 0)
zero_or (pos zero) = inl refl
zero_or (pos (suc n)) = inr (λ e. cc)
zero_or (negsuc n) = inr (λ e. cc)

-- a number is 0 or is not
pub is_zero_or_not : (x : Number) → (x ≡ whole (pos 0)) ⊎ (x ≢ whole (pos 0))
is_zero_or_not x =
    elim (zero_or x.numerator) [ inl e ↦ inl (zero_from_numerator x e) | inr h ↦ inr (λ e. h (numerator-zero x e)) ]

pub numerator-whole : (n : ℤ) → (whole n).numerator ≡ n
unfolding whole
numerator-whole n = refl

pub one-≢-zero : whole (pos 1) ≢ whole (pos 0)
one-≢-zero e = let f : pos 1 ≡ pos 0 = sym (numerator-whole (pos 1)) ∙ numerator-zero (whole (pos 1)) e in cc

-- ---- the reciprocal

pub inv-zero : inv_ℚ (whole (pos 0)) ≡ whole (pos 0)
unfolding inv_ℚ whole
inv-zero = refl

turned : (n : ℤ) (d : ℕ) (x : Number) → Means x n d → n ≢ pos 0 → x *ℚ turned_over n d ≡ whole (pos 1)
turned (pos zero) d x m some = absurd (some refl)
turned (pos (suc n)) d x m some =
    same_by_means (means-*ℚ m (ratio_means (pos d) (suc n) (omega arith))) (means-whole (pos 1))
    (from_less (less-*ℤ (less-*ℤ (less_pos (suc n)) (less_pos d)) (less_pos 1)) (less-*ℤ (less_pos 1) (less_pos (d * suc n))) (omega arith))
turned (negsuc n) d x m some =
    same_by_means (means-*ℚ m (ratio_means (neg_ℤ (pos d)) (suc n) (omega arith))) (means-whole (pos 1))
    (from_less (less-*ℤ (less-*ℤ (less_negsuc n) (less-neg (less_pos d))) (less_pos 1)) (less-*ℤ (less_pos 1) (less_pos (d * suc n))) (omega arith))

pub *ℚ-inv : (x : Number) → x ≢ whole (pos 0) → x *ℚ inv_ℚ x ≡ whole (pos 1)
unfolding inv_ℚ
*ℚ-inv x some = turned x.numerator x.denominator x (means_itself x) (λ e. some (zero_from_numerator x e))

pub inv-*ℚ_self : (x : Number) → x ≢ whole (pos 0) → inv_ℚ x *ℚ x ≡ whole (pos 1)
inv-*ℚ_self x some = *ℚ_comm (inv_ℚ x) x ∙ *ℚ-inv x some

-- a factor that is not 0 is left out
pub *ℚ_cancel_left : (x y z : Number) → x ≢ whole (pos 0) → x *ℚ y ≡ x *ℚ z → y ≡ z
*ℚ_cancel_left x y z some e =
    sym (undo y) ∙ ap (λ w. inv_ℚ x *ℚ w) e ∙ undo z
  where
    undo : (w : Number) → inv_ℚ x *ℚ (x *ℚ w) ≡ w
    undo w = sym (*ℚ_assoc (inv_ℚ x) x w) ∙ ap (λ v. v *ℚ w) (inv-*ℚ_self x some) ∙ one-*ℚ w

pub *ℚ_cancel_right : (x y z : Number) → z ≢ whole (pos 0) → x *ℚ z ≡ y *ℚ z → x ≡ y
*ℚ_cancel_right x y z some e = *ℚ_cancel_left z x y some (*ℚ_comm z x ∙ e ∙ *ℚ_comm y z)

-- a product is 0 only where a factor is
pub no_zero_divisors : (x y : Number) → x *ℚ y ≡ whole (pos 0) → (x ≡ whole (pos 0)) ⊎ (y ≡ whole (pos 0))
no_zero_divisors x y e =
    elim (is_zero_or_not x) [ inl h ↦ inl h | inr some ↦ inr (*ℚ_cancel_left x y (whole (pos 0)) some (e ∙ sym (*ℚ-zero x))) ]

pub *ℚ-≢-zero : (x y : Number) → x ≢ whole (pos 0) → y ≢ whole (pos 0) → x *ℚ y ≢ whole (pos 0)
*ℚ-≢-zero x y h k e = elim (no_zero_divisors x y e) [ inl f ↦ h f | inr f ↦ k f ]

pub inv-≢-zero : (x : Number) → x ≢ whole (pos 0) → inv_ℚ x ≢ whole (pos 0)
inv-≢-zero x some e = one-≢-zero (sym (*ℚ-inv x some) ∙ ap (λ w. x *ℚ w) e ∙ *ℚ-zero x)

pub neg-≢-zero : (x : Number) → x ≢ whole (pos 0) → neg_ℚ x ≢ whole (pos 0)
neg-≢-zero x some e = some (sym (neg_neg x) ∙ ap neg_ℚ e ∙ neg-zero)

-- the reciprocal is known by its product
pub inv_unique : (x y : Number) → x *ℚ y ≡ whole (pos 1) → y ≡ inv_ℚ x
inv_unique x y e =
    elim (is_zero_or_not x) [ inl none ↦ absurd (one-≢-zero (sym e ∙ ap (λ w. w *ℚ y) none ∙ zero-*ℚ y)) | inr some ↦ *ℚ_cancel_left x y (inv_ℚ x) some (e ∙ sym (*ℚ-inv x some)) ]

pub inv-one : inv_ℚ (whole (pos 1)) ≡ whole (pos 1)
inv-one = sym (inv_unique (whole (pos 1)) (whole (pos 1)) (*ℚ-one (whole (pos 1))))

pub inv_inv : (x : Number) → inv_ℚ (inv_ℚ x) ≡ x
inv_inv x =
    elim (is_zero_or_not x) [ inl none ↦ ap (λ w. inv_ℚ (inv_ℚ w)) none ∙ ap inv_ℚ inv-zero ∙ inv-zero ∙ sym none | inr some ↦ sym (inv_unique (inv_ℚ x) x (inv-*ℚ_self x some)) ]

pub inv-neg : (x : Number) → inv_ℚ (neg_ℚ x) ≡ neg_ℚ (inv_ℚ x)
inv-neg x =
    elim (is_zero_or_not x) [ inl none ↦ ap (λ w. inv_ℚ (neg_ℚ w)) none ∙ ap inv_ℚ neg-zero ∙ inv-zero ∙ sym (ap (λ w. neg_ℚ (inv_ℚ w)) none ∙ ap neg_ℚ inv-zero ∙ neg-zero) | inr some ↦ sym (inv_unique (neg_ℚ x) (neg_ℚ (inv_ℚ x)) (neg-*ℚ x _ ∙ ap neg_ℚ (*ℚ-neg x (inv_ℚ x)) ∙ neg_neg _ ∙ *ℚ-inv x some)) ]

pub inv-*ℚ : (x y : Number) → inv_ℚ (x *ℚ y) ≡ inv_ℚ x *ℚ inv_ℚ y
inv-*ℚ x y =
    elim (is_zero_or_not x) [
      | inl none ↦ ap (λ w. inv_ℚ (w *ℚ y)) none ∙ ap inv_ℚ (zero-*ℚ y) ∙ inv-zero ∙ sym (ap (λ w. inv_ℚ w *ℚ inv_ℚ y) none ∙ ap (λ w. w *ℚ inv_ℚ y) inv-zero ∙ zero-*ℚ (inv_ℚ y))
      | inr some_x ↦ elim (is_zero_or_not y) [
        | inl none ↦ ap (λ w. inv_ℚ (x *ℚ w)) none ∙ ap inv_ℚ (*ℚ-zero x) ∙ inv-zero ∙ sym (ap (λ w. inv_ℚ x *ℚ inv_ℚ w) none ∙ ap (λ w. inv_ℚ x *ℚ w) inv-zero ∙ *ℚ-zero (inv_ℚ x))
        | inr some_y ↦ sym (inv_unique (x *ℚ y) (inv_ℚ x *ℚ inv_ℚ y) (let turn : x *ℚ y *ℚ (inv_ℚ x *ℚ inv_ℚ y) ≡ x *ℚ inv_ℚ x *ℚ (y *ℚ inv_ℚ y) = simp ring_ℚ in turn ∙ ap (λ w. w *ℚ (y *ℚ inv_ℚ y)) (*ℚ-inv x some_x) ∙ ap (λ w. whole (pos 1) *ℚ w) (*ℚ-inv y some_y) ∙ *ℚ-one (whole (pos 1))))
      ]
    ]

-- ---- quotients

pub /ℚ-one : (x : Number) → x /ℚ whole (pos 1) ≡ x
/ℚ-one x = /ℚ_is x (whole (pos 1)) ∙ ap (λ w. x *ℚ w) inv-one ∙ *ℚ-one x

pub zero-/ℚ : (x : Number) → whole (pos 0) /ℚ x ≡ whole (pos 0)
zero-/ℚ x = /ℚ_is (whole (pos 0)) x ∙ zero-*ℚ (inv_ℚ x)

pub /ℚ-zero : (x : Number) → x /ℚ whole (pos 0) ≡ whole (pos 0)
/ℚ-zero x = /ℚ_is x (whole (pos 0)) ∙ ap (λ w. x *ℚ w) inv-zero ∙ *ℚ-zero x

pub /ℚ_self : (x : Number) → x ≢ whole (pos 0) → x /ℚ x ≡ whole (pos 1)
/ℚ_self x some = /ℚ_is x x ∙ *ℚ-inv x some

pub inv_is : (x : Number) → inv_ℚ x ≡ whole (pos 1) /ℚ x
inv_is x = sym (/ℚ_is (whole (pos 1)) x ∙ one-*ℚ (inv_ℚ x))

pub *ℚ-/ℚ : (x y z : Number) → x *ℚ (y /ℚ z) ≡ x *ℚ y /ℚ z
*ℚ-/ℚ x y z = simp (/ℚ_is, *ℚ_assoc)

pub /ℚ-*ℚ : (x y z : Number) → x /ℚ y *ℚ z ≡ x *ℚ z /ℚ y
/ℚ-*ℚ x y z = simp (/ℚ_is, ring_ℚ)

pub /ℚ-/ℚ : (x y z : Number) → x /ℚ y /ℚ z ≡ x /ℚ (y *ℚ z)
/ℚ-/ℚ x y z = simp (/ℚ_is, inv-*ℚ, ring_ℚ)

pub /ℚ-/ℚ_right : (x y z : Number) → x /ℚ (y /ℚ z) ≡ x *ℚ z /ℚ y
/ℚ-/ℚ_right x y z = simp (/ℚ_is, inv-*ℚ, inv_inv, ring_ℚ)

-- what is multiplied and divided by one number, and divided and multiplied
pub *ℚ-/ℚ_self : (x y : Number) → y ≢ whole (pos 0) → x *ℚ y /ℚ y ≡ x
*ℚ-/ℚ_self x y some = /ℚ_is (x *ℚ y) y ∙ *ℚ_assoc x y (inv_ℚ y) ∙ ap (λ w. x *ℚ w) (*ℚ-inv y some) ∙ *ℚ-one x

pub /ℚ-*ℚ_self : (x y : Number) → y ≢ whole (pos 0) → x /ℚ y *ℚ y ≡ x
/ℚ-*ℚ_self x y some = /ℚ-*ℚ x y y ∙ *ℚ-/ℚ_self x y some

pub +ℚ-/ℚ : (x y z : Number) → (x +ℚ y) /ℚ z ≡ x /ℚ z +ℚ y /ℚ z
+ℚ-/ℚ x y z = simp (/ℚ_is, ring_ℚ)

pub -ℚ-/ℚ : (x y z : Number) → (x -ℚ y) /ℚ z ≡ x /ℚ z -ℚ y /ℚ z
-ℚ-/ℚ x y z = simp (/ℚ_is, ring_ℚ)

pub neg-/ℚ : (x y : Number) → neg_ℚ x /ℚ y ≡ neg_ℚ (x /ℚ y)
neg-/ℚ x y = simp (/ℚ_is, neg-*ℚ)

-- over one denominator
pub +ℚ_over : (x y z : Number) → z ≢ whole (pos 0) → x +ℚ y /ℚ z ≡ (x *ℚ z +ℚ y) /ℚ z
+ℚ_over x y z some = sym (+ℚ-/ℚ (x *ℚ z) y z ∙ ap (λ w. w +ℚ y /ℚ z) (*ℚ-/ℚ_self x z some))

pub over-+ℚ : (x y z : Number) → y ≢ whole (pos 0) → x /ℚ y +ℚ z ≡ (x +ℚ z *ℚ y) /ℚ y
over-+ℚ x y z some = sym (+ℚ-/ℚ x (z *ℚ y) y ∙ ap (λ w. x /ℚ y +ℚ w) (*ℚ-/ℚ_self z y some))

pub -ℚ_over : (x y z : Number) → z ≢ whole (pos 0) → x -ℚ y /ℚ z ≡ (x *ℚ z -ℚ y) /ℚ z
-ℚ_over x y z some = sym (-ℚ-/ℚ (x *ℚ z) y z ∙ ap (λ w. w -ℚ y /ℚ z) (*ℚ-/ℚ_self x z some))

pub over--ℚ : (x y z : Number) → y ≢ whole (pos 0) → x /ℚ y -ℚ z ≡ (x -ℚ z *ℚ y) /ℚ y
over--ℚ x y z some = sym (-ℚ-/ℚ x (z *ℚ y) y ∙ ap (λ w. x /ℚ y -ℚ w) (*ℚ-/ℚ_self z y some))

-- an equation with a quotient on one side, without it
pub /ℚ-≡ : (x y z : Number) → y ≢ whole (pos 0) → (x /ℚ y ≡ z) ↔ (x ≡ z *ℚ y)
/ℚ-≡ x y z some = (λ e. sym (/ℚ-*ℚ_self x y some) ∙ ap (λ w. w *ℚ y) e, λ e. ap (λ w. w /ℚ y) e ∙ *ℚ-/ℚ_self z y some)

pub ≡-/ℚ : (x y z : Number) → z ≢ whole (pos 0) → (x ≡ y /ℚ z) ↔ (x *ℚ z ≡ y)
≡-/ℚ x y z some = (λ e. ap (λ w. w *ℚ z) e ∙ /ℚ-*ℚ_self y z some, λ e. sym (*ℚ-/ℚ_self x z some) ∙ ap (λ w. w /ℚ z) e)

-- `simp field_ℚ` proves an identity with quotients: it brings all over one denominator and
-- multiplies the equation out. That a divisor is not 0 has to be a hypothesis, or to follow from
-- one by a lemma in the list.
pub ruleset field_ℚ = (/ℚ-≡, ≡-/ℚ, inv_is, /ℚ-/ℚ, /ℚ-/ℚ_right, *ℚ-/ℚ, /ℚ-*ℚ, +ℚ_over, over-+ℚ, -ℚ_over, over--ℚ, *ℚ-≢-zero, ring_ℚ)
