-- The laws of a ring that follow, and the set of them by which `simp` proves an identity of
-- numbers.
use Rattle.std.proofs.Common.{◌≡◌, ◌↔◌, pos, sym, ap, ◌∙◌}
use Rattle.gq_number.specs.Number.{Number, whole, ◌+ℚ◌, ◌-ℚ◌, ◌*ℚ◌, neg_ℚ}
use Rattle.gq_number.proofs.Field.{+ℚ_comm, +ℚ_assoc, +ℚ-zero, +ℚ-neg, -ℚ_is, *ℚ_comm, *ℚ_assoc, *ℚ-one, *ℚ-+ℚ, /ℚ_is}

pub zero-+ℚ : (x : Number) → whole (pos 0) +ℚ x ≡ x
zero-+ℚ x = +ℚ_comm (whole (pos 0)) x ∙ +ℚ-zero x

pub neg-+ℚ_self : (x : Number) → neg_ℚ x +ℚ x ≡ whole (pos 0)
neg-+ℚ_self x = +ℚ_comm (neg_ℚ x) x ∙ +ℚ-neg x

pub +ℚ_left_comm : (x y z : Number) → x +ℚ (y +ℚ z) ≡ y +ℚ (x +ℚ z)
+ℚ_left_comm x y z = sym (+ℚ_assoc x y z) ∙ ap (λ w. w +ℚ z) (+ℚ_comm x y) ∙ +ℚ_assoc y x z

pub cancel-neg : (x y : Number) → x +ℚ (neg_ℚ x +ℚ y) ≡ y
cancel-neg x y = sym (+ℚ_assoc x (neg_ℚ x) y) ∙ ap (λ w. w +ℚ y) (+ℚ-neg x) ∙ zero-+ℚ y

pub neg_cancel : (x y : Number) → neg_ℚ x +ℚ (x +ℚ y) ≡ y
neg_cancel x y = sym (+ℚ_assoc (neg_ℚ x) x y) ∙ ap (λ w. w +ℚ y) (neg-+ℚ_self x) ∙ zero-+ℚ y

-- what is added on both sides is left out
pub +ℚ_cancel_left : (x y z : Number) → x +ℚ y ≡ x +ℚ z → y ≡ z
+ℚ_cancel_left x y z e = sym (neg_cancel x y) ∙ ap (λ w. neg_ℚ x +ℚ w) e ∙ neg_cancel x z

-- the negated number is known by its sum
pub neg_unique : (x y : Number) → x +ℚ y ≡ whole (pos 0) → y ≡ neg_ℚ x
neg_unique x y e = +ℚ_cancel_left x y (neg_ℚ x) (e ∙ sym (+ℚ-neg x))

pub neg_neg : (x : Number) → neg_ℚ (neg_ℚ x) ≡ x
neg_neg x = sym (neg_unique (neg_ℚ x) x (neg-+ℚ_self x))

pub neg-zero : neg_ℚ (whole (pos 0)) ≡ whole (pos 0)
neg-zero = sym (neg_unique (whole (pos 0)) (whole (pos 0)) (+ℚ-zero (whole (pos 0))))

pub neg-+ℚ : (x y : Number) → neg_ℚ (x +ℚ y) ≡ neg_ℚ x +ℚ neg_ℚ y
neg-+ℚ x y =
    sym (neg_unique (x +ℚ y) (neg_ℚ x +ℚ neg_ℚ y) (+ℚ_assoc x y _ ∙ ap (λ w. x +ℚ w) (+ℚ_left_comm y (neg_ℚ x) (neg_ℚ y) ∙ ap (λ w. neg_ℚ x +ℚ w) (+ℚ-neg y)) ∙ cancel-neg x (whole (pos 0))))

pub +ℚ-*ℚ : (x y z : Number) → (x +ℚ y) *ℚ z ≡ x *ℚ z +ℚ y *ℚ z
+ℚ-*ℚ x y z = *ℚ_comm (x +ℚ y) z ∙ *ℚ-+ℚ z x y ∙ ap (λ w. w +ℚ z *ℚ y) (*ℚ_comm z x) ∙ ap (λ w. x *ℚ z +ℚ w) (*ℚ_comm z y)

pub *ℚ-zero : (x : Number) → x *ℚ whole (pos 0) ≡ whole (pos 0)
*ℚ-zero x = +ℚ_cancel_left (x *ℚ whole (pos 0)) _ _ (sym (*ℚ-+ℚ x (whole (pos 0)) (whole (pos 0))) ∙ ap (λ w. x *ℚ w) (+ℚ-zero (whole (pos 0))) ∙ sym (+ℚ-zero _))

pub zero-*ℚ : (x : Number) → whole (pos 0) *ℚ x ≡ whole (pos 0)
zero-*ℚ x = *ℚ_comm (whole (pos 0)) x ∙ *ℚ-zero x

pub one-*ℚ : (x : Number) → whole (pos 1) *ℚ x ≡ x
one-*ℚ x = *ℚ_comm (whole (pos 1)) x ∙ *ℚ-one x

pub *ℚ_left_comm : (x y z : Number) → x *ℚ (y *ℚ z) ≡ y *ℚ (x *ℚ z)
*ℚ_left_comm x y z = sym (*ℚ_assoc x y z) ∙ ap (λ w. w *ℚ z) (*ℚ_comm x y) ∙ *ℚ_assoc y x z

pub *ℚ-neg : (x y : Number) → x *ℚ neg_ℚ y ≡ neg_ℚ (x *ℚ y)
*ℚ-neg x y = neg_unique (x *ℚ y) (x *ℚ neg_ℚ y) (sym (*ℚ-+ℚ x y (neg_ℚ y)) ∙ ap (λ w. x *ℚ w) (+ℚ-neg y) ∙ *ℚ-zero x)

pub neg-*ℚ : (x y : Number) → neg_ℚ x *ℚ y ≡ neg_ℚ (x *ℚ y)
neg-*ℚ x y = *ℚ_comm (neg_ℚ x) y ∙ *ℚ-neg y x ∙ ap neg_ℚ (*ℚ_comm y x)

-- ---- differences

ruleset sorted = (+ℚ-zero, zero-+ℚ, *ℚ-one, one-*ℚ, *ℚ-zero, zero-*ℚ, neg_neg, neg-zero, neg-+ℚ, *ℚ-neg, neg-*ℚ, *ℚ-+ℚ, +ℚ-*ℚ, +ℚ-neg, neg-+ℚ_self, cancel-neg, neg_cancel, +ℚ_assoc, +ℚ_comm, +ℚ_left_comm, *ℚ_assoc, *ℚ_comm, *ℚ_left_comm)

pub neg_is : (x : Number) → neg_ℚ x ≡ whole (pos 0) -ℚ x
neg_is x = simp (-ℚ_is, sorted)

pub -ℚ-zero : (x : Number) → x -ℚ whole (pos 0) ≡ x
-ℚ-zero x = simp (-ℚ_is, sorted)

pub +ℚ--ℚ : (x y z : Number) → x +ℚ (y -ℚ z) ≡ x +ℚ y -ℚ z
+ℚ--ℚ x y z = simp (-ℚ_is, sorted)

pub -ℚ-+ℚ : (x y z : Number) → x -ℚ y +ℚ z ≡ x +ℚ z -ℚ y
-ℚ-+ℚ x y z = simp (-ℚ_is, sorted)

pub -ℚ--ℚ : (x y z : Number) → x -ℚ y -ℚ z ≡ x -ℚ (y +ℚ z)
-ℚ--ℚ x y z = simp (-ℚ_is, sorted)

pub -ℚ--ℚ_right : (x y z : Number) → x -ℚ (y -ℚ z) ≡ x +ℚ z -ℚ y
-ℚ--ℚ_right x y z = simp (-ℚ_is, sorted)

pub *ℚ--ℚ : (x y z : Number) → x *ℚ (y -ℚ z) ≡ x *ℚ y -ℚ x *ℚ z
*ℚ--ℚ x y z = simp (-ℚ_is, sorted)

pub -ℚ-*ℚ : (x y z : Number) → (x -ℚ y) *ℚ z ≡ x *ℚ z -ℚ y *ℚ z
-ℚ-*ℚ x y z = simp (-ℚ_is, sorted)

-- what is subtracted and added again, in both orders
pub back : (x y : Number) → x -ℚ y +ℚ y ≡ x
back x y = simp (-ℚ_is, +ℚ_assoc, neg-+ℚ_self, +ℚ-zero)

away : (x y : Number) → x +ℚ y -ℚ y ≡ x
away x y = simp (-ℚ_is, +ℚ_assoc, +ℚ-neg, +ℚ-zero)

-- an equation with a difference on one side, without it
pub -ℚ-≡ : (x y z : Number) → (x -ℚ y ≡ z) ↔ (x ≡ z +ℚ y)
-ℚ-≡ x y z = (λ e. sym (back x y) ∙ ap (λ w. w +ℚ y) e, λ e. ap (λ w. w -ℚ y) e ∙ away z y)

pub ≡--ℚ : (x y z : Number) → (x ≡ y -ℚ z) ↔ (x +ℚ z ≡ y)
≡--ℚ x y z = (λ e. ap (λ w. w +ℚ z) e ∙ back y z, λ e. sym (away x z) ∙ ap (λ w. w -ℚ z) e)

-- `simp ring_ℚ` proves an identity of numbers: each side becomes a difference of sums of products,
-- and the equation one between sums of products in one order. A known equation goes before it:
-- `simp (e, ring_ℚ)`.
pub ruleset ring_ℚ = (-ℚ-≡, ≡--ℚ, neg_is, -ℚ-zero, +ℚ--ℚ, -ℚ-+ℚ, -ℚ--ℚ, -ℚ--ℚ_right, *ℚ--ℚ, -ℚ-*ℚ, +ℚ-zero, zero-+ℚ, *ℚ-one, one-*ℚ, *ℚ-zero, zero-*ℚ, *ℚ-+ℚ, +ℚ-*ℚ, +ℚ_assoc, +ℚ_comm, +ℚ_left_comm, *ℚ_assoc, *ℚ_comm, *ℚ_left_comm)
