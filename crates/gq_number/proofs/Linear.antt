-- How to prove an order from known orders: their sum, each times a factor, and one identity.
use Rattle.std.proofs.Common.{◌≡◌, pos, sym, ap, ◌∙◌, subst}
use Rattle.gq_number.specs.Number.{Number, whole, ◌+ℚ◌, ◌*ℚ◌}
use Rattle.gq_number.specs.Order.{◌≤ℚ◌, ◌<ℚ◌}
use Rattle.gq_number.proofs.Field.{+ℚ_comm}
use Rattle.gq_number.proofs.Ring.{ring_ℚ, +ℚ_cancel_left}
use Rattle.gq_number.proofs.Order
use Rattle.gq_number.proofs.Signs

-- from u ≤ v: l ≤ r, where r less l is v less u
pub ≤ℚ_from : {u v l r : Number} → u ≤ℚ v → l +ℚ v ≡ r +ℚ u → l ≤ℚ r
≤ℚ_from {u} {v} {l} {r} h e =
    Order.≤ℚ_cancel_right l r v (subst (λ w. w ≤ℚ r +ℚ v) (sym e) (Order.+ℚ-≤ℚ_left u v r h))

pub <ℚ_from : {u v l r : Number} → u <ℚ v → l +ℚ v ≡ r +ℚ u → l <ℚ r
<ℚ_from {u} {v} {l} {r} h e =
    Order.<ℚ_cancel_right l r v (subst (λ w. w <ℚ r +ℚ v) (sym e) (Order.+ℚ-<ℚ_left u v r h))

pub ≡_from : {u v l r : Number} → u ≡ v → l +ℚ v ≡ r +ℚ u → l ≡ r
≡_from {u} {v} {l} {r} h e = +ℚ_cancel_left v l r (+ℚ_comm v l ∙ e ∙ ap (λ w. r +ℚ w) h ∙ +ℚ_comm r v)

-- two that are known, added
pub both : {x y z w : Number} → x ≤ℚ y → z ≤ℚ w → x +ℚ z ≤ℚ y +ℚ w
both {x} {y} {z} {w} h k = Order.+ℚ-≤ℚ x y z w h k

pub both_strict : {x y z w : Number} → x <ℚ y → z <ℚ w → x +ℚ z <ℚ y +ℚ w
both_strict {x} {y} {z} {w} h k = Order.+ℚ-<ℚ x y z w h k

pub strict_and : {x y z w : Number} → x <ℚ y → z ≤ℚ w → x +ℚ z <ℚ y +ℚ w
strict_and {x} {y} {z} {w} h k = Order.+ℚ-<ℚ-≤ℚ x y z w h k

pub both_equal : {x y z w : Number} → x ≡ y → z ≡ w → x +ℚ z ≡ y +ℚ w
both_equal {x} {y} {z} {w} h k = ap (λ a. a +ℚ z) h ∙ ap (λ a. y +ℚ a) k

-- one that is known, times a factor
pub times : {x y : Number} (z : Number) → whole (pos 0) ≤ℚ z → x ≤ℚ y → z *ℚ x ≤ℚ z *ℚ y
times {x} {y} z h k = Signs.*ℚ-≤ℚ_left x y z h k

pub times_strict : {x y : Number} (z : Number) → whole (pos 0) <ℚ z → x <ℚ y → z *ℚ x <ℚ z *ℚ y
times_strict {x} {y} z h k = Signs.*ℚ-<ℚ_left x y z h k

pub times_equal : {x y : Number} (z : Number) → x ≡ y → z *ℚ x ≡ z *ℚ y
times_equal z e = ap (λ a. z *ℚ a) e

-- what is below itself
pub clash : {u v : Number} → u <ℚ v → v ≡ u → ⊥
clash {u} {v} h e = Order.≢_from_<ℚ u v h (sym e)

-- `simp linear_ℚ h` proves an order from an equivalent one: no differences, and sums of products in
-- one order.
pub ruleset linear_ℚ = (Order.-ℚ-≤ℚ, Order.≤ℚ--ℚ, Order.-ℚ-<ℚ, Order.<ℚ--ℚ, ring_ℚ)

-- `search order_ℚ` proves an order in a few steps from orders that are hypotheses.
pub ruleset order_ℚ = (Order.≤ℚ_refl, Order.≤ℚ_trans, Order.≤ℚ-<ℚ_trans, Order.<ℚ-≤ℚ_trans, Order.<ℚ_trans, Order.≤ℚ_from_<ℚ, Order.≤ℚ_antisymm, Order.≢_from_<ℚ, Order.+ℚ-≤ℚ, Order.+ℚ-<ℚ, Order.+ℚ-<ℚ-≤ℚ, Order.+ℚ-≤ℚ-<ℚ, Order.neg-≤ℚ, Order.neg-<ℚ, Signs.*ℚ-≤ℚ_right, Signs.*ℚ-≤ℚ_left, Signs.*ℚ-<ℚ_right, Signs.*ℚ-<ℚ_left, Signs.*ℚ-zero-≤ℚ, Signs.*ℚ-zero-<ℚ, Signs.square-≤ℚ, Signs.inv-zero-<ℚ, Signs.inv-zero-≤ℚ, Signs./ℚ-zero-<ℚ, Signs./ℚ-zero-≤ℚ, Signs.zero-<ℚ-one, Signs.≢-zero_above, Signs.≢-zero_below)
