-- The laws of powers with whole exponents.
use Rattle.std.proofs.Common.{◌≡◌, ◌≢◌, ℕ, zero, suc, ◌<◌, ℤ, pos, negsuc, ◌+ℤ◌, sym, ap, ◌∙◌, arith}
use Rattle.std.proofs.lemmas.Int.{ints}
use Rattle.gq_number.specs.Number.{Number, whole, ◌*ℚ◌, inv_ℚ}
use Rattle.gq_number.proofs.Field.{*ℚ_assoc, *ℚ_comm, *ℚ-one}
use Rattle.gq_number.proofs.Ring.{zero-*ℚ, one-*ℚ, *ℚ_left_comm}
use Rattle.gq_number.proofs.Quotients.{*ℚ-inv, inv-*ℚ_self}
use Rattle.gq_extended.specs.Powers.{repeated_product, power_ℚ}
use Rattle.gq_extended.proofs.PowerParts.{product_of-zero, product_of-suc}

pub power-zero : (x : Number) → power_ℚ x (pos 0) ≡ whole (pos 1)
unfolding power_ℚ
power-zero x = product_of-zero x

pub power-one : (x : Number) → power_ℚ x (pos 1) ≡ x
unfolding power_ℚ
power-one x = product_of-suc 0 x ∙ ap (λ w. x *ℚ w) (product_of-zero x) ∙ *ℚ-one x

pub power_of_zero : (n : ℕ) → 0 < n → power_ℚ (whole (pos 0)) (pos n) ≡ whole (pos 0)
unfolding power_ℚ
power_of_zero zero some = absurd (omega arith)
power_of_zero (suc n) some = product_of-suc n (whole (pos 0)) ∙ zero-*ℚ _

cancel : (x y : Number) → x ≢ whole (pos 0) → y ≡ x *ℚ (inv_ℚ x *ℚ y)
cancel x y some = sym (sym (*ℚ_assoc x (inv_ℚ x) y) ∙ ap (λ w. w *ℚ y) (*ℚ-inv x some) ∙ one-*ℚ y)

-- one more factor
power_up : (x : Number) (n : ℤ) → x ≢ whole (pos 0) → power_ℚ x (n +ℤ pos 1) ≡ x *ℚ power_ℚ x n
unfolding power_ℚ
power_up x (pos n) some = ap (power_ℚ x) (let e : pos n +ℤ pos 1 ≡ pos (suc n) = omega (arith, ints) in e) ∙ product_of-suc n x
power_up x (negsuc zero) some =
    product_of-zero x ∙ cancel x (whole (pos 1)) some ∙ ap (λ w. x *ℚ w) (sym (product_of-suc 0 (inv_ℚ x) ∙ ap (λ w. inv_ℚ x *ℚ w) (product_of-zero (inv_ℚ x))))
power_up x (negsuc (suc n)) some =
    ap (power_ℚ x) (let e : negsuc (suc n) +ℤ pos 1 ≡ negsuc n = omega (arith, ints) in e) ∙ cancel x (repeated_product (suc n) (inv_ℚ x)) some ∙ ap (λ w. x *ℚ w) (sym (product_of-suc (suc n) (inv_ℚ x)))

-- one factor less
power_down : (x : Number) (n : ℤ) → x ≢ whole (pos 0) → power_ℚ x (n +ℤ negsuc 0) ≡ inv_ℚ x *ℚ power_ℚ x n
power_down x n some =
    let e : n +ℤ negsuc 0 +ℤ pos 1 ≡ n = omega (arith, ints) in
    sym (sym (*ℚ_assoc (inv_ℚ x) x _) ∙ ap (λ w. w *ℚ power_ℚ x (n +ℤ negsuc 0)) (inv-*ℚ_self x some) ∙ one-*ℚ _) ∙ ap (λ w. inv_ℚ x *ℚ w) (sym (power_up x (n +ℤ negsuc 0) some) ∙ ap (power_ℚ x) e)

pub power-+ℤ : (x : Number) (n m : ℤ) → x ≢ whole (pos 0) → power_ℚ x (n +ℤ m) ≡ power_ℚ x n *ℚ power_ℚ x m
power-+ℤ x n (pos m) some = up m
  where
    up : (m : ℕ) → power_ℚ x (n +ℤ pos m) ≡ power_ℚ x n *ℚ power_ℚ x (pos m)
    up zero = ap (power_ℚ x) (let e : n +ℤ pos 0 ≡ n = omega (arith, ints) in e) ∙ sym (ap (λ w. power_ℚ x n *ℚ w) (power-zero x) ∙ *ℚ-one _)
    up (suc m) =
        let first : n +ℤ pos (suc m) ≡ n +ℤ pos m +ℤ pos 1 = omega (arith, ints) in
        let second : pos (suc m) ≡ pos m +ℤ pos 1 = omega (arith, ints) in
        ap (power_ℚ x) first ∙ power_up x (n +ℤ pos m) some ∙ ap (λ w. x *ℚ w) (up m) ∙ *ℚ_left_comm x (power_ℚ x n) (power_ℚ x (pos m)) ∙ ap (λ w. power_ℚ x n *ℚ w) (sym (ap (power_ℚ x) second ∙ power_up x (pos m) some))
power-+ℤ x n (negsuc m) some = down m
  where
    down : (m : ℕ) → power_ℚ x (n +ℤ negsuc m) ≡ power_ℚ x n *ℚ power_ℚ x (negsuc m)
    down zero =
        let one : power_ℚ x (negsuc 0) ≡ inv_ℚ x = ap (power_ℚ x) (let e : negsuc 0 ≡ pos 0 +ℤ negsuc 0 = omega (arith, ints) in e) ∙ power_down x (pos 0) some ∙ ap (λ w. inv_ℚ x *ℚ w) (power-zero x) ∙ *ℚ-one _ in
        power_down x n some ∙ *ℚ_comm _ _ ∙ ap (λ w. power_ℚ x n *ℚ w) (sym one)
    down (suc m) =
        let first : n +ℤ negsuc (suc m) ≡ n +ℤ negsuc m +ℤ negsuc 0 = omega (arith, ints) in
        let second : negsuc (suc m) ≡ negsuc m +ℤ negsuc 0 = omega (arith, ints) in
        ap (power_ℚ x) first ∙ power_down x (n +ℤ negsuc m) some ∙ ap (λ w. inv_ℚ x *ℚ w) (down m) ∙ *ℚ_left_comm (inv_ℚ x) (power_ℚ x n) (power_ℚ x (negsuc m)) ∙ ap (λ w. power_ℚ x n *ℚ w) (sym (ap (power_ℚ x) second ∙ power_down x (negsuc m) some))
