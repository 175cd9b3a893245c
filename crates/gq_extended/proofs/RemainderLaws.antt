-- What the remainder of numbers is, and that it is below the divisor in magnitude.
use Rattle.std.proofs.Common.{◌≡◌, ◌≢◌, ℕ, Bool, true, false, pos, refl, sym, ap, ◌∙◌, subst, Ok, Err, nat_abs, ◌==◌, if◌then◌else◌, inl, inr}
use Rattle.gq_number.specs.Number.{Number, whole, ◌+ℚ◌, ◌-ℚ◌, ◌*ℚ◌, ◌/ℚ◌, neg_ℚ, truncated, floor_of, ceiling_of}
use Rattle.gq_number.specs.Order.{◌≤ℚ◌, ◌<ℚ◌, abs_ℚ}
use Rattle.gq_number.proofs.Order
use Rattle.gq_number.proofs.Field.{*ℚ-one}
use Rattle.gq_number.proofs.Ring.{ring_ℚ}
use Rattle.gq_number.proofs.Quotients.{/ℚ-*ℚ_self, numerator-zero}
use Rattle.gq_number.proofs.Linear.{≤ℚ_from, <ℚ_from}
use Rattle.gq_number.proofs.Signs.{*ℚ-<ℚ_left}
use Rattle.gq_number.proofs.Compares.{abs_above, abs_below, abs-*ℚ, abs_zero, zero-≤ℚ-abs}
use Rattle.gq_number.proofs.Rounding.{floor-≤ℚ, <ℚ-floor, ≤ℚ-ceiling, ceiling-<ℚ, truncated_above, truncated_below}
use Rattle.gq_field.specs.Fits.{fits, sum_fits}
use Rattle.gq_extended.specs.declared.fault.ExtendedFault.TheVariants.{Divide}
use Rattle.gq_extended.specs.Extended.{Extended, number, Outcome, number_if, is_zero, ◌then_step◌, sum, difference, product, quotient, negated, truncation, remainder}

-- ---- the four steps

after_number : (b : Bool) (x : Number) (next : Extended → Outcome) (r : Number) → (number_if b x then_step next) ≡ Ok (number r) → next (number x) ≡ Ok (number r)
after_number true x next r e = e
after_number false x next r e = absurd (cc)

after_quotient : (none b : Bool) (x : Number) (next : Extended → Outcome) (r : Number) → ((if none then Err Divide else number_if b x) then_step next) ≡ Ok (number r) → (none ≡ false) × (next (number x) ≡ Ok (number r))
after_quotient true b x next r e = absurd (cc)
after_quotient false b x next r e = (refl, after_number b x next r e)

last_number : (b : Bool) (x r : Number) → number_if b x ≡ Ok (number r) → r ≡ x
last_number true x r e = cc
last_number false x r e = absurd (cc)

-- what the steps pass on
pub remainder_steps : (limit : ℕ) (x y r : Number) → remainder limit (number x) (number y) ≡ Ok (number r) → (is_zero y ≡ false) × (r ≡ x -ℚ y *ℚ whole (truncated (x /ℚ y)))
unfolding remainder quotient product difference sum negated truncation ◌-ℚ◌
remainder_steps limit x y r e =
    let q = x /ℚ y in
    let p = y *ℚ whole (truncated q) in
    let first = after_quotient (is_zero y) (fits limit q) q (λ q. product limit (number y) (truncation q) then_step λ p. difference limit (number x) p) r e in
    let second = after_number (fits limit p) p (λ p. difference limit (number x) p) r first.1 in
    (first.0, last_number (sum_fits limit x (neg_ℚ p)) (x +ℚ neg_ℚ p) r second)

-- ---- below the divisor

-- truncation takes less than 1 away
near : (x : Number) → abs_ℚ (x -ℚ whole (truncated x)) <ℚ whole (pos 1)
near x =
    elim (Order.≤ℚ_total (whole (pos 0)) x) [
      | inl h ↦
          let low : whole (pos 0) ≤ℚ x -ℚ whole (floor_of x) = ≤ℚ_from (floor-≤ℚ x) (simp ring_ℚ) in
          let high : x -ℚ whole (floor_of x) <ℚ whole (pos 1) = <ℚ_from (<ℚ-floor x) (simp ring_ℚ) in
          rw (truncated_above x h, abs_above _ low) high
      | inr h ↦
          let high : x -ℚ whole (ceiling_of x) ≤ℚ whole (pos 0) = ≤ℚ_from (≤ℚ-ceiling x) (simp ring_ℚ) in
          let low : neg_ℚ (x -ℚ whole (ceiling_of x)) <ℚ whole (pos 1) = <ℚ_from (ceiling-<ℚ x) (simp ring_ℚ) in
          rw (truncated_below x h, abs_below _ high) low
    ]

pub remainder_below : (x y : Number) → y ≢ whole (pos 0) → abs_ℚ (x -ℚ y *ℚ whole (truncated (x /ℚ y))) <ℚ abs_ℚ y
remainder_below x y some =
    let q = x /ℚ y in
    let t = whole (truncated q) in
    let above : whole (pos 0) <ℚ abs_ℚ y = Order.<ℚ_from_≤ℚ _ _ (zero-≤ℚ-abs y) (λ e. some (abs_zero y (sym e))) in
    let split : x -ℚ y *ℚ t ≡ y *ℚ (q -ℚ t) =
    ap (λ w. w -ℚ y *ℚ t) (sym (/ℚ-*ℚ_self x y some)) ∙ (let e : (a : Number) → a *ℚ y -ℚ y *ℚ t ≡ y *ℚ (a -ℚ t) = λ a. simp ring_ℚ in e q) in
    rw (split, abs-*ℚ y (q -ℚ t))
    (subst (λ w. abs_ℚ y *ℚ abs_ℚ (q -ℚ t) <ℚ w) (*ℚ-one (abs_ℚ y)) (*ℚ-<ℚ_left (abs_ℚ (q -ℚ t)) (whole (pos 1)) (abs_ℚ y) above (near q)))

-- a number that is not 0 by its numerator
pub not_zero : (y : Number) → is_zero y ≡ false → y ≢ whole (pos 0)
not_zero y some e = let f : true ≡ false = ap (λ n. nat_abs n == 0) (sym (numerator-zero y e)) ∙ some in cc
