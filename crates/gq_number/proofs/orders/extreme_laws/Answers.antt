-- The lesser, the greater and the magnitude.
use Rattle.std.proofs.Common.{inl, inr}
use Rattle.gq_number.proofs.Order.{≤ℚ_trans}
use Rattle.gq_number.proofs.Compares.{min_is, min-≤ℚ_left, min-≤ℚ_right, ≤ℚ-min, max_is, ≤ℚ-max_left, ≤ℚ-max_right, max-≤ℚ, abs_above, abs_below, zero-≤ℚ-abs, abs_within, abs-*ℚ, abs-+ℚ}
use Rattle.gq_number.proofs.orders.extreme_laws.Goals as goal

pub returns-clause-min_is_one : goal.returns-clause-min_is_one
returns-clause-min_is_one c = λ x y. elim (min_is x y) [ inl h ↦ inl h.0 | inr h ↦ inr h.0 ]

pub returns-clause-min_is_greatest_below : goal.returns-clause-min_is_greatest_below
returns-clause-min_is_greatest_below c = λ x y z. (λ h. (≤ℚ_trans z _ x h (min-≤ℚ_left x y), ≤ℚ_trans z _ y h (min-≤ℚ_right x y)), λ h. ≤ℚ-min x y z h.0 h.1)

pub returns-clause-max_is_one : goal.returns-clause-max_is_one
returns-clause-max_is_one c = λ x y. elim (max_is x y) [ inl h ↦ inl h.0 | inr h ↦ inr h.0 ]

pub returns-clause-max_is_least_above : goal.returns-clause-max_is_least_above
returns-clause-max_is_least_above c = λ x y z. (λ h. (≤ℚ_trans x _ z (≤ℚ-max_left x y) h, ≤ℚ_trans y _ z (≤ℚ-max_right x y) h), λ h. max-≤ℚ x y z h.0 h.1)

pub returns-clause-magnitude_above : goal.returns-clause-magnitude_above
returns-clause-magnitude_above c = abs_above

pub returns-clause-magnitude_below : goal.returns-clause-magnitude_below
returns-clause-magnitude_below c = abs_below

pub returns-clause-magnitude_at_least_zero : goal.returns-clause-magnitude_at_least_zero
returns-clause-magnitude_at_least_zero c = zero-≤ℚ-abs

pub returns-clause-magnitude_at_most : goal.returns-clause-magnitude_at_most
returns-clause-magnitude_at_most c = abs_within

pub returns-clause-magnitude_of_product : goal.returns-clause-magnitude_of_product
returns-clause-magnitude_of_product c = abs-*ℚ

pub returns-clause-triangle : goal.returns-clause-triangle
returns-clause-triangle c = abs-+ℚ
