-- The order under the operations, both ways where both hold.
use Rattle.gq_number.proofs.Order.{+ℚ-≤ℚ_right, ≤ℚ_cancel_right, +ℚ-<ℚ_right, <ℚ_cancel_right, neg-≤ℚ, ≤ℚ_from_<ℚ}
use Rattle.gq_number.proofs.Signs.{zero-<ℚ-one, *ℚ-≤ℚ_right, *ℚ-≤ℚ_cancel_right, *ℚ-<ℚ_right, *ℚ-<ℚ_cancel_right, *ℚ-≤ℚ_turned, *ℚ-≤ℚ_turned_back, *ℚ-<ℚ_turned, *ℚ-<ℚ_turned_back, inv-zero-<ℚ, /ℚ-≤ℚ, square-≤ℚ}
use Rattle.gq_number.proofs.orders.monotone_laws.Goals as goal

pub returns-clause-zero_below_one : goal.returns-clause-zero_below_one
returns-clause-zero_below_one c = zero-<ℚ-one

pub returns-clause-sum : goal.returns-clause-sum
returns-clause-sum c = λ x y z. (+ℚ-≤ℚ_right x y z, ≤ℚ_cancel_right x y z)

pub returns-clause-sum_strict : goal.returns-clause-sum_strict
returns-clause-sum_strict c = λ x y z. (+ℚ-<ℚ_right x y z, <ℚ_cancel_right x y z)

pub returns-clause-negated : goal.returns-clause-negated
returns-clause-negated c = neg-≤ℚ

pub returns-clause-by_positive : goal.returns-clause-by_positive
returns-clause-by_positive c = λ x y z h. (*ℚ-≤ℚ_right x y z (≤ℚ_from_<ℚ _ z h), *ℚ-≤ℚ_cancel_right x y z h)

pub returns-clause-by_positive_strict : goal.returns-clause-by_positive_strict
returns-clause-by_positive_strict c = λ x y z h. (*ℚ-<ℚ_right x y z h, *ℚ-<ℚ_cancel_right x y z (≤ℚ_from_<ℚ _ z h))

pub returns-clause-by_negative : goal.returns-clause-by_negative
returns-clause-by_negative c = λ x y z h. (*ℚ-≤ℚ_turned x y z (≤ℚ_from_<ℚ z _ h), *ℚ-≤ℚ_turned_back x y z h)

pub returns-clause-by_negative_strict : goal.returns-clause-by_negative_strict
returns-clause-by_negative_strict c = λ x y z h. (*ℚ-<ℚ_turned x y z h, *ℚ-<ℚ_turned_back x y z (≤ℚ_from_<ℚ z _ h))

pub returns-clause-reciprocal : goal.returns-clause-reciprocal
returns-clause-reciprocal c = inv-zero-<ℚ

pub returns-clause-quotient : goal.returns-clause-quotient
returns-clause-quotient c = /ℚ-≤ℚ

pub returns-clause-square : goal.returns-clause-square
returns-clause-square c = square-≤ℚ
