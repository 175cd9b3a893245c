-- What follows from the axioms.
use Rattle.gq_number.proofs.Ring.{+ℚ_cancel_left, neg_unique, neg_neg, *ℚ-zero, *ℚ-neg}
use Rattle.gq_number.proofs.Quotients.{*ℚ_cancel_left, inv_unique, inv_inv, no_zero_divisors}
use Rattle.gq_number.proofs.fields.cancellation_laws.Goals as goal

pub returns-clause-sum_cancels : goal.returns-clause-sum_cancels
returns-clause-sum_cancels c = +ℚ_cancel_left

pub returns-clause-product_cancels : goal.returns-clause-product_cancels
returns-clause-product_cancels c = *ℚ_cancel_left

pub returns-clause-negated_is_unique : goal.returns-clause-negated_is_unique
returns-clause-negated_is_unique c = neg_unique

pub returns-clause-reciprocal_is_unique : goal.returns-clause-reciprocal_is_unique
returns-clause-reciprocal_is_unique c = inv_unique

pub returns-clause-negated_twice : goal.returns-clause-negated_twice
returns-clause-negated_twice c = neg_neg

pub returns-clause-reciprocal_twice : goal.returns-clause-reciprocal_twice
returns-clause-reciprocal_twice c = inv_inv

pub returns-clause-product_with_zero : goal.returns-clause-product_with_zero
returns-clause-product_with_zero c = *ℚ-zero

pub returns-clause-product_with_negated : goal.returns-clause-product_with_negated
returns-clause-product_with_negated c = *ℚ-neg

pub returns-clause-no_zero_divisors : goal.returns-clause-no_zero_divisors
returns-clause-no_zero_divisors c = no_zero_divisors
