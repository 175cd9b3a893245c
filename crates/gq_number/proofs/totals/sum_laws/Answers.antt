-- The laws of sums.
use Rattle.gq_number.proofs.Sums.{sum_by_ℚ-nil, sum_by_ℚ-cons, sum_by_ℚ-append, sum_by_ℚ-+ℚ, sum_by_ℚ-*ℚ, sum_by_ℚ_exchanged, sum_by_ℚ-IsPermutation, sum_by_ℚ_same, sum_by_ℚ-≤ℚ, zero-≤ℚ-sum_by_ℚ, sum_by_ℚ_zero_only}
use Rattle.gq_number.proofs.totals.sum_laws.Goals as goal

pub returns-clause-over_none : goal.returns-clause-over_none
returns-clause-over_none g c = sum_by_ℚ-nil

pub returns-clause-over_more : goal.returns-clause-over_more
returns-clause-over_more g c = sum_by_ℚ-cons

pub returns-clause-over_append : goal.returns-clause-over_append
returns-clause-over_append g c = sum_by_ℚ-append

pub returns-clause-of_sums : goal.returns-clause-of_sums
returns-clause-of_sums g c = sum_by_ℚ-+ℚ

pub returns-clause-of_multiples : goal.returns-clause-of_multiples
returns-clause-of_multiples g c = sum_by_ℚ-*ℚ

pub returns-clause-exchanged : goal.returns-clause-exchanged
returns-clause-exchanged g c = sum_by_ℚ_exchanged

pub returns-clause-same_terms : goal.returns-clause-same_terms
returns-clause-same_terms g c = sum_by_ℚ_same

pub returns-clause-greater_terms : goal.returns-clause-greater_terms
returns-clause-greater_terms g c = sum_by_ℚ-≤ℚ

pub returns-clause-at_least_zero : goal.returns-clause-at_least_zero
returns-clause-at_least_zero g c = zero-≤ℚ-sum_by_ℚ

pub returns-clause-zero_only : goal.returns-clause-zero_only
returns-clause-zero_only g c = sum_by_ℚ_zero_only

pub returns-clause-in_any_order : goal.returns-clause-in_any_order
returns-clause-in_any_order g c = sum_by_ℚ-IsPermutation
