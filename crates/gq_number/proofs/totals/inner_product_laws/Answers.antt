-- The laws of inner products.
use Rattle.gq_number.proofs.Sums.{inner_ℚ-zip, inner_ℚ_comm, inner_ℚ-scaled, inner_ℚ-added, inner_ℚ-append, inner_ℚ_exchanged, zero-≤ℚ-inner_ℚ, inner_ℚ-≤ℚ, inner_ℚ_zero_only}
use Rattle.gq_number.proofs.totals.inner_product_laws.Goals as goal

pub returns-clause-products : goal.returns-clause-products
returns-clause-products c = inner_ℚ-zip

pub returns-clause-commutes : goal.returns-clause-commutes
returns-clause-commutes c = inner_ℚ_comm

pub returns-clause-of_multiple : goal.returns-clause-of_multiple
returns-clause-of_multiple c = inner_ℚ-scaled

pub returns-clause-of_sum : goal.returns-clause-of_sum
returns-clause-of_sum c = inner_ℚ-added

pub returns-clause-over_append : goal.returns-clause-over_append
returns-clause-over_append c = inner_ℚ-append

pub returns-clause-exchanged : goal.returns-clause-exchanged
returns-clause-exchanged c = inner_ℚ_exchanged

pub returns-clause-at_least_zero : goal.returns-clause-at_least_zero
returns-clause-at_least_zero c = zero-≤ℚ-inner_ℚ

pub returns-clause-greater : goal.returns-clause-greater
returns-clause-greater c = inner_ℚ-≤ℚ

pub returns-clause-zero_only : goal.returns-clause-zero_only
returns-clause-zero_only c = inner_ℚ_zero_only
