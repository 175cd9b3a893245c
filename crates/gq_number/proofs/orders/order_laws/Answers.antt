-- The order is total, and decided.
use Rattle.gq_number.proofs.Order.{≤ℚ_refl, ≤ℚ_antisymm, ≤ℚ_trans, ≤ℚ_total, ≤ℚ_or_above, ≤ℚ_from_<ℚ, ≢_from_<ℚ, <ℚ_from_≤ℚ, not_above, <ℚ_from_not_≤ℚ}
use Rattle.gq_number.proofs.Compares.{number_cmp_decides}
use Rattle.gq_number.proofs.orders.order_laws.Goals as goal

pub returns-clause-reflexive : goal.returns-clause-reflexive
returns-clause-reflexive c = ≤ℚ_refl

pub returns-clause-antisymmetric : goal.returns-clause-antisymmetric
returns-clause-antisymmetric c = ≤ℚ_antisymm

pub returns-clause-transitive : goal.returns-clause-transitive
returns-clause-transitive c = ≤ℚ_trans

pub returns-clause-total : goal.returns-clause-total
returns-clause-total c = ≤ℚ_total

pub returns-clause-either : goal.returns-clause-either
returns-clause-either c = ≤ℚ_or_above

pub returns-clause-below_is_at_most_and_other : goal.returns-clause-below_is_at_most_and_other
returns-clause-below_is_at_most_and_other c = λ x y. (λ h. (≤ℚ_from_<ℚ x y h, ≢_from_<ℚ x y h), λ h. <ℚ_from_≤ℚ x y h.0 h.1)

pub returns-clause-below_is_not_at_least : goal.returns-clause-below_is_not_at_least
returns-clause-below_is_not_at_least c = λ x y. (λ h k. not_above y x k h, <ℚ_from_not_≤ℚ x y)

pub returns-clause-compares_less : goal.returns-clause-compares_less
returns-clause-compares_less c = λ x y. (number_cmp_decides x y).0

pub returns-clause-compares_equal : goal.returns-clause-compares_equal
returns-clause-compares_equal c = λ x y. (number_cmp_decides x y).1

pub returns-clause-compares_greater : goal.returns-clause-compares_greater
returns-clause-compares_greater c = λ x y. (number_cmp_decides x y).2
