-- The axioms, as they are proved.
use Rattle.gq_number.proofs.Field.{+ℚ_comm, +ℚ_assoc, +ℚ-zero, +ℚ-neg, -ℚ_is, *ℚ_comm, *ℚ_assoc, *ℚ-one, *ℚ-+ℚ, /ℚ_is}
use Rattle.gq_number.proofs.Quotients.{*ℚ-inv, one-≢-zero}
use Rattle.gq_number.proofs.fields.field_laws.Goals as goal

pub returns-clause-sum_commutes : goal.returns-clause-sum_commutes
returns-clause-sum_commutes c = +ℚ_comm

pub returns-clause-sum_associates : goal.returns-clause-sum_associates
returns-clause-sum_associates c = +ℚ_assoc

pub returns-clause-zero_is_neutral : goal.returns-clause-zero_is_neutral
returns-clause-zero_is_neutral c = +ℚ-zero

pub returns-clause-negated_takes_away : goal.returns-clause-negated_takes_away
returns-clause-negated_takes_away c = +ℚ-neg

pub returns-clause-product_commutes : goal.returns-clause-product_commutes
returns-clause-product_commutes c = *ℚ_comm

pub returns-clause-product_associates : goal.returns-clause-product_associates
returns-clause-product_associates c = *ℚ_assoc

pub returns-clause-one_is_neutral : goal.returns-clause-one_is_neutral
returns-clause-one_is_neutral c = *ℚ-one

pub returns-clause-reciprocal_divides : goal.returns-clause-reciprocal_divides
returns-clause-reciprocal_divides c = *ℚ-inv

pub returns-clause-product_distributes : goal.returns-clause-product_distributes
returns-clause-product_distributes c = *ℚ-+ℚ

pub returns-clause-one_is_not_zero : goal.returns-clause-one_is_not_zero
returns-clause-one_is_not_zero c = one-≢-zero

pub returns-clause-difference : goal.returns-clause-difference
returns-clause-difference c = -ℚ_is

pub returns-clause-quotient : goal.returns-clause-quotient
returns-clause-quotient c = /ℚ_is
