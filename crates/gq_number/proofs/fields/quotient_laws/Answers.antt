-- The laws of quotients.
use Rattle.std.proofs.Common.{sym}
use Rattle.gq_number.proofs.Quotients.{/ℚ-zero, /ℚ-one, /ℚ_self, *ℚ-/ℚ, +ℚ-/ℚ, /ℚ-/ℚ, /ℚ-/ℚ_right, inv-*ℚ, /ℚ-≡}
use Rattle.gq_number.proofs.fields.quotient_laws.Goals as goal

pub returns-clause-by_zero : goal.returns-clause-by_zero
returns-clause-by_zero c = /ℚ-zero

pub returns-clause-by_one : goal.returns-clause-by_one
returns-clause-by_one c = /ℚ-one

pub returns-clause-by_itself : goal.returns-clause-by_itself
returns-clause-by_itself c = /ℚ_self

pub returns-clause-of_product : goal.returns-clause-of_product
returns-clause-of_product c = λ x y z. sym (*ℚ-/ℚ x y z)

pub returns-clause-of_sum : goal.returns-clause-of_sum
returns-clause-of_sum c = +ℚ-/ℚ

pub returns-clause-of_quotient : goal.returns-clause-of_quotient
returns-clause-of_quotient c = /ℚ-/ℚ

pub returns-clause-by_quotient : goal.returns-clause-by_quotient
returns-clause-by_quotient c = /ℚ-/ℚ_right

pub returns-clause-reciprocal_of_product : goal.returns-clause-reciprocal_of_product
returns-clause-reciprocal_of_product c = inv-*ℚ

pub returns-clause-equals : goal.returns-clause-equals
returns-clause-equals c = /ℚ-≡
