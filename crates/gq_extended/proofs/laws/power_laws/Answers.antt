-- Exponents add up.
use Rattle.gq_extended.proofs.ExponentLaws.{power-zero, power-one, power-+ℤ, power_of_zero}
use Rattle.gq_extended.proofs.laws.power_laws.Goals as goal

pub returns-clause-zeroth : goal.returns-clause-zeroth
returns-clause-zeroth c = power-zero

pub returns-clause-first : goal.returns-clause-first
returns-clause-first c = power-one

pub returns-clause-sum : goal.returns-clause-sum
returns-clause-sum c = power-+ℤ

pub returns-clause-of_zero : goal.returns-clause-of_zero
returns-clause-of_zero c = power_of_zero
