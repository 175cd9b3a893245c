-- Sums and products commute; 0 and NA in the tables.
use Rattle.std.proofs.Common.{refl}
use Rattle.gq_extended.specs.Extended.{difference}
use Rattle.gq_extended.proofs.StepLaws.{sum_comm, product_comm, negated_twice, over_nothing, na_in_sums, na_over}
use Rattle.gq_extended.proofs.laws.step_laws.Goals as goal

pub returns-clause-sum_commutes : goal.returns-clause-sum_commutes
returns-clause-sum_commutes c = sum_comm

pub returns-clause-product_commutes : goal.returns-clause-product_commutes
returns-clause-product_commutes c = product_comm

pub returns-clause-difference : goal.returns-clause-difference
unfolding difference
returns-clause-difference c = λ limit x y. refl

pub returns-clause-negated_twice : goal.returns-clause-negated_twice
returns-clause-negated_twice c = negated_twice

pub returns-clause-over_zero : goal.returns-clause-over_zero
returns-clause-over_zero c = over_nothing

pub returns-clause-na_in_sums : goal.returns-clause-na_in_sums
returns-clause-na_in_sums c = na_in_sums

pub returns-clause-na_in_quotients : goal.returns-clause-na_in_quotients
returns-clause-na_in_quotients c = na_over
