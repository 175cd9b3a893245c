-- The rows of numbers.
use Rattle.std.proofs.Common.{refl}
use Rattle.gq_number.specs.Number.{◌-ℚ◌}
use Rattle.gq_extended.specs.Extended.{negated, magnitude, sign, sum, difference, product, nearest, floor, ceiling, truncation}
use Rattle.gq_extended.specs.ExtendedOrder.{lesser, greater}
use Rattle.gq_extended.proofs.Raised.{quotient_number, power_number}
use Rattle.gq_extended.proofs.RelationLaws.{equals_numbers, less_numbers, at_most_numbers}
use Rattle.gq_extended.proofs.laws.number_laws.Goals as goal

pub returns-clause-quotient : goal.returns-clause-quotient
returns-clause-quotient c = quotient_number

pub returns-clause-power : goal.returns-clause-power
returns-clause-power c = power_number

pub returns-clause-equals : goal.returns-clause-equals
returns-clause-equals c = equals_numbers

pub returns-clause-less : goal.returns-clause-less
returns-clause-less c = less_numbers

pub returns-clause-at_most : goal.returns-clause-at_most
returns-clause-at_most c = at_most_numbers

pub returns-clause-sum : goal.returns-clause-sum
unfolding sum
returns-clause-sum c = λ limit x y. refl

pub returns-clause-difference : goal.returns-clause-difference
unfolding difference sum negated ◌-ℚ◌
returns-clause-difference c = λ limit x y. refl

pub returns-clause-product : goal.returns-clause-product
unfolding product
returns-clause-product c = λ limit x y. refl

pub returns-clause-negated : goal.returns-clause-negated
unfolding negated
returns-clause-negated c = λ x. refl

pub returns-clause-magnitude : goal.returns-clause-magnitude
unfolding magnitude
returns-clause-magnitude c = λ x. refl

pub returns-clause-sign : goal.returns-clause-sign
unfolding sign
returns-clause-sign c = λ x. refl

pub returns-clause-nearest : goal.returns-clause-nearest
unfolding nearest
returns-clause-nearest c = λ x. refl

pub returns-clause-floor : goal.returns-clause-floor
unfolding floor
returns-clause-floor c = λ x. refl

pub returns-clause-ceiling : goal.returns-clause-ceiling
unfolding ceiling
returns-clause-ceiling c = λ x. refl

pub returns-clause-truncation : goal.returns-clause-truncation
unfolding truncation
returns-clause-truncation c = λ x. refl

pub returns-clause-lesser : goal.returns-clause-lesser
unfolding lesser
returns-clause-lesser c = λ x y. refl

pub returns-clause-greater : goal.returns-clause-greater
unfolding greater
returns-clause-greater c = λ x y. refl
