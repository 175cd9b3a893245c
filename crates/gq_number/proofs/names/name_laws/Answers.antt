-- The laws of names.
use Rattle.gq_number.proofs.Means.{ratio_itself}
use Rattle.gq_number.proofs.Naming.{number-≡, ratio_keeps, ratio-≡, ratio_is, ratio-one, whole-+ℚ, whole-*ℚ, neg-whole, whole-≤ℚ, decimal_parts, decimal_more}
use Rattle.gq_number.proofs.names.name_laws.Goals as goal

pub returns-clause-same_number : goal.returns-clause-same_number
returns-clause-same_number c = number-≡

pub returns-clause-own_parts : goal.returns-clause-own_parts
returns-clause-own_parts c = ratio_itself

pub returns-clause-reduced_parts : goal.returns-clause-reduced_parts
returns-clause-reduced_parts c = ratio_keeps

pub returns-clause-same_pair : goal.returns-clause-same_pair
returns-clause-same_pair c = ratio-≡

pub returns-clause-pair_is_quotient : goal.returns-clause-pair_is_quotient
returns-clause-pair_is_quotient c = ratio_is

pub returns-clause-pair_over_one : goal.returns-clause-pair_over_one
returns-clause-pair_over_one c = ratio-one

pub returns-clause-whole_sum : goal.returns-clause-whole_sum
returns-clause-whole_sum c = whole-+ℚ

pub returns-clause-whole_product : goal.returns-clause-whole_product
returns-clause-whole_product c = whole-*ℚ

pub returns-clause-whole_negated : goal.returns-clause-whole_negated
returns-clause-whole_negated c = neg-whole

pub returns-clause-whole_order : goal.returns-clause-whole_order
returns-clause-whole_order c = whole-≤ℚ

pub returns-clause-decimal_parts : goal.returns-clause-decimal_parts
returns-clause-decimal_parts c = decimal_parts

pub returns-clause-decimal_zero : goal.returns-clause-decimal_zero
returns-clause-decimal_zero c = decimal_more
