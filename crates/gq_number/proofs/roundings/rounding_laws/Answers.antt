-- Truncation and rounding.
use Rattle.gq_number.proofs.Rounding.{truncated_above, truncated_below, truncated-whole, rounded_near, rounded_above, rounded_below, rounded-neg, rounded-whole}
use Rattle.gq_number.proofs.roundings.rounding_laws.Goals as goal

pub returns-clause-truncated_from_zero : goal.returns-clause-truncated_from_zero
returns-clause-truncated_from_zero c = truncated_above

pub returns-clause-truncated_to_zero : goal.returns-clause-truncated_to_zero
returns-clause-truncated_to_zero c = truncated_below

pub returns-clause-truncated_of_whole : goal.returns-clause-truncated_of_whole
returns-clause-truncated_of_whole c = truncated-whole

pub returns-clause-rounded_near : goal.returns-clause-rounded_near
returns-clause-rounded_near c = rounded_near

pub returns-clause-rounded_from_zero : goal.returns-clause-rounded_from_zero
returns-clause-rounded_from_zero c = rounded_above

pub returns-clause-rounded_to_zero : goal.returns-clause-rounded_to_zero
returns-clause-rounded_to_zero c = rounded_below

pub returns-clause-rounded_negated : goal.returns-clause-rounded_negated
returns-clause-rounded_negated c = rounded-neg

pub returns-clause-rounded_of_whole : goal.returns-clause-rounded_of_whole
returns-clause-rounded_of_whole c = rounded-whole
