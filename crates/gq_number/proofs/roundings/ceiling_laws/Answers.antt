-- The ceiling.
use Rattle.gq_number.proofs.Rounding.{≤ℚ-ceiling, ceiling-<ℚ, ceiling_least, ceiling_unique, ceiling-whole}
use Rattle.gq_number.proofs.roundings.ceiling_laws.Goals as goal

pub returns-clause-at_least : goal.returns-clause-at_least
returns-clause-at_least c = ≤ℚ-ceiling

pub returns-clause-within_one : goal.returns-clause-within_one
returns-clause-within_one c = ceiling-<ℚ

pub returns-clause-least : goal.returns-clause-least
returns-clause-least c = ceiling_least

pub returns-clause-only : goal.returns-clause-only
returns-clause-only c = ceiling_unique

pub returns-clause-of_whole : goal.returns-clause-of_whole
returns-clause-of_whole c = ceiling-whole
