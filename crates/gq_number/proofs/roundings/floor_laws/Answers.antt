-- The floor.
use Rattle.gq_number.proofs.Rounding.{floor-≤ℚ, <ℚ-floor, floor_greatest, floor_unique, floor-whole}
use Rattle.gq_number.proofs.roundings.floor_laws.Goals as goal

pub returns-clause-at_most : goal.returns-clause-at_most
returns-clause-at_most c = floor-≤ℚ

pub returns-clause-within_one : goal.returns-clause-within_one
returns-clause-within_one c = <ℚ-floor

pub returns-clause-greatest : goal.returns-clause-greatest
returns-clause-greatest c = floor_greatest

pub returns-clause-only : goal.returns-clause-only
returns-clause-only c = floor_unique

pub returns-clause-of_whole : goal.returns-clause-of_whole
returns-clause-of_whole c = floor-whole
