-- What fits under the lesser limit fits under the greater.
use Rattle.std.proofs.Common.{◌-◌, ◌^◌, arith}
use Rattle.gq_number.specs.Number.{neg_ℚ}
use Rattle.gq_frac.proofs.Steps.{sum_fits_more, same_answer}
use Rattle.gq_frac.proofs.laws.sub_laws.Goals as goal

pub returns-clause-fits : goal.returns-clause-fits
returns-clause-fits c x y = sum_fits_more (2 ^ 63 - 1) (2 ^ 127 - 1) x (neg_ℚ y) (omega arith)

pub returns-clause-answers : goal.returns-clause-answers
returns-clause-answers c x y narrow wide = same_answer _ _ _ narrow wide (sum_fits_more (2 ^ 63 - 1) (2 ^ 127 - 1) x (neg_ℚ y) (omega arith))
