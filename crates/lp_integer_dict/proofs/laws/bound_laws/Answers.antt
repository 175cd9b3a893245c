-- When the steps on whole numbers fit.
use Rattle.lp_integer_dict.proofs.BoundLemmas.{every_ratio_fits, pair_product, pair_difference}
use Rattle.lp_integer_dict.proofs.Above.{bounded_above}
use Rattle.lp_integer_dict.proofs.laws.bound_laws.Goals as goal

pub returns-clause-ratios : goal.returns-clause-ratios
returns-clause-ratios c = λ limit bound d pivot q within_bound h. every_ratio_fits limit bound d within_bound h pivot q

pub returns-clause-pairs : goal.returns-clause-pairs
returns-clause-pairs c = λ limit ni nk f p di dk mi mk above_i above_k some top_i low_i top_k h. (
  pair_product limit ni nk f p di dk mi mk above_i above_k some top_i low_i top_k h,
  pair_difference limit ni nk f p di dk mi mk above_i above_k some top_i low_i top_k h,
)

pub returns-clause-above : goal.returns-clause-above
returns-clause-above c = λ n d most bound k u above h a. bounded_above n d most bound k u h above a
