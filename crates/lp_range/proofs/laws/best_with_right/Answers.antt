use Rattle.lp_core.specs.Sums.{value_of_column}
use Rattle.lp_core.specs.Numbers.{lp_numbers}
use Rattle.lp_core.proofs.Duality.{bound_below, bound_above}
use Rattle.lp_range.specs.Moved.{itself, with_right}
use Rattle.lp_range.proofs.Numbers.{with_right_formed, numbers_formed}
use Rattle.lp_range.proofs.laws.best_with_right.Goals as goal

pub returns-clause-least : goal.returns-clause-least
returns-clause-least g c lp duals i right formed least meets x feasible =
    bound_below itself (with_right i right (lp_numbers g.F.ExactField.value lp)) duals x (value_of_column meets.0 lp.objective) (with_right_formed right i (lp_numbers g.F.ExactField.value lp) (numbers_formed g.F.ExactField.value lp formed)) feasible least meets.2

pub returns-clause-greatest : goal.returns-clause-greatest
returns-clause-greatest g c lp duals i right formed greatest meets x feasible =
    bound_above itself (with_right i right (lp_numbers g.F.ExactField.value lp)) duals x (value_of_column meets.0 lp.objective) (with_right_formed right i (lp_numbers g.F.ExactField.value lp) (numbers_formed g.F.ExactField.value lp formed)) feasible greatest meets.2
