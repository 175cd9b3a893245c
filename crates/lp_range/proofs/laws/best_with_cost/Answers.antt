use Rattle.std.proofs.Common.{◌≡◌, cond, Some, subst}
use Rattle.lp_core.specs.DualBound.{low, high}
use Rattle.lp_core.proofs.Duality.{low_at_most, high_at_least}
use Rattle.lp_range.specs.Moved.{costs_with, cost_at}
use Rattle.lp_range.proofs.laws.best_with_cost.Goals as goal

pub returns-clause-least : goal.returns-clause-least
returns-clause-least g c lp levels j cost formed least meets x feasible =
    low_at_most g.F.ExactField.value lp meets.0 x (costs_with lp j cost) (cost_at lp (costs_with lp j cost) levels) formed feasible
    (subst (λ b. cond b (high g.F.ExactField.value lp (costs_with lp j cost) meets.0) (low g.F.ExactField.value lp (costs_with lp j cost) meets.0) ≡ Some (cost_at lp (costs_with lp j cost) levels)) least meets.2)

pub returns-clause-greatest : goal.returns-clause-greatest
returns-clause-greatest g c lp levels j cost formed greatest meets x feasible =
    high_at_least g.F.ExactField.value lp meets.0 x (costs_with lp j cost) (cost_at lp (costs_with lp j cost) levels) formed feasible
    (subst (λ b. cond b (high g.F.ExactField.value lp (costs_with lp j cost) meets.0) (low g.F.ExactField.value lp (costs_with lp j cost) meets.0) ≡ Some (cost_at lp (costs_with lp j cost) levels)) greatest meets.2)
