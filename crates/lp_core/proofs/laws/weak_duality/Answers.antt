use Rattle.lp_core.specs.Sums.{value_of_column}
use Rattle.lp_core.proofs.Duality.{bound_below, bound_above}
use Rattle.lp_core.proofs.laws.weak_duality.Goals as goal

pub returns-clause-least : goal.returns-clause-least
returns-clause-least g c = λ lp duals x bound formed feasible least is. bound_below g.F.ExactField.value lp duals x bound formed feasible least is

pub returns-clause-greatest : goal.returns-clause-greatest
returns-clause-greatest g c = λ lp duals x bound formed feasible greatest is. bound_above g.F.ExactField.value lp duals x bound formed feasible greatest is

pub returns-clause-optimum_is_least : goal.returns-clause-optimum_is_least
returns-clause-optimum_is_least g c =
    λ lp levels row_levels duals reduced x formed proof least feasible. bound_below g.F.ExactField.value lp duals x (value_of_column levels lp.objective) formed feasible least proof.bound

pub returns-clause-optimum_is_greatest : goal.returns-clause-optimum_is_greatest
returns-clause-optimum_is_greatest g c =
    λ lp levels row_levels duals reduced x formed proof greatest feasible. bound_above g.F.ExactField.value lp duals x (value_of_column levels lp.objective) formed feasible greatest proof.bound
