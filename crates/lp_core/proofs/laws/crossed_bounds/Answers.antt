use Rattle.lp_core.proofs.Rays.{none_between}
use Rattle.lp_core.proofs.laws.crossed_bounds.Goals as goal

pub returns : goal.returns
returns g c = λ lp j duals x proof feasible. none_between g.F.ExactField.value lp j duals x proof feasible
