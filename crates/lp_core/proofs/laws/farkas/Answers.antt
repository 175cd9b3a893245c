use Rattle.lp_core.proofs.Duality.{none_feasible}
use Rattle.lp_core.proofs.laws.farkas.Goals as goal

pub returns : goal.returns
returns g c = λ lp duals x formed proof feasible. none_feasible g.F.ExactField.value lp duals x proof.above.0 formed proof.above.1 proof.above.2 feasible
