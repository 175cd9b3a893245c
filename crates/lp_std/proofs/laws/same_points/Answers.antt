use Rattle.lp_std.proofs.SamePoints.{same_points, same_objective}
use Rattle.lp_std.proofs.laws.same_points.Goals as goal

pub returns-clause-points : goal.returns-clause-points
returns-clause-points g c = λ lp y formed above. same_points g.F.ExactField.value lp y formed above

pub returns-clause-objective : goal.returns-clause-objective
returns-clause-objective g c = λ lp y formed. same_objective g.F.ExactField.value lp y formed
