use Rattle.gms_laws.proofs.ChosenElements.{in_order, exact}
use Rattle.gms_laws.proofs.domains.domain_laws.Goals as goal

pub returns-clause-in_order : goal.returns-clause-in_order
returns-clause-in_order g c state binding at control found simple e = in_order state g.F.ExactField.value g.F.ExactField.limit binding at control found simple e

pub returns-clause-exact : goal.returns-clause-exact
returns-clause-exact g c state binding at control found element simple few e = exact state g.F.ExactField.value g.F.ExactField.limit binding at control found element simple few e
