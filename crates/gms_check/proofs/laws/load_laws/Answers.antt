use Rattle.gms_check.proofs.LoadedNames.{members-loaded, values-loaded, bounds-loaded, equations-loaded, positions-loaded, undeclared-loaded}
use Rattle.gms_check.proofs.laws.load_laws.Goals as goal

pub returns-clause-members : goal.returns-clause-members
returns-clause-members g c = members-loaded g.F.ExactField.value

pub returns-clause-values : goal.returns-clause-values
returns-clause-values g c = values-loaded g.F.ExactField.value

pub returns-clause-bounds : goal.returns-clause-bounds
returns-clause-bounds g c = bounds-loaded g.F.ExactField.value

pub returns-clause-equations : goal.returns-clause-equations
returns-clause-equations g c = equations-loaded g.F.ExactField.value

pub returns-clause-positions : goal.returns-clause-positions
returns-clause-positions g c = positions-loaded g.F.ExactField.value

pub returns-clause-undeclared : goal.returns-clause-undeclared
returns-clause-undeclared g c = undeclared-loaded g.F.ExactField.value
