use Rattle.gms_laws.proofs.StatementPlaces.{error-place}
use Rattle.gms_laws.proofs.occurrences.error_places.Goals as goal

pub returns : goal.returns
returns g c program solvers i statement error there e = error-place g.F.ExactField.value program solvers i statement error there e
