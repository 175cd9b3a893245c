use Rattle.gms_check.proofs.ReferencesRead.{program-meant}
use Rattle.gms_check.proofs.laws.reference_laws.Goals as goal

pub returns : goal.returns
returns g c = program-meant g.F.ExactField.value
