use Rattle.gms_check.proofs.Soundness.{checked-program}
use Rattle.gms_check.proofs.laws.checked_laws.Goals as goal

pub returns : goal.returns
returns g c = record { checked = checked-program g.F.ExactField.value }
