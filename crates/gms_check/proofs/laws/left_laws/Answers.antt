use Rattle.gms_check.proofs.LeftAmounts.{program-left}
use Rattle.gms_check.proofs.laws.left_laws.Goals as goal

pub returns : goal.returns
returns g c = program-left g.F.ExactField.value
