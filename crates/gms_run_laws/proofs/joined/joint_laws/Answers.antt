use Rattle.gms_run_laws.proofs.Later.{joined}
use Rattle.gms_run_laws.proofs.joined.joint_laws.Goals as goal

pub returns : goal.returns
returns g c = record { joined = joined g.F.ExactField.value g.F.ExactField.limit }
