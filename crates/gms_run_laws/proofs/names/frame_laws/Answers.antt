use Rattle.gms_run_laws.proofs.Running.{ends-alike}
use Rattle.gms_run_laws.proofs.names.frame_laws.Goals as goal

pub returns : goal.returns
returns g c = ends-alike g.F.ExactField.value g.F.ExactField.limit
