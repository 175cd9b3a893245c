use Rattle.gms_run.proofs.Joined.{runs_join}
use Rattle.gms_run.proofs.laws.run_laws.Goals as goal

pub returns : goal.returns
returns c = runs_join
