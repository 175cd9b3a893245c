use Rattle.gms_run.proofs.Restarting.{says_both}
use Rattle.gms_run.proofs.laws.save_laws.Goals as goal

pub returns : goal.returns
returns c = says_both
