use Rattle.gms_run.proofs.Planned.{answered-rightly}
use Rattle.gms_run.proofs.laws.answer_laws.Goals as goal

pub returns : goal.returns
returns c = answered-rightly
