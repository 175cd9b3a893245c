use Rattle.gms_eval.proofs.Marks.{shows-nothing}
use Rattle.gms_eval.proofs.stop.ExecStopOrMemory.counted.Goals as goal

pub returns : goal.returns
returns g c = shows-nothing g.F.ExactField.value c.made.result _ _ _ _ _ _ c.zero.ensures c.zero-2.ensures c.made.ensures
