use Rattle.gms_eval.proofs.Entries.{constant-set}
use Rattle.gms_eval.proofs.leading.constant.Goals as goal

pub returns-in-None-clause-label : goal.returns-in-None-clause-label
returns-in-None-clause-label g c =
    constant-set g.F.ExactField.value g.F.ExactField.limit c.args.b.now c.in-Set.name c.label.result c.in-Set.lag c.args.index.now c.label.ensures c.in-Set.is c.in-None.is
