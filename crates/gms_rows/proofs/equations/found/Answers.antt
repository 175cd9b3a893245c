use Rattle.std.proofs.Common.{◌∙◌, sym}
use Rattle.gms_rows.proofs.Naming.{found-next, found-nowhere}
use Rattle.gms_rows.proofs.equations.found.Goals as goal

pub loop-model-preserved : goal.loop-model-preserved
loop-model-preserved c =
    c.loop-model.invariant ∙ found-next c.args.declared.now c.args.name c.args.models.now c.loop-model.model-index c.model-item.result c.loop-model-test.true c.model-item.is c.if-model-name.false

pub returns : goal.returns
returns c =
    sym (c.loop-model.invariant ∙ found-nowhere c.args.declared.now c.args.name c.args.models.now c.loop-model.model-index c.loop-model-test.false)
