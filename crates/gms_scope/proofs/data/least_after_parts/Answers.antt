use Rattle.std.proofs.Common.{◌∙◌, ap}
use Rattle.gms_scope.specs.Data.{least_after}
use Rattle.gms_scope.proofs.Ascents.{goes, stops}
use Rattle.gms_scope.proofs.data.least_after_parts.Goals as goal

pub returns-in-None : goal.returns-in-None
returns-in-None c =
    stops (λ labels. labels) c.args.parts.now c.loop-part.part-index c.loop-part.least _ c.part-item.result c.loop-part-test.true c.part-item.is c.loop-part.invariant (c.in-None.ensures ∙ ap (least_after c.loop-part.least) c.as_slice.ensures)

pub loop-part-preserved : goal.loop-part-preserved
loop-part-preserved c =
    goes (λ labels. labels) c.args.parts.now c.loop-part.part-index c.loop-part.least c.in-Some.next _ c.part-item.result c.loop-part-test.true c.part-item.is c.loop-part.invariant (c.in-Some.ensures ∙ ap (least_after c.loop-part.least) c.as_slice.ensures)
