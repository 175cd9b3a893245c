use Rattle.lp_simplex.proofs.Formless.{one_more}
use Rattle.lp_simplex.proofs.answer.zeros.Goals as goal

pub loop-place-preserved : goal.loop-place-preserved
loop-place-preserved g c =
    one_more g.F.ExactField.value c.loop-place._place c.loop-place.list.items c.push.new.self.items c.zero.result c.loop-place.invariant c.zero.ensures c.in_ok-push.ensures.items
