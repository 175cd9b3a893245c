use Rattle.lp_range.proofs.Loops.{not_zero_above, not_zero_below}
use Rattle.lp_range.proofs.interval.with_amount.Goals as goal

pub div-requires : goal.div-requires
div-requires g c = not_zero_above (g.F.ExactField.value c.args.each) (g.F.ExactField.value c.zero.result) c.cmp_value.result c.zero.ensures c.cmp_value.ensures c.in-Greater.is

pub div-requires-in-Less : goal.div-requires-in-Less
div-requires-in-Less g c = not_zero_below (g.F.ExactField.value c.args.each) (g.F.ExactField.value c.zero.result) c.cmp_value.result c.zero.ensures c.cmp_value.ensures c.in-Less.is
