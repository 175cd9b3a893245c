use Rattle.std.proofs.Common.{sym, ◌∙◌}
use Rattle.std.proofs.lemmas.Bool.{both_ways}
use Rattle.lp_fraction_dict.proofs.Filling.{below_stops, below_goes}
use Rattle.lp_fraction_dict.proofs.first.is_some_below.Goals as goal

pub returns-then-is_below_zero : goal.returns-then-is_below_zero
returns-then-is_below_zero g c =
    sym (c.loop-row.invariant ∙ below_stops g.F.ExactField.value c.args.rows.now c.loop-row.row-index c.row-item.result c.loop-row-test.true c.row-item.is (c.is_below_zero.ensures.0 c.if-is_below_zero.true))

pub loop-row-preserved : goal.loop-row-preserved
loop-row-preserved g c =
    c.loop-row.invariant ∙ below_goes g.F.ExactField.value c.args.rows.now c.loop-row.row-index c.row-item.result c.loop-row-test.true c.row-item.is (λ under. both_ways c.is_below_zero.result c.if-is_below_zero.false (c.is_below_zero.ensures.1 under))
