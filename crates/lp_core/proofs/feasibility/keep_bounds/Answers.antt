use Rattle.std.proofs.Common.{sym, ◌∙◌}
use Rattle.lp_core.proofs.Checks.{lower_fails, upper_fails, bounds_go}
use Rattle.lp_core.proofs.feasibility.keep_bounds.Goals as goal

pub returns-then-not-keeps_lower_of : goal.returns-then-not-keeps_lower_of
returns-then-not-keeps_lower_of g c =
    sym (c.loop-j.invariant ∙ lower_fails g.F.ExactField.value c.args.x.now c.args.columns.now c.loop-j.j c.index-columns-j.result c.index-x-j.result c.loop-j-test.true c.requires c.index-columns-j.is c.index-x-j.is (sym c.if-not-keeps_lower_of.ensures))

pub returns-then-not-keeps_upper_of : goal.returns-then-not-keeps_upper_of
returns-then-not-keeps_upper_of g c =
    sym (c.loop-j.invariant ∙ upper_fails g.F.ExactField.value c.args.x.now c.args.columns.now c.loop-j.j c.index-columns-j.result c.index-x-j.result c.loop-j-test.true c.requires c.index-columns-j.is c.index-x-j.is (sym c.if-not-keeps_lower_of.ensures) (sym c.if-not-keeps_upper_of.ensures))

pub loop-j-preserved : goal.loop-j-preserved
loop-j-preserved g c =
    c.loop-j.invariant ∙ bounds_go g.F.ExactField.value c.args.x.now c.args.columns.now c.loop-j.j c.index-columns-j.result c.index-x-j.result c.loop-j-test.true c.requires c.index-columns-j.is c.index-x-j.is (sym c.if-not-keeps_lower_of.ensures) (sym c.if-not-keeps_upper_of.ensures)
