use Rattle.std.proofs.Common.{sym, ◌∙◌}
use Rattle.gms_parse.proofs.Lags.{lagless_more, lagged_other, plain_whole, unsuffixed}
use Rattle.gms_parse.proofs.assign.is_plain.Goals as goal

pub loop-index-init : goal.loop-index-init
loop-index-init g c = tt

pub returns-then-has_lag : goal.returns-then-has_lag
returns-then-has_lag g c = sym (lagged_other g.F.ExactField.value c.args.target.now c.as_slice-index-items.result.now c.as_slice-index-items.ensures c.loop-index.index-index c.index-item.result _ c.loop-index.invariant c.loop-index-test.true c.index-item.is c.if-has_lag.ensures)

pub loop-index-preserved : goal.loop-index-preserved
loop-index-preserved g c = lagless_more c.as_slice-index-items.result.now c.loop-index.index-index c.index-item.result _ c.loop-index.invariant c.loop-index-test.true c.index-item.is c.if-has_lag.ensures

pub returns : goal.returns
returns g c = sym (plain_whole g.F.ExactField.value c.args.target.now c.as_slice-index-items.result.now c.as_slice-index-items.ensures c.loop-index.index-index (unsuffixed c.args.target.now.suffix (sym c.ne.ensures ∙ c.if-ne.false)) c.loop-index.invariant c.loop-index-test.false)
