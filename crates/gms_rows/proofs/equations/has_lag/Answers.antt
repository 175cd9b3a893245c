use Rattle.std.proofs.Common.{◌∙◌, sym}
use Rattle.gms_rows.proofs.Lags.{lag-here, lag-later, lag-nowhere}
use Rattle.gms_rows.proofs.equations.has_lag.Goals as goal

pub loop-index-preserved : goal.loop-index-preserved
loop-index-preserved g c =
    c.loop-index.invariant ∙ lag-later c.args.indices.now c.loop-index.index-index c.index-item.result c.loop-index-test.true c.index-item.is (sym c.is_lagged.ensures ∙ c.if-is_lagged.false)

pub returns-then-is_lagged : goal.returns-then-is_lagged
returns-then-is_lagged g c =
    sym (c.loop-index.invariant ∙ lag-here c.args.indices.now c.loop-index.index-index c.index-item.result c.loop-index-test.true c.index-item.is (sym c.is_lagged.ensures ∙ c.if-is_lagged.true))

pub returns : goal.returns
returns g c =
    sym (c.loop-index.invariant ∙ lag-nowhere c.args.indices.now c.loop-index.index-index c.loop-index-test.false)
