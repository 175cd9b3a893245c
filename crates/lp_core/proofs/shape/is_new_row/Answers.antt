use Rattle.std.proofs.Common.{◌≢◌, arith}
use Rattle.std.proofs.lemmas.Bool.{both_ways}
use Rattle.lp_core.proofs.ShapeSteps.{all_stops, all_more, all_end}
use Rattle.lp_core.proofs.shape.is_new_row.Goals as goal

pub loop-row-preserved : goal.loop-row-preserved
loop-row-preserved g c =
    all_more (λ row. c.args.key.now ≢ row.key) c.args.rows.now c.loop-row.row-index c.row-item.result c.loop-row-test.true c.row-item.is c.loop-row.invariant (λ same. both_ways c.is_same.result c.if-is_same.false (c.is_same.ensures.1 same))

pub returns-then-is_same : goal.returns-then-is_same
returns-then-is_same g c =
    all_stops (λ row. c.args.key.now ≢ row.key) c.args.rows.now c.loop-row.row-index c.row-item.result c.loop-row-test.true c.row-item.is (λ other. other (c.is_same.ensures.0 c.if-is_same.true))

pub returns : goal.returns
returns g c = all_end (λ row. c.args.key.now ≢ row.key) c.args.rows.now c.loop-row.row-index (omega arith) c.loop-row.invariant
