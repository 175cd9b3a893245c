use Rattle.std.proofs.Common.{◌≢◌, arith}
use Rattle.std.proofs.lemmas.Bool.{both_ways}
use Rattle.lp_core.proofs.ShapeSteps.{all_stops, all_more, all_end}
use Rattle.lp_core.proofs.shape.is_new_column.Goals as goal

pub loop-column-preserved : goal.loop-column-preserved
loop-column-preserved g c =
    all_more (λ column. c.args.key.now ≢ column.key) c.args.columns.now c.loop-column.column-index c.column-item.result c.loop-column-test.true c.column-item.is c.loop-column.invariant (λ same. both_ways c.is_same.result c.if-is_same.false (c.is_same.ensures.1 same))

pub returns-then-is_same : goal.returns-then-is_same
returns-then-is_same g c =
    all_stops (λ column. c.args.key.now ≢ column.key) c.args.columns.now c.loop-column.column-index c.column-item.result c.loop-column-test.true c.column-item.is (λ other. other (c.is_same.ensures.0 c.if-is_same.true))

pub returns : goal.returns
returns g c = all_end (λ column. c.args.key.now ≢ column.key) c.args.columns.now c.loop-column.column-index (omega arith) c.loop-column.invariant
