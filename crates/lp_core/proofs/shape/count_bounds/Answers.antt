use Rattle.std.proofs.Common.{arith}
use Rattle.lp_core.specs.WellFormed.{rows_of_bounds}
use Rattle.lp_core.specs.declared.program.Column.{Column}
use Rattle.lp_core.proofs.ShapeSteps.{counted_more, counted_all}
use Rattle.lp_core.proofs.shape.count_bounds.Goals as goal

pub loop-column-preserved : goal.loop-column-preserved
loop-column-preserved g c =
    let more = counted_more (λ (column : Column _). rows_of_bounds column.lower column.upper) c.args.columns.now c.loop-column.column-index c.column-item.result c.loop-column-test.true c.column-item.is in
    omega (arith, more, c.saturating_add-count.ensures, c.rows_by_bounds.ensures, c.loop-column.invariant)

pub returns : goal.returns
returns g c =
    let all = counted_all (λ (column : Column _). rows_of_bounds column.lower column.upper) c.args.columns.now c.loop-column.column-index (omega arith) in
    omega (arith, all, c.loop-column.invariant)
