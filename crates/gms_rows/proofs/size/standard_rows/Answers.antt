use Rattle.std.proofs.Common.{arith}
use Rattle.lp_core.specs.WellFormed.{rows_of_sense}
use Rattle.lp_core.proofs.ShapeSteps.{counted_more, counted_all}
use Rattle.gms_rows.specs.declared.form_row.FormRow.{FormRow}
use Rattle.gms_rows.proofs.size.standard_rows.Goals as goal

pub loop-row-preserved : goal.loop-row-preserved
loop-row-preserved g c =
    let more = counted_more (λ (row : FormRow _). rows_of_sense row.sense) c.args.rows.now c.loop-row.row-index c.row-item.result c.loop-row-test.true c.row-item.is in
    omega (arith, more, c.saturating_add-count.ensures, c.rows_by_sense.ensures, c.loop-row.invariant)

pub returns : goal.returns
returns g c =
    let all = counted_all (λ (row : FormRow _). rows_of_sense row.sense) c.args.rows.now c.loop-row.row-index (omega arith) in
    omega (arith, all, c.saturating_add.ensures, c.count_bounds.ensures, c.loop-row.invariant)
