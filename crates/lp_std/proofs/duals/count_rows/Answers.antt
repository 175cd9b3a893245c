use Rattle.std.proofs.Common.{◌≡◌, [], drop, ap, arith}
use Rattle.std.proofs.lemmas.List.{drop_all}
use Rattle.lp_core.specs.Steps.{count_of_rows}
use Rattle.lp_std.proofs.RowSteps.{count_here}
use Rattle.lp_std.proofs.duals.count_rows.Goals as goal

pub overflow_add-count : goal.overflow_add-count
overflow_add-count g c =
    omega (arith, c.requires, c.loop-row.invariant, c.rows_by_sense-count.ensures, count_here g.F.ExactField.value 0 [] c.args.rows.now c.loop-row.row-index c.row-item.result c.loop-row-test.true c.row-item.is)

pub loop-row-preserved : goal.loop-row-preserved
loop-row-preserved g c =
    omega (arith, c.loop-row.invariant, c.rows_by_sense-count.ensures, count_here g.F.ExactField.value 0 [] c.args.rows.now c.loop-row.row-index c.row-item.result c.loop-row-test.true c.row-item.is)

pub returns : goal.returns
returns g c =
    let none : count_of_rows (drop c.loop-row.row-index c.args.rows.now) ≡ 0 = ap count_of_rows (drop_all c.loop-row.row-index c.args.rows.now (omega arith)) in
    omega (arith, c.loop-row.invariant, none)
