use Rattle.std.proofs.Common.{map, drop}
use Rattle.lp_check.specs.BoundSteps.{row_bound_steps, rows_sum}
use Rattle.lp_check.proofs.Fits.{Going}
use Rattle.lp_check.proofs.rows.rows_part.Given as goal

abbrev pub invariant-loop-i : goal.invariant-loop-i
invariant-loop-i g l =
    Going g.F.ExactField.value l.fn.start.taken l.partial.taken
    (row_bound_steps g.F.ExactField.value g.F.ExactField.limit l.above (g.F.ExactField.value l.fn.start.sum) l.rows (map g.F.ExactField.value l.duals))
    (row_bound_steps g.F.ExactField.value g.F.ExactField.limit l.above (g.F.ExactField.value l.partial.sum) (drop l.i l.rows) (drop l.i (map g.F.ExactField.value l.duals)))
    (rows_sum g.F.ExactField.value l.above (g.F.ExactField.value l.fn.start.sum) l.rows (map g.F.ExactField.value l.duals))
    (rows_sum g.F.ExactField.value l.above (g.F.ExactField.value l.partial.sum) (drop l.i l.rows) (drop l.i (map g.F.ExactField.value l.duals)))
