use Rattle.std.proofs.Common.{map, drop}
use Rattle.lp_core.specs.Sums.{value_of_column}
use Rattle.lp_check.specs.BoundSteps.{columns_steps, columns_sum}
use Rattle.lp_check.proofs.Fits.{Going}
use Rattle.lp_check.proofs.columns.columns_part_by.Given as goal

abbrev pub invariant-loop-j : goal.invariant-loop-j
invariant-loop-j g l =
    Going g.F.ExactField.value l.fn.start.taken l.partial.taken
    (columns_steps g.F.ExactField.value g.F.ExactField.limit l.above (value_of_column (map g.F.ExactField.value l.costs)) (g.F.ExactField.value l.fn.start.sum) 0 l.columns)
    (columns_steps g.F.ExactField.value g.F.ExactField.limit l.above (value_of_column (map g.F.ExactField.value l.costs)) (g.F.ExactField.value l.partial.sum) l.j (drop l.j l.columns))
    (columns_sum g.F.ExactField.value l.above (value_of_column (map g.F.ExactField.value l.costs)) (g.F.ExactField.value l.fn.start.sum) 0 l.columns)
    (columns_sum g.F.ExactField.value l.above (value_of_column (map g.F.ExactField.value l.costs)) (g.F.ExactField.value l.partial.sum) l.j (drop l.j l.columns))
