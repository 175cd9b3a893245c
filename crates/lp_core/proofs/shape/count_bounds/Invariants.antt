use Rattle.std.proofs.Common.{◌≡◌, ◌-◌, ◌^◌, min, take}
use Rattle.std.specs.Prelude.{sum_by}
use Rattle.lp_core.specs.WellFormed.{rows_of_bounds}
use Rattle.lp_core.proofs.shape.count_bounds.Given as goal

abbrev pub invariant-loop-column : goal.invariant-loop-column
invariant-loop-column g l = l.count ≡ min (sum_by (λ column. rows_of_bounds column.lower column.upper) (take l.column-index l.columns)) (2 ^ 64 - 1)
