use Rattle.std.proofs.Common.{◌≡◌, ◌-◌, ◌^◌, min, take}
use Rattle.std.specs.Prelude.{sum_by}
use Rattle.lp_core.specs.WellFormed.{variables_of_bounds}
use Rattle.lp_core.proofs.shape.count_variables.Given as goal

abbrev pub invariant-loop-column : goal.invariant-loop-column
invariant-loop-column g l = l.count ≡ min (sum_by (λ column. variables_of_bounds column.lower column.upper) (take l.column-index l.columns)) (2 ^ 64 - 1)
