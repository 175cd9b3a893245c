use Rattle.std.proofs.Common.{◌≡◌, ◌-◌, ◌^◌, min, take}
use Rattle.std.specs.Prelude.{sum_by}
use Rattle.lp_core.specs.WellFormed.{rows_of_sense}
use Rattle.gms_rows.proofs.size.standard_rows.Given as goal

abbrev pub invariant-loop-row : goal.invariant-loop-row
invariant-loop-row g l = l.count ≡ min (sum_by (λ row. rows_of_sense row.sense) (take l.row-index l.rows)) (2 ^ 64 - 1)
