use Rattle.std.proofs.Common.{◌≢◌, take}
use Rattle.std.specs.List.{All}
use Rattle.lp_core.proofs.shape.is_new_row.Given as goal

abbrev pub invariant-loop-row : goal.invariant-loop-row
invariant-loop-row g l = All (λ row. l.key ≢ row.key) (take l.row-index l.rows)
