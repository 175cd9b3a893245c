use Rattle.std.proofs.Common.{◌≡◌, ◌+◌, drop}
use Rattle.lp_core.specs.Steps.{count_of_rows}
use Rattle.lp_std.proofs.duals.count_rows.Given as goal

abbrev pub invariant-loop-row : goal.invariant-loop-row
invariant-loop-row g l = l.count + count_of_rows (drop l.row-index l.rows) ≡ count_of_rows l.rows
