use Rattle.std.proofs.Common.{take}
use Rattle.std.specs.List.{All}
use Rattle.lp_core.specs.WellFormed.{AreRowEntries}
use Rattle.lp_core.proofs.shape.have_entries.Given as goal

abbrev pub invariant-loop-row : goal.invariant-loop-row
invariant-loop-row g l = All (λ row. AreRowEntries g.F.ExactField.value l.columns row.entries) (take l.row-index l.rows)
