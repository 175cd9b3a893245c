use Rattle.std.proofs.Common.{◌≡◌, map, length, take}
use Rattle.std.specs.List.{All}
use Rattle.lp_core.specs.WellFormed.{AreRowEntries}
use Rattle.lp_core.specs.Numbers.{row_numbers}
use Rattle.gms_rows.specs.ProgramLp.{placed}
use Rattle.gms_rows.specs.InnerContracts.{form_row_in}
use Rattle.gms_rows.proofs.columns.placed_rows.Given as goal

abbrev pub invariant-loop-row : goal.invariant-loop-row
invariant-loop-row g l =
    (map (row_numbers g.F.ExactField.value) l.placed.items ≡ map (placed l.keys) (map (form_row_in g.F.ExactField.value) (take l.row-index l.rows)))
    × All (λ row. AreRowEntries g.F.ExactField.value (length l.keys) row.entries) l.placed.items
