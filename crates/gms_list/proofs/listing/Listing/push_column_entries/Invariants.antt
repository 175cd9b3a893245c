use Rattle.std.proofs.Common.{flat_map}
use Rattle.gms_list.proofs.AppendedPieces.{Traversed, placed}
use Rattle.lp_core.specs.Numbers.{lp_numbers, row_numbers}
use Rattle.gms_list.specs.SolveText.{column_entry_line, placed_rows}
use Rattle.gms_list.proofs.listing.Listing.push_column_entries.Given as goal

abbrev pub invariant-loop-place : goal.invariant-loop-place
invariant-loop-place g l =
    Traversed l.fn.self (flat_map (column_entry_line l.p.names l.p.labels g.F.ExactField.limit (lp_numbers g.F.ExactField.value l.lp) l.j) (placed_rows l.p.names l.p.labels g.F.ExactField.limit (lp_numbers g.F.ExactField.value l.lp))) l.self (flat_map (column_entry_line l.p.names l.p.labels g.F.ExactField.limit (lp_numbers g.F.ExactField.value l.lp) l.j) (placed (row_numbers g.F.ExactField.value) l.place l.rows))
