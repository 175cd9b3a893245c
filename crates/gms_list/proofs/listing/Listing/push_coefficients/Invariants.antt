use Rattle.std.proofs.Common.{◌==◌, ◌++◌, ℕ, flat_map, codes, drop}
use Rattle.gq_number.specs.Number.{Number}
use Rattle.lp_core.specs.Numbers.{lp_numbers, row_numbers, entries_numbers}
use Rattle.gms_list.specs.Amounts.{line_of}
use Rattle.gms_list.specs.SolveText.{amount, key_text, column_entry_line}
use Rattle.gms_list.proofs.AppendedPieces.{Traversed, where_kept}
use Rattle.gms_list.proofs.listing.Listing.push_coefficients.Given as goal

abbrev pub invariant-loop-column : goal.invariant-loop-column
invariant-loop-column g l =
    Traversed l.fn.self (column_entry_line l.p.names l.p.labels g.F.ExactField.limit (lp_numbers g.F.ExactField.value l.lp) l.j (l.place, row_numbers g.F.ExactField.value l.row)) l.self
    (flat_map (λ (e : ℕ × Number). where_kept (e.0 == l.j) (line_of (codes "  " ++ amount e.1 ++ codes " " ++ key_text l.p.names l.p.labels g.F.ExactField.limit (lp_numbers g.F.ExactField.value l.lp) l.row.key))) (entries_numbers g.F.ExactField.value (drop l.column-index l.entries)))
