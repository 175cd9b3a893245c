use Rattle.std.proofs.Common.{ℕ, ◌==◌, flat_map, filter, take}
use Rattle.gq_number.specs.Number.{Number}
use Rattle.lp_core.specs.declared.program.Row.{Row}
use Rattle.lp_core.specs.Numbers.{lp_numbers, row_numbers}
use Rattle.gms_list.proofs.AppendedPieces.{Traversed, placed}
use Rattle.gms_list.specs.SolveText.{row_text, rows_of_equation}
use Rattle.gms_list.proofs.listing.Listing.push_rows.Given as goal

abbrev pub invariant-loop-row : goal.invariant-loop-row
invariant-loop-row g l =
    Traversed l.fn.self (flat_map (row_text l.p.names l.p.labels g.F.ExactField.limit (lp_numbers g.F.ExactField.value l.lp)) (take l.most (rows_of_equation l.p.names l.p.labels g.F.ExactField.limit (lp_numbers g.F.ExactField.value l.lp) l.equation))) l.self
    (flat_map (row_text l.p.names l.p.labels g.F.ExactField.limit (lp_numbers g.F.ExactField.value l.lp)) (take l.left (filter (λ (q : ℕ × Row Number). q.1.key.symbol == l.equation) (placed (row_numbers g.F.ExactField.value) l.row-index l.rows))))
