use Rattle.std.proofs.Common.{ℕ, ◌==◌, flat_map, filter, take}
use Rattle.gq_number.specs.Number.{Number}
use Rattle.lp_core.specs.declared.program.Column.{Column}
use Rattle.lp_core.specs.Numbers.{lp_numbers, column_numbers}
use Rattle.gms_list.proofs.AppendedPieces.{Traversed, placed}
use Rattle.gms_list.specs.SolveText.{column_lines, columns_of_variable}
use Rattle.gms_list.proofs.listing.Listing.push_columns.Given as goal

abbrev pub invariant-loop-j : goal.invariant-loop-j
invariant-loop-j g l =
    Traversed l.fn.self (flat_map (column_lines l.p.names l.p.labels g.F.ExactField.limit (lp_numbers g.F.ExactField.value l.lp)) (take l.most (columns_of_variable l.p.names l.p.labels g.F.ExactField.limit (lp_numbers g.F.ExactField.value l.lp) l.variable))) l.self
    (flat_map (column_lines l.p.names l.p.labels g.F.ExactField.limit (lp_numbers g.F.ExactField.value l.lp)) (take l.left (filter (λ (q : ℕ × Column Number). q.1.key.symbol == l.variable) (placed (column_numbers g.F.ExactField.value) l.j l.columns))))
