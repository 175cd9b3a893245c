use Rattle.std.proofs.Common.{ℕ, ◌==◌, flat_map, filter}
use Rattle.gq_number.specs.Number.{Number}
use Rattle.lp_core.specs.declared.program.Column.{Column}
use Rattle.lp_core.specs.Numbers.{lp_numbers, column_numbers}
use Rattle.gms_list.specs.InnerSolves.{solution_in}
use Rattle.gms_list.proofs.AppendedPieces.{Traversed, placed}
use Rattle.gms_list.specs.SolveText.{column_point, columns_of_variable}
use Rattle.gms_list.proofs.listing.Listing.push_column_points.Given as goal

abbrev pub invariant-loop-j : goal.invariant-loop-j
invariant-loop-j g l =
    Traversed l.fn.self (flat_map (column_point l.p.names l.p.labels g.F.ExactField.limit (lp_numbers g.F.ExactField.value l.lp) (solution_in g.F.ExactField.value l.solution) l.width) (columns_of_variable l.p.names l.p.labels g.F.ExactField.limit (lp_numbers g.F.ExactField.value l.lp) l.variable)) l.self
    (flat_map (column_point l.p.names l.p.labels g.F.ExactField.limit (lp_numbers g.F.ExactField.value l.lp) (solution_in g.F.ExactField.value l.solution) l.width) (filter (λ (q : ℕ × Column Number). q.1.key.symbol == l.variable) (placed (column_numbers g.F.ExactField.value) l.j l.columns)))
