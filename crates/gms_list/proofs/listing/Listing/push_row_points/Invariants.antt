use Rattle.std.proofs.Common.{ℕ, ◌==◌, flat_map, filter}
use Rattle.gq_number.specs.Number.{Number}
use Rattle.lp_core.specs.declared.program.Row.{Row}
use Rattle.lp_core.specs.Numbers.{lp_numbers, row_numbers}
use Rattle.gms_list.specs.InnerSolves.{solution_in}
use Rattle.gms_list.proofs.AppendedPieces.{Traversed, placed}
use Rattle.gms_list.specs.SolveText.{row_point, rows_of_equation}
use Rattle.gms_list.proofs.listing.Listing.push_row_points.Given as goal

abbrev pub invariant-loop-place : goal.invariant-loop-place
invariant-loop-place g l =
    Traversed l.fn.self (flat_map (row_point l.p.names l.p.labels g.F.ExactField.limit (lp_numbers g.F.ExactField.value l.lp) (solution_in g.F.ExactField.value l.solution) l.width) (rows_of_equation l.p.names l.p.labels g.F.ExactField.limit (lp_numbers g.F.ExactField.value l.lp) l.equation)) l.self
    (flat_map (row_point l.p.names l.p.labels g.F.ExactField.limit (lp_numbers g.F.ExactField.value l.lp) (solution_in g.F.ExactField.value l.solution) l.width) (filter (λ (q : ℕ × Row Number). q.1.key.symbol == l.equation) (placed (row_numbers g.F.ExactField.value) l.place l.rows)))
