use Rattle.std.proofs.Common.{flat_map, map, drop}
use Rattle.lp_core.specs.Numbers.{lp_numbers}
use Rattle.gms_list.specs.InnerSolves.{solution_in}
use Rattle.gms_list.proofs.AppendedPieces.{Traversed}
use Rattle.gms_list.specs.SolveText.{equation_points}
use Rattle.gms_list.proofs.listing.Listing.push_all_rows.Given as goal

abbrev pub invariant-loop-equation : goal.invariant-loop-equation
invariant-loop-equation g l =
    Traversed l.fn.self (flat_map (equation_points l.p.names l.p.labels g.F.ExactField.limit (lp_numbers g.F.ExactField.value l.lp) (solution_in g.F.ExactField.value l.solution)) l.equations) l.self (flat_map (equation_points l.p.names l.p.labels g.F.ExactField.limit (lp_numbers g.F.ExactField.value l.lp) (solution_in g.F.ExactField.value l.solution)) (map (λ n. n) (drop l.equation-index l.equations)))
