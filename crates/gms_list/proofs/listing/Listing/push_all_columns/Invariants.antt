use Rattle.std.proofs.Common.{flat_map, map, drop}
use Rattle.lp_core.specs.Numbers.{lp_numbers}
use Rattle.gms_list.specs.InnerSolves.{solution_in}
use Rattle.gms_list.proofs.AppendedPieces.{Traversed}
use Rattle.gms_list.specs.SolveText.{variable_points, variables}
use Rattle.gms_list.proofs.listing.Listing.push_all_columns.Given as goal

abbrev pub invariant-loop-variable : goal.invariant-loop-variable
invariant-loop-variable g l =
    Traversed l.fn.self (flat_map (variable_points l.p.names l.p.labels g.F.ExactField.limit (lp_numbers g.F.ExactField.value l.lp) (solution_in g.F.ExactField.value l.solution)) (variables l.p.names l.p.labels g.F.ExactField.limit (lp_numbers g.F.ExactField.value l.lp))) l.self (flat_map (variable_points l.p.names l.p.labels g.F.ExactField.limit (lp_numbers g.F.ExactField.value l.lp) (solution_in g.F.ExactField.value l.solution)) (map (λ n. n) (drop l.variable-index l.each)))
