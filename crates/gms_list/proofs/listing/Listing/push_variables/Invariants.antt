use Rattle.std.proofs.Common.{flat_map, map, drop}
use Rattle.lp_core.specs.Numbers.{lp_numbers}
use Rattle.gms_list.proofs.AppendedPieces.{Traversed}
use Rattle.gms_list.specs.SolveText.{variable_text, variables}
use Rattle.gms_list.proofs.listing.Listing.push_variables.Given as goal

abbrev pub invariant-loop-variable : goal.invariant-loop-variable
invariant-loop-variable g l =
    Traversed l.fn.self (flat_map (variable_text l.p.names l.p.labels g.F.ExactField.limit (lp_numbers g.F.ExactField.value l.lp) l.most) (variables l.p.names l.p.labels g.F.ExactField.limit (lp_numbers g.F.ExactField.value l.lp))) l.self (flat_map (variable_text l.p.names l.p.labels g.F.ExactField.limit (lp_numbers g.F.ExactField.value l.lp) l.most) (map (λ n. n) (drop l.variable-index l.each)))
