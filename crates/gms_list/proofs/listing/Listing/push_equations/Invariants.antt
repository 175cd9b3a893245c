use Rattle.std.proofs.Common.{flat_map, map, drop}
use Rattle.lp_core.specs.Numbers.{lp_numbers}
use Rattle.gms_list.proofs.AppendedPieces.{Traversed}
use Rattle.gms_list.specs.SolveText.{equation_text}
use Rattle.gms_list.proofs.listing.Listing.push_equations.Given as goal

abbrev pub invariant-loop-equation : goal.invariant-loop-equation
invariant-loop-equation g l =
    Traversed l.fn.self (flat_map (equation_text l.p.names l.p.labels g.F.ExactField.limit (lp_numbers g.F.ExactField.value l.lp) l.most) l.equations) l.self (flat_map (equation_text l.p.names l.p.labels g.F.ExactField.limit (lp_numbers g.F.ExactField.value l.lp) l.most) (map (λ n. n) (drop l.equation-index l.equations)))
