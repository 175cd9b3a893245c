use Rattle.std.proofs.Common.{◌≡◌, ◌==◌, ◌∙◌, ◌++◌, [], true, false, arith, ap, sym}
use Rattle.std.proofs.lemmas.Bool.Decides.{nat_tests}
use Rattle.std.proofs.lemmas.List.{append-nil}
use Rattle.lp_core.specs.Numbers.{lp_numbers, column_numbers}
use Rattle.gms_list.specs.InnerSolves.{solution_in}
use Rattle.gms_list.specs.SolveText.{column_point}
use Rattle.gms_list.proofs.Shapes.{point_same, bound_mapped}
use Rattle.gms_list.proofs.AppendedPieces.{reshaped, chosen, other}
use Rattle.gms_list.proofs.listing.Listing.push_column_point.Goals as goal

pub returns-then-column-variable : goal.returns-then-column-variable
returns-then-column-variable g c =
    let differs : (c.args.column.now.key.symbol == c.args.variable) ≡ false = grind (arith, nat_tests) in sym (append-nil c.args.self.now) ∙ ap (λ t. c.args.self.now ++ t) (other (c.args.column.now.key.symbol == c.args.variable) (column_point c.args.p.now.names c.args.p.now.labels g.F.ExactField.limit (lp_numbers g.F.ExactField.value c.args.lp.now) (solution_in g.F.ExactField.value c.args.solution) c.args.width (c.args.j, column_numbers g.F.ExactField.value c.args.column.now)) [] differs)

pub returns : goal.returns
returns g c =
    let same : (c.args.column.now.key.symbol == c.args.variable) ≡ true = grind (arith, nat_tests) in
    reshaped _ _ _ _ c.push_point.result (point_same c.args.p.now.names c.args.p.now.labels c.args.width c.args.column.now.key _ _ _ _ _ _ _ _ _ _ (bound_mapped g.F.ExactField.value c.args.column.now.lower) c.number_at.ensures (bound_mapped g.F.ExactField.value c.args.column.now.upper) c.number_at-2.ensures c.mark-mark.ensures ∙ chosen (c.args.column.now.key.symbol == c.args.variable) (column_point c.args.p.now.names c.args.p.now.labels g.F.ExactField.limit (lp_numbers g.F.ExactField.value c.args.lp.now) (solution_in g.F.ExactField.value c.args.solution) c.args.width (c.args.j, column_numbers g.F.ExactField.value c.args.column.now)) [] same) c.push_point.ensures
