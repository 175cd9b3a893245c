use Rattle.std.proofs.Common.{◌≡◌, ◌==◌, ◌∙◌, ◌++◌, [], true, false, arith, ap, sym, refl}
use Rattle.std.proofs.lemmas.Bool.Decides.{nat_tests}
use Rattle.std.proofs.lemmas.List.{append-nil}
use Rattle.lp_core.specs.Numbers.{lp_numbers, row_numbers}
use Rattle.gms_list.specs.InnerSolves.{solution_in}
use Rattle.gms_list.specs.SolveText.{row_point}
use Rattle.gms_list.proofs.Shapes.{point_same}
use Rattle.gms_list.proofs.AppendedPieces.{reshaped, chosen, other}
use Rattle.gms_list.proofs.listing.Listing.push_row_point.Goals as goal

pub returns-then-row-equation : goal.returns-then-row-equation
returns-then-row-equation g c =
    let differs : (c.args.row.now.key.symbol == c.args.equation) ≡ false = grind (arith, nat_tests) in sym (append-nil c.args.self.now) ∙ ap (λ t. c.args.self.now ++ t) (other (c.args.row.now.key.symbol == c.args.equation) (row_point c.args.p.now.names c.args.p.now.labels g.F.ExactField.limit (lp_numbers g.F.ExactField.value c.args.lp.now) (solution_in g.F.ExactField.value c.args.solution) c.args.width (c.args.place, row_numbers g.F.ExactField.value c.args.row.now)) [] differs)

pub returns : goal.returns
returns g c =
    let same : (c.args.row.now.key.symbol == c.args.equation) ≡ true = grind (arith, nat_tests) in
    reshaped _ _ _ _ c.push_point.result (point_same c.args.p.now.names c.args.p.now.labels c.args.width c.args.row.now.key _ _ _ _ _ _ _ _ _ _ c.row_bounds-lower.ensures.lower c.number_at.ensures c.row_bounds-lower.ensures.upper c.number_at-2.ensures refl ∙ chosen (c.args.row.now.key.symbol == c.args.equation) (row_point c.args.p.now.names c.args.p.now.labels g.F.ExactField.limit (lp_numbers g.F.ExactField.value c.args.lp.now) (solution_in g.F.ExactField.value c.args.solution) c.args.width (c.args.place, row_numbers g.F.ExactField.value c.args.row.now)) [] same) c.push_point.ensures
