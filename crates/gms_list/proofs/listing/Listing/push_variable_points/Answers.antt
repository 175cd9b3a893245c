use Rattle.std.proofs.Common.{◌∙◌, ◌++◌, ap, codes, flat_map}
use Rattle.lp_core.specs.Numbers.{lp_numbers}
use Rattle.gms_fmt.specs.ElementTexts.{label_in_table}
use Rattle.gms_list.specs.InnerSolves.{solution_in}
use Rattle.gms_list.specs.Amounts.{line_of}
use Rattle.gms_list.specs.SolveText.{column_point, columns_of_variable}
use Rattle.gms_list.proofs.AppendedPieces.{traversal, step, broke, last, untouched}
use Rattle.gms_list.proofs.Shapes.{headed_line}
use Rattle.gms_list.proofs.listing.Listing.push_variable_points.Goals as goal

pub returns-in_err-width : goal.returns-in_err-width
returns-in_err-width g c = untouched _ _ c.from_residual.result c.from_residual.ensures.0

pub returns-in_err-push_head : goal.returns-in_err-push_head
returns-in_err-push_head g c =
    broke c.from_residual-in_err-push_head.result c.from_residual-in_err-push_head.ensures.0 _ _ (traversal _ (headed_line (codes "VAR ") (label_in_table c.args.p.now.names c.args.variable) (codes " LOWER LEVEL UPPER MARGINAL") _)) c.in_err-push_head.ensures

pub returns : goal.returns
returns g c =
    last _ _ c.push_column_points.result (step _ _ (traversal _ (headed_line (codes "VAR ") (label_in_table c.args.p.now.names c.args.variable) (codes " LOWER LEVEL UPPER MARGINAL") _
    ∙ ap (λ w. line_of (codes "VAR " ++ label_in_table c.args.p.now.names c.args.variable ++ codes " LOWER LEVEL UPPER MARGINAL") ++ flat_map (column_point c.args.p.now.names c.args.p.now.labels g.F.ExactField.limit (lp_numbers g.F.ExactField.value c.args.lp.now) (solution_in g.F.ExactField.value c.args.solution) w) (columns_of_variable c.args.p.now.names c.args.p.now.labels g.F.ExactField.limit (lp_numbers g.F.ExactField.value c.args.lp.now) c.args.variable)) c.in_ok-width.ensures)) c.in_ok-push_head.ensures) c.push_column_points.ensures
