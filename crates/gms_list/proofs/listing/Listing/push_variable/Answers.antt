use Rattle.gms_list.proofs.AppendedPieces.{traversal, step, broke, last}
use Rattle.std.proofs.Common.{◌∙◌, ◌++◌, codes, ap, flat_map, take}
use Rattle.lp_core.specs.Numbers.{lp_numbers}
use Rattle.gms_fmt.specs.ElementTexts.{label_in_table}
use Rattle.gms_list.specs.Amounts.{line_of}
use Rattle.gms_list.specs.SolveText.{column_lines, columns_of_variable, more_text}
use Rattle.gms_list.proofs.Counts.{columns_counted}
use Rattle.gms_list.proofs.Shapes.{headed}
use Rattle.gms_list.proofs.listing.Listing.push_variable.Goals as goal

pub returns-in_err-push_head : goal.returns-in_err-push_head
returns-in_err-push_head g c =
    broke c.from_residual.result c.from_residual.ensures.0 _ _ (traversal _ (headed (codes "VARIABLE ") _ _ _)) c.in_err-push_head.ensures

pub returns-in_err-push_columns : goal.returns-in_err-push_columns
returns-in_err-push_columns g c =
    broke c.from_residual-in_err-push_columns.result c.from_residual-in_err-push_columns.ensures.0 _ _ (step _ _ (traversal _ (headed (codes "VARIABLE ") _ _ _)) c.in_ok-push_head.ensures) c.in_err-push_columns.ensures

pub returns : goal.returns
returns g c =
    last _ _ c.push_more.result (step _ _ (step _ _ (traversal _ (headed (codes "VARIABLE ") _ _ _
    ∙ ap (λ n. line_of (codes "VARIABLE " ++ label_in_table c.args.p.now.names c.args.variable) ++ flat_map (column_lines c.args.p.now.names c.args.p.now.labels g.F.ExactField.limit (lp_numbers g.F.ExactField.value c.args.lp.now)) (take c.args.most (columns_of_variable c.args.p.now.names c.args.p.now.labels g.F.ExactField.limit (lp_numbers g.F.ExactField.value c.args.lp.now) c.args.variable)) ++ more_text c.args.most n (codes "columns"))
    (columns_counted c.args.p.now.names c.args.p.now.labels g.F.ExactField.limit g.F.ExactField.value c.args.lp.now c.args.variable _ _ c.as_slice.ensures c.columns_of.ensures))) c.in_ok-push_head.ensures) c.in_ok-push_columns.ensures) c.push_more.ensures
