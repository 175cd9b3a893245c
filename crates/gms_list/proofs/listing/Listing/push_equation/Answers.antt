use Rattle.gms_list.proofs.AppendedPieces.{traversal, step, broke, last}
use Rattle.std.proofs.Common.{◌∙◌, ◌++◌, ◌==◌, codes, ap, flat_map, take, if◌then◌else◌}
use Rattle.lp_core.specs.Numbers.{lp_numbers}
use Rattle.gms_fmt.specs.ElementTexts.{label_in_table}
use Rattle.gms_list.specs.Amounts.{line_of}
use Rattle.gms_list.specs.SolveText.{row_text, rows_of_equation, more_text}
use Rattle.gms_list.proofs.Counts.{rows_counted}
use Rattle.gms_list.proofs.Shapes.{headed}
use Rattle.gms_list.proofs.listing.Listing.push_equation.Goals as goal

pub returns-in_err-push_head : goal.returns-in_err-push_head
returns-in_err-push_head g c =
    broke c.from_residual.result c.from_residual.ensures.0 _ _ (traversal _ (headed (codes "EQUATION ") _ _ _)) c.in_err-push_head.ensures

pub returns-in_err-push_rows : goal.returns-in_err-push_rows
returns-in_err-push_rows g c =
    broke c.from_residual-in_err-push_rows.result c.from_residual-in_err-push_rows.ensures.0 _ _ (step _ _ (traversal _ (headed (codes "EQUATION ") _ _ _)) c.in_ok-push_head.ensures) c.in_err-push_rows.ensures

pub returns : goal.returns
returns g c =
    last _ _ c.push_after_rows.result (step _ _ (step _ _ (traversal _ (headed (codes "EQUATION ") _ _ _
    ∙ ap (λ n. line_of (codes "EQUATION " ++ label_in_table c.args.p.now.names c.args.equation) ++ flat_map (row_text c.args.p.now.names c.args.p.now.labels g.F.ExactField.limit (lp_numbers g.F.ExactField.value c.args.lp.now)) (take c.args.most (rows_of_equation c.args.p.now.names c.args.p.now.labels g.F.ExactField.limit (lp_numbers g.F.ExactField.value c.args.lp.now) c.args.equation)) ++ (if n == 0 then line_of (codes " (no rows)") else more_text c.args.most n (codes "rows")))
    (rows_counted c.args.p.now.names c.args.p.now.labels g.F.ExactField.limit g.F.ExactField.value c.args.lp.now c.args.equation _ _ c.as_slice.ensures c.rows_of.ensures))) c.in_ok-push_head.ensures) c.in_ok-push_rows.ensures) c.push_after_rows.ensures
