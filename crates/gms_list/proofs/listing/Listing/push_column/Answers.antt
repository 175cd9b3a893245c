use Rattle.gms_list.proofs.AppendedPieces.{traversal, step, broke, last, untouched}
use Rattle.std.proofs.Common.{◌∙◌, ◌++◌, ap}
use Rattle.lp_core.specs.Numbers.{lp_numbers}
use Rattle.std.proofs.Common.{flat_map}
use Rattle.gms_list.specs.SolveText.{column_entry_line, placed_rows}
use Rattle.gms_list.proofs.Shapes.{column_line}
use Rattle.gms_list.proofs.listing.Listing.push_column.Goals as goal

pub returns-in_err-key : goal.returns-in_err-key
returns-in_err-key g c = untouched _ _ c.from_residual.result c.from_residual.ensures.0

pub returns-in_err-line : goal.returns-in_err-line
returns-in_err-line g c = untouched _ _ c.from_residual-in_err-line.result c.from_residual-in_err-line.ensures.0

pub returns-in_err-push : goal.returns-in_err-push
returns-in_err-push g c =
    broke c.from_residual-in_err-push.result c.from_residual-in_err-push.ensures.0 _ _ (traversal _ (ap (λ t. t ++ flat_map (column_entry_line c.args.p.now.names c.args.p.now.labels g.F.ExactField.limit (lp_numbers g.F.ExactField.value c.args.lp.now) c.args.j) (placed_rows c.args.p.now.names c.args.p.now.labels g.F.ExactField.limit (lp_numbers g.F.ExactField.value c.args.lp.now))) (column_line _ _ _ _ _ _ _ (c.as_str.ensures.value ∙ c.in_ok-line.ensures.ok) c.in_ok-key.ensures c.bound-lower.ensures c.bound-upper.ensures))) c.in_err-push.ensures

pub returns : goal.returns
returns g c =
    last _ _ c.push_column_entries.result (step _ _ (traversal _ (ap (λ t. t ++ flat_map (column_entry_line c.args.p.now.names c.args.p.now.labels g.F.ExactField.limit (lp_numbers g.F.ExactField.value c.args.lp.now) c.args.j) (placed_rows c.args.p.now.names c.args.p.now.labels g.F.ExactField.limit (lp_numbers g.F.ExactField.value c.args.lp.now))) (column_line _ _ _ _ _ _ _ (c.as_str.ensures.value ∙ c.in_ok-line.ensures.ok) c.in_ok-key.ensures c.bound-lower.ensures c.bound-upper.ensures))) c.in_ok-push.ensures) c.push_column_entries.ensures
