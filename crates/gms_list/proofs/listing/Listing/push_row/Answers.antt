use Rattle.gms_list.proofs.AppendedPieces.{traversal, step, broke, last, untouched}
use Rattle.std.proofs.Common.{◌∙◌, ap}
use Rattle.lp_core.specs.Numbers.{lp_numbers, entries_numbers}
use Rattle.gms_list.specs.SolveText.{terms_text}
use Rattle.gms_list.proofs.Shapes.{row_line}
use Rattle.gms_list.proofs.listing.Listing.push_row.Goals as goal

pub returns-in_err-key : goal.returns-in_err-key
returns-in_err-key g c = untouched _ _ c.from_residual.result c.from_residual.ensures.0

pub returns-in_err-head : goal.returns-in_err-head
returns-in_err-head g c = untouched _ _ c.from_residual-in_err-head.result c.from_residual-in_err-head.ensures.0

pub returns-in_err-end : goal.returns-in_err-end
returns-in_err-end g c = untouched _ _ c.from_residual-in_err-end.result c.from_residual-in_err-end.ensures.0

pub returns-in_err-push : goal.returns-in_err-push
returns-in_err-push g c =
    broke c.from_residual-in_err-push.result c.from_residual-in_err-push.ensures.0 _ _ (traversal _ (row_line _ _ _ _ _ _ (terms_text c.args.p.now.names c.args.p.now.labels g.F.ExactField.limit (lp_numbers g.F.ExactField.value c.args.lp.now) (entries_numbers g.F.ExactField.value c.args.row.now.entries)) _ _ _ (ap (λ es. terms_text c.args.p.now.names c.args.p.now.labels g.F.ExactField.limit (lp_numbers g.F.ExactField.value c.args.lp.now) (entries_numbers g.F.ExactField.value es)) c.as_slice-entries.ensures) (c.as_str.ensures.value ∙ c.in_ok-head.ensures.ok) (c.in_ok-end.ensures.ok) c.in_ok-key.ensures c.sense_text-sense.ensures c.amount-right.ensures)) c.in_err-push.ensures

pub returns-in_err-push_terms : goal.returns-in_err-push_terms
returns-in_err-push_terms g c =
    broke c.from_residual-in_err-push_terms.result c.from_residual-in_err-push_terms.ensures.0 _ _ (step _ _ (traversal _ (row_line _ _ _ _ _ _ (terms_text c.args.p.now.names c.args.p.now.labels g.F.ExactField.limit (lp_numbers g.F.ExactField.value c.args.lp.now) (entries_numbers g.F.ExactField.value c.args.row.now.entries)) _ _ _ (ap (λ es. terms_text c.args.p.now.names c.args.p.now.labels g.F.ExactField.limit (lp_numbers g.F.ExactField.value c.args.lp.now) (entries_numbers g.F.ExactField.value es)) c.as_slice-entries.ensures) (c.as_str.ensures.value ∙ c.in_ok-head.ensures.ok) (c.in_ok-end.ensures.ok) c.in_ok-key.ensures c.sense_text-sense.ensures c.amount-right.ensures)) c.in_ok-push.ensures) c.in_err-push_terms.ensures

pub returns : goal.returns
returns g c =
    last _ _ c.push-2.result (step _ _ (step _ _ (traversal _ (row_line _ _ _ _ _ _ (terms_text c.args.p.now.names c.args.p.now.labels g.F.ExactField.limit (lp_numbers g.F.ExactField.value c.args.lp.now) (entries_numbers g.F.ExactField.value c.args.row.now.entries)) _ _ _ (ap (λ es. terms_text c.args.p.now.names c.args.p.now.labels g.F.ExactField.limit (lp_numbers g.F.ExactField.value c.args.lp.now) (entries_numbers g.F.ExactField.value es)) c.as_slice-entries.ensures) (c.as_str.ensures.value ∙ c.in_ok-head.ensures.ok) (c.as_str-2.ensures.value ∙ c.in_ok-end.ensures.ok) c.in_ok-key.ensures c.sense_text-sense.ensures c.amount-right.ensures)) c.in_ok-push.ensures) c.in_ok-push_terms.ensures) c.push-2.ensures
