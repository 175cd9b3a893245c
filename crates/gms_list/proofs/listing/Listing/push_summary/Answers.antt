use Rattle.std.proofs.Common.{◌∙◌, ap, length, map, sum}
use Rattle.lp_core.specs.declared.program.Row.{Row}
use Rattle.gms_list.proofs.AppendedPieces.{traversal, step, broke, last, untouched}
use Rattle.gms_list.proofs.SolveLines.{summary_of}
use Rattle.gms_list.proofs.listing.Listing.push_summary.Goals as goal

pub returns-in_err-counts : goal.returns-in_err-counts
returns-in_err-counts g c = λ place. untouched _ _ c.from_residual.result c.from_residual.ensures.0

pub returns-in_err-statuses : goal.returns-in_err-statuses
returns-in_err-statuses g c = λ place. untouched _ _ c.from_residual-in_err-statuses.result c.from_residual-in_err-statuses.ensures.0

pub returns-in_err-push : goal.returns-in_err-push
returns-in_err-push g c = λ place.
    broke c.from_residual-in_err-push.result c.from_residual-in_err-push.ensures.0 _ _ (traversal _ (summary_of g.F.ExactField.value place c.args.s.now c.args.answer.now _ _ (length c.as_slice-rows.result.now) c.len-columns.result c.nonzeros-nonzeros.result (c.as_str.ensures.value ∙ c.in_ok-counts.ensures.ok) (ap length c.as_slice-rows.ensures) c.len-columns.ensures (c.nonzeros-nonzeros.ensures ∙ ap (λ rows. sum (map (λ (row : Row _). length row.entries) rows)) c.as_slice-rows.ensures) c.in_ok-statuses.ensures)) c.in_err-push.ensures

pub returns-in_err-push_bytes : goal.returns-in_err-push_bytes
returns-in_err-push_bytes g c = λ place.
    broke c.from_residual-in_err-push_bytes.result c.from_residual-in_err-push_bytes.ensures.0 _ _ (step _ _ (traversal _ (summary_of g.F.ExactField.value place c.args.s.now c.args.answer.now _ _ (length c.as_slice-rows.result.now) c.len-columns.result c.nonzeros-nonzeros.result (c.as_str.ensures.value ∙ c.in_ok-counts.ensures.ok) (ap length c.as_slice-rows.ensures) c.len-columns.ensures (c.nonzeros-nonzeros.ensures ∙ ap (λ rows. sum (map (λ (row : Row _). length row.entries) rows)) c.as_slice-rows.ensures) c.in_ok-statuses.ensures)) c.in_ok-push.ensures) c.in_err-push_bytes.ensures

pub returns : goal.returns
returns g c = λ place.
    last _ _ c.push-2.result (step _ _ (step _ _ (traversal _ (summary_of g.F.ExactField.value place c.args.s.now c.args.answer.now _ _ (length c.as_slice-rows.result.now) c.len-columns.result c.nonzeros-nonzeros.result (c.as_str.ensures.value ∙ c.in_ok-counts.ensures.ok) (ap length c.as_slice-rows.ensures) c.len-columns.ensures (c.nonzeros-nonzeros.ensures ∙ ap (λ rows. sum (map (λ (row : Row _). length row.entries) rows)) c.as_slice-rows.ensures) (c.as_str-2.ensures.value ∙ c.in_ok-statuses.ensures))) c.in_ok-push.ensures) c.in_ok-push_bytes.ensures) c.push-2.ensures
