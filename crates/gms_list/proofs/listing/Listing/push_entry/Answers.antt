use Rattle.gms_list.proofs.AppendedPieces.{traversal, step, broke, last, untouched}
use Rattle.std.proofs.Common.{◌∙◌}
use Rattle.gms_list.proofs.Shapes.{entry_line}
use Rattle.gms_list.proofs.listing.Listing.push_entry.Goals as goal

pub returns-in_err-tuple : goal.returns-in_err-tuple
returns-in_err-tuple g c = untouched _ _ c.from_residual.result c.from_residual.ensures.0

pub returns-in_err-push_left : goal.returns-in_err-push_left
returns-in_err-push_left g c =
    broke c.from_residual-in_err-push_left.result c.from_residual-in_err-push_left.ensures.0 _ _ (traversal _ (entry_line _ _ _ _ c.args.width (c.as_str.ensures.value ∙ c.in_ok-tuple.ensures) c.value_text-value.ensures)) c.in_err-push_left.ensures

pub returns-in_err-push_right : goal.returns-in_err-push_right
returns-in_err-push_right g c =
    broke c.from_residual-in_err-push_right.result c.from_residual-in_err-push_right.ensures.0 _ _ (step _ _ (traversal _ (entry_line _ _ _ _ c.args.width (c.as_str.ensures.value ∙ c.in_ok-tuple.ensures) c.value_text-value.ensures)) c.in_ok-push_left.ensures) c.in_err-push_right.ensures

pub returns : goal.returns
returns g c =
    last _ _ c.push.result (step _ _ (step _ _ (traversal _ (entry_line _ _ _ _ c.args.width (c.as_str.ensures.value ∙ c.in_ok-tuple.ensures) c.value_text-value.ensures)) c.in_ok-push_left.ensures) c.in_ok-push_right.ensures) c.push.ensures
