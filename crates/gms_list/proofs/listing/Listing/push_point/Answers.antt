use Rattle.gms_list.proofs.AppendedPieces.{traversal, step, broke, last, untouched}
use Rattle.std.proofs.Common.{◌∙◌}
use Rattle.gms_list.proofs.Shapes.{point_line}
use Rattle.gms_list.proofs.listing.Listing.push_point.Goals as goal

pub returns-in_err-text : goal.returns-in_err-text
returns-in_err-text g c = untouched _ _ c.from_residual.result c.from_residual.ensures.0

pub returns-in_err-end : goal.returns-in_err-end
returns-in_err-end g c = untouched _ _ c.from_residual-in_err-end.result c.from_residual-in_err-end.ensures.0

pub returns-in_err-push_left : goal.returns-in_err-push_left
returns-in_err-push_left g c =
    broke c.from_residual-in_err-push_left.result c.from_residual-in_err-push_left.ensures.0 _ _ (traversal _ (point_line _ _ c.args.mark.now _ _ _ _ _ c.args.width (c.in_ok-end.ensures.ok) (c.as_str.ensures.value ∙ c.in_ok-text.ensures))) c.in_err-push_left.ensures

pub returns-in_err-push_numbers_of : goal.returns-in_err-push_numbers_of
returns-in_err-push_numbers_of g c =
    broke c.from_residual-in_err-push_numbers_of.result c.from_residual-in_err-push_numbers_of.ensures.0 _ _ (step _ _ (traversal _ (point_line _ _ c.args.mark.now _ _ _ _ _ c.args.width (c.in_ok-end.ensures.ok) (c.as_str.ensures.value ∙ c.in_ok-text.ensures))) c.in_ok-push_left.ensures) c.in_err-push_numbers_of.ensures

pub returns : goal.returns
returns g c =
    last _ _ c.push.result (step _ _ (step _ _ (traversal _ (point_line _ _ c.args.mark.now _ _ _ _ _ c.args.width (c.as_str-2.ensures.value ∙ c.in_ok-end.ensures.ok) (c.as_str.ensures.value ∙ c.in_ok-text.ensures))) c.in_ok-push_left.ensures) c.in_ok-push_numbers_of.ensures) c.push.ensures
