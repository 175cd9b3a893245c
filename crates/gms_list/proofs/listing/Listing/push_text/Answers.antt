use Rattle.gms_list.proofs.AppendedPieces.{traversal, step, broke, last, untouched}
use Rattle.std.proofs.Common.{◌∙◌}
use Rattle.gms_list.proofs.Shapes.{text_item}
use Rattle.gms_list.proofs.listing.Listing.push_text.Goals as goal

pub returns-in_err-head : goal.returns-in_err-head
returns-in_err-head c = untouched _ _ c.from_residual.result c.from_residual.ensures.0

pub returns-in_err-push : goal.returns-in_err-push
returns-in_err-push c =
    broke c.from_residual-in_err-push.result c.from_residual-in_err-push.ensures.0 _ _ (traversal _ (text_item _ c.args.text.now c.args.line (c.as_str.ensures.value ∙ c.in_ok-head.ensures.ok))) c.in_err-push.ensures

pub returns-in_err-push_bytes : goal.returns-in_err-push_bytes
returns-in_err-push_bytes c =
    broke c.from_residual-in_err-push_bytes.result c.from_residual-in_err-push_bytes.ensures.0 _ _ (step _ _ (traversal _ (text_item _ c.args.text.now c.args.line (c.as_str.ensures.value ∙ c.in_ok-head.ensures.ok))) c.in_ok-push.ensures) c.in_err-push_bytes.ensures

pub returns : goal.returns
returns c =
    last _ _ c.push-2.result (step _ _ (step _ _ (traversal _ (text_item _ c.args.text.now c.args.line (c.as_str.ensures.value ∙ c.in_ok-head.ensures.ok))) c.in_ok-push.ensures) c.in_ok-push_bytes.ensures) c.push-2.ensures
