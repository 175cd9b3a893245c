use Rattle.gms_list.proofs.AppendedPieces.{traversal, step, broke, last, untouched}
use Rattle.std.proofs.Common.{◌∙◌}
use Rattle.gms_event.specs.EventView.{shown_in}
use Rattle.gms_list.specs.ListingText.{values_text}
use Rattle.gms_list.proofs.Shapes.{symbol_item}
use Rattle.gms_list.proofs.listing.Listing.push_symbol.Goals as goal

pub returns-in_err-head : goal.returns-in_err-head
returns-in_err-head g c = untouched _ _ c.from_residual.result c.from_residual.ensures.0

pub returns-in_err-push : goal.returns-in_err-push
returns-in_err-push g c =
    broke c.from_residual-in_err-push.result c.from_residual-in_err-push.ensures.0 _ _ (traversal _ (symbol_item _ _ _ _ _ _ _ (values_text c.args.p.now.labels (shown_in g.F.ExactField.value c.args.item.now)) c.args.line (c.as_str.ensures.value ∙ c.in_ok-head.ensures.ok) c.kind_text-kind.ensures c.text_of-word.ensures c.suffix_text-suffix.ensures)) c.in_err-push.ensures

pub returns : goal.returns
returns g c =
    last _ _ c.push_values.result (step _ _ (traversal _ (symbol_item _ _ _ _ _ _ _ (values_text c.args.p.now.labels (shown_in g.F.ExactField.value c.args.item.now)) c.args.line (c.as_str.ensures.value ∙ c.in_ok-head.ensures.ok) c.kind_text-kind.ensures c.text_of-word.ensures c.suffix_text-suffix.ensures)) c.in_ok-push.ensures) c.push_values.ensures
