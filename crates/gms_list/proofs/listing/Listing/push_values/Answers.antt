use Rattle.std.proofs.Common.{codes}
use Rattle.gms_list.proofs.AppendedPieces.{traversal, step, broke, last, reshaped}
use Rattle.gms_list.proofs.Displayed.{indexed_values, plain_values}
use Rattle.gms_event.specs.EventView.{shown_in}
use Rattle.gms_list.proofs.listing.Listing.push_values.Goals as goal

pub returns-in_err-push : goal.returns-in_err-push
returns-in_err-push g c =
    broke c.from_residual.result c.from_residual.ensures.0 (codes "\n") _ (traversal _ (indexed_values c.args.labels.now (shown_in g.F.ExactField.value c.args.item.now) c.if-item.true)) c.in_err-push.ensures

pub returns-in_ok-push : goal.returns-in_ok-push
returns-in_ok-push g c =
    last _ _ c.push_lines.result (step (codes "\n") _ (traversal _ (indexed_values c.args.labels.now (shown_in g.F.ExactField.value c.args.item.now) c.if-item.true)) c.in_ok-push.ensures) c.push_lines.ensures

pub returns-else-item : goal.returns-else-item
returns-else-item g c = reshaped _ _ _ _ c.push_single.result (plain_values c.args.labels.now (shown_in g.F.ExactField.value c.args.item.now) c.if-item.false) c.push_single.ensures
