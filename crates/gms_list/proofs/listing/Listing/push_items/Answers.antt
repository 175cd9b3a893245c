use Rattle.std.proofs.Common.{arith, refl}
use Rattle.gms_list.proofs.AppendedPieces.{traversal, loop_step, loop_broke, loop_done}
use Rattle.gms_event.specs.EventView.{shown_in}
use Rattle.gms_list.specs.ListingText.{item_text}
use Rattle.gms_list.proofs.listing.Listing.push_items.Goals as goal

pub loop-item-init : goal.loop-item-init
loop-item-init g c = traversal _ refl

pub loop-item-preserved : goal.loop-item-preserved
loop-item-preserved g c =
    loop_step (item_text c.args.p.now.names c.args.p.now.labels c.args.line) (shown_in g.F.ExactField.value) c.args.items.now c.loop-item.item-index (c.item-item.result) (omega arith) (c.item-item.is) c.loop-item.invariant c.in_ok-push_item.ensures

pub returns-in_err-push_item : goal.returns-in_err-push_item
returns-in_err-push_item g c =
    loop_broke (item_text c.args.p.now.names c.args.p.now.labels c.args.line) (shown_in g.F.ExactField.value) c.args.items.now c.loop-item.item-index (c.item-item.result) (omega arith) (c.item-item.is) c.loop-item.invariant c.from_residual.result c.from_residual.ensures.0 c.in_err-push_item.ensures

pub returns : goal.returns
returns g c = loop_done (item_text c.args.p.now.names c.args.p.now.labels c.args.line) (shown_in g.F.ExactField.value) c.args.items.now c.loop-item.item-index (omega arith) c.loop-item.invariant
