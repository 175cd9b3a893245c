use Rattle.std.proofs.Common.{flat_map, map, drop}
use Rattle.gms_list.proofs.AppendedPieces.{Traversed}
use Rattle.gms_event.specs.EventView.{shown_in}
use Rattle.gms_list.specs.ListingText.{item_text, items_text}
use Rattle.gms_list.proofs.listing.Listing.push_items.Given as goal

abbrev pub invariant-loop-item : goal.invariant-loop-item
invariant-loop-item g l =
    Traversed l.fn.self (items_text l.p.names l.p.labels l.line (map (shown_in g.F.ExactField.value) l.items)) l.self (flat_map (item_text l.p.names l.p.labels l.line) (map (shown_in g.F.ExactField.value) (drop l.item-index l.items)))
