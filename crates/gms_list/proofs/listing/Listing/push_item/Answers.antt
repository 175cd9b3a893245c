use Rattle.gms_list.proofs.AppendedPieces.{reshaped}
use Rattle.gms_list.proofs.Displayed.{text_is, symbol_is}
use Rattle.gms_event.specs.EventView.{shown_in}
use Rattle.gms_list.proofs.listing.Listing.push_item.Goals as goal

pub returns-in-None : goal.returns-in-None
returns-in-None g c = reshaped _ _ _ _ c.push_text.result (text_is c.args.p.now.names c.args.p.now.labels c.args.line (shown_in g.F.ExactField.value c.args.item.now) _ c.as_slice.ensures c.in-None.is) c.push_text.ensures

pub returns-in-Some : goal.returns-in-Some
returns-in-Some g c = reshaped _ _ _ _ c.push_symbol.result (symbol_is c.args.p.now.names c.args.p.now.labels c.args.line (shown_in g.F.ExactField.value c.args.item.now) c.in-Some.name c.in-Some.is) c.push_symbol.ensures
