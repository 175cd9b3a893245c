use Rattle.std.proofs.Common.{◌≡◌, ◌∙◌, ap, map, ℕ, List, flat_map}
use Rattle.gq_extended.specs.Meaning.{extended}
use Rattle.gms_event.specs.EventView.{shown_in}
use Rattle.gms_list.specs.ListingText.{entry_text, tuple_width, TupleValues}
use Rattle.gms_list.proofs.AppendedPieces.{untouched, reshaped}
use Rattle.gms_list.proofs.listing.Listing.push_entries.Goals as goal

lines_with : (labels : List (List ℕ)) (decimals width : ℕ) (seen entries : TupleValues) → seen ≡ entries → width ≡ tuple_width labels seen →
    flat_map (entry_text labels width decimals) seen ≡ flat_map (entry_text labels (tuple_width labels entries) decimals) entries
lines_with labels decimals width seen entries e f =
    ap (λ w. flat_map (entry_text labels w decimals) seen) f ∙ ap (λ es. flat_map (entry_text labels (tuple_width labels es) decimals) es) e

pub returns-in_err-width : goal.returns-in_err-width
returns-in_err-width g c = untouched _ _ c.from_residual.result c.from_residual.ensures.0

pub returns : goal.returns
returns g c =
    reshaped _ _ _ _ c.push_entry_lines.result
    (lines_with c.args.labels.now c.args.item.now.decimals c.in_ok-width.width _ (shown_in g.F.ExactField.value c.args.item.now).entries (ap (map (λ entry. (entry.0, extended g.F.ExactField.value entry.1))) c.as_slice-entries.ensures) c.in_ok-width.ensures) c.push_entry_lines.ensures
