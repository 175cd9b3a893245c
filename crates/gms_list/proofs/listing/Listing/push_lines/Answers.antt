use Rattle.std.proofs.Common.{◌≡◌, ◌≢◌, [], ap, ◌∙◌, map, rules, flat_map}
use Rattle.gms_list.proofs.AppendedPieces.{reshaped}
use Rattle.gms_list.proofs.Displayed.{no_entry, set_entries, other_entries, seen_none, seen_some}
use Rattle.gms_list.specs.ListingText.{member_text, nothing_text}
use Rattle.gq_extended.specs.Meaning.{extended}
use Rattle.gms_event.specs.EventView.{shown_in}
use Rattle.gms_list.proofs.listing.Listing.push_lines.Goals as goal

pub returns-then-is_empty : goal.returns-then-is_empty
returns-then-is_empty g c =
    let none : c.args.item.now.entries ≡ [] = search rules in
    reshaped _ _ _ _ c.push.result (c.nothing_text.ensures ∙ no_entry c.args.labels.now c.args.item.now.kind c.args.item.now.decimals (shown_in g.F.ExactField.value c.args.item.now).entries (seen_none (λ entry. (entry.0, extended g.F.ExactField.value entry.1)) c.args.item.now.entries none)) c.push.ensures

pub returns-in-Set : goal.returns-in-Set
returns-in-Set g c =
    let some : c.args.item.now.entries ≢ [] = search rules in
    reshaped _ _ _ _ c.push_members.result
    (ap (λ es. flat_map (member_text c.args.labels.now) (map (λ entry. (entry.0, extended g.F.ExactField.value entry.1)) es)) c.as_slice.ensures ∙ set_entries c.args.labels.now c.args.item.now.kind c.args.item.now.decimals (shown_in g.F.ExactField.value c.args.item.now).entries (seen_some (λ entry. (entry.0, extended g.F.ExactField.value entry.1)) c.args.item.now.entries some) c.in-Set.is)
    c.push_members.ensures

pub returns-in_default : goal.returns-in_default
returns-in_default g c =
    let some : c.args.item.now.entries ≢ [] = search rules in
    reshaped _ _ _ _ c.push_entries.result
    (other_entries c.args.labels.now c.args.item.now.kind c.args.item.now.decimals (shown_in g.F.ExactField.value c.args.item.now).entries (seen_some (λ entry. (entry.0, extended g.F.ExactField.value entry.1)) c.args.item.now.entries some) c.in_default.not-Set)
    c.push_entries.ensures
