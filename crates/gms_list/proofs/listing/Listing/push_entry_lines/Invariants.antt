use Rattle.std.proofs.Common.{flat_map, map, drop}
use Rattle.gms_list.proofs.AppendedPieces.{Traversed}
use Rattle.gq_extended.specs.Meaning.{extended}
use Rattle.gms_list.specs.ListingText.{entry_text}
use Rattle.gms_list.proofs.listing.Listing.push_entry_lines.Given as goal

abbrev pub invariant-loop-t : goal.invariant-loop-t
invariant-loop-t g l =
    Traversed l.fn.self (flat_map (entry_text l.labels l.width l.decimals) (map (λ entry. (entry.0, extended g.F.ExactField.value entry.1)) l.entries)) l.self (flat_map (entry_text l.labels l.width l.decimals) (map (λ entry. (entry.0, extended g.F.ExactField.value entry.1)) (drop l.t-index l.entries)))
