use Rattle.std.proofs.Common.{flat_map, map, drop}
use Rattle.gms_list.proofs.AppendedPieces.{Traversed}
use Rattle.gq_extended.specs.Meaning.{extended}
use Rattle.gms_list.specs.ListingText.{number_text}
use Rattle.gms_list.proofs.listing.Listing.push_numbers.Given as goal

abbrev pub invariant-loop-value : goal.invariant-loop-value
invariant-loop-value g l =
    Traversed l.fn.self (flat_map (number_text l.decimals) (map (λ entry. (entry.0, extended g.F.ExactField.value entry.1)) l.entries)) l.self (flat_map (number_text l.decimals) (map (λ entry. (entry.0, extended g.F.ExactField.value entry.1)) (drop l.value-index l.entries)))
