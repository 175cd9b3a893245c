use Rattle.std.proofs.Common.{flat_map, map, drop}
use Rattle.gms_list.proofs.AppendedPieces.{Traversed}
use Rattle.std.proofs.Common.{ℕ, codes, ◌++◌}
use Rattle.gms_list.specs.ListingText.{pair_text, further_pairs}
use Rattle.gms_list.proofs.listing.Listing.push_further.Given as goal

abbrev pub invariant-loop-set : goal.invariant-loop-set
invariant-loop-set g l =
    Traversed l.fn.self (further_pairs l.p.names l.p.labels l.pairs) l.self (flat_map (λ (pair : ℕ × ℕ). codes "," ++ pair_text l.p.names l.p.labels pair) (map (λ (pair : ℕ × ℕ). pair) (drop l.set-index l.pairs)))
