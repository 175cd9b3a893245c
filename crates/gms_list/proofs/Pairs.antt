-- The pairs of a stop: the first and the later ones.
use Rattle.std.proofs.Common.{◌≡◌, ℕ, ◌≤◌, ◌++◌, List, [], ◌∷◌, codes, length, get_or, drop, refl, arith}
use Rattle.gms_eval.specs.Bindings.{Pairs}
use Rattle.gms_list.specs.ListingText.{pair_text, further_pairs, pairs_text}

pub pairs_first : (names labels : List (List ℕ)) (pairs : Pairs) (d : ℕ × ℕ) → 1 ≤ length pairs →
    (codes " with " ++ pair_text names labels (get_or pairs 0 d)) ++ further_pairs names labels (drop 1 pairs) ≡ pairs_text names labels pairs
pairs_first names labels [] d h = absurd (omega (arith, h))
pairs_first names labels (p ∷ ps) d h = refl
