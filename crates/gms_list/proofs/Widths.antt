-- The length of the longest text, entry by entry.
use Rattle.std.proofs.Common.{◌≡◌, ℕ, ◌+◌, ◌<◌, ◌≤◌, ◌∙◌, ap, sym, List, map, drop, max, length, get_or, ◌∷◌}
use Rattle.std.specs.List.{fold}
use Rattle.std.proofs.lemmas.List.{drop_all}
use Rattle.gq_extended.specs.Extended.{Extended}
use Rattle.gms_fmt.specs.ElementTexts.{dotted_text}
use Rattle.gms_list.specs.ListingText.{TupleValues}
use Rattle.gms_list.proofs.AppendedPieces.{drop_at}

-- the length of the longest of these, from an initial width
abbrev pub width_from : List (List ℕ) → ℕ → TupleValues → ℕ
width_from labels width entries = fold (λ width (entry : List ℕ × Extended). max (length (dotted_text labels entry.0)) width) width entries

pub width_step : {X : Type 0} (labels : List (List ℕ)) (v : X → List ℕ × Extended) (xs : List X) (i : ℕ) (x : X) (width next all : ℕ) → i < length xs → x ≡ get_or xs i x →
    next ≡ max (length (dotted_text labels (v x).0)) width → width_from labels width (map v (drop i xs)) ≡ all → width_from labels next (map v (drop (i + 1) xs)) ≡ all
width_step labels v xs i x width next all h e n w =
    ap (λ k. width_from labels k (map v (drop (i + 1) xs))) n
    ∙ sym (ap (λ ys. width_from labels width (map v ys)) (drop_at xs i x h ∙ ap (λ y. y ∷ drop (i + 1) xs) (sym e))) ∙ w

pub width_done : {X : Type 0} (labels : List (List ℕ)) (v : X → List ℕ × Extended) (xs : List X) (i : ℕ) (width all : ℕ) → length xs ≤ i →
    width_from labels width (map v (drop i xs)) ≡ all → width ≡ all
width_done labels v xs i width all h w = sym (ap (λ ys. width_from labels width (map v ys)) (drop_all i xs h)) ∙ w
