-- Lists that are compared item by item.
use Rattle.std.proofs.Common.{◌≡◌, ℕ, ◌+◌, ◌<◌, List, [], ◌∷◌, ◌++◌, length, take, slice_get, sym, ap₂, ◌∙◌, Some, arith}
use Rattle.std.proofs.lemmas.List.{take_more}
use Rattle.std.proofs.lemmas.Option.{get_or_from_slice_get}

-- one item more
pub take_same : (xs ys : List (List ℕ)) (k : ℕ) (x y : List ℕ) → k < length xs → length xs ≡ length ys → slice_get xs k ≡ Some x → slice_get ys k ≡ Some y → x ≡ y → take k xs ≡ take k ys → take (k + 1) xs ≡ take (k + 1) ys
take_same xs ys k x y within count there here same so_far =
    take_more xs k [] within
    ∙ ap₂ (λ (l : List (List ℕ)) (t : List ℕ). l ++ t ∷ []) so_far (get_or_from_slice_get xs k x [] there ∙ same ∙ sym (get_or_from_slice_get ys k y [] here))
    ∙ sym (take_more ys k [] (omega (arith, within, count)))
