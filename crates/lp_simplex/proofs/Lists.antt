-- Where a list that ends with an element is split.
use Rattle.std.proofs.Common.{◌≡◌, ◌⊎◌, inl, inr, List, [], ◌∷◌, ◌++◌, refl, sym, ap, ◌∙◌}
use Rattle.std.proofs.lemmas.List.{same_from_push, append_assoc}

module _ {X : Type 0} where
  -- a list that is not empty ends with an element
  pub ends_with : (xs : List X) → (xs ≡ []) ⊎ ((prefix : List X) × (x : X) × (xs ≡ prefix ++ x ∷ []))
  ends_with [] = inl refl
  ends_with (x ∷ xs) =
      elim (ends_with xs) [
        | inl none ↦ inr ([], x, ap (λ l. x ∷ l) none)
        | inr found ↦ inr (x ∷ found.0, found.1, ap (λ l. x ∷ l) found.2)
      ]

  -- a list with one element appended, split before a rest: the rest is empty, or ends with that
  -- element
  pub split_more : (xs before rest : List X) (x : X) → xs ++ x ∷ [] ≡ before ++ rest → (rest ≡ []) ⊎ ((prefix : List X) × (rest ≡ prefix ++ x ∷ []) × (xs ≡ before ++ prefix))
  split_more xs before rest x e =
      elim (ends_with rest) [
        | inl none ↦ inl none
        | inr found ↦
            let whole : xs ++ x ∷ [] ≡ (before ++ found.0) ++ found.1 ∷ [] = e ∙ ap (λ l. before ++ l) found.2 ∙ sym (append_assoc before found.0 (found.1 ∷ [])) in
            let same = same_from_push xs (before ++ found.0) x found.1 whole in
            inr (found.0, found.2 ∙ ap (λ y. found.0 ++ y ∷ []) (sym same.1), same.0)
      ]
