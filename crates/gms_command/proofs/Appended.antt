-- Lines of the elements of a list that are appended in sequence.
use Rattle.std.proofs.Common.{◌≡◌, ℕ, ◌+◌, ◌<◌, ◌≤◌, List, ◌∷◌, ◌++◌, drop, length, get_or, flat_map, map, sym, ap, ◌∙◌, add-one, drop-cons}
use Rattle.std.proofs.lemmas.List.{append_assoc, append-nil, drop_all}
use Rattle.std.specs.List.{enumerate_from}

-- the elements from a place on, with their places
abbrev pub placed : {X Y : Type 0} → (X → Y) → ℕ → List X → List (ℕ × Y)
placed v i xs = enumerate_from i (map v (drop i xs))

placed_at : {X Y : Type 0} (v : X → Y) (xs : List X) (i : ℕ) (x : X) → i < length xs → x ≡ get_or xs i x → placed v i xs ≡ (i, v x) ∷ placed v (i + 1) xs
placed_at v xs i x within is =
    ap (λ ys. enumerate_from i (map v ys)) (drop-cons xs i x within ∙ ap (λ k. get_or xs i x ∷ drop k xs) (sym (add-one i)) ∙ ap (λ y. y ∷ drop (i + 1) xs) (sym is))

module _ {X Y : Type 0} (f : ℕ × Y → List ℕ) (v : X → Y) (xs : List X) (old : List ℕ) where
  -- a text followed by the lines from a place on is the old text followed by all lines
  abbrev pub Goes : ℕ → List ℕ → Type 0
  Goes i now = now ++ flat_map f (placed v i xs) ≡ old ++ flat_map f (placed v 0 xs)

  -- the line of the element at the place was appended
  pub continues : (i : ℕ) (x : X) (now new : List ℕ) → i < length xs → x ≡ get_or xs i x → Goes i now → new ≡ now ++ f (i, v x) → Goes (i + 1) new
  continues i x now new within is so_far appended =
      ap (λ t. t ++ flat_map f (placed v (i + 1) xs)) appended ∙ append_assoc now (f (i, v x)) (flat_map f (placed v (i + 1) xs))
      ∙ ap (λ ys. now ++ flat_map f ys) (sym (placed_at v xs i x within is)) ∙ so_far

  -- no element is left
  pub gone : (i : ℕ) (now : List ℕ) → length xs ≤ i → Goes i now → now ≡ old ++ flat_map f (placed v 0 xs)
  gone i now end so_far = sym (append-nil now) ∙ ap (λ ys. now ++ flat_map f (enumerate_from i (map v ys))) (sym (drop_all i xs end)) ∙ so_far
