-- What a search of a table from its start finds.
use Rattle.std.proofs.Common.{◌≡◌, ℕ, ◌+◌, ◌<◌, ◌≤◌, if◌then◌else◌, Bool, List, [], ◌∷◌, Option, Some, None, length, get_or, drop, ap, ◌∙◌}
use Rattle.std.proofs.lemmas.List.{at_drop_more, at_drop_all}

module _ {X Y : Type 0} (test : X → Bool) (tells : X → Y) where
  -- what the first entry that passes a test tells
  abbrev pub first_told : List X → Option Y
  first_told [] = None
  first_told (x ∷ xs) = if test x then Some (tells x) else first_told xs

  -- by whether the next entry passes the test
  pub told : (xs : List X) (i : ℕ) (x : X) → i < length xs → (b : Bool) → test (get_or xs i x) ≡ b → first_told (drop i xs) ≡ (if b then Some (tells (get_or xs i x)) else first_told (drop (i + 1) xs))
  told xs i x here b h = at_drop_more first_told xs i x here ∙ ap (λ b. if b then Some (tells (get_or xs i x)) else first_told (drop (i + 1) xs)) h

  pub told_by_none : (xs : List X) (i : ℕ) → length xs ≤ i → first_told (drop i xs) ≡ None
  told_by_none xs i l = at_drop_all first_told xs i l
