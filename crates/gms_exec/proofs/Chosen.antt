-- The first place of a list at which a test passes.
use Rattle.std.proofs.Common.{◌≡◌, ℕ, ◌+◌, ◌<◌, ◌≤◌, Bool, true, false, List, length, map, get_or, refl, sym, ap, ◌∙◌, cond, Some, None, arith, below_more}
use Rattle.std.specs.Prelude.{nat_lt}
use Rattle.std.specs.List.{position}
use Rattle.std.proofs.lemmas.Bool.Decides.{nat_tests}
use Rattle.std.proofs.lemmas.List.Sums.{position_or_len_is}
use Rattle.std.proofs.Math.ListN.{length-map}
use Rattle.std.proofs.lemmas.List.{get_or-map}

module _ {A : Type 0} (p : A → Bool) (xs : List A) (d : A) where
  -- no element before a place passes
  abbrev pub FailsBefore : ℕ → Type 0
  FailsBefore i = (k : ℕ) → k < i → p (get_or xs k d) ≡ false

  below-test : (i n : ℕ) → i < n → nat_lt i n ≡ true
  below-test i n h = grind (arith, nat_tests)

  above-test : (i n : ℕ) → n ≤ i → nat_lt i n ≡ false
  above-test i n h = grind (arith, nat_tests)

  -- the first place at which the test passes, where it fails at all places before it
  pub position-there : (i : ℕ) → i < length xs → FailsBefore i → p (get_or xs i d) ≡ true → position p xs ≡ Some i
  position-there i within fails passes =
      let at_most : i ≤ length xs = omega arith in
      ap (λ n. cond (nat_lt n (length xs)) (Some n) None) (position_or_len_is p xs i d at_most fails (λ _. passes)) ∙ ap (λ b. cond b (Some i) None) (below-test i (length xs) within)

  -- no place is found if the test passes nowhere
  pub position-nowhere : (i : ℕ) → i ≡ length xs → FailsBefore i → position p xs ≡ None
  position-nowhere i all fails =
      let at_most : i ≤ length xs = omega arith in
      let beyond : length xs ≤ i = omega arith in
      ap (λ n. cond (nat_lt n (length xs)) (Some n) None) (position_or_len_is p xs i d at_most fails (λ within. absurd (omega arith))) ∙ ap (λ b. cond b (Some i) None) (above-test i (length xs) beyond)

module _ {S A : Type 0} (f : S → A) (p : A → Bool) (xs : List S) (d : A) where
  -- what a test says of the element at a place
  pub test-here : (i : ℕ) (s : S) (t : Bool) → i < length xs → s ≡ get_or xs i s → p (f s) ≡ t → p (get_or (map f xs) i d) ≡ t
  test-here i s t within is e = ap p (get_or-map f xs i s d within ∙ ap f (sym is)) ∙ e

  -- one place more at which the test fails
  pub fails-more : (i : ℕ) (s : S) → i < length xs → s ≡ get_or xs i s → p (f s) ≡ false → ((k : ℕ) → k < i → p (get_or (map f xs) k d) ≡ false) → (k : ℕ) → k < i + 1 → p (get_or (map f xs) k d) ≡ false
  fails-more i s within is e before = below_more (λ k. p (get_or (map f xs) k d) ≡ false) i before (test-here i s false within is e)

  -- the first place at which the test passes
  pub first-there : (i : ℕ) (s : S) → i < length xs → s ≡ get_or xs i s → p (f s) ≡ true → ((k : ℕ) → k < i → p (get_or (map f xs) k d) ≡ false) → position p (map f xs) ≡ Some i
  first-there i s within is e before =
      let inside : i < length (map f xs) = rw length-map within in
      position-there p (map f xs) d i inside before (test-here i s true within is e)

  -- no place is found
  pub first-nowhere : (i : ℕ) → length xs ≤ i → ((k : ℕ) → k < i → p (get_or (map f xs) k d) ≡ false) → position p (map f xs) ≡ None
  first-nowhere i beyond before =
      let all : length (map f xs) ≤ i = rw length-map beyond in
      position-nowhere p (map f xs) d (length (map f xs)) refl (λ k within. before k (omega arith))
