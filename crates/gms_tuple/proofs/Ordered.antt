-- Ordered lists of tuples: what is at each place, and how such a list is cut by a test.
use Rattle.std.proofs.Common.{◌≡◌, ℕ, Bool, true, false, not, List, [], ◌∷◌, ◌++◌, filter, refl, ap, ◌∙◌, cond, Decides}
use Rattle.std.specs.declared.cmp.Ordering.{Ordering}
use Rattle.std.specs.declared.cmp.Ordering.TheVariants.{Less, Equal, Greater}
use Rattle.std.specs.Ordering.{ordering_reverse}
use Rattle.std.specs.List.{All}
use Rattle.std.specs.List.Sorted.{IsStrictlySortedBy}
use Rattle.std.proofs.lemmas.List.Elements.{All-from_recursion, recursion_from_All, All-cons, All-head, All-tail, All-append, All-weaker}
use Rattle.std.proofs.lemmas.Map.Keys.{sorted_head, sorted_tail}
use Rattle.std.proofs.lemmas.Bool.{both_ways, false_from_ne_true}
use Rattle.std.proofs.lemmas.Slice.Eq.{bytes_eq-Decides}
use Rattle.gms_tuple.specs.TupleOrder.{tuple_cmp, same_tuple, IsOrdered}
use Rattle.gms_tuple.specs.OrderLaws.{tuple_cmp-total, same_tuple-tuple_cmp}

-- two tuples are the same exactly where they are equal lists
pub same_tuple-Decides : (a b : List ℕ) → Decides (same_tuple a b) (a ≡ b)
same_tuple-Decides a b = bytes_eq-Decides a b

-- a tuple is the same as itself
pub same_tuple_refl : (a : List ℕ) → same_tuple a a ≡ true
same_tuple_refl a = (same_tuple-Decides a a).1 refl

-- a tuple that comes before another is a different one
pub same_tuple-Less : (a b : List ℕ) → tuple_cmp a b ≡ Less → same_tuple a b ≡ false
same_tuple-Less a b less = rw (same_tuple-tuple_cmp a b, less) refl

-- and so is one that comes after it
pub same_tuple-Greater : (a b : List ℕ) → tuple_cmp a b ≡ Greater → same_tuple a b ≡ false
same_tuple-Greater a b greater = rw (same_tuple-tuple_cmp a b, greater) refl

-- tuples between which neither comes first are equal
pub tuple_cmp-Equal : (a b : List ℕ) → tuple_cmp a b ≡ Equal → a ≡ b
tuple_cmp-Equal a b equal = (same_tuple-Decides a b).0 (rw (same_tuple-tuple_cmp a b, equal) refl)

-- the order of two tuples, read the other way round
pub tuple_cmp-flip : (a b : List ℕ) (o : Ordering) → tuple_cmp a b ≡ o → tuple_cmp b a ≡ ordering_reverse o
tuple_cmp-flip a b o e = tuple_cmp-total.antisymm b a ∙ ap ordering_reverse e

-- the first of an ordered list comes before all others
pub first-before : (x : List ℕ) (xs : List (List ℕ)) → IsOrdered (x ∷ xs) → All (λ y. tuple_cmp x y ≡ Less) xs
first-before x xs ordered = All-from_recursion (λ y. tuple_cmp x y ≡ Less) xs (sorted_head tuple_cmp x xs ordered)

-- the others are in order
pub rest-ordered : (x : List ℕ) (xs : List (List ℕ)) → IsOrdered (x ∷ xs) → IsOrdered xs
rest-ordered x xs ordered = sorted_tail tuple_cmp x xs ordered

-- a list is in order if its first comes before all others and these are in order
pub ordered-cons : (x : List ℕ) (xs : List (List ℕ)) → All (λ y. tuple_cmp x y ≡ Less) xs → IsOrdered xs → IsOrdered (x ∷ xs)
unfolding IsStrictlySortedBy
ordered-cons x xs before ordered = (recursion_from_All (λ y. tuple_cmp x y ≡ Less) xs before, ordered)

-- no tuple is in order
pub ordered-nil : IsOrdered []
unfolding IsStrictlySortedBy
ordered-nil = tt

-- a tuple between two ordered lists, where all in the first come before it and all in the second
-- after it
pub ordered-join : (xs : List (List ℕ)) (t : List ℕ) (ys : List (List ℕ)) → IsOrdered xs → All (λ x. tuple_cmp x t ≡ Less) xs → IsOrdered ys → All (λ y. tuple_cmp t y ≡ Less) ys → IsOrdered (xs ++ t ∷ ys)
ordered-join [] t ys ordered before others after = ordered-cons t ys after others
ordered-join (x ∷ xs) t ys ordered before others after =
    let first = All-head (λ x. tuple_cmp x t ≡ Less) x xs before in
    ordered-cons x (xs ++ t ∷ ys)
    (All-append (λ y. tuple_cmp x y ≡ Less) xs (t ∷ ys) (first-before x xs ordered)
    (All-cons (λ y. tuple_cmp x y ≡ Less) t ys first (All-weaker (λ y. tuple_cmp t y ≡ Less) (λ y. tuple_cmp x y ≡ Less) (λ y less. tuple_cmp-total.trans x t y first less) ys after)))
    (ordered-join xs t ys (rest-ordered x xs ordered) (All-tail (λ x. tuple_cmp x t ≡ Less) x xs before) others after)

module _ {X : Type 0} (p : X → Bool) where
  -- a test that all pass keeps all
  pub filter_all : (xs : List X) → All (λ x. p x ≡ true) xs → filter p xs ≡ xs
  filter_all [] all = refl
  filter_all (x ∷ xs) all =
      ap (λ b. cond b (x ∷ filter p xs) (filter p xs)) (All-head (λ x. p x ≡ true) x xs all) ∙ ap (λ ys. x ∷ ys) (filter_all xs (All-tail (λ x. p x ≡ true) x xs all))

  -- a test that none passes keeps none
  pub filter_none : (xs : List X) → All (λ x. p x ≡ false) xs → filter p xs ≡ []
  filter_none [] all = refl
  filter_none (x ∷ xs) all =
      ap (λ b. cond b (x ∷ filter p xs) (filter p xs)) (All-head (λ x. p x ≡ false) x xs all) ∙ filter_none xs (All-tail (λ x. p x ≡ false) x xs all)

  -- tests that agree on the elements keep the same
  pub filter_agree_on : (q : X → Bool) (xs : List X) → All (λ x. p x ≡ q x) xs → filter p xs ≡ filter q xs
  filter_agree_on q [] all = refl
  filter_agree_on q (x ∷ xs) all =
      ap (λ b. cond b (x ∷ filter p xs) (filter p xs)) (All-head (λ x. p x ≡ q x) x xs all) ∙ ap (λ ys. cond (q x) (x ∷ ys) ys) (filter_agree_on q xs (All-tail (λ x. p x ≡ q x) x xs all))

-- A test cuts an ordered list in two if, among the tuples that pass `r`, it passes each that comes
-- before one which it passes.
module _ (r p : List ℕ → Bool) (closed : (x y : List ℕ) → r x ≡ true → tuple_cmp x y ≡ Less → p y ≡ true → p x ≡ true) where
  pub cut-by : (xs : List (List ℕ)) → IsOrdered xs → All (λ x. r x ≡ true) xs → xs ≡ filter p xs ++ filter (λ x. not (p x)) xs
  cut-by [] ordered all = refl
  cut-by (x ∷ xs) ordered all =
      elim (p x) as (λ b. p x ≡ b → x ∷ xs ≡ cond b (x ∷ filter p xs) (filter p xs) ++ cond (not b) (x ∷ filter (λ x. not (p x)) xs) (filter (λ x. not (p x)) xs)) [
        | true ↦ λ e. ap (λ ys. x ∷ ys) (cut-by xs (rest-ordered x xs ordered) (All-tail (λ x. r x ≡ true) x xs all))
        | false ↦ λ e.
            let none = All-weaker (λ y. tuple_cmp x y ≡ Less) (λ y. p y ≡ false) (λ y less. false_from_ne_true (p y) (λ passes. both_ways (p x) e (closed x y (All-head (λ x. r x ≡ true) x xs all) less passes))) xs (first-before x xs ordered) in
            rw (filter_none p xs none, filter_all (λ x. not (p x)) xs (All-weaker (λ y. p y ≡ false) (λ y. not (p y) ≡ true) (λ y fails. ap not fails) xs none)) refl
      ] refl
