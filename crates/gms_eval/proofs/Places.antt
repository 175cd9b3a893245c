-- The place of a tuple in a set: one of the set's, where the set has it, and else none.
use Rattle.std.proofs.Common.{◌≡◌, ℕ, ◌<◌, ◌∙◌, zero, suc, true, false, cond, ltb, List, [], ◌∷◌, length, get_or, slice_get, Some, None, refl, sym, ap, subst, ltb-true, arith}
use Rattle.std.specs.List.{position_or_len}
use Rattle.std.proofs.lemmas.Bool.{both_ways, lt-ltb}
use Rattle.std.proofs.lemmas.List.Elements.{All-get_or}
use Rattle.std.proofs.lemmas.Option.{slice_get_within, get_or_from_slice_get}
use Rattle.std.specs.declared.cmp.Ordering.TheVariants.{Less}
use Rattle.gms_tuple.specs.TupleOrder.{tuple_cmp, same_tuple, IsOrdered}
use Rattle.gms_tuple.specs.TupleSet.{has, place_of_tuple}
use Rattle.gms_tuple.proofs.Members.{has-place}
use Rattle.gms_tuple.proofs.Ordered.{same_tuple_refl, same_tuple-Less, first-before, rest-ordered}

-- a tuple that is no member has no place
pub place-none : (xs : List (List ℕ)) (t : List ℕ) → has xs t ≡ false → place_of_tuple xs t ≡ None
place-none xs t absent =
    let m : ℕ = position_or_len (λ member. same_tuple member t) xs in
    elim (ltb m (length xs)) as (λ b. ltb m (length xs) ≡ b → cond b (Some m) None ≡ None) [
      | true ↦ λ within. absurd (both_ways (has xs t) absent (has-place xs t m (ap (λ b. cond b (Some m) None) within)))
      | false ↦ λ _. refl
    ] refl

-- the place of a member is one of the set's
pub place-below : (xs : List (List ℕ)) (t : List ℕ) (n : ℕ) → place_of_tuple xs t ≡ Some n → n < length xs
place-below xs t n found =
    let m : ℕ = position_or_len (λ member. same_tuple member t) xs in
    elim (ltb m (length xs)) as (λ b. ltb m (length xs) ≡ b → cond b (Some m) None ≡ Some n → n < length xs) [
      | true ↦ λ within e. let at : m ≡ n = cc in let below = ltb-true m (length xs) within in omega arith
      | false ↦ λ _ e. absurd cc
    ] refl found

-- in an ordered list the first that is a tuple is where the tuple is
first-at : (xs : List (List ℕ)) (t : List ℕ) (n : ℕ) → IsOrdered xs → n < length xs → get_or xs n [] ≡ t → position_or_len (λ member. same_tuple member t) xs ≡ n
first-at [] t n ordered within at = absurd (omega (arith, within))
first-at (x ∷ xs) t zero ordered within at =
    let own : same_tuple x t ≡ true = ap (λ y. same_tuple x y) (sym at) ∙ same_tuple_refl x in
    rw own refl
first-at (x ∷ xs) t (suc n) ordered within at =
    let before : tuple_cmp x t ≡ Less = subst (λ y. tuple_cmp x y ≡ Less) at (All-get_or (λ y. tuple_cmp x y ≡ Less) xs n [] (omega (arith, within)) (first-before x xs ordered)) in
    let rest = first-at xs t n (rest-ordered x xs ordered) (omega (arith, within)) at in
    rw (same_tuple-Less x t before) (omega (arith, rest))

-- a tuple that an ordered list has at a place has that place
pub place-at : (xs : List (List ℕ)) (t : List ℕ) (n : ℕ) → IsOrdered xs → slice_get xs n ≡ Some t → place_of_tuple xs t ≡ Some n
place-at xs t n ordered at =
    let within : n < length xs = slice_get_within xs n t at in
    let first = first-at xs t n ordered within (get_or_from_slice_get xs n t [] at) in
    rw (first, lt-ltb n (length xs) within) refl
