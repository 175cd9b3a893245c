-- Tuples that occur twice in a list.
use Rattle.std.proofs.Common.{ℕ, ◌≡◌, ◌<◌, ◌+◌, ◌++◌, ◌∷◌, [], Bool, true, false, ◌||◌, List, length, get_or, take, drop, refl, sym, ap, ◌∙◌, append_assoc, Option}
use Rattle.std.proofs.lemmas.List.{map-append, take_more, drop_more, take-append-drop}
use Rattle.std.proofs.lemmas.List.Folds.{list_any-append}
use Rattle.std.proofs.lemmas.Bool.{or_parts, or_right}
use Rattle.std.proofs.lemmas.Cmp.{nat_list_eq_equiv}
use Rattle.gq_extended.specs.declared.extended.Ext.{Ext}
use Rattle.gms_tuple.specs.TupleOrder.{same_tuple}
use Rattle.gms_tuple.specs.TupleSet.{has}
use Rattle.gms_set.specs.Expansion.{ExpandedData, has_repeat, tuples_of, tuples_with_value}

-- the members of two lists
pub has-append : (xs ys : List (List ℕ)) (t : List ℕ) → has (xs ++ ys) t ≡ (has xs t || has ys t)
has-append xs ys t = list_any-append (λ member. same_tuple member t) xs ys

-- a tuple after a list that contains it is a repeat
pub has_repeat-again : (xs : List (List ℕ)) (t : List ℕ) (ys : List (List ℕ)) → has xs t ≡ true → has_repeat (xs ++ t ∷ ys) ≡ true
has_repeat-again [] t ys there = absurd cc
has_repeat-again (x ∷ xs) t ys there =
    elim (same_tuple x t) as (λ b. same_tuple x t ≡ b → (b || has xs t) ≡ true → has_repeat (x ∷ xs ++ t ∷ ys) ≡ true) [
      | true ↦ λ same _.
          let back : same_tuple t x ≡ true = nat_list_eq_equiv.symm t x ∙ same in
          rw (has-append xs (t ∷ ys) x, back) (by (has xs x))
      | false ↦ λ _ later. or_right (has (xs ++ t ∷ ys) x) (has_repeat (xs ++ t ∷ ys)) (has_repeat-again xs t ys later)
    ] refl there
  where
    by : (b : Bool) → ((b || true) || has_repeat (xs ++ t ∷ ys)) ≡ true
    by true = refl
    by false = refl

-- a new tuple after distinct ones is no repeat
pub has_repeat-new : (xs : List (List ℕ)) (t : List ℕ) → has_repeat xs ≡ false → has xs t ≡ false → has_repeat (xs ++ t ∷ []) ≡ false
has_repeat-new [] t distinct new = refl
has_repeat-new (x ∷ xs) t distinct new =
    let d = or_parts (has xs x) (has_repeat xs) distinct in
    let n = or_parts (same_tuple x t) (has xs t) new in
    let back : same_tuple t x ≡ false = nat_list_eq_equiv.symm t x ∙ n.0 in
    rw (has-append xs (t ∷ []) x, d.0, back) (has_repeat-new xs t d.1 n.1)

module _ {F : Type 0} where
  -- the tuples of the given ones, followed by others of one value
  pub tuples_of-with : (given : ExpandedData F) (value : Option (Ext F)) (tuples : List (List ℕ)) → tuples_of (given ++ tuples_with_value value tuples) ≡ tuples_of given ++ tuples
  tuples_of-with given value tuples = map-append (λ (pair : List ℕ × Option (Ext F)). pair.0) given (tuples_with_value value tuples) ∙ ap (λ ts. tuples_of given ++ ts) (alone tuples)
    where
      alone : (tuples : List (List ℕ)) → tuples_of (tuples_with_value value tuples) ≡ tuples
      alone [] = refl
      alone (t ∷ ts) = ap (λ ts. t ∷ ts) (alone ts)

  -- one tuple more
  pub with_value-more : (given : ExpandedData F) (value : Option (Ext F)) (tuples : List (List ℕ)) (i : ℕ) → i < length tuples → (given ++ tuples_with_value value (take i tuples)) ++ (get_or tuples i [], value) ∷ [] ≡ given ++ tuples_with_value value (take (i + 1) tuples)
  with_value-more given value tuples i l =
      append_assoc given (tuples_with_value value (take i tuples)) ((get_or tuples i [], value) ∷ [])
      ∙ ap (λ pairs. given ++ pairs) (sym (ap (tuples_with_value value) (take_more tuples i [] l) ∙ map-append (λ tuple. (tuple, value)) (take i tuples) (get_or tuples i [] ∷ [])))

  -- the tuple at a place is among those given and the tuples before it, so it is a repeat among all
  pub repeat-at : (given : ExpandedData F) (value : Option (Ext F)) (tuples : List (List ℕ)) (i : ℕ) → i < length tuples → has (tuples_of (given ++ tuples_with_value value (take i tuples))) (get_or tuples i []) ≡ true → has_repeat (tuples_of given ++ tuples) ≡ true
  repeat-at given value tuples i l there =
      let prefix = tuples_of given ++ take i tuples in
      let whole : tuples_of given ++ tuples ≡ prefix ++ get_or tuples i [] ∷ drop (i + 1) tuples =
      sym (append_assoc (tuples_of given) (take i tuples) (get_or tuples i [] ∷ drop (i + 1) tuples) ∙ ap (λ ts. tuples_of given ++ ts) (ap (λ ts. take i tuples ++ ts) (sym (drop_more tuples i [] l)) ∙ take-append-drop i tuples)) in
      ap has_repeat whole ∙ has_repeat-again prefix (get_or tuples i []) (drop (i + 1) tuples) (sym (ap (λ ts. has ts (get_or tuples i [])) (tuples_of-with given value (take i tuples))) ∙ there)

  -- one more tuple after the given ones
  pub tuples_of-push : (given : ExpandedData F) (t : List ℕ) (value : Option (Ext F)) → tuples_of (given ++ (t, value) ∷ []) ≡ tuples_of given ++ t ∷ []
  tuples_of-push given t value = tuples_of-with given value (t ∷ [])

  pub distinct-more : (given : ExpandedData F) (t : List ℕ) (value : Option (Ext F)) → has_repeat (tuples_of given) ≡ false → has (tuples_of given) t ≡ false → has_repeat (tuples_of (given ++ (t, value) ∷ [])) ≡ false
  distinct-more given t value distinct new = ap has_repeat (tuples_of-push given t value) ∙ has_repeat-new (tuples_of given) t distinct new
