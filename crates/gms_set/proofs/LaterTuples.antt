-- Tuples that come after others, and which tuples are in the set of those given so far.
use Rattle.std.proofs.Common.{ℕ, ◌≡◌, ◌++◌, ◌∷◌, [], ◌-◌, Bool, true, false, ◌||◌, List, length, take, slice_get, Some, None, refl, sym, ap, subst, ◌∙◌, arith, Option}
use Rattle.std.specs.declared.cmp.Ordering.TheVariants.{Less}
use Rattle.std.specs.List.{All}
use Rattle.std.proofs.lemmas.List.{map-append}
use Rattle.std.proofs.lemmas.List.Elements.{All-nil, All-cons, All-head, All-tail, All-append, All-weaker}
use Rattle.std.proofs.lemmas.Map.Views.{All-before_last}
use Rattle.std.proofs.lemmas.Option.{none-some, slice_get-get_or}
use Rattle.gq_extended.specs.declared.extended.Ext.{Ext}
use Rattle.gms_tuple.specs.OrderLaws.{tuple_cmp-total}
use Rattle.gms_tuple.specs.TupleOrder.{tuple_cmp, same_tuple, IsOrdered}
use Rattle.gms_tuple.specs.TupleSet.{has}
use Rattle.gms_tuple.proofs.Lines.{ends-with}
use Rattle.gms_tuple.proofs.Ordered.{same_tuple-Less, ordered-join, ordered-nil, ordered-cons}
use Rattle.gms_set.specs.Expansion.{ExpandedData, tuples_of}
use Rattle.gms_set.proofs.Repeats.{has-append}

-- a tuple that comes after all others is none of them
lacks-later : (xs : List (List ℕ)) (t : List ℕ) → All (λ x. tuple_cmp x t ≡ Less) xs → has xs t ≡ false
lacks-later [] t before = refl
lacks-later (x ∷ xs) t before =
    rw (same_tuple-Less x t (All-head (λ x. tuple_cmp x t ≡ Less) x xs before)) (lacks-later xs t (All-tail (λ x. tuple_cmp x t ≡ Less) x xs before))

pub new-following : (xs : List (List ℕ)) (t : List ℕ) → IsOrdered (xs ++ t ∷ []) → has xs t ≡ false
new-following xs t ordered = lacks-later xs t (All-before_last tuple_cmp xs t ordered)

-- a tuple after the last of an ordered list is after all
pub ordered-more : (prefix : List (List ℕ)) (last t : List ℕ) → IsOrdered (prefix ++ last ∷ []) → tuple_cmp last t ≡ Less → IsOrdered ((prefix ++ last ∷ []) ++ t ∷ [])
ordered-more prefix last t ordered less =
    let before = All-weaker (λ x. tuple_cmp x last ≡ Less) (λ x. tuple_cmp x t ≡ Less) (λ x earlier. tuple_cmp-total.trans x last t earlier less) prefix (All-before_last tuple_cmp prefix last ordered) in
    ordered-join (prefix ++ last ∷ []) t [] ordered (All-append (λ x. tuple_cmp x t ≡ Less) prefix (last ∷ []) before (All-cons (λ x. tuple_cmp x t ≡ Less) last [] less (All-nil (λ x. tuple_cmp x t ≡ Less)))) ordered-nil (All-nil (λ y. tuple_cmp t y ≡ Less))

pub ordered-one : (t : List ℕ) → IsOrdered (t ∷ [])
ordered-one t = ordered-cons t [] (All-nil (λ y. tuple_cmp t y ≡ Less)) ordered-nil

-- what has seen the tuples of a list, and one more
pub seen-more : (seen after xs : List (List ℕ)) (t : List ℕ) → ((other : List ℕ) → has seen other ≡ has xs other) → ((other : List ℕ) → has after other ≡ (same_tuple t other || has seen other)) → (other : List ℕ) → has after other ≡ has (xs ++ t ∷ []) other
seen-more seen after xs t same more other =
    more other ∙ ap (λ b. same_tuple t other || b) (same other) ∙ sym (has-append xs (t ∷ []) other ∙ by (has xs other) (same_tuple t other))
  where
    by : (a b : Bool) → (a || (b || false)) ≡ (b || a)
    by true true = refl
    by true false = refl
    by false true = refl
    by false false = refl

module _ {F : Type 0} where
  -- a tuple after the last of those that are given in order
  pub given-following : (given : ExpandedData F) (pair : List ℕ × Option (Ext F)) (t : List ℕ) → slice_get given (length given - 1) ≡ Some pair → IsOrdered (tuples_of given) → tuple_cmp pair.0 t ≡ Less → IsOrdered (tuples_of given ++ t ∷ [])
  given-following given pair t last ordered less =
      let whole : tuples_of given ≡ tuples_of (take (length given - 1) given) ++ pair.0 ∷ [] = ap tuples_of (ends-with given pair last) ∙ map-append (λ (pair : List ℕ × Option (Ext F)). pair.0) (take (length given - 1) given) (pair ∷ []) in
      subst (λ xs. IsOrdered (xs ++ t ∷ [])) (sym whole) (ordered-more (tuples_of (take (length given - 1) given)) pair.0 t (subst IsOrdered whole ordered) less)

  -- a tuple after none
  pub none-following : (given : ExpandedData F) (t : List ℕ) → slice_get given (length given - 1) ≡ None → IsOrdered (tuples_of given ++ t ∷ [])
  none-following [] t none = ordered-one t
  none-following (pair ∷ given) t none = absurd (none-some _ (sym none ∙ slice_get-get_or (pair ∷ given) (length (pair ∷ given) - 1) pair (omega arith)))
