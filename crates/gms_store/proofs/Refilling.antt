-- That a map is made again by its entries, put into an empty one.
use Rattle.std.proofs.Common.{◌≡◌, ℕ, Bool, true, false, ◌||◌, List, [], ◌∷◌, refl, sym, ap, ◌∙◌, cond, Option, Some, None, is_some}
use Rattle.std.specs.List.{fold}
use Rattle.std.specs.FinMap as finite
use Rattle.gms_tuple.specs.TupleOrder.{tuple_cmp, same_tuple}
use Rattle.gms_tuple.specs.OrderLaws.{tuple_cmp-total}
use Rattle.gms_tuple.specs.TupleSet.{has}
use Rattle.gms_tuple.proofs.Ordered.{same_tuple-Decides}
use Rattle.gms_store.specs.State.{Entries, put_where}
use Rattle.gms_store.proofs.Maps.{same_map, same-tie, tie-sym}
use Rattle.gms_store.proofs.Views.{has-keys_of_map}

-- a value, or another where there is none
abbrev pub or_else : {X : Type 0} → Option X → Option X → Option X
or_else (Some x) other = Some x
or_else None other = other

module _ {X : Type 0} (m : Entries X) where
  -- what a map has at a tuple, put into another
  abbrev pub put_from : Entries X → List ℕ → Entries X
  put_from made t = put_where (finite.get m t) made t

  -- values put at tuples in order
  abbrev pub put_all_from : Entries X → List (List ℕ) → Entries X
  put_all_from made tuples = fold put_from made tuples

  get-put_where : (o : Option X) (made : Entries X) (t q : List ℕ) → finite.get (put_where o made t) q ≡ cond (same_tuple t q) (or_else o (finite.get made q)) (finite.get made q)
  get-put_where None made t q = by (same_tuple t q)
    where
      by : (b : Bool) → finite.get made q ≡ cond b (finite.get made q) (finite.get made q)
      by true = refl
      by false = refl
  get-put_where (Some x) made t q =
      finite.get-insert tuple_cmp-total made t x q ∙ ap (λ b. cond b (Some x) (finite.get made q)) (tie-sym q t ∙ sym (same-tie t q))

  get-put_from : (made : Entries X) (t q : List ℕ) → finite.get (put_from made t) q ≡ cond (same_tuple t q) (or_else (finite.get m q) (finite.get made q)) (finite.get made q)
  get-put_from made t q = get-put_where (finite.get m t) made t q ∙ by (same_tuple t q) refl
    where
      by : (b : Bool) → same_tuple t q ≡ b → cond b (or_else (finite.get m t) (finite.get made q)) (finite.get made q) ≡ cond b (or_else (finite.get m q) (finite.get made q)) (finite.get made q)
      by true same = ap (λ k. or_else (finite.get m k) (finite.get made q)) ((same_tuple-Decides t q).0 same)
      by false other = refl

  or_else-twice : (o p : Option X) → or_else o (or_else o p) ≡ or_else o p
  or_else-twice None p = refl
  or_else-twice (Some x) p = refl

  get-put_all : (tuples : List (List ℕ)) (made : Entries X) (q : List ℕ) → finite.get (put_all_from made tuples) q ≡ cond (has tuples q) (or_else (finite.get m q) (finite.get made q)) (finite.get made q)
  get-put_all [] made q = refl
  get-put_all (t ∷ tuples) made q =
      get-put_all tuples (put_from made t) q ∙ ap (λ o. cond (has tuples q) (or_else (finite.get m q) o) o) (get-put_from made t q) ∙ by (same_tuple t q) (has tuples q)
    where
      by : (b h : Bool) → cond h (or_else (finite.get m q) (cond b (or_else (finite.get m q) (finite.get made q)) (finite.get made q))) (cond b (or_else (finite.get m q) (finite.get made q)) (finite.get made q)) ≡ cond (b || h) (or_else (finite.get m q) (finite.get made q)) (finite.get made q)
      by true true = or_else-twice (finite.get m q) (finite.get made q)
      by true false = refl
      by false true = refl
      by false false = refl

  -- a map is made again by what it has at its tuples
  pub refilled : put_all_from finite.empty (finite.keys m) ≡ m
  refilled = same_map (put_all_from finite.empty (finite.keys m)) m (λ q. get-put_all (finite.keys m) finite.empty q ∙ ap (λ o. cond (has (finite.keys m) q) (or_else (finite.get m q) o) o) (finite.get-empty tuple_cmp q) ∙ ap (λ b. cond b (or_else (finite.get m q) None) None) (has-keys_of_map m q) ∙ by (finite.get m q))
    where
      by : (o : Option X) → cond (is_some o) (or_else o None) None ≡ o
      by None = refl
      by (Some x) = refl
