-- Laws of finite maps from tuples: how they relate to lists of entries, to an ordered map, and to
-- the set of their tuples.
use Rattle.std.proofs.Common.{◌≡◌, ℕ, Bool, true, false, not, ◌||◌, ◌&&◌, List, [], ◌∷◌, refl, sym, ap, length, arith, ◌∙◌, cond, Option, Some, None, is_some}
use Rattle.std.specs.Ordering.{eq_by_cmp}
use Rattle.std.specs.Map.{lookup, keys_of}
use Rattle.std.specs.BTreeMap.{is_at}
use Rattle.std.specs.FinMap as finite
use Rattle.std.specs.FinMap.Entries.{put}
use Rattle.std.specs.List.Sorted.{IsStrictlySortedBy}
use Rattle.std.proofs.lemmas.Map.Keys.{sorted_tail}
use Rattle.gms_tuple.specs.TupleOrder.{tuple_cmp, same_tuple, IsOrdered}
use Rattle.gms_tuple.specs.OrderLaws.{tuple_cmp-total, same_tuple-tuple_cmp}
use Rattle.gms_tuple.specs.TupleSet.{has, inserted, removed}
use Rattle.std.specs.Cmp.{eq_by_cmp_equiv}
use Rattle.gms_tuple.proofs.Ordered.{tuple_cmp-Equal, same_tuple-Decides}
use Rattle.gms_tuple.proofs.Members.{same_from_members, has-inserted, has-removed, IsOrdered-inserted, IsOrdered-filter}
use Rattle.gms_store.specs.State.{Entries}

-- what an ordered map finds is what the first entry of that key has
pub find-lookup : {X : Type 0} (q : List ℕ) (es : List (List ℕ × X)) → finite.find tuple_cmp q es ≡ lookup (is_at (tuple_cmp q)) es
find-lookup q [] = refl
find-lookup q (e ∷ es) = ap (cond (eq_by_cmp tuple_cmp q e.0) (Some e.1)) (find-lookup q es)

-- a map made of entries has at a tuple what an ordered map of them finds there
pub get-lookup : {X : Type 0} (es : List (List ℕ × X)) (q : List ℕ) → finite.get (finite.from_entries {R = tuple_cmp} es) q ≡ lookup (is_at (tuple_cmp q)) es
get-lookup es q = finite.get-from_entries tuple_cmp-total es q ∙ find-lookup q es

-- an entry before all others stays first
put-first : {X : Type 0} (k : List ℕ) (v : X) (es : List (List ℕ × X)) → IsOrdered (k ∷ keys_of es) → put tuple_cmp k v es ≡ (k, v) ∷ es
unfolding IsStrictlySortedBy
put-first k v [] ordered = refl
put-first k v (e ∷ es) ordered = rw ordered.0.0 refl

no_length : {A : Type 0} (xs : List A) → length xs ≡ 0 → xs ≡ []
no_length [] e = refl
no_length (x ∷ xs) e = absurd (omega arith)

-- an empty map has no entries
pub no_entries : {X : Type 0} → finite.entries (finite.empty {X = X} {R = tuple_cmp}) ≡ []
no_entries {X} = no_length (finite.entries (finite.empty {X = X} {R = tuple_cmp})) (sym (finite.len-entries (finite.empty {X = X} {R = tuple_cmp})) ∙ finite.len-empty tuple_cmp X)

-- a map made of entries in order has these entries
pub entries-from_entries : {X : Type 0} (es : List (List ℕ × X)) → IsOrdered (keys_of es) → finite.entries (finite.from_entries {R = tuple_cmp} es) ≡ es
entries-from_entries [] ordered = no_entries
entries-from_entries (e ∷ es) ordered =
    finite.entries-insert tuple_cmp-total (finite.from_entries es) e.0 e.1
    ∙ ap (put tuple_cmp e.0 e.1) (entries-from_entries es (sorted_tail tuple_cmp e.0 (keys_of es) ordered))
    ∙ put-first e.0 e.1 es ordered

pub keys-from_entries : {X : Type 0} (es : List (List ℕ × X)) → IsOrdered (keys_of es) → finite.keys (finite.from_entries {R = tuple_cmp} es) ≡ keys_of es
keys-from_entries es ordered = ap keys_of (entries-from_entries es ordered)

-- two maps that have the same at each tuple are the same
pub same_map : {X : Type 0} (m n : Entries X) → ((q : List ℕ) → finite.get m q ≡ finite.get n q) → m ≡ n
same_map m n same = finite.same_map tuple_cmp-total tuple_cmp-Equal m n same

-- two tuples are the same just where they tie
pub same-tie : (a b : List ℕ) → same_tuple a b ≡ is_at (tuple_cmp a) b
same-tie a b = same_tuple-tuple_cmp a b

pub tie-sym : (a b : List ℕ) → eq_by_cmp tuple_cmp a b ≡ eq_by_cmp tuple_cmp b a
tie-sym a b = (eq_by_cmp_equiv tuple_cmp-total).symm a b

-- a tuple is among the keys just where an ordered map finds it
pub has-keys : {X : Type 0} (es : List (List ℕ × X)) (q : List ℕ) → has (keys_of es) q ≡ is_some (lookup (is_at (tuple_cmp q)) es)
has-keys [] q = refl
has-keys (e ∷ es) q = ap (λ b. b || has (keys_of es) q) (same-tie e.0 q ∙ tie-sym e.0 q) ∙ by (has-keys es q) (eq_by_cmp tuple_cmp q e.0)
  where
    by : has (keys_of es) q ≡ is_some (lookup (is_at (tuple_cmp q)) es) → (b : Bool) → (b || has (keys_of es) q) ≡ is_some (cond b (Some e.1) (lookup (is_at (tuple_cmp q)) es))
    by rest true = refl
    by rest false = rest

-- the map of some entries
abbrev pub made : {X : Type 0} → List (List ℕ × X) → Entries X
made es = finite.from_entries es

-- The effect of a write to an ordered map: this value, or none, at this tuple, and no change at
-- each other tuple.
abbrev pub Writes : {X : Type 0} → List (List ℕ × X) → List (List ℕ × X) → List ℕ → Option X → Type 0
Writes es es' t w = (q : List ℕ) → lookup (is_at (tuple_cmp q)) es' ≡ cond (is_at (tuple_cmp t) q) w (lookup (is_at (tuple_cmp q)) es)

module _ {X : Type 0} (es es' : List (List ℕ × X)) (t : List ℕ) where
  pub keys-after_insert : (v : X) → IsOrdered (keys_of es) → IsOrdered (keys_of es') → Writes es es' t (Some v) → inserted (keys_of es) t ≡ keys_of es'
  keys-after_insert v ordered ordered' writes =
      same_from_members (inserted (keys_of es) t) (keys_of es') (IsOrdered-inserted (keys_of es) t ordered) ordered' (λ q. has-inserted (keys_of es) t q ∙ ap (λ b. b || has (keys_of es) q) (same-tie t q) ∙ by q (is_at (tuple_cmp t) q) refl)
    where
      by : (q : List ℕ) (b : Bool) → is_at (tuple_cmp t) q ≡ b → (b || has (keys_of es) q) ≡ has (keys_of es') q
      by q true e = sym (has-keys es' q ∙ ap is_some (writes q ∙ ap (λ b. cond b (Some v) (lookup (is_at (tuple_cmp q)) es)) e))
      by q false e = has-keys es q ∙ sym (has-keys es' q ∙ ap is_some (writes q ∙ ap (λ b. cond b (Some v) (lookup (is_at (tuple_cmp q)) es)) e))

  pub keys-after_remove : IsOrdered (keys_of es) → IsOrdered (keys_of es') → Writes es es' t None → removed (keys_of es) t ≡ keys_of es'
  keys-after_remove ordered ordered' writes =
      same_from_members (removed (keys_of es) t) (keys_of es') (IsOrdered-filter (λ (member : List ℕ). not (same_tuple member t)) (keys_of es) ordered) ordered' (λ q. has-removed (keys_of es) t q ∙ ap (λ b. has (keys_of es) q && not b) (same-tie t q) ∙ by q (is_at (tuple_cmp t) q) refl)
    where
      and-false : (b : Bool) → (b && false) ≡ false
      and-false true = refl
      and-false false = refl

      and-true : (b : Bool) → (b && true) ≡ b
      and-true true = refl
      and-true false = refl

      by : (q : List ℕ) (b : Bool) → is_at (tuple_cmp t) q ≡ b → (has (keys_of es) q && not b) ≡ has (keys_of es') q
      by q true e = and-false (has (keys_of es) q) ∙ sym (has-keys es' q ∙ ap is_some (writes q ∙ ap (λ b. cond b None (lookup (is_at (tuple_cmp q)) es)) e))
      by q false e = and-true (has (keys_of es) q) ∙ has-keys es q ∙ sym (has-keys es' q ∙ ap is_some (writes q ∙ ap (λ b. cond b None (lookup (is_at (tuple_cmp q)) es)) e))

  pub map-after_insert : (v : X) → Writes es es' t (Some v) → made es' ≡ finite.insert (made es) t v
  map-after_insert v writes =
      same_map (made es') (finite.insert (made es) t v) (λ q. get-lookup es' q ∙ writes q ∙ ap (λ b. cond b (Some v) (lookup (is_at (tuple_cmp q)) es)) (tie-sym t q) ∙ ap (cond (eq_by_cmp tuple_cmp q t) (Some v)) (sym (get-lookup es q)) ∙ sym (finite.get-insert tuple_cmp-total (made es) t v q))

  pub map-after_remove : Writes es es' t None → made es' ≡ finite.remove (made es) t
  map-after_remove writes =
      same_map (made es') (finite.remove (made es) t) (λ q. get-lookup es' q ∙ writes q ∙ ap (λ b. cond b None (lookup (is_at (tuple_cmp q)) es)) (tie-sym t q) ∙ ap (cond (eq_by_cmp tuple_cmp q t) None) (sym (get-lookup es q)) ∙ sym (finite.get-remove tuple_cmp-total (made es) t q))

-- a new tuple that is put in and taken out again leaves the set as it was
pub removed-inserted : (ks : List (List ℕ)) (t : List ℕ) → IsOrdered ks → has ks t ≡ false → removed (inserted ks t) t ≡ ks
removed-inserted ks t ordered new =
    same_from_members (removed (inserted ks t) t) ks (IsOrdered-filter (λ (member : List ℕ). not (same_tuple member t)) (inserted ks t) (IsOrdered-inserted ks t ordered)) ordered (λ q. has-removed (inserted ks t) t q ∙ ap (λ b. b && not (same_tuple t q)) (has-inserted ks t q) ∙ by q (same_tuple t q) refl)
  where
    by : (q : List ℕ) (b : Bool) → same_tuple t q ≡ b → ((b || has ks q) && not b) ≡ has ks q
    by q true same = sym (ap (has ks) (sym ((same_tuple-Decides t q).0 same)) ∙ new)
    by q false other = elim (has ks q) as (λ b. (b && true) ≡ b) [ true ↦ refl | false ↦ refl ]
