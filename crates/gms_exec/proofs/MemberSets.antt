-- Sets of which some elements are given to be members or not.
use Rattle.gms_store.proofs.Views.{has-keys_of_map}
use Rattle.gms_exec.proofs.Newest.{has-ordered}
use Rattle.std.proofs.Common.{◌≡◌, ℕ, Bool, true, false, not, ◌||◌, ◌&&◌, List, [], ◌∷◌, ◌++◌, map, filter, reverse, refl, sym, ap, ◌∙◌, cond, Option, Some, None, unwrap_or, is_some, T}
use Rattle.std.specs.declared.cmp.Ordering.{Ordering}
use Rattle.std.specs.declared.cmp.Ordering.TheVariants.{Less, Equal, Greater}
use Rattle.std.specs.Ordering.{is_lt, eq_by_cmp}
use Rattle.std.specs.FinMap as finite
use Rattle.std.specs.FinMap.Entries.{is_sorted, below_all}
use Rattle.std.specs.List.{list_any, AllByRecursion}
use Rattle.std.specs.List.Sorted.{IsStrictlySortedBy}
use Rattle.std.specs.Map.{keys_of}
use Rattle.std.proofs.lemmas.List.Folds.{list_any-append}
use Rattle.std.proofs.lemmas.List.Sorted.{list_any-IsPermutation, IsPermutation-reverse}
use Rattle.gms_tuple.specs.TupleOrder.{tuple_cmp, same_tuple, IsOrdered}
use Rattle.gms_tuple.specs.OrderLaws.{tuple_cmp-total}
use Rattle.gms_tuple.specs.TupleSet.{has, inserted, removed}
use Rattle.gms_tuple.proofs.Ordered.{tuple_cmp-Equal}
use Rattle.gms_tuple.proofs.Members.{has-filter, has-inserted, has-removed, IsOrdered-inserted, IsOrdered-filter, same_from_members}
use Rattle.gms_store.specs.State.{Entries}
use Rattle.gms_exec.specs.Given.{is_given_among, ordered_tuples, with_members}
use Rattle.gms_exec.proofs.Overlays.{same-tie, first_of, last_at, last_at-append}

-- ---- the keys of a map are in order

both_parts : (a b : Bool) → T (a && b) → T a × T b
both_parts true b h = (tt, h)
both_parts false b h = absurd h

less_from : (o : Ordering) → T (is_lt o) → o ≡ Less
less_from Less h = refl
less_from Equal h = absurd h
less_from Greater h = absurd h

before_all : {X : Type 0} (x : List ℕ) (es : List (List ℕ × X)) → T (below_all tuple_cmp x es) → AllByRecursion (λ y. tuple_cmp x y ≡ Less) (keys_of es)
before_all x [] h = tt
before_all x (e ∷ es) h =
    let parts = both_parts (is_lt (tuple_cmp x e.0)) (below_all tuple_cmp x es) h in
    (less_from (tuple_cmp x e.0) parts.0, before_all x es parts.1)

ordered_from : {X : Type 0} (es : List (List ℕ × X)) → T (is_sorted tuple_cmp es) → IsOrdered (keys_of es)
unfolding IsStrictlySortedBy
ordered_from [] h = tt
ordered_from (e ∷ es) h =
    let parts = both_parts (below_all tuple_cmp e.0 es) (is_sorted tuple_cmp es) h in
    (before_all e.0 es parts.0, ordered_from es parts.1)

pub keys-ordered : {X : Type 0} (m : Entries X) → IsOrdered (finite.keys m)
keys-ordered m = ordered_from (finite.entries m) (finite.entries_sorted m)

-- ---- tuples in their order

marked-found : (ts : List (List ℕ)) (q : List ℕ) → is_some (finite.find tuple_cmp q (map (λ t. (t, true)) ts)) ≡ has ts q
marked-found [] q = refl
marked-found (t ∷ ts) q = by (eq_by_cmp tuple_cmp q t) (marked-found ts q) ∙ ap (λ b. b || has ts q) (sym (same-tie t q))
  where
    by : (b : Bool) → is_some (finite.find tuple_cmp q (map (λ t. (t, true)) ts)) ≡ has ts q → is_some (cond b (Some true) (finite.find tuple_cmp q (map (λ t. (t, true)) ts))) ≡ (b || has ts q)
    by true rest = refl
    by false rest = rest

ordered-ordered : (ts : List (List ℕ)) → IsOrdered (ordered_tuples ts)
ordered-ordered ts = keys-ordered (finite.from_entries {R = tuple_cmp} (map (λ t. (t, true)) ts))

-- ---- members

-- whether a tuple is a member now: the last that it was given counts
abbrev now_in : Option Bool → Bool → Bool
now_in None was = was
now_in (Some on) was = on

found-among : (given : List (List ℕ × Bool)) (q : List ℕ) → list_any (λ one. same_tuple one.0 q) given ≡ is_some (finite.find tuple_cmp q given)
found-among [] q = refl
found-among (e ∷ es) q = ap (λ b. b || list_any (λ one. same_tuple one.0 q) es) (same-tie e.0 q) ∙ by (eq_by_cmp tuple_cmp q e.0) (found-among es q)
  where
    by : (b : Bool) → list_any (λ one. same_tuple one.0 q) es ≡ is_some (finite.find tuple_cmp q es) → (b || list_any (λ one. same_tuple one.0 q) es) ≡ is_some (cond b (Some e.1) (finite.find tuple_cmp q es))
    by true rest = refl
    by false rest = rest

is_among-last : (given : List (List ℕ × Bool)) (q : List ℕ) → is_given_among given q ≡ is_some (last_at given q)
is_among-last given q =
    list_any-IsPermutation (λ one. same_tuple one.0 q) given (reverse given) (IsPermutation-reverse given) ∙ found-among (reverse given) q

-- whether a tuple is inserted
put-in : (given : List (List ℕ × Bool)) (q : List ℕ) → has (finite.keys (finite.retain_keys (finite.from_entries {R = tuple_cmp} (reverse given)) (λ t. unwrap_or (finite.get (finite.from_entries {R = tuple_cmp} (reverse given)) t) false))) q ≡ is_some (cond (unwrap_or (last_at given q) false) (last_at given q) None)
put-in given q =
    let last : Entries Bool = finite.from_entries {R = tuple_cmp} (reverse given) in
    has-keys_of_map (finite.retain_keys last (λ t. unwrap_or (finite.get last t) false)) q
    ∙ ap is_some (finite.get-retain_keys last (λ t. unwrap_or (finite.get last t) false) q (λ x e. ap (λ t. unwrap_or (finite.get last t) false) (sym (tuple_cmp-Equal q x e))) ∙ ap (λ o. cond (unwrap_or o false) o None) (finite.get-from_entries tuple_cmp-total (reverse given) q))

pub has-with_members : (given : List (List ℕ × Bool)) (members : List (List ℕ)) (q : List ℕ) → has (with_members given members) q ≡ now_in (last_at given q) (has members q)
has-with_members given members q =
    let last : Entries Bool = finite.from_entries {R = tuple_cmp} (reverse given) in
    let new : List (List ℕ) = finite.keys (finite.retain_keys last (λ t. unwrap_or (finite.get last t) false)) in
    let old : List (List ℕ) = filter (λ t. not (is_given_among given t)) members in
    has-ordered (new ++ old) q
    ∙ list_any-append (λ member. same_tuple member q) new old
    ∙ ap (λ b. b || has old q) (put-in given q)
    ∙ ap (λ b. is_some (cond (unwrap_or (last_at given q) false) (last_at given q) None) || b) (has-filter (λ t. not (is_given_among given t)) members q ∙ ap (λ b. has members q && not b) (is_among-last given q))
    ∙ by (last_at given q) (has members q)
  where
    by : (o : Option Bool) (h : Bool) → (is_some (cond (unwrap_or o false) o None) || (h && not (is_some o))) ≡ now_in o h
    by None true = refl
    by None false = refl
    by (Some true) h = refl
    by (Some false) true = refl
    by (Some false) false = refl

with_members-ordered : (given : List (List ℕ × Bool)) (members : List (List ℕ)) → IsOrdered (with_members given members)
with_members-ordered given members =
    let last : Entries Bool = finite.from_entries {R = tuple_cmp} (reverse given) in
    ordered-ordered (finite.keys (finite.retain_keys last (λ t. unwrap_or (finite.get last t) false)) ++ filter (λ t. not (is_given_among given t)) members)

-- elements that are given, and more of them
pub with_members-append : (one other : List (List ℕ × Bool)) (members : List (List ℕ)) → with_members other (with_members one members) ≡ with_members (one ++ other) members
with_members-append one other members =
    same_from_members (with_members other (with_members one members)) (with_members (one ++ other) members) (with_members-ordered other (with_members one members)) (with_members-ordered (one ++ other) members) (λ q.
    has-with_members other (with_members one members) q
    ∙ ap (now_in (last_at other q)) (has-with_members one members q)
    ∙ by (last_at other q) (last_at one q) (has members q)
    ∙ ap (λ o. now_in o (has members q)) (sym (last_at-append one other q))
    ∙ sym (has-with_members (one ++ other) members q))
  where
    by : (b a : Option Bool) (h : Bool) → now_in b (now_in a h) ≡ now_in (first_of b a) h
    by None a h = refl
    by (Some on) a h = refl

-- where none is given the members stay
pub with_members-none : (members : List (List ℕ)) → IsOrdered members → with_members [] members ≡ members
with_members-none members o =
    same_from_members (with_members [] members) members (with_members-ordered [] members) o (has-with_members [] members)

-- one tuple that is given is inserted or removed
pub with_members-one : (t : List ℕ) (on : Bool) (members : List (List ℕ)) → IsOrdered members → with_members ((t, on) ∷ []) members ≡ cond on (inserted members t) (removed members t)
with_members-one t true members o =
    same_from_members (with_members ((t, true) ∷ []) members) (inserted members t) (with_members-ordered ((t, true) ∷ []) members) (IsOrdered-inserted members t o) (λ q.
    has-with_members ((t, true) ∷ []) members q ∙ by (eq_by_cmp tuple_cmp q t) (has members q) ∙ ap (λ b. b || has members q) (sym (same-tie t q)) ∙ sym (has-inserted members t q))
  where
    by : (b h : Bool) → now_in (cond b (Some true) None) h ≡ (b || h)
    by true h = refl
    by false h = refl
with_members-one t false members o =
    same_from_members (with_members ((t, false) ∷ []) members) (removed members t) (with_members-ordered ((t, false) ∷ []) members) (IsOrdered-filter (λ member. not (same_tuple member t)) members o) (λ q.
    has-with_members ((t, false) ∷ []) members q ∙ by (eq_by_cmp tuple_cmp q t) (has members q) ∙ ap (λ b. has members q && not b) (sym (same-tie t q)) ∙ sym (has-removed members t q))
  where
    by : (b h : Bool) → now_in (cond b (Some false) None) h ≡ (h && not b)
    by true true = refl
    by true false = refl
    by false true = refl
    by false false = refl
