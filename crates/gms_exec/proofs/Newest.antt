-- What is read of a map, and of a set, in which some elements are new: the last new one at an
-- element, or the old one.
use Rattle.gms_store.proofs.Views.{has-keys_of_map}
use Rattle.std.proofs.Common.{◌≡◌, ℕ, Bool, true, false, not, ◌||◌, ◌&&◌, List, [], ◌∷◌, ◌++◌, map, reverse, filter, refl, sym, ap, ◌∙◌, cond, Option, Some, None, unwrap_or, option_map, is_some}
use Rattle.std.specs.declared.cmp.Ordering.TheVariants.{Equal}
use Rattle.std.specs.Option.{option_or}
use Rattle.std.specs.Ordering.{eq_by_cmp}
use Rattle.std.specs.List.{find, list_any}
use Rattle.std.specs.Cmp.{eq_by_cmp_equiv}
use Rattle.std.specs.FinMap as finite
use Rattle.std.proofs.lemmas.List.{reverse-append, map-append}
use Rattle.std.proofs.lemmas.List.Folds.{list_any-append}
use Rattle.gms_tuple.specs.TupleOrder.{tuple_cmp, same_tuple}
use Rattle.gms_tuple.specs.OrderLaws.{tuple_cmp-total, same_tuple-tuple_cmp}
use Rattle.gms_tuple.specs.TupleSet.{has}
use Rattle.gms_tuple.proofs.Ordered.{same_tuple-Decides, tuple_cmp-Equal}
use Rattle.gms_tuple.proofs.Members.{has-filter}
use Rattle.gms_store.specs.State.{Entries}
use Rattle.gms_exec.specs.Given.{overlaid_entries, ordered_tuples, is_given_among, with_members}
use Rattle.gms_exec.specs.Reads.{last_at}

-- two tuples tie exactly where they are the same
pub tie-same : (t u : List ℕ) → eq_by_cmp tuple_cmp t u ≡ same_tuple u t
tie-same t u = (eq_by_cmp_equiv tuple_cmp-total).symm t u ∙ sym (same_tuple-tuple_cmp u t)

-- ---- the first entry at a tuple

abbrev at_tuple : {A : Type 0} → List ℕ → List ℕ × A → Bool
at_tuple t p = same_tuple p.0 t

-- what a map finds among entries is what the first of them at the tuple has
find-first : {A : Type 0} (t : List ℕ) (es : List (List ℕ × A)) → finite.find tuple_cmp t es ≡ option_map (λ (p : List ℕ × A). p.1) (find (at_tuple t) es)
find-first t [] = refl
find-first {A} t (e ∷ es) =
    ap (λ b. cond b (Some e.1) (finite.find tuple_cmp t es)) (tie-same t e.0)
    ∙ ap (cond (same_tuple e.0 t) (Some e.1)) (find-first t es)
    ∙ elim (same_tuple e.0 t) as (λ b. cond b (Some e.1) (option_map (λ (p : List ℕ × A). p.1) (find (at_tuple t) es)) ≡ option_map (λ (p : List ℕ × A). p.1) (cond b (Some e) (find (at_tuple t) es))) [ true ↦ refl | false ↦ refl ]

-- what is found in one list, or otherwise in another after it
find-following : {A : Type 0} (t : List ℕ) (es fs : List (List ℕ × A)) → finite.find tuple_cmp t (es ++ fs) ≡ option_or (finite.find tuple_cmp t es) (finite.find tuple_cmp t fs)
find-following t [] fs = refl
find-following {A} t (e ∷ es) fs =
    ap (cond (eq_by_cmp tuple_cmp t e.0) (Some e.1)) (find-following t es fs)
    ∙ elim (eq_by_cmp tuple_cmp t e.0) as (λ b. cond b (Some e.1) (option_or (finite.find tuple_cmp t es) (finite.find tuple_cmp t fs)) ≡ option_or (cond b (Some e.1) (finite.find tuple_cmp t es)) (finite.find tuple_cmp t fs)) [ true ↦ refl | false ↦ refl ]

-- a map made from entries in reverse order has at a tuple the last of them there
get-last : {A : Type 0} (es : List (List ℕ × A)) (t : List ℕ) → finite.get (finite.from_entries {R = tuple_cmp} (reverse es)) t ≡ last_at es t
get-last es t = finite.get-from_entries tuple_cmp-total (reverse es) t ∙ find-first t (reverse es)

-- ---- maps

-- a test that reads what a map has at a tuple answers alike at tuples that tie
tied : (p : List ℕ → Bool) (t u : List ℕ) → tuple_cmp t u ≡ Equal → p u ≡ p t
tied p t u tie = ap p (sym (tuple_cmp-Equal t u tie))

module _ {X : Type 0} (differs : X → Bool) (absent : X) (agree : (x : X) → differs x ≡ false → absent ≡ x) where
  kept : (o : Option X) → unwrap_or (cond (unwrap_or (option_map differs o) false) o None) absent ≡ unwrap_or o absent
  kept None = refl
  kept (Some x) = by (differs x) refl
    where
      by : (b : Bool) → differs x ≡ b → unwrap_or (cond b (Some x) None) absent ≡ x
      by true e = refl
      by false e = agree x e

  either : (o p : Option X) → unwrap_or (option_or o p) absent ≡ unwrap_or o (unwrap_or p absent)
  either None p = refl
  either (Some x) p = refl

  -- what is read of a map in which some entries are new
  pub read-overlaid : (new : List (List ℕ × X)) (entries : Entries X) (t : List ℕ) → unwrap_or (finite.get (overlaid_entries differs new entries) t) absent ≡ unwrap_or (last_at new t) (unwrap_or (finite.get entries t) absent)
  read-overlaid new entries t =
      let all : Entries X = finite.from_entries {R = tuple_cmp} (reverse new ++ finite.entries entries) in
      ap (λ o. unwrap_or o absent) (finite.get-retain_keys all (λ u. unwrap_or (option_map differs (finite.get all u)) false) t (tied (λ u. unwrap_or (option_map differs (finite.get all u)) false) t))
      ∙ kept (finite.get all t)
      ∙ ap (λ o. unwrap_or o absent) (finite.get-from_entries tuple_cmp-total (reverse new ++ finite.entries entries) t ∙ find-following t (reverse new) (finite.entries entries))
      ∙ either (finite.find tuple_cmp t (reverse new)) (finite.find tuple_cmp t (finite.entries entries))
      ∙ ap (λ o. unwrap_or o (unwrap_or (finite.find tuple_cmp t (finite.entries entries)) absent)) (find-first t (reverse new))
      ∙ ap (λ o. unwrap_or (last_at new t) (unwrap_or o absent)) (sym (finite.get-entries entries t))

-- ---- new entries of which each is made of the pair that gives it

reverse-map : {A B : Type 0} (f : A → B) (xs : List A) → reverse (map f xs) ≡ map f (reverse xs)
reverse-map f [] = refl
reverse-map f (x ∷ xs) =
    reverse-append (f x ∷ []) (map f xs)
    ∙ ap (λ ys. ys ++ f x ∷ []) (reverse-map f xs)
    ∙ sym (map-append f (reverse xs) (x ∷ []))
    ∙ ap (map f) (sym (reverse-append (x ∷ []) xs))

module _ {A B : Type 0} (make : List ℕ → A → B) (t : List ℕ) where
  found-made : (xs : List (List ℕ × A)) → option_map (λ (p : List ℕ × B). p.1) (find (at_tuple t) (map (λ (p : List ℕ × A). (p.0, make p.0 p.1)) xs)) ≡ option_map (make t) (option_map (λ (p : List ℕ × A). p.1) (find (at_tuple t) xs))
  found-made [] = refl
  found-made (x ∷ xs) = by (found-made xs) (same_tuple x.0 t) refl
    where
      by : option_map (λ (p : List ℕ × B). p.1) (find (at_tuple t) (map (λ (p : List ℕ × A). (p.0, make p.0 p.1)) xs)) ≡ option_map (make t) (option_map (λ (p : List ℕ × A). p.1) (find (at_tuple t) xs)) → (b : Bool) → same_tuple x.0 t ≡ b → option_map (λ (p : List ℕ × B). p.1) (cond b (Some (x.0, make x.0 x.1)) (find (at_tuple t) (map (λ (p : List ℕ × A). (p.0, make p.0 p.1)) xs))) ≡ option_map (make t) (option_map (λ (p : List ℕ × A). p.1) (cond b (Some x) (find (at_tuple t) xs)))
      by rest true same = ap (λ u. Some (make u x.1)) ((same_tuple-Decides x.0 t).0 same)
      by rest false other = rest

  pub last-made : (xs : List (List ℕ × A)) → last_at (map (λ (p : List ℕ × A). (p.0, make p.0 p.1)) xs) t ≡ option_map (make t) (last_at xs t)
  last-made xs =
      ap (λ ps. option_map (λ (p : List ℕ × B). p.1) (find (at_tuple t) ps)) (reverse-map (λ (p : List ℕ × A). (p.0, make p.0 p.1)) xs) ∙ found-made (reverse xs)

-- ---- sets

any-agree : {A : Type 0} (p q : A → Bool) → ((x : A) → p x ≡ q x) → (xs : List A) → list_any p xs ≡ list_any q xs
any-agree p q agree [] = refl
any-agree p q agree (x ∷ xs) = ap (λ b. b || list_any p xs) (agree x) ∙ ap (λ b. q x || b) (any-agree p q agree xs)

found-marked : (ts : List (List ℕ)) (t : List ℕ) → is_some (finite.find tuple_cmp t (map (λ u. (u, true)) ts)) ≡ has ts t
found-marked [] t = refl
found-marked (u ∷ ts) t =
    ap (λ b. is_some (cond b (Some true) (finite.find tuple_cmp t (map (λ u. (u, true)) ts)))) (tie-same t u)
    ∙ elim (same_tuple u t) as (λ b. is_some (cond b (Some true) (finite.find tuple_cmp t (map (λ u. (u, true)) ts))) ≡ (b || has ts t)) [ true ↦ refl | false ↦ found-marked ts t ]

-- sorting tuples keeps their members
pub has-ordered : (ts : List (List ℕ)) (t : List ℕ) → has (ordered_tuples ts) t ≡ has ts t
has-ordered ts t =
    has-keys_of_map (finite.from_entries {R = tuple_cmp} (map (λ u. (u, true)) ts)) t
    ∙ ap is_some (finite.get-from_entries tuple_cmp-total (map (λ u. (u, true)) ts) t)
    ∙ found-marked ts t

or-swap : (a b : Bool) → (a || b) ≡ (b || a)
or-swap true true = refl
or-swap true false = refl
or-swap false true = refl
or-swap false false = refl

any-reverse : {A : Type 0} (p : A → Bool) (xs : List A) → list_any p (reverse xs) ≡ list_any p xs
any-reverse p [] = refl
any-reverse p (x ∷ xs) =
    ap (list_any p) (reverse-append (x ∷ []) xs)
    ∙ list_any-append p (reverse xs) (x ∷ [])
    ∙ ap (λ b. b || (p x || false)) (any-reverse p xs)
    ∙ or-swap (list_any p xs) (p x || false)
    ∙ elim (p x) as (λ b. ((b || false) || list_any p xs) ≡ (b || list_any p xs)) [ true ↦ refl | false ↦ refl ]

found-any : {A : Type 0} (p : A → Bool) (xs : List A) → is_some (find p xs) ≡ list_any p xs
found-any p [] = refl
found-any p (x ∷ xs) = elim (p x) as (λ b. is_some (cond b (Some x) (find p xs)) ≡ (b || list_any p xs)) [ true ↦ refl | false ↦ found-any p xs ]

some-map : {A B : Type 0} (f : A → B) (o : Option A) → is_some (option_map f o) ≡ is_some o
some-map f None = refl
some-map f (Some x) = refl

-- an element has some pair exactly where it has a last one
pub last-there : (given : List (List ℕ × Bool)) (t : List ℕ) → is_given_among given t ≡ is_some (last_at given t)
last-there given t =
    sym (some-map (λ (p : List ℕ × Bool). p.1) (find (at_tuple t) (reverse given)) ∙ found-any (at_tuple t) (reverse given) ∙ any-reverse (at_tuple t) given)

-- what is read of a set of which some elements are given to be members or not
pub has-with_members : (given : List (List ℕ × Bool)) (members : List (List ℕ)) (t : List ℕ) → has (with_members given members) t ≡ unwrap_or (last_at given t) (has members t)
has-with_members given members t =
    let last : Entries Bool = finite.from_entries {R = tuple_cmp} (reverse given) in
    let on : List ℕ → Bool = λ u. unwrap_or (finite.get last u) false in
    has-ordered (finite.keys (finite.retain_keys last on) ++ filter (λ u. not (is_given_among given u)) members) t
    ∙ list_any-append (λ member. same_tuple member t) (finite.keys (finite.retain_keys last on)) (filter (λ u. not (is_given_among given u)) members)
    ∙ ap (λ b. b || has (filter (λ u. not (is_given_among given u)) members) t) (has-keys_of_map (finite.retain_keys last on) t ∙ ap is_some (finite.get-retain_keys last on t (tied on t)) ∙ ap (λ o. is_some (cond (unwrap_or o false) o None)) (get-last given t))
    ∙ ap (λ b. is_some (cond (unwrap_or (last_at given t) false) (last_at given t) None) || b) (has-filter (λ u. not (is_given_among given u)) members t ∙ ap (λ b. has members t && not b) (last-there given t))
    ∙ by (last_at given t) (has members t)
  where
    by : (o : Option Bool) (old : Bool) → (is_some (cond (unwrap_or o false) o None) || (old && not (is_some o))) ≡ unwrap_or o old
    by None true = refl
    by None false = refl
    by (Some true) old = refl
    by (Some false) true = refl
    by (Some false) false = refl
