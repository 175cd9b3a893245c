-- Laws of a map in two parts: what it has at a tuple, and what a write to either part makes of it.
use Rattle.std.proofs.Common.{◌≡◌, ℕ, zero, suc, ◌<◌, ◌≤◌, ◌-◌, ◌==◌, Bool, true, false, ◌||◌, ◌&&◌, not, List, [], ◌∷◌, ◌++◌, length, get_or, slice_get, refl, sym, ap, ◌∙◌, subst, cond, Option, Some, None, is_some, unwrap_or, set, Err, inl, inr, arith}
use Rattle.std.specs.declared.cmp.Ordering.{Ordering}
use Rattle.std.specs.declared.cmp.Ordering.TheVariants.{Less, Equal, Greater}
use Rattle.std.specs.Ordering.{is_eq, eq_by_cmp, ordering_index}
use Rattle.std.specs.Map.{lookup, keys_of}
use Rattle.std.specs.BTreeMap.{is_at}
use Rattle.std.specs.FinMap as finite
use Rattle.std.specs.List.{All}
use Rattle.std.specs.List.Sorted.{IsBinarySearchResult, IsNonDecreasingBy}
use Rattle.std.proofs.lemmas.Bool.{both_ways, cases_lt}
use Rattle.std.proofs.lemmas.Cmp.{tied_itself}
use Rattle.std.proofs.lemmas.List.Elements.{All-head, All-tail, All-get_or, All-nil}
use Rattle.std.proofs.lemmas.List.{get_or_default}
use Rattle.std.proofs.lemmas.Option.{slice_get-get_or}
use Rattle.std.proofs.lemmas.Map.Entries.{length-keys_of}
use Rattle.std.proofs.lemmas.Map.Keys.{Less-from_sorted}
use Rattle.gms_tuple.specs.TupleOrder.{tuple_cmp, same_tuple, IsOrdered}
use Rattle.gms_tuple.specs.OrderLaws.{tuple_cmp-total}
use Rattle.gms_tuple.specs.TupleSet.{has, inserted, removed}
use Rattle.gms_tuple.proofs.Ordered.{tuple_cmp-Equal, same_tuple-Decides, same_tuple-Less, first-before, rest-ordered, ordered-nil, ordered-join}
use Rattle.gms_tuple.proofs.Members.{same_from_members, has-inserted, has-removed, inserted-known, IsOrdered-inserted, IsOrdered-filter}
use Rattle.gms_store.specs.State.{Entries}
use Rattle.gms_store.specs.InnerParts.{written, in_two_parts, IsAtPlace}
use Rattle.gms_store.proofs.Maps.{get-lookup, same_map, same-tie, tie-sym, Writes, removed-inserted}
use Rattle.gms_store.proofs.Views.{keys-ordered, has-keys_of_map}

-- ---- ties

tied : (q t : List ℕ) → eq_by_cmp tuple_cmp q t ≡ true → q ≡ t
tied q t e = tuple_cmp-Equal q t (equal_from (tuple_cmp q t) e)
  where
    equal_from : (o : Ordering) → is_eq o ≡ true → o ≡ Equal
    equal_from Less e = absurd cc
    equal_from Equal e = refl
    equal_from Greater e = absurd cc

-- no tuple ties with two of which one comes first
apart : (q s t : List ℕ) → tuple_cmp s t ≡ Less → eq_by_cmp tuple_cmp q s ≡ true → eq_by_cmp tuple_cmp q t ≡ true → ⊥
apart q s t less first second =
    both_ways (same_tuple s t) (same_tuple-Less s t less) ((same_tuple-Decides s t).1 (sym (tied q s first) ∙ tied q t second))

-- two tests of which at most one holds, in either order
turned : {A : Type 0} (a b : Bool) (x y r : A) → (a ≡ true → b ≡ true → ⊥) → cond a x (cond b y r) ≡ cond b y (cond a x r)
turned true true x y r apart = absurd (apart refl refl)
turned true false x y r apart = refl
turned false true x y r apart = refl
turned false false x y r apart = refl

-- the last of a list of which all are so
last-of : (P : List ℕ → Type 0) (ks : List (List ℕ)) (t : List ℕ) → All P (ks ++ t ∷ []) → P t
last-of P [] t all = All-head P t [] all
last-of P (k ∷ ks) t all = last-of P ks t (All-tail P k (ks ++ t ∷ []) all)

-- comparisons with a tuple rise with the tuples compared
index_rises : (a b t : List ℕ) → tuple_cmp a b ≡ Less → ordering_index (tuple_cmp a t) ≤ ordering_index (tuple_cmp b t)
index_rises a b t less = by (tuple_cmp b t) refl
  where
    at_most_two : (o : Ordering) → ordering_index o ≤ 2
    at_most_two Less = omega arith
    at_most_two Equal = omega arith
    at_most_two Greater = omega arith

    by : (o : Ordering) → tuple_cmp b t ≡ o → ordering_index (tuple_cmp a t) ≤ ordering_index o
    by Less e = rw (tuple_cmp-total.trans a b t less e) (omega arith)
    by Equal e = rw (subst (λ k. tuple_cmp a k ≡ Less) (tuple_cmp-Equal b t e) less) (omega arith)
    by Greater e = at_most_two (tuple_cmp a t)

none_some : {A : Type 0} (x : A) → None ≡ Some x → ⊥
none_some x e = absurd (cc)

pub less_from_index : (o : Ordering) → (ordering_index o == 0) ≡ true → o ≡ Less
less_from_index Less e = refl
less_from_index Equal e = absurd cc
less_from_index Greater e = absurd cc

-- ---- what a map in two parts has

module _ {X : Type 0} where
  found_first : (b : Bool) (o : Option X) (f : Option (Option X)) (r : Option X) → cond b o (unwrap_or f r) ≡ unwrap_or (cond b (Some o) f) r
  found_first true o f r = refl
  found_first false o f r = refl

  get-written : (o : Option X) (m : Entries X) (t q : List ℕ) → finite.get (written o m t) q ≡ cond (eq_by_cmp tuple_cmp q t) o (finite.get m q)
  get-written (Some x) m t q = finite.get-insert tuple_cmp-total m t x q
  get-written None m t q = finite.get-remove tuple_cmp-total m t q

  pub get-parts : (following : List (List ℕ × Option X)) (tree : List (List ℕ × X)) (q : List ℕ) → finite.get (in_two_parts following tree) q ≡ unwrap_or (finite.find tuple_cmp q following) (lookup (is_at (tuple_cmp q)) tree)
  get-parts [] tree q = get-lookup tree q
  get-parts (e ∷ following) tree q =
      get-written e.1 (in_two_parts following tree) e.0 q
      ∙ ap (cond (eq_by_cmp tuple_cmp q e.0) e.1) (get-parts following tree q)
      ∙ found_first (eq_by_cmp tuple_cmp q e.0) e.1 (finite.find tuple_cmp q following) (lookup (is_at (tuple_cmp q)) tree)

  -- a map that has at each tuple what a write leaves there
  by_write : (o : Option X) (m n : Entries X) (t : List ℕ) → ((q : List ℕ) → finite.get n q ≡ cond (eq_by_cmp tuple_cmp q t) o (finite.get m q)) → n ≡ written o m t
  by_write o m n t writes = same_map n (written o m t) (λ q. writes q ∙ sym (get-written o m t q))

  -- ---- writes to the appended part

  -- a write to the appended part is a write to the map, if its search finds the new value at the
  -- tuple and is unchanged elsewhere
  after_write : (following new : List (List ℕ × Option X)) (tree : List (List ℕ × X)) (t : List ℕ) (o : Option X) → ((q : List ℕ) → finite.find tuple_cmp q new ≡ cond (eq_by_cmp tuple_cmp q t) (Some o) (finite.find tuple_cmp q following)) → in_two_parts new tree ≡ written o (in_two_parts following tree) t
  after_write following new tree t o finds =
      by_write o (in_two_parts following tree) (in_two_parts new tree) t (λ q. get-parts new tree q ∙ ap (λ f. unwrap_or f (lookup (is_at (tuple_cmp q)) tree)) (finds q) ∙ sym (found_first (eq_by_cmp tuple_cmp q t) o (finite.find tuple_cmp q following) (lookup (is_at (tuple_cmp q)) tree)) ∙ ap (cond (eq_by_cmp tuple_cmp q t) o) (sym (get-parts following tree q)))

  find-pushed : (following : List (List ℕ × Option X)) (t : List ℕ) (o : Option X) (q : List ℕ) → IsOrdered (keys_of following ++ t ∷ []) → finite.find tuple_cmp q (following ++ (t, o) ∷ []) ≡ cond (eq_by_cmp tuple_cmp q t) (Some o) (finite.find tuple_cmp q following)
  find-pushed [] t o q ordered = refl
  find-pushed (e ∷ following) t o q ordered =
      ap (cond (eq_by_cmp tuple_cmp q e.0) (Some e.1)) (find-pushed following t o q (rest-ordered e.0 (keys_of following ++ t ∷ []) ordered))
      ∙ turned (eq_by_cmp tuple_cmp q e.0) (eq_by_cmp tuple_cmp q t) (Some e.1) (Some o) (finite.find tuple_cmp q following) (apart q e.0 t (last-of (λ y. tuple_cmp e.0 y ≡ Less) (keys_of following) t (first-before e.0 (keys_of following ++ t ∷ []) ordered)))

  -- a tuple appended after all others, with a value or none
  pub pushed : (following : List (List ℕ × Option X)) (tree : List (List ℕ × X)) (t : List ℕ) (o : Option X) → IsOrdered (keys_of following ++ t ∷ []) → in_two_parts (following ++ (t, o) ∷ []) tree ≡ written o (in_two_parts following tree) t
  pushed following tree t o ordered = after_write following (following ++ (t, o) ∷ []) tree t o (λ q. find-pushed following t o q ordered)

  pub keys-pushed : (following : List (List ℕ × Option X)) (t : List ℕ) (o : Option X) → keys_of (following ++ (t, o) ∷ []) ≡ keys_of following ++ t ∷ []
  keys-pushed [] t o = refl
  keys-pushed (e ∷ following) t o = ap (λ ks. e.0 ∷ ks) (keys-pushed following t o)

  keys-at : (following : List (List ℕ × Option X)) (i : ℕ) (d : List ℕ × Option X) → get_or (keys_of following) i d.0 ≡ (get_or following i d).0
  keys-at [] i d = refl
  keys-at (e ∷ following) zero d = refl
  keys-at (e ∷ following) (suc i) d = keys-at following i d

  -- the first of entries in order comes before each other
  first-below : (e : List ℕ × Option X) (following : List (List ℕ × Option X)) (i : ℕ) (d : List ℕ × Option X) → IsOrdered (keys_of (e ∷ following)) → i < length following → tuple_cmp e.0 (get_or following i d).0 ≡ Less
  first-below e following i d ordered within =
      subst (λ k. tuple_cmp e.0 k ≡ Less) (keys-at following i d) (All-get_or (λ y. tuple_cmp e.0 y ≡ Less) (keys_of following) i d.0 (omega (arith, within, length-keys_of following)) (first-before e.0 (keys_of following) ordered))

  find-replaced : (following : List (List ℕ × Option X)) (place : ℕ) (t : List ℕ) (o : Option X) (q : List ℕ) → IsOrdered (keys_of following) → place < length following → ((d : List ℕ × Option X) → (get_or following place d).0 ≡ t) → finite.find tuple_cmp q (set following place (t, o)) ≡ cond (eq_by_cmp tuple_cmp q t) (Some o) (finite.find tuple_cmp q following)
  find-replaced [] place t o q ordered within at = absurd (omega (arith, within))
  find-replaced (e ∷ following) zero t o q ordered within at = by (eq_by_cmp tuple_cmp q t) refl
    where
      by : (b : Bool) → eq_by_cmp tuple_cmp q t ≡ b → cond b (Some o) (finite.find tuple_cmp q following) ≡ cond b (Some o) (cond (eq_by_cmp tuple_cmp q e.0) (Some e.1) (finite.find tuple_cmp q following))
      by true tie = refl
      by false other = ap (λ b. cond b (Some e.1) (finite.find tuple_cmp q following)) (sym (ap (eq_by_cmp tuple_cmp q) (at e) ∙ other))
  find-replaced (e ∷ following) (suc place) t o q ordered within at =
      ap (cond (eq_by_cmp tuple_cmp q e.0) (Some e.1)) (find-replaced following place t o q (rest-ordered e.0 (keys_of following) ordered) (omega (arith, within)) at)
      ∙ turned (eq_by_cmp tuple_cmp q e.0) (eq_by_cmp tuple_cmp q t) (Some e.1) (Some o) (finite.find tuple_cmp q following) (apart q e.0 t (subst (λ k. tuple_cmp e.0 k ≡ Less) (at e) (first-below e following place e ordered (omega (arith, within)))))

  -- a tuple of the appended part, with another value or none
  pub replaced : (following : List (List ℕ × Option X)) (tree : List (List ℕ × X)) (place : ℕ) (t : List ℕ) (o : Option X) → IsOrdered (keys_of following) → IsAtPlace following place t → in_two_parts (set following place (t, o)) tree ≡ written o (in_two_parts following tree) t
  replaced following tree place t o ordered at = after_write following (set following place (t, o)) tree t o (λ q. find-replaced following place t o q ordered at.0 at.1)

  pub keys-replaced : (following : List (List ℕ × Option X)) (place : ℕ) (t : List ℕ) (o : Option X) → ((d : List ℕ × Option X) → (get_or following place d).0 ≡ t) → place < length following → keys_of (set following place (t, o)) ≡ keys_of following
  keys-replaced [] place t o at within = absurd (omega (arith, within))
  keys-replaced (e ∷ following) zero t o at within = ap (λ k. k ∷ keys_of following) (sym (at e))
  keys-replaced (e ∷ following) (suc place) t o at within = ap (λ ks. e.0 ∷ ks) (keys-replaced following place t o at (omega (arith, within)))

  -- a value, or none, put at the place of a tuple
  pub push_absent : (following read new : List (List ℕ × Option X)) (tree : List (List ℕ × X)) (place : ℕ) (t : List ℕ) (o : Option X) → IsOrdered (keys_of following) → read ≡ following → IsAtPlace read place t → ((t : List ℕ) → IsAtPlace following place t → new ≡ set following place (t, o)) → in_two_parts new tree ≡ written o (in_two_parts following tree) t
  push_absent following read new tree place t o ordered read-is at puts =
      let there : IsAtPlace following place t = subst (λ b. IsAtPlace b place t) read-is at in
      ap (λ b. in_two_parts b tree) (puts t there) ∙ replaced following tree place t o ordered there

  pub keys_put : (following read new : List (List ℕ × Option X)) (place : ℕ) (t : List ℕ) (o : Option X) → IsOrdered (keys_of following) → read ≡ following → IsAtPlace read place t → ((t : List ℕ) → IsAtPlace following place t → new ≡ set following place (t, o)) → IsOrdered (keys_of new)
  keys_put following read new place t o ordered read-is at puts =
      let there : IsAtPlace following place t = subst (λ b. IsAtPlace b place t) read-is at in
      subst IsOrdered (sym (ap keys_of (puts t there) ∙ keys-replaced following place t o there.1 there.0)) ordered

  -- the tuple that is read at a place is at that place
  pub occurs_read : (following : List (List ℕ × Option X)) (place : ℕ) (t : List ℕ) (e : List ℕ × Option X) → place < length following → e ≡ get_or following place e → e.0 ≡ t → IsAtPlace following place t
  occurs_read following place t e within is same = (within, λ d. ap (λ (e : List ℕ × Option X). e.0) (get_or_default following place d e within ∙ sym is) ∙ same)

  -- the search for a tuple finds the value at its place
  find-at : (following : List (List ℕ × Option X)) (place : ℕ) (t : List ℕ) (d : List ℕ × Option X) → IsOrdered (keys_of following) → place < length following → ((d : List ℕ × Option X) → (get_or following place d).0 ≡ t) → finite.find tuple_cmp t following ≡ Some (get_or following place d).1
  find-at [] place t d ordered within at = absurd (omega (arith, within))
  find-at (e ∷ following) zero t d ordered within at =
      ap (λ b. cond b (Some e.1) (finite.find tuple_cmp t following)) (ap (eq_by_cmp tuple_cmp t) (at e) ∙ ap is_eq (tied_itself tuple_cmp-total t))
  find-at (e ∷ following) (suc place) t d ordered within at =
      let less : tuple_cmp e.0 t ≡ Less = subst (λ k. tuple_cmp e.0 k ≡ Less) (at e) (first-below e following place e ordered (omega (arith, within))) in
      ap (λ b. cond b (Some e.1) (finite.find tuple_cmp t following)) (tie-sym t e.0 ∙ ap is_eq less) ∙ find-at following place t d (rest-ordered e.0 (keys_of following) ordered) (omega (arith, within)) at

  -- the value of a tuple of the appended part
  pub get-following : (following : List (List ℕ × Option X)) (tree : List (List ℕ × X)) (place : ℕ) (t : List ℕ) (e : List ℕ × Option X) → IsOrdered (keys_of following) → IsAtPlace following place t → e ≡ get_or following place e → e.1 ≡ finite.get (in_two_parts following tree) t
  get-following following tree place t e ordered at is =
      ap (λ (e : List ℕ × Option X). e.1) is ∙ sym (get-parts following tree t ∙ ap (λ f. unwrap_or f (lookup (is_at (tuple_cmp t)) tree)) (find-at following place t e ordered at.0 at.1))

  -- ---- writes to the tree

  -- the value of a tuple that is not in the appended part
  pub get-tree : (following : List (List ℕ × Option X)) (tree : List (List ℕ × X)) (t : List ℕ) → finite.find tuple_cmp t following ≡ None → lookup (is_at (tuple_cmp t)) tree ≡ finite.get (in_two_parts following tree) t
  get-tree following tree t none = sym (get-parts following tree t ∙ ap (λ f. unwrap_or f (lookup (is_at (tuple_cmp t)) tree)) none)

  pub tree_written : (following : List (List ℕ × Option X)) (tree new : List (List ℕ × X)) (t : List ℕ) (o : Option X) → finite.find tuple_cmp t following ≡ None → Writes tree new t o → in_two_parts following new ≡ written o (in_two_parts following tree) t
  tree_written following tree new t o none writes =
      by_write o (in_two_parts following tree) (in_two_parts following new) t (λ q. get-parts following new q ∙ ap (unwrap_or (finite.find tuple_cmp q following)) (writes q ∙ ap (λ b. cond b o (lookup (is_at (tuple_cmp q)) tree)) (tie-sym t q)) ∙ by q (eq_by_cmp tuple_cmp q t) refl ∙ ap (cond (eq_by_cmp tuple_cmp q t) o) (sym (get-parts following tree q)))
    where
      by : (q : List ℕ) (b : Bool) → eq_by_cmp tuple_cmp q t ≡ b → unwrap_or (finite.find tuple_cmp q following) (cond b o (lookup (is_at (tuple_cmp q)) tree)) ≡ cond b o (unwrap_or (finite.find tuple_cmp q following) (lookup (is_at (tuple_cmp q)) tree))
      by q true tie = ap (λ f. unwrap_or f o) (ap (λ s. finite.find tuple_cmp s following) (tied q t tie) ∙ none)
      by q false other = refl

  -- the appended part after an empty tree
  pub same_after : (following copy : List (List ℕ × Option X)) (tree new : List (List ℕ × X)) → copy ≡ following → length tree ≡ 0 → new ≡ [] → in_two_parts copy new ≡ in_two_parts following tree
  same_after following copy [] new same none empty = ap (λ b. in_two_parts b new) same ∙ ap (in_two_parts following) empty
  same_after following copy (e ∷ tree) new same none empty = absurd (omega (arith, none))

  -- ---- searches

  rises : (following : List (List ℕ × Option X)) (t : List ℕ) → IsOrdered (keys_of following) → IsNonDecreasingBy (λ e. ordering_index (tuple_cmp e.0 t)) following
  rises [] t ordered i j d le h = absurd (omega arith)
  rises (e ∷ following) t ordered zero zero d le h = omega arith
  rises (e ∷ following) t ordered zero (suc j) d le h = index_rises e.0 (get_or following j d).0 t (first-below e following j d ordered (omega arith))
  rises (e ∷ following) t ordered (suc i) zero d le h = absurd (omega arith)
  rises (e ∷ following) t ordered (suc i) (suc j) d le h = rises following t (rest-ordered e.0 (keys_of following) ordered) i j d (omega arith) (omega arith)

  find-none : (following : List (List ℕ × Option X)) (t : List ℕ) → ((k : ℕ) (d : List ℕ × Option X) → k < length following → eq_by_cmp tuple_cmp t (get_or following k d).0 ≡ false) → finite.find tuple_cmp t following ≡ None
  find-none [] t none = refl
  find-none (e ∷ following) t none =
      ap (λ b. cond b (Some e.1) (finite.find tuple_cmp t following)) (none 0 e (omega arith)) ∙ find-none following t (λ k d h. none (suc k) d (omega (arith, h)))

  -- a tuple that the search does not find is not in the appended part
  pub find-missing : (following : List (List ℕ × Option X)) (t : List ℕ) (i : ℕ) → IsOrdered (keys_of following) → IsBinarySearchResult (λ e. tuple_cmp e.0 t) following (Err i) → finite.find tuple_cmp t following ≡ None
  find-missing following t i ordered searched =
      let sides = searched (rises following t ordered) in
      find-none following t (λ k d h. elim (cases_lt k i) [
        | inl before ↦ tie-sym t (get_or following k d).0 ∙ ap is_eq (sides.0 k d (omega arith) before)
        | inr from ↦ tie-sym t (get_or following k d).0 ∙ ap is_eq (sides.1 k d from h)
      ])

  -- a tuple that comes after the last of entries in order comes last
  pub ordered-last : (following : List (List ℕ × Option X)) (t : List ℕ) (e : List ℕ × Option X) → IsOrdered (keys_of following) → e ≡ get_or following (length following - 1) e → tuple_cmp e.0 t ≡ Less → IsOrdered (keys_of following ++ t ∷ [])
  ordered-last following t e ordered last less =
      ordered-join (keys_of following) t [] ordered all ordered-nil (All-nil (λ y. tuple_cmp t y ≡ Less))
    where
      is : (d : List ℕ) → length following - 1 < length (keys_of following) → get_or (keys_of following) (length following - 1) e.0 ≡ e.0
      is d within = keys-at following (length following - 1) e ∙ ap (λ (e : List ℕ × Option X). e.0) (sym last)

      all : All (λ y. tuple_cmp y t ≡ Less) (keys_of following)
      all k d h = elim (cases_lt k (length following - 1)) [
        | inl before ↦
            let within : length following - 1 < length (keys_of following) = omega (arith, h, length-keys_of following) in
            let at : get_or (keys_of following) (length following - 1) d ≡ e.0 = get_or_default (keys_of following) (length following - 1) d e.0 within ∙ is d within in
            tuple_cmp-total.trans (get_or (keys_of following) k d) e.0 t (subst (λ y. tuple_cmp (get_or (keys_of following) k d) y ≡ Less) at (Less-from_sorted tuple_cmp (keys_of following) k (length following - 1) d ordered before within)) less
        | inr from ↦
            let within : length following - 1 < length (keys_of following) = omega (arith, h, length-keys_of following) in
            let same : k ≡ length following - 1 = omega (arith, h, from, length-keys_of following) in
            let at : get_or (keys_of following) k d ≡ e.0 = ap (λ n. get_or (keys_of following) n d) same ∙ get_or_default (keys_of following) (length following - 1) d e.0 within ∙ is d within in
            subst (λ y. tuple_cmp y t ≡ Less) (sym at) less
      ]

-- ---- the tuples of a map

module _ {X : Type 0} (m : Entries X) (t : List ℕ) where
  -- a map with one value more has one tuple more
  pub keys-insert : (v : X) → inserted (finite.keys m) t ≡ finite.keys (finite.insert m t v)
  keys-insert v =
      same_from_members (inserted (finite.keys m) t) (finite.keys (finite.insert m t v)) (IsOrdered-inserted (finite.keys m) t (keys-ordered m)) (keys-ordered (finite.insert m t v)) (λ q. has-inserted (finite.keys m) t q ∙ ap (λ b. b || has (finite.keys m) q) (same-tie t q ∙ tie-sym t q) ∙ ap (λ b. eq_by_cmp tuple_cmp q t || b) (has-keys_of_map m q) ∙ by (eq_by_cmp tuple_cmp q t) (finite.get m q) ∙ ap is_some (sym (finite.get-insert tuple_cmp-total m t v q)) ∙ sym (has-keys_of_map (finite.insert m t v) q))
    where
      by : (b : Bool) (o : Option X) → (b || is_some o) ≡ is_some (cond b (Some v) o)
      by true o = refl
      by false o = refl

  pub keys-remove : removed (finite.keys m) t ≡ finite.keys (finite.remove m t)
  keys-remove =
      same_from_members (removed (finite.keys m) t) (finite.keys (finite.remove m t)) (IsOrdered-filter (λ (member : List ℕ). not (same_tuple member t)) (finite.keys m) (keys-ordered m)) (keys-ordered (finite.remove m t)) (λ q. has-removed (finite.keys m) t q ∙ ap (λ b. has (finite.keys m) q && not b) (same-tie t q ∙ tie-sym t q) ∙ ap (λ b. b && not (eq_by_cmp tuple_cmp q t)) (has-keys_of_map m q) ∙ by (eq_by_cmp tuple_cmp q t) (finite.get m q) ∙ ap is_some (sym (finite.get-remove tuple_cmp-total m t q)) ∙ sym (has-keys_of_map (finite.remove m t) q))
    where
      by : (b : Bool) (o : Option X) → (is_some o && not b) ≡ is_some (cond b None o)
      by true None = refl
      by true (Some x) = refl
      by false None = refl
      by false (Some x) = refl

  -- a new tuple that is put among those of a map and taken out again
  pub keys-back : (members : List (List ℕ)) → members ≡ inserted (finite.keys m) t → has (finite.keys m) t ≡ false → removed members t ≡ finite.keys m
  keys-back members are new = ap (λ ks. removed ks t) are ∙ removed-inserted (finite.keys m) t (keys-ordered m) new

  -- a tuple that is there, put among those of a map
  pub keys-known : (members : List (List ℕ)) → members ≡ inserted (finite.keys m) t → has (finite.keys m) t ≡ true → members ≡ finite.keys m
  keys-known members are known = are ∙ sym (inserted-known (finite.keys m) t known)

pub ordered-alone : {X : Type 0} (following : List (List ℕ × Option X)) (t : List ℕ) → None ≡ slice_get following (length following - 1) → IsOrdered (keys_of following ++ t ∷ [])
ordered-alone [] t none = ordered-join [] t [] ordered-nil (All-nil (λ y. tuple_cmp y t ≡ Less)) ordered-nil (All-nil (λ y. tuple_cmp t y ≡ Less))
ordered-alone (e ∷ following) t none = absurd (none_some _ (none ∙ slice_get-get_or (e ∷ following) (length (e ∷ following) - 1) e (omega arith)))
