-- Maps in which some entries are new: what they have at each tuple.
use Rattle.gms_store.proofs.Views.{has-keys_of_map}
use Rattle.gms_store.proofs.Maps.{same_map}
use Rattle.std.proofs.Common.{◌≡◌, ℕ, Bool, true, false, List, [], ◌∷◌, ◌++◌, map, reverse, refl, sym, ap, ◌∙◌, cond, Option, Some, None, unwrap_or, option_map, is_some}
use Rattle.std.specs.declared.cmp.Ordering.{Ordering}
use Rattle.std.specs.declared.cmp.Ordering.TheVariants.{Less, Equal, Greater}
use Rattle.std.specs.Ordering.{is_eq, eq_by_cmp}
use Rattle.std.specs.Cmp.{eq_by_cmp_equiv}
use Rattle.std.specs.FinMap as finite
use Rattle.std.proofs.lemmas.List.{reverse-append}
use Rattle.std.proofs.lemmas.Grind.{reverse_onto}
use Rattle.gms_tuple.specs.TupleOrder.{tuple_cmp, same_tuple}
use Rattle.gms_tuple.specs.TupleSet.{has}
use Rattle.gms_tuple.specs.OrderLaws.{tuple_cmp-total, same_tuple-tuple_cmp}
use Rattle.gms_tuple.proofs.Ordered.{tuple_cmp-Equal}
use Rattle.gms_store.specs.State.{Entries, entries_after_write}
use Rattle.gms_exec.specs.Given.{overlaid_entries}

pub tied : (q t : List ℕ) → eq_by_cmp tuple_cmp q t ≡ true → q ≡ t
tied q t e = tuple_cmp-Equal q t (equal_from (tuple_cmp q t) e)
  where
    equal_from : (o : Ordering) → is_eq o ≡ true → o ≡ Equal
    equal_from Less e = absurd cc
    equal_from Equal e = refl
    equal_from Greater e = absurd cc

-- whether two tuples are the same, read the other way round
pub same-tie : (t q : List ℕ) → same_tuple t q ≡ eq_by_cmp tuple_cmp q t
same-tie t q = same_tuple-tuple_cmp t q ∙ (eq_by_cmp_equiv tuple_cmp-total).symm t q

-- the first of two options that has a value
abbrev pub first_of : {X : Type 0} → Option X → Option X → Option X
first_of None o = o
first_of (Some x) o = Some x

pub first_of-assoc : {X : Type 0} (a b c : Option X) → first_of (first_of a b) c ≡ first_of a (first_of b c)
first_of-assoc None b c = refl
first_of-assoc (Some x) b c = refl

-- the entry of a tuple in two lists, one after the other
pub find-append : {X : Type 0} (q : List ℕ) (one other : List (List ℕ × X)) → finite.find tuple_cmp q (one ++ other) ≡ first_of (finite.find tuple_cmp q one) (finite.find tuple_cmp q other)
find-append q [] other = refl
find-append q (e ∷ es) other = by (eq_by_cmp tuple_cmp q e.0) (find-append q es other)
  where
    by : (b : Bool) → finite.find tuple_cmp q (es ++ other) ≡ first_of (finite.find tuple_cmp q es) (finite.find tuple_cmp q other) → cond b (Some e.1) (finite.find tuple_cmp q (es ++ other)) ≡ first_of (cond b (Some e.1) (finite.find tuple_cmp q es)) (finite.find tuple_cmp q other)
    by true rest = refl
    by false rest = rest

-- the last entry of a tuple
abbrev pub last_at : {X : Type 0} → List (List ℕ × X) → List ℕ → Option X
last_at es q = finite.find tuple_cmp q (reverse es)

pub last_at-append : {X : Type 0} (one other : List (List ℕ × X)) (q : List ℕ) → last_at (one ++ other) q ≡ first_of (last_at other q) (last_at one q)
last_at-append one other q = ap (finite.find tuple_cmp q) (reverse-append one other) ∙ find-append q (reverse other) (reverse one)

module _ {X : Type 0} (differs : X → Bool) where
  -- an entry, where it differs from an absent one
  abbrev pub kept : Option X → Option X
  kept o = cond (unwrap_or (option_map differs o) false) o None

  pub kept-some : (x : X) (b : Bool) → differs x ≡ b → kept (Some x) ≡ cond b (Some x) None
  kept-some x b e = ap (λ b. cond b (Some x) None) e

  pub kept-kept : (o : Option X) → kept (kept o) ≡ kept o
  kept-kept None = refl
  kept-kept (Some x) = by (differs x) refl
    where
      by : (b : Bool) → differs x ≡ b → kept (cond b (Some x) None) ≡ cond b (Some x) None
      by true e = kept-some x true e
      by false e = refl

  -- what a map has after only differing entries were kept
  get-kept : (m : Entries X) (q : List ℕ) → finite.get (finite.retain_keys m (λ t. unwrap_or (option_map differs (finite.get m t)) false)) q ≡ kept (finite.get m q)
  get-kept m q =
      finite.get-retain_keys m (λ t. unwrap_or (option_map differs (finite.get m t)) false) q (λ x e. ap (λ t. unwrap_or (option_map differs (finite.get m t)) false) (sym (tuple_cmp-Equal q x e)))

  -- what a map has in which some entries are new
  pub get-overlaid : (new : List (List ℕ × X)) (m : Entries X) (q : List ℕ) → finite.get (overlaid_entries differs new m) q ≡ kept (first_of (last_at new q) (finite.get m q))
  get-overlaid new m q =
      get-kept (finite.from_entries {R = tuple_cmp} (reverse new ++ finite.entries m)) q
      ∙ ap kept (finite.get-from_entries tuple_cmp-total (reverse new ++ finite.entries m) q ∙ find-append q (reverse new) (finite.entries m) ∙ ap (first_of (last_at new q)) (sym (finite.get-entries m q)))

  -- new entries, and more of them
  pub overlaid-append : (one other : List (List ℕ × X)) (m : Entries X) → overlaid_entries differs other (overlaid_entries differs one m) ≡ overlaid_entries differs (one ++ other) m
  overlaid-append one other m = same_map (overlaid_entries differs other (overlaid_entries differs one m)) (overlaid_entries differs (one ++ other) m) (λ q.
      get-overlaid other (overlaid_entries differs one m) q
      ∙ ap (λ o. kept (first_of (last_at other q) o)) (get-overlaid one m q)
      ∙ again (last_at other q) (first_of (last_at one q) (finite.get m q))
      ∙ ap kept (sym (first_of-assoc (last_at other q) (last_at one q) (finite.get m q)))
      ∙ ap (λ o. kept (first_of o (finite.get m q))) (sym (last_at-append one other q))
      ∙ sym (get-overlaid (one ++ other) m q))
    where
      again : (a o : Option X) → kept (first_of a (kept o)) ≡ kept (first_of a o)
      again None o = kept-kept o
      again (Some x) o = refl

  -- a map of which each entry differs
  abbrev pub IsAllKept : Entries X → Type 0
  IsAllKept m = (q : List ℕ) → kept (finite.get m q) ≡ finite.get m q

  pub overlaid-none : (m : Entries X) → IsAllKept m → overlaid_entries differs [] m ≡ m
  overlaid-none m all = same_map (overlaid_entries differs [] m) m (λ q. get-overlaid [] m q ∙ all q)

  -- one new entry is a write
  pub overlaid-one : (t : List ℕ) (x : X) (m : Entries X) → IsAllKept m → overlaid_entries differs ((t, x) ∷ []) m ≡ entries_after_write (differs x) m t x
  overlaid-one t x m all = by (differs x) refl
    where
      put_in : differs x ≡ true → (q : List ℕ) (b : Bool) → kept (first_of (cond b (Some x) None) (finite.get m q)) ≡ cond b (Some x) (finite.get m q)
      put_in e q true = kept-some x true e
      put_in e q false = all q

      taken_out : differs x ≡ false → (q : List ℕ) (b : Bool) → kept (first_of (cond b (Some x) None) (finite.get m q)) ≡ cond b None (finite.get m q)
      taken_out e q true = kept-some x false e
      taken_out e q false = all q

      by : (b : Bool) → differs x ≡ b → overlaid_entries differs ((t, x) ∷ []) m ≡ entries_after_write b m t x
      by true e = same_map (overlaid_entries differs ((t, x) ∷ []) m) (finite.insert m t x) (λ q. get-overlaid ((t, x) ∷ []) m q ∙ put_in e q (eq_by_cmp tuple_cmp q t) ∙ sym (finite.get-insert tuple_cmp-total m t x q))
      by false e = same_map (overlaid_entries differs ((t, x) ∷ []) m) (finite.remove m t) (λ q. get-overlaid ((t, x) ∷ []) m q ∙ taken_out e q (eq_by_cmp tuple_cmp q t) ∙ sym (finite.get-remove tuple_cmp-total m t q))

  module _ (absent : X) (nothing : differs absent ≡ false) where
    -- all entries of a map are kept, if a tuple has an entry exactly where its value differs
    pub all-kept : (m : Entries X) → ((t : List ℕ) → has (finite.keys m) t ≡ differs (unwrap_or (finite.get m t) absent)) → IsAllKept m
    all-kept m there q = by (finite.get m q) (sym (has-keys_of_map m q) ∙ there q)
      where
        by : (o : Option X) → is_some o ≡ differs (unwrap_or o absent) → kept o ≡ o
        by None e = refl
        by (Some x) e = kept-some x true (sym e)

    -- writing an entry that is as before changes nothing
    pub overlaid-same : (t : List ℕ) (m : Entries X) → IsAllKept m → overlaid_entries differs ((t, unwrap_or (finite.get m t) absent) ∷ []) m ≡ m
    overlaid-same t m all = same_map (overlaid_entries differs ((t, unwrap_or (finite.get m t) absent) ∷ []) m) m (λ q. get-overlaid ((t, unwrap_or (finite.get m t) absent) ∷ []) m q ∙ by q (eq_by_cmp tuple_cmp q t) refl)
      where
        as_it_was : (o : Option X) → kept o ≡ o → kept (Some (unwrap_or o absent)) ≡ o
        as_it_was None e = kept-some absent false nothing
        as_it_was (Some x) e = e

        by : (q : List ℕ) (b : Bool) → eq_by_cmp tuple_cmp q t ≡ b → kept (first_of (cond b (Some (unwrap_or (finite.get m t) absent)) None) (finite.get m q)) ≡ finite.get m q
        by q true e = ap (λ u. kept (Some (unwrap_or (finite.get m u) absent))) (sym (tied q t e)) ∙ as_it_was (finite.get m q) (all q)
        by q false e = all q

-- ---- entries made from the old ones

module _ {X V : Type 0} (differs : X → Bool) (absent : X) (nothing : (x : X) → differs x ≡ false → absent ≡ x) (with_one : X → V → X) (over : (a : X) (x y : V) → with_one (with_one a x) y ≡ with_one a y) where
  -- what is read at a tuple
  abbrev read : Entries X → List ℕ → X
  read m t = unwrap_or (finite.get m t) absent

  -- entries made of what was read before
  abbrev pub made_over : Entries X → List (List ℕ × V) → List (List ℕ × X)
  made_over m vs = map (λ given. (given.0, with_one (read m given.0) given.1)) vs

  find-made : (m : Entries X) (q : List ℕ) (vs : List (List ℕ × V)) → finite.find tuple_cmp q (made_over m vs) ≡ option_map (with_one (read m q)) (finite.find tuple_cmp q vs)
  find-made m q [] = refl
  find-made m q (e ∷ es) = by (eq_by_cmp tuple_cmp q e.0) refl (find-made m q es)
    where
      by : (b : Bool) → eq_by_cmp tuple_cmp q e.0 ≡ b → finite.find tuple_cmp q (made_over m es) ≡ option_map (with_one (read m q)) (finite.find tuple_cmp q es) → cond b (Some (with_one (read m e.0) e.1)) (finite.find tuple_cmp q (made_over m es)) ≡ option_map (with_one (read m q)) (cond b (Some e.1) (finite.find tuple_cmp q es))
      by true same rest = ap (λ t. Some (with_one (read m t) e.1)) (sym (tied q e.0 same))
      by false apart rest = rest

  reverse-made : (m : Entries X) (vs : List (List ℕ × V)) → reverse (made_over m vs) ≡ made_over m (reverse vs)
  reverse-made m [] = refl
  reverse-made m (e ∷ es) =
      let one : List (List ℕ × V) = e ∷ [] in
      reverse_onto (made_over m es) (e.0, with_one (read m e.0) e.1) []
      ∙ ap (λ xs. xs ++ made_over m one) (reverse-made m es)
      ∙ sym (made_append (reverse es) one)
      ∙ ap (made_over m) (sym (reverse_onto es e []))
    where
      made_append : (xs ys : List (List ℕ × V)) → made_over m (xs ++ ys) ≡ made_over m xs ++ made_over m ys
      made_append [] ys = refl
      made_append (x ∷ xs) ys = ap (λ zs. (x.0, with_one (read m x.0) x.1) ∷ zs) (made_append xs ys)

  last_at-made : (m : Entries X) (vs : List (List ℕ × V)) (q : List ℕ) → last_at (made_over m vs) q ≡ option_map (with_one (read m q)) (last_at vs q)
  last_at-made m vs q = ap (finite.find tuple_cmp q) (reverse-made m vs) ∙ find-made m q (reverse vs)

  -- what is read of an entry that is kept
  read-kept : (o : Option X) → unwrap_or (kept differs o) absent ≡ unwrap_or o absent
  read-kept None = refl
  read-kept (Some x) = by (differs x) refl
    where
      by : (b : Bool) → differs x ≡ b → unwrap_or (cond b (Some x) None) absent ≡ x
      by true e = refl
      by false e = nothing x e

  -- the value that a tuple is given last counts
  read-over : (a m : Option V) (o : Option X) (y : V) → with_one (unwrap_or (first_of (option_map (with_one (unwrap_or o absent)) a) o) absent) y ≡ with_one (unwrap_or o absent) y
  read-over None m o y = refl
  read-over (Some x) m o y = over (unwrap_or o absent) x y

  after-both : (a b : Option V) (o : Option X) → kept differs (first_of (option_map (with_one (unwrap_or (kept differs (first_of (option_map (with_one (unwrap_or o absent)) a) o)) absent)) b) (kept differs (first_of (option_map (with_one (unwrap_or o absent)) a) o))) ≡ kept differs (first_of (option_map (with_one (unwrap_or o absent)) (first_of b a)) o)
  after-both a None o = kept-kept differs (first_of (option_map (with_one (unwrap_or o absent)) a) o)
  after-both a (Some y) o =
      ap (λ z. kept differs (Some (with_one z y))) (read-kept (first_of (option_map (with_one (unwrap_or o absent)) a) o)) ∙ ap (λ z. kept differs (Some z)) (read-over a a o y)

  -- new entries made of the old ones, and more of them made of these
  pub made-append : (one other : List (List ℕ × V)) (m : Entries X) → overlaid_entries differs (made_over (overlaid_entries differs (made_over m one) m) other) (overlaid_entries differs (made_over m one) m) ≡ overlaid_entries differs (made_over m (one ++ other)) m
  made-append one other m =
      let first : Entries X = overlaid_entries differs (made_over m one) m in
      same_map (overlaid_entries differs (made_over first other) first) (overlaid_entries differs (made_over m (one ++ other)) m) (λ q. made-at q (get-overlaid differs (made_over m one) m q ∙ ap (λ o. kept differs (first_of o (finite.get m q))) (last_at-made m one q)))
    where
      made-at : (q : List ℕ) → finite.get (overlaid_entries differs (made_over m one) m) q ≡ kept differs (first_of (option_map (with_one (read m q)) (last_at one q)) (finite.get m q)) → finite.get (overlaid_entries differs (made_over (overlaid_entries differs (made_over m one) m) other) (overlaid_entries differs (made_over m one) m)) q ≡ finite.get (overlaid_entries differs (made_over m (one ++ other)) m) q
      made-at q first =
          get-overlaid differs (made_over (overlaid_entries differs (made_over m one) m) other) (overlaid_entries differs (made_over m one) m) q
          ∙ ap (λ o. kept differs (first_of o (finite.get (overlaid_entries differs (made_over m one) m) q))) (last_at-made (overlaid_entries differs (made_over m one) m) other q)
          ∙ ap (λ n. kept differs (first_of (option_map (with_one (unwrap_or n absent)) (last_at other q)) n)) first
          ∙ after-both (last_at one q) (last_at other q) (finite.get m q)
          ∙ ap (λ o. kept differs (first_of (option_map (with_one (read m q)) o) (finite.get m q))) (sym (last_at-append one other q))
          ∙ ap (λ o. kept differs (first_of o (finite.get m q))) (sym (last_at-made m (one ++ other) q))
          ∙ sym (get-overlaid differs (made_over m (one ++ other)) m q)
