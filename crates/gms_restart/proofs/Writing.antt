-- Of the tuples with data of a name, only those that are given something, or at which an answer
-- writes levels, are new.
use Rattle.gms_store.proofs.Views.{has-keys_of_map}
use Rattle.std.proofs.Common.{◌≡◌, ℕ, Bool, true, false, not, ◌||◌, cond, List, [], ◌∷◌, map, reverse, Option, Some, None, unwrap_or, is_some, refl, sym, ap, ◌∙◌, subst}
use Rattle.std.specs.FinMap as finite
use Rattle.std.specs.List.{All}
use Rattle.std.specs.Ordering.{eq_by_cmp}
use Rattle.std.proofs.lemmas.List.Elements.{All-nil, All-cons, All-head, All-tail}
use Rattle.std.proofs.lemmas.List.Sorted.{IsPermutation-reverse}
use Rattle.std.proofs.lemmas.Map.Views.{All-map-IsPermutation}
use Rattle.gq_extended.specs.Extended.{Extended}
use Rattle.gms_ast.specs.declared.expression.Suffix.{Suffix}
use Rattle.gms_ast.specs.declared.expression.Suffix.TheVariants as suffix
use Rattle.gms_tuple.specs.TupleOrder.{tuple_cmp, same_tuple}
use Rattle.gms_tuple.specs.TupleSet.{has}
use Rattle.gms_tuple.specs.OrderLaws.{tuple_cmp-total}
use Rattle.gms_tuple.proofs.Ordered.{same_tuple-Decides}
use Rattle.gms_store.specs.State.{Entries, Attributes, Content, undeclared, alias_of, set_of, parameter_of, variable_of, equation_of, model_with, given_in, attributes_in, is_given, same_attributes, absent_variable, unbounded, with_attributes, with_statuses, entries_after_write}
use Rattle.gms_store.proofs.Maps.{same-tie, tie-sym}
use Rattle.gms_exec.specs.Given.{Given, member, value_is, AllGiven, members_given, is_given_among, values_given, plain_values, with_attribute, attributes_given, overlaid_entries, with_given}
use Rattle.gms_exec.specs.Reads.{last_at}
use Rattle.gms_exec.proofs.Newest.{has-with_members, last-there}
use Rattle.gms_exec.proofs.Overlays.{tied, first_of, kept, get-overlaid}
use Rattle.gms_exec.proofs.Overlays as overlays
use Rattle.gms_run_laws.proofs.FormKeys.{EachHas}

-- a write leaves the entries at other tuples
written-other : {X : Type 0} (b : Bool) (m : Entries X) (t : List ℕ) (x : X) (u : List ℕ) → same_tuple t u ≡ false → finite.get (entries_after_write b m t x) u ≡ finite.get m u
written-other true m t x u apart =
    finite.get-insert tuple_cmp-total m t x u ∙ ap (λ b. cond b (Some x) (finite.get m u)) (tie-sym u t ∙ sym (same-tie t u) ∙ apart)
written-other false m t x u apart =
    finite.get-remove tuple_cmp-total m t u ∙ ap (λ b. cond b None (finite.get m u)) (tie-sym u t ∙ sym (same-tie t u) ∙ apart)

module _ (P : List ℕ → Type 0) where
  -- ---- maps

  found-has : {X : Type 0} (es : List (List ℕ × X)) (q : List ℕ) → All P (map (λ (e : List ℕ × X). e.0) es) → is_some (finite.find tuple_cmp q es) ≡ true → P q
  found-has [] q all there = absurd (cc)
  found-has {X} (e ∷ es) q all there =
      by (found-has es q (All-tail P e.0 (map (λ (e : List ℕ × X). e.0) es) all)) (eq_by_cmp tuple_cmp q e.0) refl there
    where
      by : (is_some (finite.find tuple_cmp q es) ≡ true → P q) → (b : Bool) → eq_by_cmp tuple_cmp q e.0 ≡ b → is_some (cond b (Some e.1) (finite.find tuple_cmp q es)) ≡ true → P q
      by rest true same there = subst P (sym (tied q e.0 same)) (All-head P e.0 (map (λ (e : List ℕ × X). e.0) es) all)
      by rest false other there = rest there

  newest-has : {X : Type 0} (new : List (List ℕ × X)) (q : List ℕ) → All P (map (λ (e : List ℕ × X). e.0) new) → is_some (overlays.last_at new q) ≡ true → P q
  newest-has {X} new q all there =
      found-has (reverse new) q (All-map-IsPermutation (λ (e : List ℕ × X). e.0) P new (reverse new) (IsPermutation-reverse new) all) there

  kept-there : {X : Type 0} (differs : X → Bool) (o : Option X) → is_some (kept differs o) ≡ true → is_some o ≡ true
  kept-there differs None e = e
  kept-there differs (Some x) e = refl

  -- a map with new entries
  overlaid-has : {X : Type 0} (differs : X → Bool) (new : List (List ℕ × X)) (entries : Entries X) → All P (map (λ (e : List ℕ × X). e.0) new) → ((t : List ℕ) → has (finite.keys entries) t ≡ true → P t) → (t : List ℕ) → has (finite.keys (overlaid_entries differs new entries)) t ≡ true → P t
  overlaid-has {X} differs new entries all old t there =
      by (overlays.last_at new t) refl (kept-there differs (first_of (overlays.last_at new t) (finite.get entries t)) (sym (ap is_some (get-overlaid differs new entries t)) ∙ sym (has-keys_of_map (overlaid_entries differs new entries) t) ∙ there))
    where
      by : (o : Option X) → overlays.last_at new t ≡ o → is_some (first_of o (finite.get entries t)) ≡ true → P t
      by None is there = old t (has-keys_of_map entries t ∙ there)
      by (Some x) is there = newest-has new t all (ap is_some is)

  -- a map after a write
  pub written-has : {X : Type 0} (b : Bool) (m : Entries X) (t : List ℕ) (x : X) → P t → ((u : List ℕ) → has (finite.keys m) u ≡ true → P u) → (u : List ℕ) → has (finite.keys (entries_after_write b m t x)) u ≡ true → P u
  written-has b m t x own old u there = by (same_tuple t u) refl
    where
      by : (c : Bool) → same_tuple t u ≡ c → P u
      by true same = subst P ((same_tuple-Decides t u).0 same) own
      by false apart =
          old u (has-keys_of_map m u ∙ sym (ap is_some (written-other b m t x u apart)) ∙ sym (has-keys_of_map (entries_after_write b m t x) u) ∙ there)

  -- ---- elements that are given something

  -- each of them is such
  abbrev pub AreGiven : AllGiven → Type 0
  AreGiven = EachHas (λ (given : List ℕ × Given). P given.0)

  values-are : (all : AllGiven) → AreGiven all → All P (map (λ (p : List ℕ × Extended). p.0) (values_given all))
  values-are [] are = All-nil P
  values-are ((t, member on) ∷ all) are = values-are all are.1
  values-are ((t, value_is x) ∷ all) are =
      All-cons P t (map (λ (p : List ℕ × Extended). p.0) (values_given all)) are.0 (values-are all are.1)

  plain-are : (kind : Suffix) (all : AllGiven) → AreGiven all → All P (map (λ (p : List ℕ × Extended). p.0) (plain_values kind all))
  plain-are suffix.None all are = values-are all are
  plain-are kind all are = All-nil P

  same-tuples : (kind : Suffix) (content : Content) (pairs : List (List ℕ × Extended)) → map (λ (p : List ℕ × Attributes). p.0) (map (λ (given : List ℕ × Extended). (given.0, with_attribute kind (attributes_in content given.0) given.1)) pairs) ≡ map (λ (p : List ℕ × Extended). p.0) pairs
  same-tuples kind content [] = refl
  same-tuples kind content (p ∷ pairs) = ap (λ ts. p.0 ∷ ts) (same-tuples kind content pairs)

  attributes-are : (kind : Suffix) (content : Content) (all : AllGiven) → AreGiven all → All P (map (λ (p : List ℕ × Attributes). p.0) (attributes_given kind content all))
  attributes-are kind content all are = subst (All P) (sym (same-tuples kind content (values_given all))) (values-are all are)

  abbrev AreMembers : List (List ℕ × Bool) → Type 0
  AreMembers = EachHas (λ (p : List ℕ × Bool). P p.0)

  members-are : (all : AllGiven) → AreGiven all → AreMembers (members_given all)
  members-are [] are = tt
  members-are ((t, member on) ∷ all) are = (are.0, members-are all are.1)
  members-are ((t, value_is x) ∷ all) are = members-are all are.1

  among-are : (pairs : List (List ℕ × Bool)) (t : List ℕ) → AreMembers pairs → is_given_among pairs t ≡ true → P t
  among-are [] t are there = absurd (cc)
  among-are (p ∷ pairs) t are there = by (among-are pairs t are.1) (same_tuple p.0 t) refl there
    where
      by : (is_given_among pairs t ≡ true → P t) → (b : Bool) → same_tuple p.0 t ≡ b → (b || is_given_among pairs t) ≡ true → P t
      by rest true same there = subst P ((same_tuple-Decides p.0 t).0 same) are.0
      by rest false other there = rest there

  -- the tuples with data of a content after elements were given something
  pub given-has : (kind : Suffix) (all : AllGiven) (content : Content) → AreGiven all → ((t : List ℕ) → has (given_in content) t ≡ true → P t) → (t : List ℕ) → has (given_in (with_given kind all content)) t ≡ true → P t
  given-has kind all undeclared are old t there = absurd (cc)
  given-has kind all (alias_of base) are old t there = absurd (cc)
  given-has kind all (set_of members) are old t there =
      let pairs = members_given all in by (last_at pairs t) (last-there pairs t) (sym (has-with_members pairs members t) ∙ there)
    where
      by : (o : Option Bool) → is_given_among (members_given all) t ≡ is_some o → unwrap_or o (has members t) ≡ true → P t
      by None among there = old t there
      by (Some on) among there = among-are (members_given all) t (members-are all are) among
  given-has kind all (parameter_of entries) are old t there = overlaid-has is_given (plain_values kind all) entries (plain-are kind all are) old t there
  given-has kind all (variable_of type entries) are old t there =
      overlaid-has (λ a. not (same_attributes a (absent_variable type))) (attributes_given kind (variable_of type entries) all) entries (attributes-are kind (variable_of type entries) all are) old t there
  given-has kind all (equation_of entries) are old t there =
      overlaid-has (λ a. not (same_attributes a unbounded)) (attributes_given kind (equation_of entries) all) entries (attributes-are kind (equation_of entries) all are) old t there
  given-has kind all (model_with model solver) are old t there = absurd (cc)

  -- ---- an element with other attributes, and statuses

  pub put-has : (u : List ℕ) (a : Attributes) (content : Content) → P u → ((t : List ℕ) → has (given_in content) t ≡ true → P t) → (t : List ℕ) → has (given_in (with_attributes content u a)) t ≡ true → P t
  put-has u a undeclared own old t there = old t there
  put-has u a (alias_of base) own old t there = old t there
  put-has u a (set_of members) own old t there = old t there
  put-has u a (parameter_of entries) own old t there = old t there
  put-has u a (variable_of type entries) own old t there =
      written-has (not (same_attributes a (absent_variable type))) entries u a own old t there
  put-has u a (equation_of entries) own old t there =
      written-has (not (same_attributes a unbounded)) entries u a own old t there
  put-has u a (model_with model solver) own old t there = old t there

  pub statuses-has : (model solver : ℕ) (content : Content) → ((t : List ℕ) → has (given_in content) t ≡ true → P t) → (t : List ℕ) → has (given_in (with_statuses content model solver)) t ≡ true → P t
  statuses-has model solver undeclared old t there = old t there
  statuses-has model solver (alias_of base) old t there = old t there
  statuses-has model solver (set_of members) old t there = old t there
  statuses-has model solver (parameter_of entries) old t there = old t there
  statuses-has model solver (variable_of type entries) old t there = old t there
  statuses-has model solver (equation_of entries) old t there = old t there
  statuses-has model solver (model_with m s) old t there = absurd (cc)
