-- The data of a name stay tidy: after an assignment, a level and a marginal, and statuses.
use Rattle.std.proofs.Common.{◌≡◌, ℕ, Bool, true, false, not, ◌||◌, ◌==◌, cond, List, [], ◌∷◌, map, reverse, length, Option, Some, None, unwrap_or, is_some, refl, sym, ap, ◌∙◌, subst}
use Rattle.std.specs.FinMap as finite
use Rattle.std.specs.List.{All}
use Rattle.std.specs.Ordering.{eq_by_cmp}
use Rattle.std.proofs.lemmas.Bool.{eqb-true}
use Rattle.std.proofs.lemmas.List.Elements.{All-nil, All-cons, All-head, All-tail}
use Rattle.std.proofs.lemmas.List.Sorted.{IsPermutation-reverse}
use Rattle.std.proofs.lemmas.Map.Views.{All-map-IsPermutation}
use Rattle.gq_extended.specs.Extended.{Extended}
use Rattle.gms_ast.specs.declared.expression.Suffix.{Suffix}
use Rattle.gms_ast.specs.declared.expression.Suffix.TheVariants as suffix
use Rattle.gms_tuple.specs.TupleOrder.{tuple_cmp, same_tuple}
use Rattle.gms_tuple.specs.TupleSet.{has}
use Rattle.gms_tuple.proofs.Ordered.{same_tuple-Decides, same_tuple_refl}
use Rattle.gms_store.specs.declared.kind.VariableType.{VariableType}
use Rattle.gms_store.specs.State.{Entries, Attributes, Content, undeclared, alias_of, set_of, parameter_of, variable_of, equation_of, model_with, Symbol, zero, attributes_in, is_given, same_attributes, absent_variable, unbounded, with_content, if_fits, with_attributes, with_statuses, entries_after_write}
use Rattle.gms_store.proofs.Views.{keys-ordered, no_difference, has-keys_of_map, zero_is_none}
use Rattle.gms_save_text.specs.Validity.{are_statuses}
use Rattle.gms_exec.specs.Given.{member, value_is, AllGiven, members_given, is_given_among, with_members, values_given, plain_values, with_attribute, attributes_given, overlaid_entries, with_given, fitting}
use Rattle.gms_exec.specs.Reads.{last_at}
use Rattle.gms_exec.proofs.Newest.{has-with_members, last-there}
use Rattle.gms_exec.proofs.Overlays.{tied, first_of, kept, get-overlaid, overlaid-one, all-kept}
use Rattle.gms_exec.proofs.Overlays as overlays
use Rattle.gms_exec.proofs.Staying.{members-ordered}
use Rattle.gms_run_laws.specs.LastStates.{IsTidy}

-- tuples are all of one length if all members are
pub long-from_has : (n : ℕ) (tuples : List (List ℕ)) → ((t : List ℕ) → has tuples t ≡ true → length t ≡ n) → All (λ (t : List ℕ). length t ≡ n) tuples
long-from_has n [] long = All-nil (λ (t : List ℕ). length t ≡ n)
long-from_has n (u ∷ tuples) long =
    All-cons (λ (t : List ℕ). length t ≡ n) u tuples (long u (ap (λ b. b || has tuples u) (same_tuple_refl u))) (long-from_has n tuples (λ t there. long t (or-second (same_tuple u t) (has tuples t) there)))
  where
    or-second : (a b : Bool) → b ≡ true → (a || b) ≡ true
    or-second true b e = refl
    or-second false b e = e

pub has-long : (n : ℕ) (tuples : List (List ℕ)) (t : List ℕ) → All (λ (t : List ℕ). length t ≡ n) tuples → has tuples t ≡ true → length t ≡ n
has-long n [] t all there = absurd (cc)
has-long n (u ∷ tuples) t all there = by (has-long n tuples t (All-tail (λ (t : List ℕ). length t ≡ n) u tuples all)) (same_tuple u t) refl there
  where
    by : (has tuples t ≡ true → length t ≡ n) → (b : Bool) → same_tuple u t ≡ b → (b || has tuples t) ≡ true → length t ≡ n
    by rest true same there = ap length (sym ((same_tuple-Decides u t).0 same)) ∙ All-head (λ (t : List ℕ). length t ≡ n) u tuples all
    by rest false other there = rest there

-- ---- maps

module _ {X : Type 0} (n : ℕ) where
  -- what is found among entries of one length
  found-long : (es : List (List ℕ × X)) (q : List ℕ) → All (λ (t : List ℕ). length t ≡ n) (map (λ e. e.0) es) → is_some (finite.find tuple_cmp q es) ≡ true → length q ≡ n
  found-long [] q all there = absurd (cc)
  found-long (e ∷ es) q all there =
      by (found-long es q (All-tail (λ (t : List ℕ). length t ≡ n) e.0 (map (λ e. e.0) es) all)) (eq_by_cmp tuple_cmp q e.0) refl there
    where
      by : (is_some (finite.find tuple_cmp q es) ≡ true → length q ≡ n) → (b : Bool) → eq_by_cmp tuple_cmp q e.0 ≡ b → is_some (cond b (Some e.1) (finite.find tuple_cmp q es)) ≡ true → length q ≡ n
      by rest true same there = ap length (tied q e.0 same) ∙ All-head (λ (t : List ℕ). length t ≡ n) e.0 (map (λ e. e.0) es) all
      by rest false other there = rest there

  newest-long : (new : List (List ℕ × X)) (q : List ℕ) → All (λ (t : List ℕ). length t ≡ n) (map (λ e. e.0) new) → is_some (overlays.last_at new q) ≡ true → length q ≡ n
  newest-long new q all there =
      found-long (reverse new) q (All-map-IsPermutation (λ (e : List ℕ × X). e.0) (λ (t : List ℕ). length t ≡ n) new (reverse new) (IsPermutation-reverse new) all) there

module _ {X : Type 0} (differs : X → Bool) (absent : X) (nothing : differs absent ≡ false) (n : ℕ) where
  -- A map that has entries at tuples of one length, exactly where the value differs from an absent
  -- entry.
  pub record IsTidyMap (entries : Entries X) : Type 0 where
    pub long : All (λ (t : List ℕ). length t ≡ n) (finite.keys entries)
    pub reads : (t : List ℕ) → has (finite.keys entries) t ≡ differs (unwrap_or (finite.get entries t) absent)

  kept-reads : (o : Option X) → is_some (kept differs o) ≡ differs (unwrap_or (kept differs o) absent)
  kept-reads None = sym nothing
  kept-reads (Some x) = by (differs x) refl
    where
      by : (b : Bool) → differs x ≡ b → is_some (cond b (Some x) None) ≡ differs (unwrap_or (cond b (Some x) None) absent)
      by true e = sym e
      by false e = sym nothing

  kept-there : (o : Option X) → is_some (kept differs o) ≡ true → is_some o ≡ true
  kept-there None e = e
  kept-there (Some x) e = refl

  -- entries that are new keep it so
  tidy-overlaid : (new : List (List ℕ × X)) (entries : Entries X) → All (λ (t : List ℕ). length t ≡ n) (map (λ e. e.0) new) → IsTidyMap entries → IsTidyMap (overlaid_entries differs new entries)
  tidy-overlaid new entries all tidy = record {
    long = long-from_has n (finite.keys (overlaid_entries differs new entries)) (λ t there. by t (overlays.last_at new t) refl (kept-there (first_of (overlays.last_at new t) (finite.get entries t)) (sym (ap is_some (get-overlaid differs new entries t)) ∙ sym (has-keys_of_map (overlaid_entries differs new entries) t) ∙ there)));
    reads = λ t.
        has-keys_of_map (overlaid_entries differs new entries) t
        ∙ ap is_some (get-overlaid differs new entries t)
        ∙ kept-reads (first_of (overlays.last_at new t) (finite.get entries t))
        ∙ sym (ap (λ o. differs (unwrap_or o absent)) (get-overlaid differs new entries t));
  }
    where
      by : (t : List ℕ) (o : Option X) → overlays.last_at new t ≡ o → is_some (first_of o (finite.get entries t)) ≡ true → length t ≡ n
      by t None is there = has-long n (finite.keys entries) t tidy.long (has-keys_of_map entries t ∙ there)
      by t (Some x) is there = newest-long n new t all (ap is_some is)

  -- and so does a write
  pub tidy-written : (t : List ℕ) (x : X) (entries : Entries X) → length t ≡ n → IsTidyMap entries → IsTidyMap (entries_after_write (differs x) entries t x)
  tidy-written t x entries long tidy =
      subst IsTidyMap (overlaid-one differs t x entries (all-kept differs absent nothing entries tidy.reads))
      (tidy-overlaid ((t, x) ∷ []) entries (All-cons (λ (t : List ℕ). length t ≡ n) t [] long (All-nil (λ (t : List ℕ). length t ≡ n))) tidy)

-- ---- numbers of data fit

module _ (symbol : Symbol) where
  abbrev AsLong : List ℕ → Type 0
  AsLong t = length t ≡ length symbol.domain

  fitted-values : (all : AllGiven) → All AsLong (map (λ (p : List ℕ × Extended). p.0) (values_given (fitting symbol all)))
  fitted-values [] = All-nil AsLong
  fitted-values ((t, member on) ∷ all) = by (length t == length symbol.domain) (fitted-values all)
    where
      by : (b : Bool) → All AsLong (map (λ (p : List ℕ × Extended). p.0) (values_given (fitting symbol all))) → All AsLong (map (λ (p : List ℕ × Extended). p.0) (values_given (cond b ((t, member on) ∷ fitting symbol all) (fitting symbol all))))
      by true rest = rest
      by false rest = rest
  fitted-values ((t, value_is x) ∷ all) = by (length t == length symbol.domain) refl (fitted-values all)
    where
      by : (b : Bool) → (length t == length symbol.domain) ≡ b → All AsLong (map (λ (p : List ℕ × Extended). p.0) (values_given (fitting symbol all))) → All AsLong (map (λ (p : List ℕ × Extended). p.0) (values_given (cond b ((t, value_is x) ∷ fitting symbol all) (fitting symbol all))))
      by true fits rest = All-cons AsLong t (map (λ (p : List ℕ × Extended). p.0) (values_given (fitting symbol all))) (eqb-true (length t) (length symbol.domain) fits) rest
      by false other rest = rest

  plain-long : (kind : Suffix) (all : AllGiven) → All AsLong (map (λ (p : List ℕ × Extended). p.0) (values_given all)) → All AsLong (map (λ (p : List ℕ × Extended). p.0) (plain_values kind all))
  plain-long suffix.None all long = long
  plain-long kind all long = All-nil AsLong

  -- elements with new attributes have the same tuples as those with values
  same-tuples : (kind : Suffix) (content : Content) (pairs : List (List ℕ × Extended)) → map (λ (p : List ℕ × Attributes). p.0) (map (λ (given : List ℕ × Extended). (given.0, with_attribute kind (attributes_in content given.0) given.1)) pairs) ≡ map (λ (p : List ℕ × Extended). p.0) pairs
  same-tuples kind content [] = refl
  same-tuples kind content (p ∷ pairs) = ap (λ ts. p.0 ∷ ts) (same-tuples kind content pairs)

  -- members that are given
  fitted-members : (all : AllGiven) → All (λ (p : List ℕ × Bool). AsLong p.0) (members_given (fitting symbol all))
  fitted-members [] = All-nil (λ (p : List ℕ × Bool). AsLong p.0)
  fitted-members ((t, value_is x) ∷ all) = by (length t == length symbol.domain) (fitted-members all)
    where
      by : (b : Bool) → All (λ (p : List ℕ × Bool). AsLong p.0) (members_given (fitting symbol all)) → All (λ (p : List ℕ × Bool). AsLong p.0) (members_given (cond b ((t, value_is x) ∷ fitting symbol all) (fitting symbol all)))
      by true rest = rest
      by false rest = rest
  fitted-members ((t, member on) ∷ all) = by (length t == length symbol.domain) refl (fitted-members all)
    where
      by : (b : Bool) → (length t == length symbol.domain) ≡ b → All (λ (p : List ℕ × Bool). AsLong p.0) (members_given (fitting symbol all)) → All (λ (p : List ℕ × Bool). AsLong p.0) (members_given (cond b ((t, member on) ∷ fitting symbol all) (fitting symbol all)))
      by true fits rest = All-cons (λ (p : List ℕ × Bool). AsLong p.0) (t, on) (members_given (fitting symbol all)) (eqb-true (length t) (length symbol.domain) fits) rest
      by false other rest = rest

  given-long : (pairs : List (List ℕ × Bool)) (t : List ℕ) → All (λ (p : List ℕ × Bool). AsLong p.0) pairs → is_given_among pairs t ≡ true → AsLong t
  given-long [] t all there = absurd (cc)
  given-long (p ∷ pairs) t all there =
      by (given-long pairs t (All-tail (λ (p : List ℕ × Bool). AsLong p.0) p pairs all)) (same_tuple p.0 t) refl there
    where
      by : (is_given_among pairs t ≡ true → AsLong t) → (b : Bool) → same_tuple p.0 t ≡ b → (b || is_given_among pairs t) ≡ true → AsLong t
      by rest true same there = ap length (sym ((same_tuple-Decides p.0 t).0 same)) ∙ All-head (λ (p : List ℕ × Bool). AsLong p.0) p pairs all
      by rest false other there = rest there

  members-long : (all : AllGiven) (members : List (List ℕ)) → All AsLong members → All AsLong (with_members (members_given (fitting symbol all)) members)
  members-long all members long =
      let pairs = members_given (fitting symbol all) in
      long-from_has (length symbol.domain) (with_members pairs members) (λ t there. by t (last_at pairs t) (last-there pairs t) (sym (has-with_members pairs members t) ∙ there))
    where
      by : (t : List ℕ) (o : Option Bool) → is_given_among (members_given (fitting symbol all)) t ≡ is_some o → unwrap_or o (has members t) ≡ true → AsLong t
      by t None among there = has-long (length symbol.domain) members t long there
      by t (Some on) among there = given-long (members_given (fitting symbol all)) t (fitted-members all) among

-- ---- symbols

abbrev pub differs_from : Attributes → Attributes → Bool
differs_from absent a = not (same_attributes a absent)

module _ (domain : List (Option ℕ)) where
  abbrev pub over : Content → Symbol
  over content = record { domain = domain; content = content }

  pub tidy-parameter : (entries : Entries Extended) → IsTidyMap is_given zero zero_is_none (length domain) entries → IsTidy (over (parameter_of entries))
  tidy-parameter entries tidy =
      record { ordered = keys-ordered entries; long = tidy.long; differs = tidy.reads; statuses = refl }

  pub parameter-map : (entries : Entries Extended) → IsTidy (over (parameter_of entries)) → IsTidyMap is_given zero zero_is_none (length domain) entries
  parameter-map entries tidy = record { long = tidy.long; reads = tidy.differs }

  pub tidy-variable : (type : VariableType) (entries : Entries Attributes) → IsTidyMap (differs_from (absent_variable type)) (absent_variable type) (no_difference (absent_variable type)) (length domain) entries → IsTidy (over (variable_of type entries))
  tidy-variable type entries tidy =
      record { ordered = keys-ordered entries; long = tidy.long; differs = tidy.reads; statuses = refl }

  variable-map : (type : VariableType) (entries : Entries Attributes) → IsTidy (over (variable_of type entries)) → IsTidyMap (differs_from (absent_variable type)) (absent_variable type) (no_difference (absent_variable type)) (length domain) entries
  variable-map type entries tidy = record { long = tidy.long; reads = tidy.differs }

  pub tidy-equation : (entries : Entries Attributes) → IsTidyMap (differs_from unbounded) unbounded (no_difference unbounded) (length domain) entries → IsTidy (over (equation_of entries))
  tidy-equation entries tidy =
      record { ordered = keys-ordered entries; long = tidy.long; differs = tidy.reads; statuses = refl }

  equation-map : (entries : Entries Attributes) → IsTidy (over (equation_of entries)) → IsTidyMap (differs_from unbounded) unbounded (no_difference unbounded) (length domain) entries
  equation-map entries tidy = record { long = tidy.long; reads = tidy.differs }

  -- elements that are given something
  tidy-given-content : (kind : Suffix) (all : AllGiven) (content : Content) → IsTidy (over content) → IsTidy (over (with_given kind (fitting (over content) all) content))
  tidy-given-content kind all undeclared tidy = tidy
  tidy-given-content kind all (alias_of base) tidy = tidy
  tidy-given-content kind all (set_of members) tidy = record {
    ordered = members-ordered (members_given (fitting (over (set_of members)) all)) members;
    long = members-long (over (set_of members)) all members tidy.long;
    differs = λ t. refl;
    statuses = refl;
  }
  tidy-given-content kind all (parameter_of entries) tidy =
      let s = over (parameter_of entries) in
      let given = fitting s all in
      tidy-parameter (overlaid_entries is_given (plain_values kind given) entries) (tidy-overlaid is_given zero zero_is_none (length domain) (plain_values kind given) entries (plain-long s kind given (fitted-values s all)) (parameter-map entries tidy))
  tidy-given-content kind all (variable_of type entries) tidy =
      let s = over (variable_of type entries) in
      let new = attributes_given kind (variable_of type entries) (fitting s all) in
      tidy-variable type (overlaid_entries (differs_from (absent_variable type)) new entries) (tidy-overlaid (differs_from (absent_variable type)) (absent_variable type) (no_difference (absent_variable type)) (length domain) new entries (subst (All (AsLong s)) (sym (same-tuples s kind (variable_of type entries) (values_given (fitting s all)))) (fitted-values s all)) (variable-map type entries tidy))
  tidy-given-content kind all (equation_of entries) tidy =
      let s = over (equation_of entries) in
      let new = attributes_given kind (equation_of entries) (fitting s all) in
      tidy-equation (overlaid_entries (differs_from unbounded) new entries) (tidy-overlaid (differs_from unbounded) unbounded (no_difference unbounded) (length domain) new entries (subst (All (AsLong s)) (sym (same-tuples s kind (equation_of entries) (values_given (fitting s all)))) (fitted-values s all)) (equation-map entries tidy))
  tidy-given-content kind all (model_with model solver) tidy = tidy

  -- an element with other attributes
  tidy-put-content : (t : List ℕ) (a : Attributes) (content : Content) → length t ≡ length domain → IsTidy (over content) → IsTidy (over (with_attributes content t a))
  tidy-put-content t a undeclared long tidy = tidy
  tidy-put-content t a (alias_of base) long tidy = tidy
  tidy-put-content t a (set_of members) long tidy = tidy
  tidy-put-content t a (parameter_of entries) long tidy = tidy
  tidy-put-content t a (variable_of type entries) long tidy =
      tidy-variable type (entries_after_write (differs_from (absent_variable type) a) entries t a) (tidy-written (differs_from (absent_variable type)) (absent_variable type) (no_difference (absent_variable type)) (length domain) t a entries long (variable-map type entries tidy))
  tidy-put-content t a (equation_of entries) long tidy =
      tidy-equation (entries_after_write (differs_from unbounded a) entries t a) (tidy-written (differs_from unbounded) unbounded (no_difference unbounded) (length domain) t a entries long (equation-map entries tidy))
  tidy-put-content t a (model_with model solver) long tidy = tidy

  tidy-statuses-content : (model solver : ℕ) (content : Content) → are_statuses model solver ≡ true → IsTidy (over content) → IsTidy (over (with_statuses content model solver))
  tidy-statuses-content model solver undeclared are tidy = tidy
  tidy-statuses-content model solver (alias_of base) are tidy = tidy
  tidy-statuses-content model solver (set_of members) are tidy = tidy
  tidy-statuses-content model solver (parameter_of entries) are tidy = tidy
  tidy-statuses-content model solver (variable_of type entries) are tidy = tidy
  tidy-statuses-content model solver (equation_of entries) are tidy = tidy
  tidy-statuses-content model solver (model_with m s) are tidy =
      record { ordered = tidy.ordered; long = tidy.long; differs = tidy.differs; statuses = are }

pub tidy-given : (symbol : Symbol) (kind : Suffix) (all : AllGiven) → IsTidy symbol → IsTidy (with_content symbol (with_given kind (fitting symbol all) symbol.content))
tidy-given symbol kind all tidy = tidy-given-content symbol.domain kind all symbol.content tidy

pub tidy-put : (symbol : Symbol) (t : List ℕ) (a : Attributes) → IsTidy symbol → IsTidy (if_fits symbol t (with_attributes symbol.content t a))
tidy-put symbol t a tidy = by (length t == length symbol.domain) refl
  where
    by : (b : Bool) → (length t == length symbol.domain) ≡ b → IsTidy (cond b (with_content symbol (with_attributes symbol.content t a)) symbol)
    by true fits = tidy-put-content symbol.domain t a symbol.content (eqb-true (length t) (length symbol.domain) fits) tidy
    by false other = tidy

pub tidy-statuses : (symbol : Symbol) (model solver : ℕ) → are_statuses model solver ≡ true → IsTidy symbol → IsTidy (with_content symbol (with_statuses symbol.content model solver))
tidy-statuses symbol model solver are tidy = tidy-statuses-content symbol.domain model solver symbol.content are tidy
