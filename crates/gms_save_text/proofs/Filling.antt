-- A name without data has a content again, after the content's entries were written in sequence.
use Rattle.std.proofs.lemmas.Bool.{both_ways}
use Rattle.std.proofs.Common.{◌≡◌, ℕ, zero, suc, ◌<◌, Bool, true, false, not, ◌||◌, List, [], ◌∷◌, length, set, slice_get, refl, sym, ap, ◌∙◌, Option, Some, None, unwrap_or, arith, eq-eqb}
use Rattle.std.specs.List.{fold, AllByRecursion}
use Rattle.std.specs.FinMap as finite
use Rattle.gq_extended.specs.Extended as extended
use Rattle.gms_tuple.specs.TupleOrder.{same_tuple, IsOrdered}
use Rattle.gms_tuple.specs.TupleSet.{has, inserted}
use Rattle.gms_tuple.proofs.Ordered.{ordered-nil}
use Rattle.gms_tuple.proofs.Members.{same_from_members, has-inserted, IsOrdered-inserted}
use Rattle.gms_store.specs.declared.kind.VariableType.{VariableType}
use Rattle.gms_store.specs.declared.kind.SymbolKind.{SymbolKind}
use Rattle.gms_store.specs.declared.kind.SymbolKind.TheVariants as kind
use Rattle.gms_store.specs.State.{Entries, Attributes, Content, undeclared, alias_of, set_of, parameter_of, variable_of, equation_of, model_with, Symbol, State, no_symbol, symbol_at, alias_target, base_of, symbol_of, with_symbol, with_content, if_fits, entries_after_write, put_where, with_membership, with_value, with_attributes, after_membership, after_value, after_attributes, value_in, attributes_in, given_in, differs_in, is_given, same_attributes, absent, absent_variable, unbounded}
use Rattle.gms_store.specs.State as state_words
use Rattle.gms_store.specs.Declarations.{put_at}
use Rattle.gms_store.proofs.Views.{zero_is_none, no_difference}
use Rattle.gms_store.proofs.Refilling.{put_from, put_all_from, refilled}
use Rattle.gms_save_text.specs.Validity.{emptied}
use Rattle.gms_save_text.specs.Reading.{HasEntriesOfKind, after_entry, filled}

-- ---- a content

-- a content after the entry of another at a tuple was written into it
abbrev pub with_given : Content → Content → List ℕ → Content
with_given (set_of members) old t = with_membership old t true
with_given (parameter_of entries) old t = with_value old t (value_in (parameter_of entries) t)
with_given content old t = with_attributes old t (attributes_in content t)

-- the same at tuples in sequence
abbrev pub with_all : Content → Content → List (List ℕ) → Content
with_all content old tuples = fold (with_given content) old tuples

-- what a content has at tuples is other than what an absent entry reads as
abbrev pub AllDiffer : Content → List (List ℕ) → Type 0
AllDiffer content tuples = AllByRecursion (λ t. differs_in content t ≡ true) tuples

write_from : {X : Type 0} (m made : Entries X) (t : List ℕ) (differs : X → Bool) (absent : X) → differs absent ≡ false → differs (unwrap_or (finite.get m t) absent) ≡ true → entries_after_write (differs (unwrap_or (finite.get m t) absent)) made t (unwrap_or (finite.get m t) absent) ≡ put_from m made t
write_from {X} m made t differs absent none some = by (finite.get m t) some
  where
    by : (o : Option X) → differs (unwrap_or o absent) ≡ true → entries_after_write (differs (unwrap_or o absent)) made t (unwrap_or o absent) ≡ put_where o made t
    by None some = absurd (both_ways (differs absent) none some)
    by (Some x) some = ap (λ b. entries_after_write b made t x) some

parameter_all : (m made : Entries extended.Extended) (tuples : List (List ℕ)) → AllDiffer (parameter_of m) tuples → with_all (parameter_of m) (parameter_of made) tuples ≡ parameter_of (put_all_from m made tuples)
parameter_all m made [] all = refl
parameter_all m made (t ∷ tuples) all =
    ap (λ (e : Entries extended.Extended). with_all (parameter_of m) (parameter_of e) tuples) (write_from m made t is_given state_words.zero zero_is_none all.0) ∙ parameter_all m (put_from m made t) tuples all.1

variable_all : (type : VariableType) (m made : Entries Attributes) (tuples : List (List ℕ)) → AllDiffer (variable_of type m) tuples → with_all (variable_of type m) (variable_of type made) tuples ≡ variable_of type (put_all_from m made tuples)
variable_all type m made [] all = refl
variable_all type m made (t ∷ tuples) all =
    ap (λ (e : Entries Attributes). with_all (variable_of type m) (variable_of type e) tuples) (write_from m made t (λ a. not (same_attributes a (absent_variable type))) (absent_variable type) (no_difference (absent_variable type)) all.0) ∙ variable_all type m (put_from m made t) tuples all.1

equation_all : (m made : Entries Attributes) (tuples : List (List ℕ)) → AllDiffer (equation_of m) tuples → with_all (equation_of m) (equation_of made) tuples ≡ equation_of (put_all_from m made tuples)
equation_all m made [] all = refl
equation_all m made (t ∷ tuples) all =
    ap (λ (e : Entries Attributes). with_all (equation_of m) (equation_of e) tuples) (write_from m made t (λ a. not (same_attributes a unbounded)) unbounded (no_difference unbounded) all.0) ∙ equation_all m (put_from m made t) tuples all.1

-- ---- sets

insert_all : List (List ℕ) → List (List ℕ) → List (List ℕ)
insert_all made tuples = fold inserted made tuples

set_all : (members made tuples : List (List ℕ)) → with_all (set_of members) (set_of made) tuples ≡ set_of (insert_all made tuples)
unfolding insert_all
set_all members made [] = refl
set_all members made (t ∷ tuples) = set_all members (inserted made t) tuples

ordered_all : (made tuples : List (List ℕ)) → IsOrdered made → IsOrdered (insert_all made tuples)
unfolding insert_all
ordered_all made [] ordered = ordered
ordered_all made (t ∷ tuples) ordered = ordered_all (inserted made t) tuples (IsOrdered-inserted made t ordered)

has_all : (made tuples : List (List ℕ)) (q : List ℕ) → has (insert_all made tuples) q ≡ (has made q || has tuples q)
unfolding insert_all
has_all made [] q = by (has made q)
  where
    by : (b : Bool) → b ≡ (b || false)
    by true = refl
    by false = refl
has_all made (t ∷ tuples) q = has_all (inserted made t) tuples q ∙ ap (λ b. b || has tuples q) (has-inserted made t q) ∙ by (same_tuple t q) (has made q) (has tuples q)
  where
    by : (a b d : Bool) → ((a || b) || d) ≡ (b || (a || d))
    by true true d = refl
    by true false d = refl
    by false true d = refl
    by false false d = refl

set_again : (members : List (List ℕ)) → IsOrdered members → with_all (set_of members) (set_of []) members ≡ set_of members
set_again members ordered =
    set_all members [] members ∙ ap set_of (same_from_members (insert_all [] members) members (ordered_all [] members ordered-nil) ordered (λ q. has_all [] members q))

-- ---- all

-- a content is made again from its entries
pub again : (sort : SymbolKind) (content : Content) → HasEntriesOfKind sort content → IsOrdered (given_in content) → AllDiffer content (given_in content) → with_all content (emptied content) (given_in content) ≡ content
again sort undeclared h ordered all = absurd (none_undeclared sort h)
  where
    none_undeclared : (k : SymbolKind) → HasEntriesOfKind k undeclared → ⊥
    none_undeclared kind.Set h = h
    none_undeclared kind.Parameter h = h
    none_undeclared kind.Variable h = h
    none_undeclared kind.Equation h = h
    none_undeclared kind.Model h = h
    none_undeclared kind.Undeclared h = h
again sort (alias_of base) h ordered all = absurd (none_alias sort h)
  where
    none_alias : (k : SymbolKind) → HasEntriesOfKind k (alias_of base) → ⊥
    none_alias kind.Set h = h
    none_alias kind.Parameter h = h
    none_alias kind.Variable h = h
    none_alias kind.Equation h = h
    none_alias kind.Model h = h
    none_alias kind.Undeclared h = h
again sort (set_of members) h ordered all = set_again members ordered
again sort (parameter_of entries) h ordered all = parameter_all entries finite.empty (finite.keys entries) all ∙ ap parameter_of (refilled entries)
again sort (variable_of type entries) h ordered all = variable_all type entries finite.empty (finite.keys entries) all ∙ ap (variable_of type) (refilled entries)
again sort (equation_of entries) h ordered all = equation_all entries finite.empty (finite.keys entries) all ∙ ap equation_of (refilled entries)
again sort (model_with model solver) h ordered all = absurd (none_model sort h)
  where
    none_model : (k : SymbolKind) → HasEntriesOfKind k (model_with model solver) → ⊥
    none_model kind.Set h = h
    none_model kind.Parameter h = h
    none_model kind.Variable h = h
    none_model kind.Equation h = h
    none_model kind.Model h = h
    none_model kind.Undeclared h = h

-- ---- in a state

-- a name stands for itself
abbrev pub IsOwn : Content → Type 0
IsOwn content = (n : ℕ) → alias_target n content ≡ n

with_given-own : (content old : Content) (t : List ℕ) → IsOwn old → IsOwn (with_given content old t)
with_given-own (set_of members) old t own n = by old (own n)
  where
    by : (c : Content) → alias_target n c ≡ n → alias_target n (with_membership c t true) ≡ n
    by undeclared e = e
    by (alias_of base) e = e
    by (set_of ms) e = refl
    by (parameter_of entries) e = refl
    by (variable_of type entries) e = refl
    by (equation_of entries) e = refl
    by (model_with m s) e = refl
with_given-own (parameter_of m) old t own n = by old (own n)
  where
    by : (c : Content) → alias_target n c ≡ n → alias_target n (with_value c t (value_in (parameter_of m) t)) ≡ n
    by undeclared e = e
    by (alias_of base) e = e
    by (set_of ms) e = refl
    by (parameter_of entries) e = refl
    by (variable_of type entries) e = refl
    by (equation_of entries) e = refl
    by (model_with m s) e = refl
with_given-own content old t own n = by old (own n)
  where
    by : (c : Content) → alias_target n c ≡ n → alias_target n (with_attributes c t (attributes_in content t)) ≡ n
    by undeclared e = e
    by (alias_of base) e = e
    by (set_of ms) e = refl
    by (parameter_of entries) e = refl
    by (variable_of type entries) e = refl
    by (equation_of entries) e = refl
    by (model_with m s) e = refl

-- what is written at a name that stands for itself
given_at : (state : State) (name : ℕ) (content : Content) (t : List ℕ) → after_entry state name content t ≡ with_symbol state name (if_fits (symbol_of state name) t (with_given content (symbol_of state name).content t))
given_at state name undeclared t = refl
given_at state name (alias_of base) t = refl
given_at state name (set_of members) t = refl
given_at state name (parameter_of entries) t = refl
given_at state name (variable_of type entries) t = refl
given_at state name (equation_of entries) t = refl
given_at state name (model_with model solver) t = refl

fitted : (s : Symbol) (t : List ℕ) (new : Content) → length t ≡ length s.domain → if_fits s t new ≡ with_content s new
fitted s t new fits = rw (eq-eqb (length t) (length s.domain) fits) refl

set-set : (xs : List Symbol) (i : ℕ) (v w : Symbol) → set (set xs i v) i w ≡ set xs i w
set-set [] i v w = refl
set-set (x ∷ xs) zero v w = refl
set-set (x ∷ xs) (suc i) v w = ap (λ (ys : List Symbol). x ∷ ys) (set-set xs i v w)

read-set : (xs : List Symbol) (i : ℕ) (v : Symbol) → i < length xs → unwrap_or (slice_get (set xs i v) i) no_symbol ≡ v
read-set [] i v within = absurd (omega arith)
read-set (x ∷ xs) zero v within = refl
read-set (x ∷ xs) (suc i) v within = read-set xs i v (omega arith)

-- a write keeps the length of a list
pub set-length : (xs : List Symbol) (i : ℕ) (v : Symbol) → length (set xs i v) ≡ length xs
set-length [] i v = refl
set-length (x ∷ xs) zero v = refl
set-length (x ∷ xs) (suc i) v = ap suc (set-length xs i v)

module _ (state : State) (name : ℕ) (domain : List (Option ℕ)) where
  -- the state in which a name has a content
  abbrev having : Content → State
  having content = put_at state name (record { domain = domain; content = content })

  having-symbol : (content : Content) → name < length state.symbols → symbol_at (having content) name ≡ record { domain = domain; content = content }
  having-symbol content within = read-set state.symbols name (record { domain = domain; content = content }) within

  -- one entry more
  more : (content old : Content) (t : List ℕ) → name < length state.symbols → IsOwn old → length t ≡ length domain → after_entry (having old) name content t ≡ having (with_given content old t)
  more content old t within own fits =
      let here = having-symbol old within in
      let base : base_of (having old) name ≡ name = ap (λ (s : Symbol). alias_target name s.content) here ∙ own name in
      let there : symbol_of (having old) name ≡ record { domain = domain; content = old } = ap (symbol_at (having old)) base ∙ here in
      given_at (having old) name content t
      ∙ ap (λ (s : Symbol). with_symbol (having old) name (if_fits s t (with_given content s.content t))) there
      ∙ ap (λ (s : Symbol). with_symbol (having old) name s) (fitted (record { domain = domain; content = old }) t (with_given content old t) fits)
      ∙ ap (λ (b : ℕ). record { symbols = set (having old).symbols b (record { domain = domain; content = with_given content old t }); settings = state.settings }) base
      ∙ ap (λ (xs : List Symbol). record { symbols = xs; settings = state.settings }) (set-set state.symbols name (record { domain = domain; content = old }) (record { domain = domain; content = with_given content old t }))

  -- entries in sequence
  all_more : (content old : Content) (tuples : List (List ℕ)) → name < length state.symbols → IsOwn old → AllByRecursion (λ t. length t ≡ length domain) tuples → filled (having old) name content tuples ≡ having (with_all content old tuples)
  all_more content old [] within own fits = refl
  all_more content old (t ∷ tuples) within own fits =
      ap (λ (s : State). filled s name content tuples) (more content old t within own fits.0) ∙ all_more content (with_given content old t) tuples within (with_given-own content old t own) fits.1

-- writing the symbol that is at a place changes nothing
pub set-same : (xs : List Symbol) (i : ℕ) → i < length xs → set xs i (unwrap_or (slice_get xs i) no_symbol) ≡ xs
set-same [] i within = absurd (omega arith)
set-same (x ∷ xs) zero within = refl
set-same (x ∷ xs) (suc i) within = ap (λ (ys : List Symbol). x ∷ ys) (set-same xs i (omega arith))

emptied-own : (sort : SymbolKind) (content : Content) → HasEntriesOfKind sort content → IsOwn (emptied content)
emptied-own sort (set_of members) h n = refl
emptied-own sort (parameter_of entries) h n = refl
emptied-own sort (variable_of type entries) h n = refl
emptied-own sort (equation_of entries) h n = refl
emptied-own sort (model_with model solver) h n = refl
emptied-own sort undeclared h n = refl
emptied-own sort (alias_of base) h n = absurd (none_alias sort h)
  where
    none_alias : (k : SymbolKind) → HasEntriesOfKind k (alias_of base) → ⊥
    none_alias kind.Set h = h
    none_alias kind.Parameter h = h
    none_alias kind.Variable h = h
    none_alias kind.Equation h = h
    none_alias kind.Model h = h
    none_alias kind.Undeclared h = h

-- a name without data has a content, once all its entries were written there
pub filled_again : (state : State) (name : ℕ) (sort : SymbolKind) (content : Content) → name < length state.symbols → HasEntriesOfKind sort content → (symbol_at state name).content ≡ emptied content → IsOrdered (given_in content) → AllDiffer content (given_in content) → AllByRecursion (λ t. length t ≡ length (symbol_at state name).domain) (given_in content) → filled state name content (given_in content) ≡ put_at state name (with_content (symbol_at state name) content)
filled_again state name sort content within h declared ordered differ fits =
    let domain = (symbol_at state name).domain in
    let start : state ≡ having state name domain (emptied content) =
    ap (λ (xs : List Symbol). record { symbols = xs; settings = state.settings }) (sym (set-same state.symbols name within)) ∙ ap (λ (c : Content). having state name domain c) declared in
    ap (λ (s : State). filled s name content (given_in content)) start
    ∙ all_more state name domain content (emptied content) (given_in content) within (emptied-own sort content h) fits
    ∙ ap (λ (c : Content). having state name domain c) (again sort content h ordered differ)
