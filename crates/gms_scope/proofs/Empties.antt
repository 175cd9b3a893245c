-- All data of a name taken out, one tuple after another.
use Rattle.gms_store.proofs.Views.{zero_is_none as nothing}
use Rattle.std.proofs.Common.{◌≡◌, ◌≢◌, ◌<◌, ◌≤◌, ℕ, Bool, true, false, not, ◌||◌, ◌==◌, List, [], ◌∷◌, length, refl, sym, ap, ◌∙◌, subst, arith, cond, Some, None, eq-eqb}
use Rattle.std.specs.Prelude.{nat_lt, slice_index_or}
use Rattle.std.specs.List.{fold}
use Rattle.std.specs.Map.{keys_of}
use Rattle.std.specs.Ordering.{eq_by_cmp}
use Rattle.std.specs.FinMap as finite
use Rattle.std.proofs.Math.ListN.{set}
use Rattle.std.proofs.lemmas.Bool.{ltb-true, eqb-true, or_right}
use Rattle.std.proofs.lemmas.Bool.Decides.{nat_tests}
use Rattle.std.proofs.lemmas.Cmp.{nat_list_eq_equiv}
use Rattle.std.proofs.lemmas.List.{get_or-set_same, get_or-set_other, get_or_past, set-get_or, set-set}
use Rattle.std.proofs.lemmas.Option.{unwrap_or-slice_get}
use Rattle.gq_extended.specs.Extended.{Extended}
use Rattle.gms_tuple.specs.TupleOrder.{same_tuple, tuple_cmp}
use Rattle.gms_tuple.specs.OrderLaws.{tuple_cmp-total}
use Rattle.gms_tuple.specs.TupleSet.{has, removed}
use Rattle.gms_tuple.proofs.Ordered.{same_tuple_refl, tuple_cmp-Equal}
use Rattle.gms_store.specs.State.{State, Entries, Content, undeclared, alias_of, set_of, parameter_of, variable_of, equation_of, model_with, Symbol, no_symbol, after_membership, after_value, base_of, alias_target, given_in, given_of, if_fits, symbol_at, symbol_of, with_content, with_membership, with_symbol, with_value, zero}
use Rattle.gms_scope.specs.Data.{empty_content, with_no_data}

abbrev pub without_tuple : ℕ → State → List ℕ → State
without_tuple name state tuple = after_value (after_membership state name tuple false) name tuple zero

abbrev pub without : ℕ → State → List (List ℕ) → State
without name state tuples = fold (without_tuple name) state tuples

-- a content without a tuple
abbrev less : Content → List ℕ → Content
less content t = with_value (with_membership content t false) t zero

-- a content that is no alias
abbrev IsPlain : Content → Type 0
IsPlain content = (n : ℕ) → alias_target n content ≡ n

plain-membership : (content : Content) (t : List ℕ) → IsPlain content → IsPlain (with_membership content t false)
plain-membership undeclared t p = p
plain-membership (alias_of base) t p = p
plain-membership (set_of members) t p = λ n. refl
plain-membership (parameter_of entries) t p = p
plain-membership (variable_of type entries) t p = p
plain-membership (equation_of entries) t p = p
plain-membership (model_with model solver) t p = p

plain-value : (content : Content) (t : List ℕ) (x : Extended) → IsPlain content → IsPlain (with_value content t x)
plain-value undeclared t x p = p
plain-value (alias_of base) t x p = p
plain-value (set_of members) t x p = p
plain-value (parameter_of entries) t x p = λ n. refl
plain-value (variable_of type entries) t x p = p
plain-value (equation_of entries) t x p = p
plain-value (model_with model solver) t x p = p

-- all tuples have this length
abbrev AreLong : ℕ → List (List ℕ) → Type 0
AreLong n [] = Unit {0}
AreLong n (t ∷ ts) = (length t ≡ n) × AreLong n ts

long-by : (n : ℕ) (ts : List (List ℕ)) → ((t : List ℕ) → has ts t ≡ true → length t ≡ n) → AreLong n ts
long-by n [] h = tt
long-by n (t ∷ ts) h = (h t (rw (same_tuple_refl t) refl), long-by n ts (λ q there. h q (or_right (same_tuple t q) (has ts q) there)))

-- ---- one name of a state

read-at : (state : State) (n : ℕ) → symbol_at state n ≡ slice_index_or state.symbols n no_symbol
read-at state n = unwrap_or-slice_get state.symbols n no_symbol

-- writing the symbol of a name once more changes nothing
same-symbol : (state : State) (name : ℕ) → with_symbol state name (symbol_of state name) ≡ state
same-symbol state name =
    ap (λ (s : List Symbol). record { symbols = s; settings = state.settings }) (ap (set state.symbols (base_of state name)) (read-at state (base_of state name)) ∙ set-get_or state.symbols (base_of state name) no_symbol)

module _ (state : State) (name : ℕ) (plain : IsPlain (symbol_of state name).content) (there : base_of state name < length state.symbols) where
  -- the state in which the name has another content
  abbrev S : Content → State
  S content = with_symbol state name (with_content (symbol_of state name) content)

  base-S : (content : Content) → IsPlain content → base_of (S content) name ≡ base_of state name
  base-S content p = by (name == base_of state name) refl
    where
      by : (b : Bool) → (name == base_of state name) ≡ b → base_of (S content) name ≡ base_of state name
      by true same =
          let e = eqb-true name (base_of state name) same in
          ap (λ (s : Symbol). alias_target name s.content) (read-at (S content) name ∙ ap (λ n. slice_index_or (S content).symbols n no_symbol) e ∙ get_or-set_same state.symbols (base_of state name) _ no_symbol there) ∙ p name ∙ e
      by false differs =
          let ne : name ≢ base_of state name = λ e. absurd (let t = eq-eqb name (base_of state name) e in cc) in
          ap (λ (s : Symbol). alias_target name s.content) (read-at (S content) name ∙ get_or-set_other state.symbols (base_of state name) name _ no_symbol ne ∙ sym (read-at state name))

  symbol-S : (content : Content) → IsPlain content → symbol_of (S content) name ≡ with_content (symbol_of state name) content
  symbol-S content p =
      ap (symbol_at (S content)) (base-S content p) ∙ read-at (S content) (base_of state name) ∙ get_or-set_same state.symbols (base_of state name) _ no_symbol there

  twice : (content : Content) (s : Symbol) → IsPlain content → with_symbol (S content) name s ≡ with_symbol state name s
  twice content s p =
      ap (λ (symbols : List Symbol). record { symbols = symbols; settings = state.settings }) (ap (λ b. set (S content).symbols b s) (base-S content p) ∙ set-set state.symbols (base_of state name) _ s)

  fitted : (content new : Content) (t : List ℕ) → length t ≡ length (symbol_of state name).domain → if_fits (with_content (symbol_of state name) content) t new ≡ with_content (symbol_of state name) new
  fitted content new t long = rw (eq-eqb (length t) (length (symbol_of state name).domain) long) refl

  out : (content : Content) (t : List ℕ) → IsPlain content → length t ≡ length (symbol_of state name).domain → after_membership (S content) name t false ≡ S (with_membership content t false)
  out content t p long =
      ap (λ (s : Symbol). with_symbol (S content) name (if_fits s t (with_membership s.content t false))) (symbol-S content p) ∙ ap (with_symbol (S content) name) (fitted content (with_membership content t false) t long) ∙ twice content _ p

  zeroed : (content : Content) (t : List ℕ) → IsPlain content → length t ≡ length (symbol_of state name).domain → after_value (S content) name t zero ≡ S (with_value content t zero)
  zeroed content t p long =
      ap (λ (s : Symbol). with_symbol (S content) name (if_fits s t (with_value s.content t zero))) (symbol-S content p) ∙ ap (with_symbol (S content) name) (fitted content (with_value content t zero) t long) ∙ twice content _ p

  fold-S : (content : Content) (ts : List (List ℕ)) → IsPlain content → AreLong (length (symbol_of state name).domain) ts → without name (S content) ts ≡ S (fold less content ts)
  fold-S content [] p long = refl
  fold-S content (t ∷ ts) p long =
      ap (λ s. without name s ts) (ap (λ s. after_value s name t zero) (out content t p long.0) ∙ zeroed (with_membership content t false) t (plain-membership content t p) long.0) ∙ fold-S (less content t) ts (plain-value (with_membership content t false) t zero (plain-membership content t p)) long.1

  -- a name that has its content without each of its tuples
  by-content : (content : Content) → (symbol_of state name).content ≡ content → (ts : List (List ℕ)) → AreLong (length (symbol_of state name).domain) ts → fold less content ts ≡ empty_content content → without name state ts ≡ with_no_data state name
  by-content content is ts long empty =
      ap (λ s. without name s ts) (sym (same-symbol state name)) ∙ fold-S (symbol_of state name).content ts plain long ∙ ap (λ c. S (fold less c ts)) is ∙ ap S empty ∙ ap (λ c. S (empty_content c)) (sym is)

-- ---- sets

-- each member is among these
abbrev AreIn : List (List ℕ) → List (List ℕ) → Type 0
AreIn ts [] = Unit {0}
AreIn ts (m ∷ ms) = (has ts m ≡ true) × AreIn ts ms

in-removed : (t : List ℕ) (ts ms : List (List ℕ)) → AreIn (t ∷ ts) ms → AreIn ts (removed ms t)
in-removed t ts [] h = tt
in-removed t ts (m ∷ ms) h = by (same_tuple m t) refl (in-removed t ts ms h.1)
  where
    by : (b : Bool) → same_tuple m t ≡ b → AreIn ts (removed ms t) → AreIn ts (cond (not b) (m ∷ removed ms t) (removed ms t))
    by true same rest = rest
    by false apart rest =
        let back : same_tuple t m ≡ false = nat_list_eq_equiv.symm t m ∙ apart in
        (sym (ap (λ b. b || has ts m) back) ∙ h.0, rest)

gone : (ts ms : List (List ℕ)) → AreIn ts ms → fold removed ms ts ≡ []
gone [] [] h = refl
gone [] (m ∷ ms) h = absurd (let e = h.0 in cc)
gone (t ∷ ts) ms h = gone ts (removed ms t) (in-removed t ts ms h)

in-more : (t : List ℕ) (ts ms : List (List ℕ)) → AreIn ts ms → AreIn (t ∷ ts) ms
in-more t ts [] h = tt
in-more t ts (m ∷ ms) h = (or_right (same_tuple t m) (has ts m) h.0, in-more t ts ms h.1)

in-itself : (ms : List (List ℕ)) → AreIn ms ms
in-itself [] = tt
in-itself (m ∷ ms) = (rw (same_tuple_refl m) refl, in-more m ms ms (in-itself ms))

fold-set : (ms ts : List (List ℕ)) → fold less (set_of ms) ts ≡ set_of (fold removed ms ts)
fold-set ms [] = refl
fold-set ms (t ∷ ts) = fold-set (removed ms t) ts

-- ---- parameters

tied_to : List (List ℕ) → List ℕ → Bool
tied_to [] q = false
tied_to (t ∷ ts) q = eq_by_cmp tuple_cmp q t || tied_to ts q

abbrev no_entry : Entries Extended → List ℕ → Entries Extended
no_entry entries t = finite.remove entries t

get-removed : (m : Entries Extended) (ts : List (List ℕ)) (q : List ℕ) → finite.get (fold no_entry m ts) q ≡ cond (tied_to ts q) None (finite.get m q)
unfolding tied_to
get-removed m [] q = refl
get-removed m (t ∷ ts) q =
    get-removed (finite.remove m t) ts q ∙ ap (cond (tied_to ts q) None) (finite.get-remove tuple_cmp-total m t q) ∙ by (eq_by_cmp tuple_cmp q t) (tied_to ts q)
  where
    by : (a b : Bool) → cond b None (cond a None (finite.get m q)) ≡ cond (a || b) None (finite.get m q)
    by true true = refl
    by true false = refl
    by false true = refl
    by false false = refl

find-none : (es : List (List ℕ × Extended)) (q : List ℕ) → tied_to (keys_of es) q ≡ false → finite.find tuple_cmp q es ≡ None
unfolding tied_to
find-none [] q e = refl
find-none (e ∷ es) q none = by (eq_by_cmp tuple_cmp q e.0) (find-none es q) none
  where
    by : (a : Bool) → (tied_to (keys_of es) q ≡ false → finite.find tuple_cmp q es ≡ None) → (a || tied_to (keys_of es) q) ≡ false → cond a (Some e.1) (finite.find tuple_cmp q es) ≡ None
    by true rest n = absurd cc
    by false rest n = rest n

all-removed : (m : Entries Extended) → fold no_entry m (finite.keys m) ≡ finite.empty
all-removed m = finite.same_map tuple_cmp-total tuple_cmp-Equal (fold no_entry m (finite.keys m)) finite.empty (λ q. get-removed m (finite.keys m) q ∙ by q (tied_to (finite.keys m) q) refl ∙ sym (finite.get-empty tuple_cmp q))
  where
    by : (q : List ℕ) (b : Bool) → tied_to (finite.keys m) q ≡ b → cond b None (finite.get m q) ≡ None
    by q true _ = refl
    by q false none = finite.get-entries m q ∙ find-none (finite.entries m) q none

fold-parameter : (m : Entries Extended) (ts : List (List ℕ)) → fold less (parameter_of m) ts ≡ parameter_of (fold no_entry m ts)
fold-parameter m [] = refl
fold-parameter m (t ∷ ts) =
    ap (λ b. fold less (parameter_of (cond b (finite.insert m t zero) (finite.remove m t))) ts) nothing ∙ fold-parameter (finite.remove m t) ts

fold-still : (content : Content) → ((t : List ℕ) → less content t ≡ content) → (ts : List (List ℕ)) → fold less content ts ≡ content
fold-still content same [] = refl
fold-still content same (t ∷ ts) = ap (λ c. fold less c ts) (same t) ∙ fold-still content same ts

-- ---- all

pub taken-out : (state : State) (name : ℕ) → ((t : List ℕ) → has (given_of state name) t ≡ true → length t ≡ length (symbol_of state name).domain) → without name state (given_of state name) ≡ with_no_data state name
taken-out state name arity = at (symbol_of state name).content refl
  where
    long : AreLong (length (symbol_of state name).domain) (given_of state name)
    long = long-by (length (symbol_of state name).domain) (given_of state name) arity

    -- a name of which nothing can be given
    bare : (content : Content) → (symbol_of state name).content ≡ content → given_in content ≡ [] → empty_content content ≡ content → without name state (given_of state name) ≡ with_no_data state name
    bare content is none same =
        ap (without name state) (ap given_in is ∙ none) ∙ sym (ap (λ c. with_symbol state name (with_content (symbol_of state name) c)) (ap empty_content is ∙ same ∙ sym is) ∙ same-symbol state name)

    -- one that is declared is one of the program
    within : (content : Content) → (symbol_of state name).content ≡ content → (undeclared ≡ content → ⊥) → base_of state name < length state.symbols
    within content is some = by (nat_lt (base_of state name) (length state.symbols)) refl
      where
        by : (b : Bool) → nat_lt (base_of state name) (length state.symbols) ≡ b → base_of state name < length state.symbols
        by true l = ltb-true (base_of state name) (length state.symbols) l
        by false l =
            let past : length state.symbols ≤ base_of state name = grind (arith, nat_tests) in
            absurd (some (sym (ap (λ (s : Symbol). s.content) (read-at state (base_of state name) ∙ get_or_past state.symbols (base_of state name) no_symbol past)) ∙ is))

    full : (content : Content) → (symbol_of state name).content ≡ content → IsPlain content → (undeclared ≡ content → ⊥) → fold less content (given_in content) ≡ empty_content content → without name state (given_of state name) ≡ with_no_data state name
    full content is p some empty =
        by-content state name (subst IsPlain (sym is) p) (within content is some) content is (given_of state name) long (ap (λ c. fold less content (given_in c)) is ∙ empty)

    at : (content : Content) → (symbol_of state name).content ≡ content → without name state (given_of state name) ≡ with_no_data state name
    at undeclared is = bare undeclared is refl refl
    at (alias_of base) is = bare (alias_of base) is refl refl
    at (set_of members) is = full (set_of members) is (λ n. refl) (λ e. absurd cc) (fold-set members members ∙ ap set_of (gone members members (in-itself members)))
    at (parameter_of entries) is = full (parameter_of entries) is (λ n. refl) (λ e. absurd cc) (fold-parameter entries (finite.keys entries) ∙ ap parameter_of (all-removed entries))
    at (variable_of type entries) is = full (variable_of type entries) is (λ n. refl) (λ e. absurd cc) (fold-still (variable_of type entries) (λ t. refl) (finite.keys entries))
    at (equation_of entries) is = full (equation_of entries) is (λ n. refl) (λ e. absurd cc) (fold-still (equation_of entries) (λ t. refl) (finite.keys entries))
    at (model_with model solver) is = bare (model_with model solver) is refl refl
