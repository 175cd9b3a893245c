-- Each write changes one entry of one name, and leaves all others.
use Rattle.std.proofs.Common.{◌≡◌, ◌⊎◌, ℕ, zero, suc, ◌<◌, Bool, true, false, not, ◌&&◌, ◌==◌, List, [], ◌∷◌, length, set, slice_get, refl, sym, ap, ◌∙◌, cond, Option, Some, None, unwrap_or, subst, if◌then◌else◌, pos, arith, inl, inr}
use Rattle.std.specs.declared.cmp.Ordering.{Ordering}
use Rattle.std.specs.declared.cmp.Ordering.TheVariants.{Less, Equal, Greater}
use Rattle.std.specs.Ordering.{is_eq, eq_by_cmp}
use Rattle.std.specs.FinMap as finite
use Rattle.std.proofs.lemmas.Bool.{eqb-true, eq-eqb, both_ways, not-false}
use Rattle.gq_number.specs.Number.{Number, whole}
use Rattle.gq_number.specs.Order.{number_cmp}
use Rattle.gq_number.proofs.Compares.{number_cmp_decides}
use Rattle.gq_extended.specs.Extended as extended
use Rattle.gms_tuple.specs.TupleOrder.{tuple_cmp, same_tuple}
use Rattle.gms_tuple.specs.OrderLaws.{tuple_cmp-total}
use Rattle.gms_tuple.specs.TupleSet.{has, inserted, removed}
use Rattle.gms_tuple.proofs.Ordered.{same_tuple_refl}
use Rattle.gms_tuple.proofs.Members.{has-inserted, has-removed}
use Rattle.gms_store.specs.State.{Entries, Attributes, Content, undeclared, alias_of, set_of, parameter_of, variable_of, equation_of, model_with, Symbol, State, no_symbol, symbol_at, alias_target, base_of, symbol_of, with_symbol, with_content, if_fits, entries_after_write, with_value, with_attributes, with_membership, value_in, attributes_in, members_in, value_of, attributes_of, members_of, after_value, after_attributes, after_membership, is_given, has_attributes, same_number, same_bound, same_attributes, absent_variable, unbounded}
use Rattle.gms_store.specs.State as state_words
use Rattle.std.proofs.lemmas.Bool.{and_parts}
use Rattle.gms_store.proofs.Maps.{same-tie, tie-sym}

-- ---- lists

read-set : (xs : List Symbol) (i : ℕ) (v : Symbol) → i < length xs → slice_get (set xs i v) i ≡ Some v
read-set [] i v within = absurd (omega arith)
read-set (x ∷ xs) zero v within = refl
read-set (x ∷ xs) (suc i) v within = read-set xs i v (omega arith)

read-set_or : (xs : List Symbol) (i : ℕ) (v : Symbol) → (slice_get (set xs i v) i ≡ slice_get xs i) ⊎ (slice_get (set xs i v) i ≡ Some v)
read-set_or [] i v = inl refl
read-set_or (x ∷ xs) zero v = inr refl
read-set_or (x ∷ xs) (suc i) v = read-set_or xs i v

read-set_other : (xs : List Symbol) (i j : ℕ) (v : Symbol) → (i ≡ j → ⊥) → slice_get (set xs i v) j ≡ slice_get xs j
read-set_other [] i j v apart = refl
read-set_other (x ∷ xs) zero zero v apart = absurd (apart refl)
read-set_other (x ∷ xs) zero (suc j) v apart = refl
read-set_other (x ∷ xs) (suc i) zero v apart = refl
read-set_other (x ∷ xs) (suc i) (suc j) v apart = read-set_other xs i j v (λ e. apart (ap suc e))

-- ---- a state with another symbol at a name

module _ (state : State) (name : ℕ) (new : Symbol) where
  -- the symbol at a number is as before, or it is the new symbol at the changed name
  at-after : (n : ℕ) → (symbol_at (with_symbol state name new) n ≡ symbol_at state n) ⊎ ((n ≡ base_of state name) × (symbol_at (with_symbol state name new) n ≡ new))
  at-after n = by (base_of state name == n) refl
    where
      by : (b : Bool) → (base_of state name == n) ≡ b → (symbol_at (with_symbol state name new) n ≡ symbol_at state n) ⊎ ((n ≡ base_of state name) × (symbol_at (with_symbol state name new) n ≡ new))
      by false apart = inl (ap (λ s. unwrap_or s no_symbol) (read-set_other state.symbols (base_of state name) n new (λ e. both_ways (base_of state name == n) apart (eq-eqb (base_of state name) n e))))
      by true same =
          let here : base_of state name ≡ n = eqb-true (base_of state name) n same in
          elim (read-set_or state.symbols (base_of state name) new) [
            | inl old ↦ inl (subst (λ n. unwrap_or (slice_get (set state.symbols (base_of state name) new) n) no_symbol ≡ unwrap_or (slice_get state.symbols n) no_symbol) here (ap (λ s. unwrap_or s no_symbol) old))
            | inr changed ↦ inr (sym here, subst (λ n. unwrap_or (slice_get (set state.symbols (base_of state name) new) n) no_symbol ≡ new) here (ap (λ s. unwrap_or s no_symbol) changed))
          ]

  module _ (alike : (n : ℕ) → alias_target n new.content ≡ alias_target n (symbol_of state name).content) where
    -- what a name stands for stays
    pub base-after : (other : ℕ) → base_of (with_symbol state name new) other ≡ base_of state other
    base-after other = elim (at-after other) [
      | inl same ↦ ap (λ (s : Symbol). alias_target other s.content) same
      | inr changed ↦ ap (λ (s : Symbol). alias_target other s.content) changed.1 ∙ alike other ∙ ap (λ n. alias_target other (symbol_at state n).content) (sym changed.0)
    ]

    -- what another name shows is as before, unless it stands for the changed symbol
    pub symbol-after : (other : ℕ) → (symbol_of (with_symbol state name new) other ≡ symbol_of state other) ⊎ ((base_of state other ≡ base_of state name) × (symbol_of (with_symbol state name new) other ≡ new))
    symbol-after other = elim (at-after (base_of state other)) [
      | inl same ↦ inl (ap (symbol_at (with_symbol state name new)) (base-after other) ∙ same)
      | inr changed ↦ inr (changed.0, ap (symbol_at (with_symbol state name new)) (base-after other) ∙ changed.1)
    ]

    pub symbol-changed : base_of state name < length state.symbols → symbol_of (with_symbol state name new) name ≡ new
    symbol-changed within =
        ap (symbol_at (with_symbol state name new)) (base-after name) ∙ ap (λ s. unwrap_or s no_symbol) (read-set state.symbols (base_of state name) new within)

    -- a reading that the changed symbol answers as before is as before everywhere
    pub reads-same : {Y : Type 0} (read : Content → Y) (other : ℕ) → (base_of state other ≡ base_of state name → read new.content ≡ read (symbol_of state name).content) → read (symbol_of (with_symbol state name new) other).content ≡ read (symbol_of state other).content
    reads-same read other same = elim (symbol-after other) [
      | inl e ↦ ap (λ (s : Symbol). read s.content) e
      | inr changed ↦ ap (λ (s : Symbol). read s.content) changed.1 ∙ same changed.0 ∙ ap (λ n. read (symbol_at state n).content) (sym changed.0)
    ]

-- a property of a content and of a new one is a property of the content after the new one is put if
-- it fits
pub fits-either : (P : Content → Type 0) (s : Symbol) (t : List ℕ) (new : Content) → P s.content → P new → P (if_fits s t new).content
fits-either P s t new old changed = by (length t == length s.domain)
  where
    by : (b : Bool) → P (cond b (with_content s new) s).content
    by true = changed
    by false = old

fitted : (s : Symbol) (t : List ℕ) (new : Content) → length t ≡ length s.domain → (if_fits s t new).content ≡ new
fitted s t new fits = rw (eq-eqb (length t) (length s.domain) fits) refl

-- ---- maps

tie-itself : (t : List ℕ) → eq_by_cmp tuple_cmp t t ≡ true
tie-itself t = sym (same-tie t t) ∙ same_tuple_refl t

apart-tie : (t u : List ℕ) → same_tuple t u ≡ false → eq_by_cmp tuple_cmp u t ≡ false
apart-tie t u apart = tie-sym u t ∙ sym (same-tie t u) ∙ apart

get-after_other : {X : Type 0} (b : Bool) (m : Entries X) (t : List ℕ) (x : X) (u : List ℕ) → same_tuple t u ≡ false → finite.get (entries_after_write b m t x) u ≡ finite.get m u
get-after_other true m t x u apart = finite.get-insert tuple_cmp-total m t x u ∙ ap (λ b. cond b (Some x) (finite.get m u)) (apart-tie t u apart)
get-after_other false m t x u apart = finite.get-remove tuple_cmp-total m t u ∙ ap (λ b. cond b None (finite.get m u)) (apart-tie t u apart)

get-after_same : {X : Type 0} (b : Bool) (m : Entries X) (t : List ℕ) (x absent : X) → (b ≡ false → absent ≡ x) → unwrap_or (finite.get (entries_after_write b m t x) t) absent ≡ x
get-after_same true m t x absent kept =
    ap (λ o. unwrap_or o absent) (finite.get-insert tuple_cmp-total m t x t ∙ ap (λ b. cond b (Some x) (finite.get m t)) (tie-itself t))
get-after_same false m t x absent kept =
    ap (λ o. unwrap_or o absent) (finite.get-remove tuple_cmp-total m t t ∙ ap (λ b. cond b None (finite.get m t)) (tie-itself t)) ∙ kept refl

-- ---- parameters

pub following-value : (content : Content) (t : List ℕ) (x : extended.Extended) (n : ℕ) → alias_target n (with_value content t x) ≡ alias_target n content
following-value undeclared t x n = refl
following-value (alias_of base) t x n = refl
following-value (set_of members) t x n = refl
following-value (parameter_of entries) t x n = refl
following-value (variable_of type entries) t x n = refl
following-value (equation_of entries) t x n = refl
following-value (model_with model solver) t x n = refl

value-other : (content : Content) (t : List ℕ) (x : extended.Extended) (u : List ℕ) → same_tuple t u ≡ false → value_in (with_value content t x) u ≡ value_in content u
value-other undeclared t x u apart = refl
value-other (alias_of base) t x u apart = refl
value-other (set_of members) t x u apart = refl
value-other (parameter_of entries) t x u apart = ap (λ o. unwrap_or o state_words.zero) (get-after_other (is_given x) entries t x u apart)
value-other (variable_of type entries) t x u apart = refl
value-other (equation_of entries) t x u apart = refl
value-other (model_with model solver) t x u apart = refl

number_equal : (o : Ordering) → not (is_eq o) ≡ false → o ≡ Equal
number_equal Less e = absurd cc
number_equal Equal e = refl
number_equal Greater e = absurd cc

nothing-given : (x : extended.Extended) → is_given x ≡ false → state_words.zero ≡ x
nothing-given (extended.number x) e =
    ap extended.number (sym ((number_cmp_decides x (whole (pos 0))).1.0 (number_equal (number_cmp x (whole (pos 0))) e)))
nothing-given extended.plus_infinity e = absurd cc
nothing-given extended.minus_infinity e = absurd cc
nothing-given extended.na e = absurd cc

pub value_after : (state : State) (name : ℕ) (t : List ℕ) (x : extended.Extended) (entries : Entries extended.Extended) → base_of state name < length state.symbols → (symbol_of state name).content ≡ parameter_of entries → length t ≡ length (symbol_of state name).domain → value_of (after_value state name t x) name t ≡ x
value_after state name t x entries within is fits =
    let s = symbol_of state name in
    let new = if_fits s t (with_value s.content t x) in
    ap (λ (s : Symbol). value_in s.content t) (symbol-changed state name new (λ n. fits-either (λ c. alias_target n c ≡ alias_target n s.content) s t (with_value s.content t x) refl (following-value s.content t x n)) within)
    ∙ ap (λ c. value_in c t) (fitted s t (with_value s.content t x) fits ∙ ap (λ c. with_value c t x) is)
    ∙ get-after_same (is_given x) entries t x state_words.zero (nothing-given x)

pub value_elsewhere : (state : State) (name : ℕ) (t : List ℕ) (x : extended.Extended) (other : ℕ) (u : List ℕ) → (base_of state other ≡ base_of state name → same_tuple t u ≡ false) → value_of (after_value state name t x) other u ≡ value_of state other u
value_elsewhere state name t x other u apart =
    let s = symbol_of state name in
    reads-same state name (if_fits s t (with_value s.content t x)) (λ n. fits-either (λ c. alias_target n c ≡ alias_target n s.content) s t (with_value s.content t x) refl (following-value s.content t x n)) (λ c. value_in c u) other (λ same. fits-either (λ c. value_in c u ≡ value_in s.content u) s t (with_value s.content t x) refl (value-other s.content t x u (apart same)))

-- ---- sets

pub following-membership : (content : Content) (t : List ℕ) (on : Bool) (n : ℕ) → alias_target n (with_membership content t on) ≡ alias_target n content
following-membership undeclared t on n = refl
following-membership (alias_of base) t on n = refl
following-membership (set_of members) t on n = refl
following-membership (parameter_of entries) t on n = refl
following-membership (variable_of type entries) t on n = refl
following-membership (equation_of entries) t on n = refl
following-membership (model_with model solver) t on n = refl

member-other : (members : List (List ℕ)) (t : List ℕ) (on : Bool) (u : List ℕ) → same_tuple t u ≡ false → has (if on then inserted members t else removed members t) u ≡ has members u
member-other members t true u apart = has-inserted members t u ∙ rw apart refl
member-other members t false u apart = has-removed members t u ∙ rw apart (elim (has members u) as (λ b. (b && true) ≡ b) [ true ↦ refl | false ↦ refl ])

membership-other : (content : Content) (t : List ℕ) (on : Bool) (u : List ℕ) → same_tuple t u ≡ false → has (members_in (with_membership content t on)) u ≡ has (members_in content) u
membership-other undeclared t on u apart = refl
membership-other (alias_of base) t on u apart = refl
membership-other (set_of members) t on u apart = member-other members t on u apart
membership-other (parameter_of entries) t on u apart = refl
membership-other (variable_of type entries) t on u apart = refl
membership-other (equation_of entries) t on u apart = refl
membership-other (model_with model solver) t on u apart = refl

member-same : (members : List (List ℕ)) (t : List ℕ) (on : Bool) → has (if on then inserted members t else removed members t) t ≡ on
member-same members t true = has-inserted members t t ∙ rw (same_tuple_refl t) refl
member-same members t false = has-removed members t t ∙ rw (same_tuple_refl t) (elim (has members t) as (λ b. (b && false) ≡ false) [ true ↦ refl | false ↦ refl ])

pub membership_after : (state : State) (name : ℕ) (t : List ℕ) (on : Bool) (members : List (List ℕ)) → base_of state name < length state.symbols → (symbol_of state name).content ≡ set_of members → length t ≡ length (symbol_of state name).domain → has (members_of (after_membership state name t on) name) t ≡ on
membership_after state name t on members within is fits =
    let s = symbol_of state name in
    let new = if_fits s t (with_membership s.content t on) in
    ap (λ (s : Symbol). has (members_in s.content) t) (symbol-changed state name new (λ n. fits-either (λ c. alias_target n c ≡ alias_target n s.content) s t (with_membership s.content t on) refl (following-membership s.content t on n)) within)
    ∙ ap (λ c. has (members_in c) t) (fitted s t (with_membership s.content t on) fits ∙ ap (λ c. with_membership c t on) is)
    ∙ member-same members t on

pub membership_elsewhere : (state : State) (name : ℕ) (t : List ℕ) (on : Bool) (other : ℕ) (u : List ℕ) → (base_of state other ≡ base_of state name → same_tuple t u ≡ false) → has (members_of (after_membership state name t on) other) u ≡ has (members_of state other) u
membership_elsewhere state name t on other u apart =
    let s = symbol_of state name in
    reads-same state name (if_fits s t (with_membership s.content t on)) (λ n. fits-either (λ c. alias_target n c ≡ alias_target n s.content) s t (with_membership s.content t on) refl (following-membership s.content t on n)) (λ c. has (members_in c) u) other (λ same. fits-either (λ c. has (members_in c) u ≡ has (members_in s.content) u) s t (with_membership s.content t on) refl (membership-other s.content t on u (apart same)))

-- ---- variables and equations

pub following-attributes : (content : Content) (t : List ℕ) (a : Attributes) (n : ℕ) → alias_target n (with_attributes content t a) ≡ alias_target n content
following-attributes undeclared t a n = refl
following-attributes (alias_of base) t a n = refl
following-attributes (set_of members) t a n = refl
following-attributes (parameter_of entries) t a n = refl
following-attributes (variable_of type entries) t a n = refl
following-attributes (equation_of entries) t a n = refl
following-attributes (model_with model solver) t a n = refl

attributes-other : (content : Content) (t : List ℕ) (a : Attributes) (u : List ℕ) → same_tuple t u ≡ false → attributes_in (with_attributes content t a) u ≡ attributes_in content u
attributes-other undeclared t a u apart = refl
attributes-other (alias_of base) t a u apart = refl
attributes-other (set_of members) t a u apart = refl
attributes-other (parameter_of entries) t a u apart = refl
attributes-other (variable_of type entries) t a u apart = ap (λ o. unwrap_or o (absent_variable type)) (get-after_other (not (same_attributes a (absent_variable type))) entries t a u apart)
attributes-other (equation_of entries) t a u apart = ap (λ o. unwrap_or o unbounded) (get-after_other (not (same_attributes a unbounded)) entries t a u apart)
attributes-other (model_with model solver) t a u apart = refl

pub attributes_elsewhere : (state : State) (name : ℕ) (t : List ℕ) (a : Attributes) (other : ℕ) (u : List ℕ) → (base_of state other ≡ base_of state name → same_tuple t u ≡ false) → attributes_of (after_attributes state name t a) other u ≡ attributes_of state other u
attributes_elsewhere state name t a other u apart =
    let s = symbol_of state name in
    reads-same state name (if_fits s t (with_attributes s.content t a)) (λ n. fits-either (λ c. alias_target n c ≡ alias_target n s.content) s t (with_attributes s.content t a) refl (following-attributes s.content t a n)) (λ c. attributes_in c u) other (λ same. fits-either (λ c. attributes_in c u ≡ attributes_in s.content u) s t (with_attributes s.content t a) refl (attributes-other s.content t a u (apart same)))

same-number : (a b : Number) → same_number a b ≡ true → a ≡ b
same-number a b e = (number_cmp_decides a b).1.0 (number_equal (number_cmp a b) (ap not e))

same-bound : (a b : Option Number) → same_bound a b ≡ true → a ≡ b
same-bound None None e = refl
same-bound None (Some b) e = absurd cc
same-bound (Some a) None e = absurd cc
same-bound (Some a) (Some b) e = ap Some (same-number a b e)

same-attributes : (a b : Attributes) → same_attributes a b ≡ true → a ≡ b
same-attributes a b e =
    let first = and_parts (same_bound a.lower b.lower) (same_bound a.upper b.upper && (same_number a.level b.level && same_number a.marginal b.marginal)) e in
    let second = and_parts (same_bound a.upper b.upper) (same_number a.level b.level && same_number a.marginal b.marginal) first.1 in
    let third = and_parts (same_number a.level b.level) (same_number a.marginal b.marginal) second.1 in
    λ i. record { lower = same-bound a.lower b.lower first.0 i; upper = same-bound a.upper b.upper second.0 i; level = same-number a.level b.level third.0 i; marginal = same-number a.marginal b.marginal third.1 i }

attributes-same : (content : Content) (t : List ℕ) (a : Attributes) → has_attributes content ≡ true → attributes_in (with_attributes content t a) t ≡ a
attributes-same undeclared t a has = absurd cc
attributes-same (alias_of base) t a has = absurd cc
attributes-same (set_of members) t a has = absurd cc
attributes-same (parameter_of entries) t a has = absurd cc
attributes-same (variable_of type entries) t a has = get-after_same (not (same_attributes a (absent_variable type))) entries t a (absent_variable type) (λ e. sym (same-attributes a (absent_variable type) (not-false _ e)))
attributes-same (equation_of entries) t a has = get-after_same (not (same_attributes a unbounded)) entries t a unbounded (λ e. sym (same-attributes a unbounded (not-false _ e)))
attributes-same (model_with model solver) t a has = absurd cc

pub attributes_after : (state : State) (name : ℕ) (t : List ℕ) (a : Attributes) → base_of state name < length state.symbols → has_attributes (symbol_of state name).content ≡ true → length t ≡ length (symbol_of state name).domain → attributes_of (after_attributes state name t a) name t ≡ a
attributes_after state name t a within is fits =
    let s = symbol_of state name in
    let new = if_fits s t (with_attributes s.content t a) in
    ap (λ (s : Symbol). attributes_in s.content t) (symbol-changed state name new (λ n. fits-either (λ c. alias_target n c ≡ alias_target n s.content) s t (with_attributes s.content t a) refl (following-attributes s.content t a n)) within)
    ∙ ap (λ c. attributes_in c t) (fitted s t (with_attributes s.content t a) fits)
    ∙ attributes-same s.content t a is
