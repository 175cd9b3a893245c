-- Data of a name that are removed again: with which other changes that commutes, and the result.
use Rattle.std.proofs.Common.{◌≡◌, ◌≢◌, ◌≤◌, ◌==◌, ◌++◌, ◌&&◌, ◌||◌, ℕ, Bool, true, false, List, [], ◌∷◌, length, Option, Some, None, refl, sym, ap, ◌∙◌, arith, cond, eq-eqb, if◌then◌else◌}
use Rattle.std.specs.Prelude.{nat_lt, slice_index_or}
use Rattle.std.proofs.Math.ListN.{set}
use Rattle.std.proofs.lemmas.Bool.{ltb-true, eqb-true}
use Rattle.std.proofs.lemmas.Bool.Decides.{nat_tests}
use Rattle.std.proofs.lemmas.List.{get_or-set_same, get_or-set_other, set-get_or, set-set, set_comm, set_past}
use Rattle.std.proofs.lemmas.Option.{unwrap_or-slice_get}
use Rattle.gq_number.specs.Number.{Number}
use Rattle.gq_extended.specs.Extended.{Extended}
use Rattle.gq_extended.specs.Meaning.{extended}
use Rattle.gq_extended.specs.declared.extended.Ext.{Ext}
use Rattle.gms_ast.specs.declared.declaration.DeclKind.{DeclKind}
use Rattle.gms_ast.specs.declared.declaration.DeclKind.TheVariants as declaring
use Rattle.gms_store.specs.declared.kind.VariableType.{VariableType}
use Rattle.gms_store.specs.declared.kind.VariableType.TheVariants as type
use Rattle.gms_store.specs.State.{State, Entries, Attributes, Content, undeclared, alias_of, set_of, parameter_of, variable_of, equation_of, model_with, Symbol, no_symbol, base_of, alias_target, if_fits, symbol_at, with_content, with_membership, with_value}
use Rattle.gms_store.specs.Declarations.{content_of, declare, declared_again, is_free, is_set, is_undeclared, kind_in, put_at, retyped, symbol_of_kind}
use Rattle.gms_scope.specs.Below.{base_above, first_base}
use Rattle.gms_scope.specs.Data.{empty_content, with_no_data, given_to, with_datum}
use Rattle.gms_scope.specs.Facts.{Facts, above_new, equation_in, with_declared, without_data}
use Rattle.gms_scope.specs.Names.{is_equation, is_index_set, has_no_declaration, declared_kind, positions}
use Rattle.gms_scope.specs.Entries.{entry}

-- ---- one name of a state that is changed

-- the state in which the name of this number is changed
abbrev pub changed : (Symbol → Symbol) → State → ℕ → State
changed f state name = put_at state name (f (symbol_at state name))

read-at : (state : State) (n : ℕ) → symbol_at state n ≡ slice_index_or state.symbols n no_symbol
read-at state n = unwrap_or-slice_get state.symbols n no_symbol

-- past the names nothing changes
pub put-past : (state : State) (i : ℕ) (v : Symbol) → nat_lt i (length state.symbols) ≡ false → put_at state i v ≡ state
put-past state i v l =
    let past : length state.symbols ≤ i = grind (arith, nat_tests) in
    ap (λ (symbols : List Symbol). record { symbols = symbols; settings = state.settings }) (set_past state.symbols i v past)

pub put-same : (state : State) (i : ℕ) (v : Symbol) → nat_lt i (length state.symbols) ≡ true → symbol_at (put_at state i v) i ≡ v
put-same state i v l =
    read-at (put_at state i v) i ∙ get_or-set_same state.symbols i v no_symbol (ltb-true i (length state.symbols) l)

pub put-other : (state : State) (i n : ℕ) (v : Symbol) → n ≢ i → symbol_at (put_at state i v) n ≡ symbol_at state n
put-other state i n v ne =
    read-at (put_at state i v) n ∙ get_or-set_other state.symbols i n v no_symbol ne ∙ sym (read-at state n)

-- a reading that the new symbol answers as the old one is as before everywhere
pub read-kept : {Y : Type 0} (read : Symbol → Y) (state : State) (i : ℕ) (v : Symbol) → read v ≡ read (symbol_at state i) → (n : ℕ) → read (symbol_at (put_at state i v) n) ≡ read (symbol_at state n)
read-kept read state i v same n = by (n == i) refl
  where
    at : (t : Bool) → nat_lt i (length state.symbols) ≡ t → read (symbol_at (put_at state i v) i) ≡ read (symbol_at state i)
    at true l = ap read (put-same state i v l) ∙ same
    at false l = ap (λ (s : State). read (symbol_at s i)) (put-past state i v l)

    by : (t : Bool) → (n == i) ≡ t → read (symbol_at (put_at state i v) n) ≡ read (symbol_at state n)
    by false apart =
        let ne : n ≢ i = λ e. absurd (let t = eq-eqb n i e in cc) in
        ap read (put-other state i n v ne)
    by true here =
        let e = eqb-true n i here in
        ap (λ m. read (symbol_at (put_at state i v) m)) e ∙ at (nat_lt i (length state.symbols)) refl ∙ sym (ap (λ m. read (symbol_at state m)) e)

-- two changes that commute at one symbol do so at all names
changed-comm : (f g : Symbol → Symbol) → ((x : Symbol) → f (g x) ≡ g (f x)) → (state : State) (i j : ℕ) → changed f (changed g state i) j ≡ changed g (changed f state j) i
changed-comm f g both state i j = by (i == j) refl
  where
    here : (t : Bool) → nat_lt i (length state.symbols) ≡ t → changed f (changed g state i) i ≡ changed g (changed f state i) i
    here true l =
        ap (λ s. put_at (changed g state i) i (f s)) (put-same state i (g (symbol_at state i)) l)
        ∙ ap (λ (symbols : List Symbol). record { symbols = symbols; settings = state.settings }) (set-set state.symbols i (g (symbol_at state i)) (f (g (symbol_at state i))) ∙ ap (set state.symbols i) (both (symbol_at state i)) ∙ sym (set-set state.symbols i (f (symbol_at state i)) (g (f (symbol_at state i)))))
        ∙ sym (ap (λ s. put_at (changed f state i) i (g s)) (put-same state i (f (symbol_at state i)) l))
    here false l =
        ap (λ s. changed f s i) (put-past state i (g (symbol_at state i)) l) ∙ put-past state i (f (symbol_at state i)) l
        ∙ sym (ap (λ s. changed g s i) (put-past state i (f (symbol_at state i)) l) ∙ put-past state i (g (symbol_at state i)) l)

    by : (t : Bool) → (i == j) ≡ t → changed f (changed g state i) j ≡ changed g (changed f state j) i
    by true same =
        let e = eqb-true i j same in
        ap (λ n. changed f (changed g state i) n) (sym e) ∙ here (nat_lt i (length state.symbols)) refl ∙ ap (λ n. changed g (changed f state n) i) e
    by false apart =
        let ne : i ≢ j = λ e. absurd (let t = eq-eqb i j e in cc) in
        let en : j ≢ i = λ e. ne (sym e) in
        ap (λ s. put_at (changed g state i) j (f s)) (put-other state i j (g (symbol_at state i)) en)
        ∙ ap (λ (symbols : List Symbol). record { symbols = symbols; settings = state.settings }) (set_comm state.symbols i j (g (symbol_at state i)) (f (symbol_at state j)) ne)
        ∙ sym (ap (λ s. put_at (changed f state j) i (g s)) (put-other state j i (f (symbol_at state j)) ne))

-- a change that a later one does not see
changed-over : (f g : Symbol → Symbol) → ((x : Symbol) → f (g x) ≡ f x) → (state : State) (i : ℕ) → changed f (changed g state i) i ≡ changed f state i
changed-over f g over state i = by (nat_lt i (length state.symbols)) refl
  where
    by : (t : Bool) → nat_lt i (length state.symbols) ≡ t → changed f (changed g state i) i ≡ changed f state i
    by true l =
        ap (λ s. put_at (changed g state i) i (f s)) (put-same state i (g (symbol_at state i)) l)
        ∙ ap (λ (symbols : List Symbol). record { symbols = symbols; settings = state.settings }) (set-set state.symbols i (g (symbol_at state i)) (f (g (symbol_at state i))) ∙ ap (set state.symbols i) (over (symbol_at state i)))
    by false l = ap (λ s. changed f s i) (put-past state i (g (symbol_at state i)) l)

-- a change that leaves a symbol as it is leaves the state as it is
changed-still : (f : Symbol → Symbol) (state : State) (i : ℕ) → f (symbol_at state i) ≡ symbol_at state i → changed f state i ≡ state
changed-still f state i still =
    ap (put_at state i) (still ∙ read-at state i) ∙ ap (λ (symbols : List Symbol). record { symbols = symbols; settings = state.settings }) (set-get_or state.symbols i no_symbol)

-- ---- a name without its data

-- a symbol without its data
abbrev empty_symbol : Symbol → Symbol
empty_symbol x = with_content x (empty_content x.content)

following-empty : (n : ℕ) (content : Content) → alias_target n (empty_content content) ≡ alias_target n content
following-empty n undeclared = refl
following-empty n (alias_of base) = refl
following-empty n (set_of members) = refl
following-empty n (parameter_of entries) = refl
following-empty n (variable_of v entries) = refl
following-empty n (equation_of entries) = refl
following-empty n (model_with model solver) = refl

kind-empty : (content : Content) → kind_in (empty_content content) ≡ kind_in content
kind-empty undeclared = refl
kind-empty (alias_of base) = refl
kind-empty (set_of members) = refl
kind-empty (parameter_of entries) = refl
kind-empty (variable_of v entries) = refl
kind-empty (equation_of entries) = refl
kind-empty (model_with model solver) = refl

set-empty : (content : Content) → is_set (empty_content content) ≡ is_set content
set-empty undeclared = refl
set-empty (alias_of base) = refl
set-empty (set_of members) = refl
set-empty (parameter_of entries) = refl
set-empty (variable_of v entries) = refl
set-empty (equation_of entries) = refl
set-empty (model_with model solver) = refl

new-empty : (content : Content) → is_undeclared (empty_content content) ≡ is_undeclared content
new-empty undeclared = refl
new-empty (alias_of base) = refl
new-empty (set_of members) = refl
new-empty (parameter_of entries) = refl
new-empty (variable_of v entries) = refl
new-empty (equation_of entries) = refl
new-empty (model_with model solver) = refl

module _ (state : State) (name : ℕ) where
  base-emptied : (n : ℕ) → base_of (with_no_data state name) n ≡ base_of state n
  base-emptied n =
      read-kept (λ (x : Symbol). alias_target n x.content) state (base_of state name) (empty_symbol (symbol_at state (base_of state name))) (following-empty n (symbol_at state (base_of state name)).content) n

  kind-emptied : (n : ℕ) → declared_kind (with_no_data state name) n ≡ declared_kind state n
  kind-emptied n =
      read-kept (λ (x : Symbol). kind_in x.content) state (base_of state name) (empty_symbol (symbol_at state (base_of state name))) (kind-empty (symbol_at state (base_of state name)).content) n

  set-emptied : (n : ℕ) → is_set (symbol_at (with_no_data state name) n).content ≡ is_set (symbol_at state n).content
  set-emptied n =
      read-kept (λ (x : Symbol). is_set x.content) state (base_of state name) (empty_symbol (symbol_at state (base_of state name))) (set-empty (symbol_at state (base_of state name)).content) n

  pub unknown-emptied : (n : ℕ) → has_no_declaration (with_no_data state name) n ≡ has_no_declaration state n
  unknown-emptied n =
      read-kept (λ (x : Symbol). is_undeclared x.content) state (base_of state name) (empty_symbol (symbol_at state (base_of state name))) (new-empty (symbol_at state (base_of state name)).content) n

  domain-emptied : (n : ℕ) → (symbol_at (with_no_data state name) n).domain ≡ (symbol_at state n).domain
  domain-emptied n =
      read-kept (λ (x : Symbol). x.domain) state (base_of state name) (empty_symbol (symbol_at state (base_of state name))) refl n

  positions-emptied : (n : ℕ) → positions (with_no_data state name) n ≡ positions state n
  positions-emptied n =
      ap (λ (b : ℕ). (symbol_at (with_no_data state name) b).domain) (base-emptied n) ∙ domain-emptied (base_of state n)

  index-emptied : (n : ℕ) → is_index_set (with_no_data state name) n ≡ is_index_set state n
  index-emptied n =
      ap (λ (b : Bool). b && length (positions (with_no_data state name) n) == 1) (set-emptied n) ∙ ap (λ (domain : List (Option ℕ)). is_set (symbol_at state n).content && length domain == 1) (positions-emptied n)

  first-emptied : (domain : List (Option ℕ)) → first_base (with_no_data state name) domain ≡ first_base state domain
  first-emptied [] = refl
  first-emptied (None ∷ domain) = refl
  first-emptied (Some set ∷ domain) =
      ap (λ (b : Bool). cond b (Some (base_of (with_no_data state name) set)) None) (index-emptied set) ∙ ap (λ (n : ℕ). cond (is_index_set state set) (Some n) None) (base-emptied set)

  above-emptied : (n : ℕ) → base_above (with_no_data state name) n ≡ base_above state n
  above-emptied n =
      ap (λ (b : Bool). cond b (first_base (with_no_data state name) (positions (with_no_data state name) n)) None) (index-emptied n)
      ∙ ap (λ (domain : List (Option ℕ)). cond (is_index_set state n) (first_base (with_no_data state name) domain) None) (positions-emptied n)
      ∙ ap (λ (above : Option ℕ). cond (is_index_set state n) above None) (first-emptied (positions state n))

-- the data of names may be removed in any order
emptied-comm : (state : State) (n m : ℕ) → with_no_data (with_no_data state n) m ≡ with_no_data (with_no_data state m) n
emptied-comm state n m =
    ap (changed empty_symbol (with_no_data state n)) (base-emptied state n m)
    ∙ changed-comm empty_symbol empty_symbol (λ x. refl) state (base_of state n) (base_of state m)
    ∙ sym (ap (changed empty_symbol (with_no_data state m)) (base-emptied state m n))

-- ---- declarations

empty-new : (kind : DeclKind) → empty_content (content_of kind) ≡ content_of kind
empty-new declaring.Set = refl
empty-new declaring.Parameter = refl
empty-new declaring.Scalar = refl
empty-new declaring.Table = refl
empty-new declaring.Free = refl
empty-new declaring.Positive = refl
empty-new declaring.Negative = refl
empty-new declaring.Discrete = refl
empty-new declaring.Equation = refl

following-new : (n : ℕ) (kind : DeclKind) → alias_target n (content_of kind) ≡ n
following-new n declaring.Set = refl
following-new n declaring.Parameter = refl
following-new n declaring.Scalar = refl
following-new n declaring.Table = refl
following-new n declaring.Free = refl
following-new n declaring.Positive = refl
following-new n declaring.Negative = refl
following-new n declaring.Discrete = refl
following-new n declaring.Equation = refl

empty-retyped : (entries : Entries Attributes) (kind : DeclKind) → empty_content (retyped (variable_of type.Free entries) (content_of kind)) ≡ retyped (variable_of type.Free entries) (content_of kind)
empty-retyped entries declaring.Set = refl
empty-retyped entries declaring.Parameter = refl
empty-retyped entries declaring.Scalar = refl
empty-retyped entries declaring.Table = refl
empty-retyped entries declaring.Free = refl
empty-retyped entries declaring.Positive = refl
empty-retyped entries declaring.Negative = refl
empty-retyped entries declaring.Discrete = refl
empty-retyped entries declaring.Equation = refl

following-retyped : (n : ℕ) (entries : Entries Attributes) (kind : DeclKind) → alias_target n (retyped (variable_of type.Free entries) (content_of kind)) ≡ n
following-retyped n entries declaring.Set = refl
following-retyped n entries declaring.Parameter = refl
following-retyped n entries declaring.Scalar = refl
following-retyped n entries declaring.Table = refl
following-retyped n entries declaring.Free = refl
following-retyped n entries declaring.Positive = refl
following-retyped n entries declaring.Negative = refl
following-retyped n entries declaring.Discrete = refl
following-retyped n entries declaring.Equation = refl

module _ (kind : DeclKind) (domain : List (Option ℕ)) where
  abbrev again : Symbol → Symbol
  again x = declared_again kind domain x

  again-empty : (x : Symbol) → empty_symbol (again x) ≡ again (empty_symbol x)
  again-empty x = by x.content
    where
      typed : (t : VariableType) (entries : Entries Attributes) → empty_symbol (again (with_content x (variable_of t entries))) ≡ again (with_content x (variable_of t entries))
      typed type.Free entries = ap (with_content x) (empty-retyped entries kind)
      typed type.Positive entries = refl
      typed type.Negative entries = refl
      typed type.Discrete entries = refl

      by : (content : Content) → empty_symbol (again (with_content x content)) ≡ again (with_content x (empty_content content))
      by undeclared = ap (with_content (symbol_of_kind kind domain)) (empty-new kind)
      by (alias_of base) = refl
      by (set_of members) = refl
      by (parameter_of entries) = refl
      by (variable_of t entries) = typed t entries
      by (equation_of entries) = refl
      by (model_with model solver) = refl

  following-again : (n : ℕ) (x : Symbol) → alias_target n (again x).content ≡ alias_target n x.content
  following-again n x = by x.content
    where
      typed : (t : VariableType) (entries : Entries Attributes) → alias_target n (again (with_content x (variable_of t entries))).content ≡ n
      typed type.Free entries = following-retyped n entries kind
      typed type.Positive entries = refl
      typed type.Negative entries = refl
      typed type.Discrete entries = refl

      by : (content : Content) → alias_target n (again (with_content x content)).content ≡ alias_target n content
      by undeclared = following-new n kind
      by (alias_of base) = refl
      by (set_of members) = refl
      by (parameter_of entries) = refl
      by (variable_of t entries) = typed t entries
      by (equation_of entries) = refl
      by (model_with model solver) = refl

  base-declared : (state : State) (name n : ℕ) → base_of (declare kind domain state name) n ≡ base_of state n
  base-declared state name n =
      read-kept (λ (x : Symbol). alias_target n x.content) state name (again (symbol_at state name)) (following-again n (symbol_at state name)) n

  -- a name may be declared before or after the data of others are removed
  declared-emptied : (state : State) (m n : ℕ) → with_no_data (declare kind domain state m) n ≡ declare kind domain (with_no_data state n) m
  declared-emptied state m n =
      ap (changed empty_symbol (declare kind domain state m)) (base-declared state m n)
      ∙ changed-comm empty_symbol again again-empty state m (base_of state n)

equation-same : (kind : DeclKind) (a b : State) (name : ℕ) → declared_kind a name ≡ declared_kind b name → equation_in kind a name ≡ equation_in kind b name
equation-same declaring.Set a b name e = refl
equation-same declaring.Parameter a b name e = refl
equation-same declaring.Scalar a b name e = refl
equation-same declaring.Table a b name e = refl
equation-same declaring.Free a b name e = refl
equation-same declaring.Positive a b name e = refl
equation-same declaring.Negative a b name e = refl
equation-same declaring.Discrete a b name e = refl
equation-same declaring.Equation a b name e = ap (λ k. if is_equation k then name ∷ [] else []) e

above-same : (new old : Bool) (a b : State) (name : ℕ) → new ≡ old → base_above a name ≡ base_above b name → above_new new a name ≡ above_new old b name
above-same new old a b name e f = ap (λ (t : Bool). above_new t a name) e ∙ by old
  where
    by : (t : Bool) → above_new t a name ≡ above_new t b name
    by true = f
    by false = refl

-- the same of all that is known
pub declared-without : (kind : DeclKind) (domain : List (Option ℕ)) (facts : Facts) (m n : ℕ) → without_data (with_declared kind domain facts m) n ≡ with_declared kind domain (without_data facts n) m
declared-without kind domain facts m n =
    let s = facts.state in
    let new = declare kind domain s m in
    let late = declare kind domain (with_no_data s n) m in
    let same : with_no_data new n ≡ late = declared-emptied kind domain s m n in
    let above : above_new (has_no_declaration s m) new m ≡ above_new (has_no_declaration (with_no_data s n) m) late m = above-same (has_no_declaration s m) (has_no_declaration (with_no_data s n) m) new late m (sym (unknown-emptied s n m)) (sym (above-emptied new n m) ∙ ap (λ (t : State). base_above t m) same) in
    let equation : equation_in kind new m ≡ equation_in kind late m = equation-same kind new late m (sym (kind-emptied new n m) ∙ ap (λ (t : State). declared_kind t m) same) in
    ap (λ (t : State). record facts { state = t; declared = facts.declared ++ entry (length facts.defined) facts.declared m (above_new (has_no_declaration s m) new m); equations = facts.equations ++ equation_in kind new m }) same
    ∙ ap (λ (over : Option ℕ). record facts { state = late; declared = facts.declared ++ entry (length facts.defined) facts.declared m over; equations = facts.equations ++ equation_in kind new m }) above
    ∙ ap (λ (names : List ℕ). record facts { state = late; declared = facts.declared ++ entry (length facts.defined) facts.declared m (above_new (has_no_declaration (with_no_data s n) m) late m); equations = facts.equations ++ names }) equation

pub without-comm : (facts : Facts) (n m : ℕ) → without_data (without_data facts n) m ≡ without_data (without_data facts m) n
without-comm facts n m = ap (λ (t : State). record facts { state = t }) (emptied-comm facts.state n m)

-- ---- data

module _ (t : List ℕ) where
  empty-membership : (content : Content) (on : Bool) → empty_content (with_membership content t on) ≡ empty_content content
  empty-membership undeclared on = refl
  empty-membership (alias_of base) on = refl
  empty-membership (set_of members) on = refl
  empty-membership (parameter_of entries) on = refl
  empty-membership (variable_of v entries) on = refl
  empty-membership (equation_of entries) on = refl
  empty-membership (model_with model solver) on = refl

  following-membership : (n : ℕ) (content : Content) (on : Bool) → alias_target n (with_membership content t on) ≡ alias_target n content
  following-membership n undeclared on = refl
  following-membership n (alias_of base) on = refl
  following-membership n (set_of members) on = refl
  following-membership n (parameter_of entries) on = refl
  following-membership n (variable_of v entries) on = refl
  following-membership n (equation_of entries) on = refl
  following-membership n (model_with model solver) on = refl

  empty-value : (content : Content) (x : Extended) → empty_content (with_value content t x) ≡ empty_content content
  empty-value undeclared x = refl
  empty-value (alias_of base) x = refl
  empty-value (set_of members) x = refl
  empty-value (parameter_of entries) x = refl
  empty-value (variable_of v entries) x = refl
  empty-value (equation_of entries) x = refl
  empty-value (model_with model solver) x = refl

  following-value : (n : ℕ) (content : Content) (x : Extended) → alias_target n (with_value content t x) ≡ alias_target n content
  following-value n undeclared x = refl
  following-value n (alias_of base) x = refl
  following-value n (set_of members) x = refl
  following-value n (parameter_of entries) x = refl
  following-value n (variable_of v entries) x = refl
  following-value n (equation_of entries) x = refl
  following-value n (model_with model solver) x = refl

  -- a change of a content, where the tuple fits
  abbrev fitting : (Content → Content) → Symbol → Symbol
  fitting g x = if_fits x t (g x.content)

  fitting-read : {Y : Type 0} (read : Symbol → Y) (g : Content → Content) (x : Symbol) → read (with_content x (g x.content)) ≡ read x → read (fitting g x) ≡ read x
  fitting-read read g x same = by (length t == length x.domain)
    where
      by : (b : Bool) → read (cond b (with_content x (g x.content)) x) ≡ read x
      by true = same
      by false = refl

  -- a name that is changed in this way and then taken out
  emptied-fitting : (g : Content → Content) → ((c : Content) → empty_content (g c) ≡ empty_content c) → ((n : ℕ) (c : Content) → alias_target n (g c) ≡ alias_target n c) → (state : State) (name : ℕ) → with_no_data (changed (fitting g) state (base_of state name)) name ≡ with_no_data state name
  emptied-fitting g empty alike state name =
      ap (changed empty_symbol (changed (fitting g) state (base_of state name))) (read-kept (λ (x : Symbol). alias_target name x.content) state (base_of state name) (fitting g (symbol_at state (base_of state name))) (fitting-read (λ (x : Symbol). alias_target name x.content) g (symbol_at state (base_of state name)) (alike name (symbol_at state (base_of state name)).content)) name)
      ∙ changed-over empty_symbol (fitting g) (λ (x : Symbol). fitting-read empty_symbol g x (ap (with_content x) (empty x.content))) state (base_of state name)

module _ {F : Type 0} (value : F → Number) where
  emptied-datum : (name : ℕ) (state : State) (datum : List ℕ × Option (Ext F)) → with_no_data (with_datum value name state datum) name ≡ with_no_data state name
  emptied-datum name state (t, None) =
      emptied-fitting t (λ c. with_membership c t true) (λ c. empty-membership t c true) (λ n c. following-membership t n c true) state name
  emptied-datum name state (t, Some x) =
      emptied-fitting t (λ c. with_value c t (extended value x)) (λ c. empty-value t c (extended value x)) (λ n c. following-value t n c (extended value x)) state name

  -- data that are given and taken out
  pub emptied-given : (name : ℕ) (state : State) (given : List (List ℕ × Option (Ext F))) → with_no_data (given_to value name state given) name ≡ with_no_data state name
  emptied-given name state [] = refl
  emptied-given name state (datum ∷ given) =
      emptied-given name (with_datum value name state datum) given ∙ emptied-datum name state datum

-- a name that nothing declares, or a free variable, has no data that can be taken out
still-emptied : (state : State) (name : ℕ) → (has_no_declaration state name || is_free (symbol_at state name).content) ≡ true → with_no_data state name ≡ state
still-emptied state name bare = by (symbol_at state name).content refl bare
  where
    plain : (content : Content) → (symbol_at state name).content ≡ content → alias_target name content ≡ name → empty_content content ≡ content → with_no_data state name ≡ state
    plain content is here none =
        ap (changed empty_symbol state) (ap (alias_target name) is ∙ here)
        ∙ changed-still empty_symbol state name (ap (with_content (symbol_at state name)) (ap empty_content is ∙ none ∙ sym is))

    by : (content : Content) → (symbol_at state name).content ≡ content → (is_undeclared content || is_free content) ≡ true → with_no_data state name ≡ state
    by undeclared is b = plain undeclared is refl refl
    by (alias_of base) is b = absurd cc
    by (set_of members) is b = absurd cc
    by (parameter_of entries) is b = absurd cc
    by (variable_of t entries) is b = plain (variable_of t entries) is refl refl
    by (equation_of entries) is b = absurd cc
    by (model_with model solver) is b = absurd cc

-- a new name is as its declaration makes it, once its data are removed
pub emptied-declared : (kind : DeclKind) (domain : List (Option ℕ)) (state : State) (name : ℕ) → (has_no_declaration state name || is_free (symbol_at state name).content) ≡ true → with_no_data (declare kind domain state name) name ≡ declare kind domain state name
emptied-declared kind domain state name bare =
    declared-emptied kind domain state name name ∙ ap (λ (t : State). declare kind domain t name) (still-emptied state name bare)
