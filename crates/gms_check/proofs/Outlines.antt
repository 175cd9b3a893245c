-- States with nothing given: what each name is declared as, and its positions.
use Rattle.std.proofs.Common.{◌≡◌, ℕ, zero, suc, Bool, true, false, ◌==◌, ◌&&◌, List, [], ◌∷◌, length, get_or, map, set, refl, ap, ◌∙◌, Option, Some, None, unwrap_or, if◌then◌else◌}
use Rattle.std.specs.Prelude.{slice_get}
use Rattle.std.specs.FinMap as finite
use Rattle.std.proofs.Math.Seq.{map-set_same}
use Rattle.std.proofs.lemmas.List.{map-set}
use Rattle.gq_number.specs.Number.{Number}
use Rattle.gq_extended.specs.Extended as extended
use Rattle.gq_extended.specs.Meaning.{extended as meaning}
use Rattle.gq_extended.specs.declared.extended.Ext.{Ext}
use Rattle.gms_ast.specs.declared.declaration.DeclKind.{DeclKind}
use Rattle.gms_store.specs.declared.kind.VariableType.TheVariants.{Free, Positive, Negative, Discrete}
use Rattle.gms_store.specs.State.{Content, undeclared, alias_of, set_of, parameter_of, variable_of, equation_of, model_with, Symbol, State, no_symbol, symbol_at, alias_target, base_of, symbol_of, with_content, with_membership, with_value, if_fits, after_membership, after_value}
use Rattle.gms_store.specs.Declarations.{content_of, declare, first_settings, is_set, is_undeclared, kind_in, put_at, retyped, symbol_of_kind}
use Rattle.gms_scope.specs.Below.{base_above, bounds, first_base, is_met_before}
use Rattle.gms_scope.specs.Data.{given_to, with_datum}
use Rattle.gms_scope.specs.Names.{has_one_position, is_index_set, is_set_name, has_no_declaration, declared_kind, positions}

-- a content with nothing given
abbrev pub shape : Content → Content
shape undeclared = undeclared
shape (alias_of base) = alias_of base
shape (set_of members) = set_of []
shape (parameter_of entries) = parameter_of finite.empty
shape (variable_of type entries) = variable_of Free finite.empty
shape (equation_of entries) = equation_of finite.empty
shape (model_with model solver) = model_with 0 0

-- a symbol with nothing given
abbrev pub outline : Symbol → Symbol
outline symbol = record { domain = symbol.domain; content = shape symbol.content }

-- a state with nothing given
abbrev pub drawn : State → State
drawn state = record { symbols = map outline state.symbols; settings = first_settings }

-- ---- what is read of it

following-shape : (name : ℕ) (c : Content) → alias_target name (shape c) ≡ alias_target name c
following-shape name undeclared = refl
following-shape name (alias_of base) = refl
following-shape name (set_of members) = refl
following-shape name (parameter_of entries) = refl
following-shape name (variable_of type entries) = refl
following-shape name (equation_of entries) = refl
following-shape name (model_with model solver) = refl

kind-shape : (c : Content) → kind_in (shape c) ≡ kind_in c
kind-shape undeclared = refl
kind-shape (alias_of base) = refl
kind-shape (set_of members) = refl
kind-shape (parameter_of entries) = refl
kind-shape (variable_of type entries) = refl
kind-shape (equation_of entries) = refl
kind-shape (model_with model solver) = refl

set-shape : (c : Content) → is_set (shape c) ≡ is_set c
set-shape undeclared = refl
set-shape (alias_of base) = refl
set-shape (set_of members) = refl
set-shape (parameter_of entries) = refl
set-shape (variable_of type entries) = refl
set-shape (equation_of entries) = refl
set-shape (model_with model solver) = refl

undeclared-shape : (c : Content) → is_undeclared (shape c) ≡ is_undeclared c
undeclared-shape undeclared = refl
undeclared-shape (alias_of base) = refl
undeclared-shape (set_of members) = refl
undeclared-shape (parameter_of entries) = refl
undeclared-shape (variable_of type entries) = refl
undeclared-shape (equation_of entries) = refl
undeclared-shape (model_with model solver) = refl

read-outline : (symbols : List Symbol) (n : ℕ) → unwrap_or (slice_get (map outline symbols) n) no_symbol ≡ outline (unwrap_or (slice_get symbols n) no_symbol)
read-outline [] n = refl
read-outline (s ∷ symbols) zero = refl
read-outline (s ∷ symbols) (suc n) = read-outline symbols n

pub read-at : (symbols : List Symbol) (n : ℕ) → unwrap_or (slice_get symbols n) no_symbol ≡ get_or symbols n no_symbol
read-at [] n = refl
read-at (s ∷ symbols) zero = refl
read-at (s ∷ symbols) (suc n) = read-at symbols n

module _ (state : State) where
  pub at-drawn : (n : ℕ) → symbol_at (drawn state) n ≡ outline (symbol_at state n)
  at-drawn n = read-outline state.symbols n

  pub base-drawn : (n : ℕ) → base_of (drawn state) n ≡ base_of state n
  base-drawn n = ap (λ (s : Symbol). alias_target n s.content) (at-drawn n) ∙ following-shape n (symbol_at state n).content

  pub kind-drawn : (n : ℕ) → declared_kind (drawn state) n ≡ declared_kind state n
  kind-drawn n = ap (λ (s : Symbol). kind_in s.content) (at-drawn n) ∙ kind-shape (symbol_at state n).content

  pub unknown-drawn : (n : ℕ) → has_no_declaration (drawn state) n ≡ has_no_declaration state n
  unknown-drawn n = ap (λ (s : Symbol). is_undeclared s.content) (at-drawn n) ∙ undeclared-shape (symbol_at state n).content

  pub set-drawn : (n : ℕ) → is_set_name (drawn state) n ≡ is_set_name state n
  set-drawn n = ap (λ (s : Symbol). is_set s.content) (at-drawn n) ∙ set-shape (symbol_at state n).content

  pub positions-drawn : (n : ℕ) → positions (drawn state) n ≡ positions state n
  positions-drawn n =
      ap (λ (b : ℕ). (symbol_at (drawn state) b).domain) (base-drawn n) ∙ ap (λ (s : Symbol). s.domain) (at-drawn (base_of state n))

  pub index-drawn : (n : ℕ) → is_index_set (drawn state) n ≡ is_index_set state n
  index-drawn n =
      ap (λ b. b && has_one_position (drawn state) n) (set-drawn n) ∙ ap (λ (ps : List (Option ℕ)). is_set_name state n && (length ps == 1)) (positions-drawn n)

  pub bounds-drawn : (declared : List ℕ) (name set : ℕ) → bounds (drawn state) declared name set ≡ bounds state declared name set
  bounds-drawn declared name set =
      ap (λ b. b && is_met_before declared set (base_of (drawn state) name)) (index-drawn set) ∙ ap (λ (b : ℕ). is_index_set state set && is_met_before declared set b) (base-drawn name)

  pub first-drawn : (domain : List (Option ℕ)) → first_base (drawn state) domain ≡ first_base state domain
  first-drawn [] = refl
  first-drawn (None ∷ domain) = refl
  first-drawn (Some set ∷ domain) =
      ap (λ b. if b then Some (base_of (drawn state) set) else None) (index-drawn set) ∙ ap (λ (b : ℕ). if is_index_set state set then Some b else None) (base-drawn set)

  pub base_above-drawn : (n : ℕ) → base_above (drawn state) n ≡ base_above state n
  base_above-drawn n =
      ap (λ b. if b then first_base (drawn state) (positions (drawn state) n) else None) (index-drawn n) ∙ ap (λ (o : Option ℕ). if is_index_set state n then o else None) (ap (first_base (drawn state)) (positions-drawn n) ∙ first-drawn (positions state n))

-- ---- what changes it

pub drawn-put : (state : State) (name : ℕ) (symbol : Symbol) → drawn (put_at state name symbol) ≡ put_at (drawn state) name (outline symbol)
drawn-put state name symbol = ap (λ (symbols : List Symbol). record { symbols = symbols; settings = first_settings }) (map-set outline state.symbols name symbol)

-- a symbol with the same outline changes nothing
pub drawn-same : (state : State) (name : ℕ) (symbol : Symbol) → outline symbol ≡ outline (symbol_at state name) → drawn (put_at state name symbol) ≡ drawn state
drawn-same state name symbol same =
    ap (λ (symbols : List Symbol). record { symbols = symbols; settings = first_settings }) (map-set_same outline state.symbols name symbol no_symbol (same ∙ ap outline (read-at state.symbols name)))

retyped-shape : (c later : Content) → shape (retyped c later) ≡ shape c
retyped-shape undeclared later = refl
retyped-shape (alias_of base) later = refl
retyped-shape (set_of members) later = refl
retyped-shape (parameter_of entries) later = refl
retyped-shape (variable_of Free entries) undeclared = refl
retyped-shape (variable_of Free entries) (alias_of base) = refl
retyped-shape (variable_of Free entries) (set_of members) = refl
retyped-shape (variable_of Free entries) (parameter_of others) = refl
retyped-shape (variable_of Free entries) (variable_of type others) = refl
retyped-shape (variable_of Free entries) (equation_of others) = refl
retyped-shape (variable_of Free entries) (model_with model solver) = refl
retyped-shape (variable_of Positive entries) later = refl
retyped-shape (variable_of Negative entries) later = refl
retyped-shape (variable_of Discrete entries) later = refl
retyped-shape (equation_of entries) later = refl
retyped-shape (model_with model solver) later = refl

pub drawn-declare_new : (kind : DeclKind) (domain : List (Option ℕ)) (state : State) (name : ℕ) → has_no_declaration state name ≡ true → drawn (declare kind domain state name) ≡ put_at (drawn state) name (outline (symbol_of_kind kind domain))
drawn-declare_new kind domain state name new =
    ap (λ (b : Bool). drawn (put_at state name (if b then symbol_of_kind kind domain else with_content (symbol_at state name) (retyped (symbol_at state name).content (content_of kind))))) new ∙ drawn-put state name (symbol_of_kind kind domain)

pub drawn-declare_again : (kind : DeclKind) (domain : List (Option ℕ)) (state : State) (name : ℕ) → has_no_declaration state name ≡ false → drawn (declare kind domain state name) ≡ drawn state
drawn-declare_again kind domain state name old =
    ap (λ (b : Bool). drawn (put_at state name (if b then symbol_of_kind kind domain else with_content (symbol_at state name) (retyped (symbol_at state name).content (content_of kind))))) old ∙ drawn-same state name (with_content (symbol_at state name) (retyped (symbol_at state name).content (content_of kind))) (ap (λ (c : Content). record { domain = (symbol_at state name).domain; content = c }) (retyped-shape (symbol_at state name).content (content_of kind)))

membership-shape : (c : Content) (t : List ℕ) (on : Bool) → shape (with_membership c t on) ≡ shape c
membership-shape undeclared t on = refl
membership-shape (alias_of base) t on = refl
membership-shape (set_of members) t on = refl
membership-shape (parameter_of entries) t on = refl
membership-shape (variable_of type entries) t on = refl
membership-shape (equation_of entries) t on = refl
membership-shape (model_with model solver) t on = refl

value-shape : (c : Content) (t : List ℕ) (x : extended.Extended) → shape (with_value c t x) ≡ shape c
value-shape undeclared t x = refl
value-shape (alias_of base) t x = refl
value-shape (set_of members) t x = refl
value-shape (parameter_of entries) t x = refl
value-shape (variable_of type entries) t x = refl
value-shape (equation_of entries) t x = refl
value-shape (model_with model solver) t x = refl

fits-outline : (s : Symbol) (t : List ℕ) (c : Content) → shape c ≡ shape s.content → outline (if_fits s t c) ≡ outline s
fits-outline s t c same = by (length t == length s.domain)
  where
    by : (b : Bool) → outline (if b then with_content s c else s) ≡ outline s
    by true = ap (λ (c : Content). record { domain = s.domain; content = c }) same
    by false = refl

drawn-membership : (state : State) (name : ℕ) (t : List ℕ) (on : Bool) → drawn (after_membership state name t on) ≡ drawn state
drawn-membership state name t on =
    drawn-same state (base_of state name) (if_fits (symbol_of state name) t (with_membership (symbol_of state name).content t on)) (fits-outline (symbol_of state name) t (with_membership (symbol_of state name).content t on) (membership-shape (symbol_of state name).content t on))

drawn-value : (state : State) (name : ℕ) (t : List ℕ) (x : extended.Extended) → drawn (after_value state name t x) ≡ drawn state
drawn-value state name t x =
    drawn-same state (base_of state name) (if_fits (symbol_of state name) t (with_value (symbol_of state name).content t x)) (fits-outline (symbol_of state name) t (with_value (symbol_of state name).content t x) (value-shape (symbol_of state name).content t x))

module _ {F : Type 0} (value : F → Number) where
  drawn-datum : (name : ℕ) (state : State) (datum : List ℕ × Option (Ext F)) → drawn (with_datum value name state datum) ≡ drawn state
  drawn-datum name state (t, None) = drawn-membership state name t true
  drawn-datum name state (t, Some x) = drawn-value state name t (meaning value x)

  -- data change nothing
  pub drawn-given : (name : ℕ) (given : List (List ℕ × Option (Ext F))) (state : State) → drawn (given_to value name state given) ≡ drawn state
  drawn-given name [] state = refl
  drawn-given name (datum ∷ given) state =
      drawn-given name given (with_datum value name state datum) ∙ drawn-datum name state datum
