-- What a statement without an error does to a name, and that it changes no other.
use Rattle.std.proofs.lemmas.Bool.{and_parts}
use Rattle.std.proofs.Common.{◌≡◌, ◌≢◌, ℕ, Bool, true, false, not, ◌&&◌, ◌||◌, List, [], ◌∷◌, length, refl, sym, ap, ◌∙◌, Option, Some, None, Result, if◌then◌else◌}
use Rattle.std.specs.Prelude.{nat_lt}
use Rattle.std.specs.FinMap as finite
use Rattle.std.proofs.lemmas.List.{length-map, length-set}
use Rattle.gq_number.specs.Number.{Number}
use Rattle.gq_extended.specs.Meaning.{extended as meaning}
use Rattle.gq_extended.specs.declared.extended.Ext.{Ext}
use Rattle.gms_ast.specs.declared.declaration.DeclKind.{DeclKind}
use Rattle.gms_ast.specs.declared.declaration.DeclKind.TheVariants as declaring
use Rattle.gms_ast.specs.declared.declaration.Decl.{Decl}
use Rattle.gms_store.specs.declared.kind.VariableType.{VariableType}
use Rattle.gms_store.specs.declared.kind.VariableType.TheVariants as type
use Rattle.gms_store.specs.State.{Entries, Attributes, Content, undeclared, alias_of, set_of, parameter_of, variable_of, equation_of, model_with, Symbol, State, symbol_at, alias_target, base_of, if_fits, with_content, with_membership, with_value}
use Rattle.gms_store.specs.Declarations.{alias_symbol, can_join, content_of, declare, declare_alias, declare_model, declared_again, is_free, is_set, is_undeclared, join_name, model_symbol, names_of, put_at, retyped, symbol_of_kind}
use Rattle.gms_set.specs.declared.fault.SetFault.{SetFault}
use Rattle.gms_set.specs.Expansion.{ExpandedData}
use Rattle.gms_scope.specs.Data.{given_to, with_datum}
use Rattle.gms_scope.specs.Names.{has_no_declaration, positions}
use Rattle.gms_check.specs.declared.error.ErrorKind.TheVariants.{Redeclared}
use Rattle.gms_check.specs.DeclarationUses.{item_uses}
use Rattle.gms_check.specs.DeclaredData.{type_of}
use Rattle.gms_check.specs.Names.{is_variable, repeats_domain}
use Rattle.gms_check.specs.Past.{Known, with_data, with_item}
use Rattle.gms_check.proofs.Emptied.{put-past, put-same, put-other, read-kept}
use Rattle.gms_check.proofs.GivenData.{with_datum_in, data_in, data-quiet}
use Rattle.gms_check.proofs.LoadedData.{item-loadable}
use Rattle.gms_check.proofs.NoErrors.{AreClean}
use Rattle.gms_check.proofs.Outlines.{base-drawn, drawn-given, outline}

-- ---- a name that is declared

-- a content with which a name may be declared: of nothing, or of a variable whose type is free
abbrev pub IsBare : Content → Type 0
IsBare c = (is_undeclared c || is_free c) ≡ true

following-kind : (name : ℕ) (kind : DeclKind) → alias_target name (content_of kind) ≡ name
following-kind name declaring.Set = refl
following-kind name declaring.Parameter = refl
following-kind name declaring.Scalar = refl
following-kind name declaring.Table = refl
following-kind name declaring.Free = refl
following-kind name declaring.Positive = refl
following-kind name declaring.Negative = refl
following-kind name declaring.Discrete = refl
following-kind name declaring.Equation = refl

following-retyped : (name : ℕ) (entries : Entries Attributes) (kind : DeclKind) → alias_target name (retyped (variable_of type.Free entries) (content_of kind)) ≡ name
following-retyped name entries declaring.Set = refl
following-retyped name entries declaring.Parameter = refl
following-retyped name entries declaring.Scalar = refl
following-retyped name entries declaring.Table = refl
following-retyped name entries declaring.Free = refl
following-retyped name entries declaring.Positive = refl
following-retyped name entries declaring.Negative = refl
following-retyped name entries declaring.Discrete = refl
following-retyped name entries declaring.Equation = refl

-- the content of a name after a declaration of it
abbrev content_again : DeclKind → Content → Content
content_again kind c = if is_undeclared c then content_of kind else retyped c (content_of kind)

content-declared : (kind : DeclKind) (domain : List (Option ℕ)) (s : Symbol) → (declared_again kind domain s).content ≡ content_again kind s.content
content-declared kind domain s = by (is_undeclared s.content)
  where
    by : (b : Bool) → (if b then symbol_of_kind kind domain else with_content s (retyped s.content (content_of kind))).content ≡ (if b then content_of kind else retyped s.content (content_of kind))
    by true = refl
    by false = refl

following-again : (name : ℕ) (kind : DeclKind) (c : Content) → IsBare c → alias_target name (content_again kind c) ≡ name
following-again name kind undeclared bare = following-kind name kind
following-again name kind (alias_of base) bare = absurd cc
following-again name kind (set_of members) bare = absurd cc
following-again name kind (parameter_of entries) bare = absurd cc
following-again name kind (variable_of type.Free entries) bare = following-retyped name entries kind
following-again name kind (variable_of type.Positive entries) bare = absurd cc
following-again name kind (variable_of type.Negative entries) bare = absurd cc
following-again name kind (variable_of type.Discrete entries) bare = absurd cc
following-again name kind (equation_of entries) bare = absurd cc
following-again name kind (model_with model solver) bare = absurd cc

following-bare : (name : ℕ) (c : Content) → IsBare c → alias_target name c ≡ name
following-bare name undeclared bare = refl
following-bare name (alias_of base) bare = absurd cc
following-bare name (set_of members) bare = refl
following-bare name (parameter_of entries) bare = refl
following-bare name (variable_of t entries) bare = refl
following-bare name (equation_of entries) bare = refl
following-bare name (model_with model solver) bare = refl

-- the name that is declared stands for itself
own-declared : (kind : DeclKind) (domain : List (Option ℕ)) (state : State) (name : ℕ) → IsBare (symbol_at state name).content → base_of (declare kind domain state name) name ≡ name
own-declared kind domain state name bare = by (nat_lt name (length state.symbols)) refl
  where
    by : (b : Bool) → nat_lt name (length state.symbols) ≡ b → base_of (declare kind domain state name) name ≡ name
    by true within =
        ap (λ (s : Symbol). alias_target name s.content) (put-same state name (declared_again kind domain (symbol_at state name)) within)
        ∙ ap (alias_target name) (content-declared kind domain (symbol_at state name))
        ∙ following-again name kind (symbol_at state name).content bare
    by false past =
        ap (λ (s : State). base_of s name) (put-past state name (declared_again kind domain (symbol_at state name)) past)
        ∙ following-bare name (symbol_at state name).content bare

-- ---- data of a name

module _ {F : Type 0} (value : F → Number) where
  datum-put : (name : ℕ) (state : State) (d : List ℕ × Option (Ext F)) → base_of state name ≡ name → with_datum value name state d ≡ put_at state name (with_datum_in value (symbol_at state name) d)
  datum-put name state (t, None) own =
      ap (λ (b : ℕ). put_at state b (if_fits (symbol_at state b) t (with_membership (symbol_at state b).content t true))) own
  datum-put name state (t, Some x) own =
      ap (λ (b : ℕ). put_at state b (if_fits (symbol_at state b) t (with_value (symbol_at state b).content t (meaning value x)))) own

  base-given : (name : ℕ) (ds : ExpandedData F) (state : State) (n : ℕ) → base_of (given_to value name state ds) n ≡ base_of state n
  base-given name ds state n =
      sym (base-drawn (given_to value name state ds) n) ∙ ap (λ (s : State). base_of s n) (drawn-given value name ds state) ∙ base-drawn state n

  size-given : (name : ℕ) (ds : ExpandedData F) (state : State) → length (given_to value name state ds).symbols ≡ length state.symbols
  size-given name ds state =
      sym (length-map (given_to value name state ds).symbols outline) ∙ ap (λ (s : State). length s.symbols) (drawn-given value name ds state) ∙ length-map state.symbols outline

  -- they leave every other name
  other-given : (name n : ℕ) (ds : ExpandedData F) (state : State) → n ≢ name → base_of state name ≡ name → symbol_at (given_to value name state ds) n ≡ symbol_at state n
  other-given name n [] state ne own = refl
  other-given name n (d ∷ ds) state ne own =
      other-given name n ds (with_datum value name state d) ne (base-given name (d ∷ []) state name ∙ own)
      ∙ ap (λ (s : State). symbol_at s n) (datum-put name state d own)
      ∙ put-other state name n (with_datum_in value (symbol_at state name) d) ne

  -- the data of a name change its own symbol so
  own-given : (name : ℕ) (ds : ExpandedData F) (state : State) → base_of state name ≡ name → nat_lt name (length state.symbols) ≡ true → symbol_at (given_to value name state ds) name ≡ data_in value (symbol_at state name) ds
  own-given name [] state own within = refl
  own-given name (d ∷ ds) state own within =
      own-given name ds (with_datum value name state d) (base-given name (d ∷ []) state name ∙ own) (ap (nat_lt name) (size-given name (d ∷ []) state) ∙ within)
      ∙ ap (λ s. data_in value s ds) (ap (λ (s : State). symbol_at s name) (datum-put name state d own) ∙ put-same state name (with_datum_in value (symbol_at state name) d) within)

-- ---- one name with its data

module _ {F : Type 0} where
  -- what a name without an error is before its declaration
  pub clean-bare : (known : Known F) (kind : DeclKind) (item : Decl F) → AreClean known (item_uses known kind item) → IsBare (symbol_at known.state item.named.name).content
  clean-bare known kind item clean =
      by (has_no_declaration known.state item.named.name) (is_free (symbol_at known.state item.named.name).content) (is_variable (content_of kind)) (repeats_domain known.state (names_of item.domain) (positions known.state item.named.name)) (clean.0 Redeclared)
    where
      by : (u f v r : Bool) → (not u && not (f && (v && r))) ≡ false → (u || f) ≡ true
      by true f v r e = refl
      by false true v r e = refl
      by false false v r e = absurd cc

  -- and where it is no variable, it is of nothing
  pub clean-new : (known : Known F) (kind : DeclKind) (item : Decl F) → AreClean known (item_uses known kind item) → is_variable (content_of kind) ≡ false → has_no_declaration known.state item.named.name ≡ true
  clean-new known kind item clean none =
      by (has_no_declaration known.state item.named.name) (is_free (symbol_at known.state item.named.name).content) (is_variable (content_of kind)) (repeats_domain known.state (names_of item.domain) (positions known.state item.named.name)) (clean.0 Redeclared) none
    where
      by : (u f v r : Bool) → (not u && not (f && (v && r))) ≡ false → v ≡ false → u ≡ true
      by true f v r e none = refl
      by false true true r e none = absurd cc
      by false true false r e none = absurd cc
      by false false v r e none = absurd cc

  module _ (known : Known F) (kind : DeclKind) (item : Decl F) (clean : AreClean known (item_uses known kind item)) where
    abbrev pub given : ExpandedData F
    given = (item-loadable known kind item clean).given.0

    -- the state after it
    abbrev named : State
    named = declare kind (names_of item.domain) known.state item.named.name

    item-state : with_item known.value kind known.state item ≡ given_to known.value item.named.name named given
    item-state =
        ap (λ (r : Result (ExpandedData F) SetFault). with_data known.value named item.named.name r) (item-loadable known kind item clean).given.1

    own-name : base_of named item.named.name ≡ item.named.name
    own-name = own-declared kind (names_of item.domain) known.state item.named.name (clean-bare known kind item clean)

    -- every other name is unchanged
    pub item-other : (n : ℕ) → n ≢ item.named.name → symbol_at (with_item known.value kind known.state item) n ≡ symbol_at known.state n
    item-other n ne =
        ap (λ (s : State). symbol_at s n) item-state
        ∙ other-given known.value item.named.name n given named ne own-name
        ∙ put-other known.state item.named.name n (declared_again kind (names_of item.domain) (symbol_at known.state item.named.name)) ne

    -- the name itself is as its declaration makes it, with its data
    pub item-own : nat_lt item.named.name (length known.state.symbols) ≡ true → symbol_at (with_item known.value kind known.state item) item.named.name ≡ data_in known.value (declared_again kind (names_of item.domain) (symbol_at known.state item.named.name)) given
    item-own within =
        ap (λ (s : State). symbol_at s item.named.name) item-state
        ∙ own-given known.value item.named.name given named own-name (ap (nat_lt item.named.name) (length-set known.state.symbols item.named.name (declared_again kind (names_of item.domain) (symbol_at known.state item.named.name))) ∙ within)
        ∙ ap (λ s. data_in known.value s given) (put-same known.state item.named.name (declared_again kind (names_of item.domain) (symbol_at known.state item.named.name)) within)

    pub item-size : length (with_item known.value kind known.state item).symbols ≡ length known.state.symbols
    item-size =
        ap (λ (s : State). length s.symbols) item-state
        ∙ size-given known.value item.named.name given named
        ∙ length-set known.state.symbols item.named.name (declared_again kind (names_of item.domain) (symbol_at known.state item.named.name))

-- ---- what each name is after a declaration of it

pub new-symbol : (kind : DeclKind) (domain : List (Option ℕ)) (s : Symbol) → is_undeclared s.content ≡ true → declared_again kind domain s ≡ symbol_of_kind kind domain
new-symbol kind domain s new =
    ap (λ (b : Bool). if b then symbol_of_kind kind domain else with_content s (retyped s.content (content_of kind))) new

typed-kind : (kind : DeclKind) (t : VariableType) → type_of kind ≡ Some t → content_of kind ≡ variable_of t finite.empty
typed-kind declaring.Set t e = absurd cc
typed-kind declaring.Parameter t e = absurd cc
typed-kind declaring.Scalar t e = absurd cc
typed-kind declaring.Table t e = absurd cc
typed-kind declaring.Free t e = ap (λ (o : Option VariableType). by o) e
  where
    by : Option VariableType → Content
    by None = undeclared
    by (Some t) = variable_of t finite.empty
typed-kind declaring.Positive t e = ap (λ (o : Option VariableType). by o) e
  where
    by : Option VariableType → Content
    by None = undeclared
    by (Some t) = variable_of t finite.empty
typed-kind declaring.Negative t e = ap (λ (o : Option VariableType). by o) e
  where
    by : Option VariableType → Content
    by None = undeclared
    by (Some t) = variable_of t finite.empty
typed-kind declaring.Discrete t e = ap (λ (o : Option VariableType). by o) e
  where
    by : Option VariableType → Content
    by None = undeclared
    by (Some t) = variable_of t finite.empty
typed-kind declaring.Equation t e = absurd cc

-- a variable has the type of its declaration, with nothing given
pub typed-content : (kind : DeclKind) (domain : List (Option ℕ)) (s : Symbol) (t : VariableType) → type_of kind ≡ Some t → IsBare s.content → (declared_again kind domain s).content ≡ variable_of t finite.empty
typed-content kind domain s t is bare =
    content-declared kind domain s ∙ ap (λ (c : Content). if is_undeclared s.content then c else retyped s.content c) (typed-kind kind t is) ∙ by s.content bare
  where
    by : (c : Content) → IsBare c → (if is_undeclared c then variable_of t finite.empty else retyped c (variable_of t finite.empty)) ≡ variable_of t finite.empty
    by undeclared bare = refl
    by (alias_of base) bare = absurd cc
    by (set_of members) bare = absurd cc
    by (parameter_of entries) bare = absurd cc
    by (variable_of type.Free entries) bare = refl
    by (variable_of type.Positive entries) bare = absurd cc
    by (variable_of type.Negative entries) bare = absurd cc
    by (variable_of type.Discrete entries) bare = absurd cc
    by (equation_of entries) bare = absurd cc
    by (model_with model solver) bare = absurd cc

-- data leave a variable
pub variable-quiet : {F : Type 0} (value : F → Number) (ds : ExpandedData F) (s : Symbol) (t : VariableType) → s.content ≡ variable_of t finite.empty → data_in value s ds ≡ s
variable-quiet value ds s t is =
    data-quiet value ds s (λ u on. ap (λ c. with_membership c u on) is ∙ sym is) (λ u y. ap (λ c. with_value c u y) is ∙ sym is)

-- ---- other declarations

-- declaring a set once more changes nothing
set-again : (s : Symbol) → is_undeclared s.content ≡ false → declared_again declaring.Set [] s ≡ s
set-again s old =
    ap (λ (b : Bool). if b then symbol_of_kind declaring.Set [] else with_content s (retyped s.content (set_of []))) old ∙ ap (with_content s) (by s.content)
  where
    by : (c : Content) → retyped c (set_of []) ≡ c
    by undeclared = refl
    by (alias_of base) = refl
    by (set_of members) = refl
    by (parameter_of entries) = refl
    by (variable_of type.Free entries) = refl
    by (variable_of type.Positive entries) = refl
    by (variable_of type.Negative entries) = refl
    by (variable_of type.Discrete entries) = refl
    by (equation_of entries) = refl
    by (model_with model solver) = refl

abbrev pub IsApart : State → ℕ → ℕ → Type 0
IsApart state n m = has_no_declaration state m ≡ true → n ≢ m

module _ (state : State) (n : ℕ) where
  pub set-other : (m : ℕ) → IsApart state n m → symbol_at (declare declaring.Set [] state m) n ≡ symbol_at state n
  set-other m apart = by (has_no_declaration state m) refl
    where
      by : (b : Bool) → has_no_declaration state m ≡ b → symbol_at (declare declaring.Set [] state m) n ≡ symbol_at state n
      by true new = put-other state m n (declared_again declaring.Set [] (symbol_at state m)) (apart new)
      by false old =
          read-kept (λ (s : Symbol). s) state m (declared_again declaring.Set [] (symbol_at state m)) (set-again (symbol_at state m) old) n

  join-other : (old new : ℕ) → can_join state old new ≡ true → IsApart state n new → symbol_at (join_name state old new) n ≡ symbol_at state n
  join-other old new can apart =
      put-other state new n (alias_symbol (base_of state old)) (apart ((and_parts (is_set (symbol_at state old).content) (has_no_declaration state new) can).1))

  pub model-other : (m : ℕ) → IsApart state n m → symbol_at (declare_model state m) n ≡ symbol_at state n
  model-other m apart = by (has_no_declaration state m) refl
    where
      by : (b : Bool) → has_no_declaration state m ≡ b → symbol_at (if b then put_at state m model_symbol else state) n ≡ symbol_at state n
      by true new = put-other state m n model_symbol (apart new)
      by false old = refl

pub alias-other : (state : State) (n first second : ℕ) → IsApart state n first → IsApart (declare declaring.Set [] state first) n second → IsApart state n second → symbol_at (declare_alias state first second) n ≡ symbol_at state n
alias-other state n first second apart later other = by (can_join state first second) (can_join state second first) refl refl
  where
    by : (a b : Bool) → can_join state first second ≡ a → can_join state second first ≡ b → symbol_at (if a then join_name state first second else if b then join_name state second first else declare declaring.Set [] (declare declaring.Set [] state first) second) n ≡ symbol_at state n
    by true b one two = join-other state n first second one other
    by false true one two = join-other state n second first two apart
    by false false one two =
        set-other (declare declaring.Set [] state first) n second later ∙ set-other state n first apart
