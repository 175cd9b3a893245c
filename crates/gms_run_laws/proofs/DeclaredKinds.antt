-- A name that is declared before a statement of a program has the same kind and the same domain in
-- each state of its run.
use Rattle.std.proofs.Common.{◌≡◌, ◌<◌, ℕ, zero, suc, Bool, true, false, ◌&&◌, ◌==◌, List, [], ◌∷◌, length, map, slice_get, unwrap_or, refl, sym, ap, ◌∙◌, subst, arith}
use Rattle.std.proofs.lemmas.Bool.{eqb-true, and_parts}
use Rattle.gq_number.specs.Number.{Number}
use Rattle.gms_ast.specs.declared.program.Stmt.{Stmt}
use Rattle.gms_store.specs.declared.kind.SymbolKind.{SymbolKind}
use Rattle.gms_store.specs.declared.kind.SymbolKind.TheVariants as of_kind
use Rattle.gms_store.specs.State.{State, Content, undeclared, alias_of, set_of, parameter_of, variable_of, equation_of, model_with, Symbol, no_symbol, symbol_at, alias_target, base_of, with_content, has_attributes}
use Rattle.gms_store.specs.Declarations.{is_undeclared, kind_in}
use Rattle.gms_scope.specs.Names.{is_equation, has_no_declaration, declared_kind, positions}
use Rattle.gms_save_text.specs.Validity.{emptied, declared_symbols}
use Rattle.gms_check.specs.Checked.{FollowsIn}
use Rattle.gms_check.specs.Kinds.{is_variable_kind}
use Rattle.gms_check.specs.Loaded.{loaded, sound}
use Rattle.gms_check.specs.Past.{state_after}
use Rattle.gms_check.proofs.IndexSetsStay.{kind-loaded, domain-loaded}
use Rattle.gms_rows.specs.Affine.{is_variable_content}
use Rattle.gms_exec.specs.Elements.{IsElement}
use Rattle.gms_exec.specs.Run.{World}
use Rattle.lp_form.specs.declared.key.Key.{Key}
use Rattle.gms_run_laws.proofs.Lasting.{IsLasting}

-- ---- kinds

emptied-kind : (content : Content) → kind_in (emptied content) ≡ kind_in content
emptied-kind undeclared = refl
emptied-kind (alias_of base) = refl
emptied-kind (set_of members) = refl
emptied-kind (parameter_of entries) = refl
emptied-kind (variable_of type entries) = refl
emptied-kind (equation_of entries) = refl
emptied-kind (model_with m s) = refl

-- a variable is one by its kind
pub variable-word : (content : Content) → is_variable_content content ≡ is_variable_kind (kind_in content)
variable-word undeclared = refl
variable-word (alias_of base) = refl
variable-word (set_of members) = refl
variable-word (parameter_of entries) = refl
variable-word (variable_of type entries) = refl
variable-word (equation_of entries) = refl
variable-word (model_with m s) = refl

-- a symbol of which nothing is given
abbrev pub blanked : Symbol → Symbol
blanked symbol = with_content symbol (emptied symbol.content)

pub blanked-at : (symbols : List Symbol) (n : ℕ) → unwrap_or (slice_get (map blanked symbols) n) no_symbol ≡ blanked (unwrap_or (slice_get symbols n) no_symbol)
blanked-at [] n = refl
blanked-at (s ∷ symbols) zero = refl
blanked-at (s ∷ symbols) (suc n) = blanked-at symbols n

-- states that declare the same declare names of the same kinds
pub same-kinds : (a b : State) → declared_symbols a ≡ declared_symbols b → (n : ℕ) → declared_kind a n ≡ declared_kind b n
same-kinds a b same n =
    let read : List Symbol → SymbolKind = λ symbols. kind_in (unwrap_or (slice_get symbols n) no_symbol).content in
    sym (ap (λ (s : Symbol). kind_in s.content) (blanked-at a.symbols n) ∙ emptied-kind (symbol_at a n).content)
    ∙ ap read same
    ∙ (ap (λ (s : Symbol). kind_in s.content) (blanked-at b.symbols n) ∙ emptied-kind (symbol_at b n).content)

module _ {F : Type 0} (v : F → Number) (limit : ℕ) (world : World F) (state : State) (lasts : IsLasting v world.program state) (before : List (Stmt F)) (statement : Stmt F) (occurs : FollowsIn world.program before statement) where
  -- what is declared where the statement is
  abbrev then_state : State
  then_state = state_after v (length world.program.names) (sound before)

  -- a name that is declared then is of the same kind now
  pub kind-now : (n : ℕ) → has_no_declaration then_state n ≡ false → declared_kind state n ≡ declared_kind then_state n
  kind-now n declared =
      same-kinds state (loaded v world.program) lasts.later.declares n
      ∙ kind-loaded v world.program before statement occurs n declared

  -- and over the same domain
  pub domain-now : (n : ℕ) → has_no_declaration then_state n ≡ false → (symbol_at state n).domain ≡ (symbol_at then_state n).domain
  domain-now n declared =
      (lasts.stays n).domain ∙ domain-loaded v world.program before statement occurs n declared

-- ---- elements

-- whether a name of a kind has elements with levels and marginals
abbrev pub has_elements : SymbolKind → Bool
has_elements of_kind.Variable = true
has_elements of_kind.Equation = true
has_elements k = false

attributes-kind : (content : Content) → has_attributes content ≡ has_elements (kind_in content)
attributes-kind undeclared = refl
attributes-kind (alias_of base) = refl
attributes-kind (set_of members) = refl
attributes-kind (parameter_of entries) = refl
attributes-kind (variable_of type entries) = refl
attributes-kind (equation_of entries) = refl
attributes-kind (model_with m s) = refl

pub variable-elements : (k : SymbolKind) → is_variable_kind k ≡ true → has_elements k ≡ true
variable-elements of_kind.Variable e = refl
variable-elements k e = absurd (cc)

pub equation-elements : (k : SymbolKind) → is_equation k ≡ true → has_elements k ≡ true
equation-elements of_kind.Equation e = refl
equation-elements k e = absurd (cc)

-- no name is both a variable and an equation
pub not-both : (k : SymbolKind) → is_variable_kind k ≡ true → is_equation k ≡ true → ⊥
not-both of_kind.Variable e f = cc
not-both k e f = cc

-- a name with elements is no other name of a set
own-name : (n : ℕ) (content : Content) → has_attributes content ≡ true → alias_target n content ≡ n
own-name n undeclared e = refl
own-name n (alias_of base) e = absurd (cc)
own-name n (set_of members) e = refl
own-name n (parameter_of entries) e = refl
own-name n (variable_of type entries) e = refl
own-name n (equation_of entries) e = refl
own-name n (model_with m s) e = refl

-- and is declared
declared-too : (content : Content) → has_attributes content ≡ true → is_undeclared content ≡ false
declared-too undeclared e = absurd (cc)
declared-too (alias_of base) e = refl
declared-too (set_of members) e = refl
declared-too (parameter_of entries) e = refl
declared-too (variable_of type entries) e = refl
declared-too (equation_of entries) e = refl
declared-too (model_with m s) e = refl

declared-below : (symbols : List Symbol) (n : ℕ) → is_undeclared (unwrap_or (slice_get symbols n) no_symbol).content ≡ false → n < length symbols
declared-below [] n e = absurd (cc)
declared-below (s ∷ symbols) zero e = omega arith
declared-below (s ∷ symbols) (suc n) e = let rest = declared-below symbols n e in omega (arith, rest)

-- a name with elements stands for itself
pub own-base : (state : State) (n : ℕ) → has_elements (declared_kind state n) ≡ true → base_of state n ≡ n
own-base state n elements = own-name n (symbol_at state n).content (attributes-kind (symbol_at state n).content ∙ elements)

-- a tuple with as many labels as such a name has positions is one of its elements
pub is-element : (state : State) (key : Key) → has_elements (declared_kind state key.symbol) ≡ true → length key.tuple ≡ length (symbol_at state key.symbol).domain → IsElement state key
is-element state key elements long =
    let has : has_attributes (symbol_at state key.symbol).content ≡ true = attributes-kind (symbol_at state key.symbol).content ∙ elements in
    let base = own-base state key.symbol elements in
    record {
      declared = subst (λ m. m < length state.symbols) (sym base) (declared-below state.symbols key.symbol (declared-too (symbol_at state key.symbol).content has));
      kind = subst (λ m. has_attributes (symbol_at state m).content ≡ true) (sym base) has;
      labels = long ∙ ap (λ m. length (symbol_at state m).domain) (sym base);
    }

-- as many positions as the name had where it is declared
pub same-positions : (state known : State) (n : ℕ) → has_elements (declared_kind state n) ≡ true → declared_kind state n ≡ declared_kind known n → (symbol_at state n).domain ≡ (symbol_at known n).domain → length (positions known n) ≡ length (symbol_at state n).domain
same-positions state known n elements same_kind same_domain =
    ap (λ m. length (symbol_at known m).domain) (own-base known n (ap has_elements (sym same_kind) ∙ elements)) ∙ ap length (sym same_domain)

pub second-holds : (a b : Bool) → (a && b) ≡ true → b ≡ true
second-holds true b e = e
second-holds false b e = absurd (cc)

abbrev pub of_variable : State → Key → Bool
of_variable state key =
    is_variable_kind (declared_kind state key.symbol) && (length key.tuple == length (symbol_at state key.symbol).domain)

-- an element of a variable of the state
abbrev pub IsOfVariable : State → Key → Type 0
IsOfVariable state key = IsElement state key × (is_variable_kind (declared_kind state key.symbol) ≡ true)

-- an element of an equation of the state
abbrev pub IsOfEquation : State → Key → Type 0
IsOfEquation state key = IsElement state key × (is_equation (declared_kind state key.symbol) ≡ true)

pub variable-element : (state : State) (key : Key) → of_variable state key ≡ true → IsOfVariable state key
variable-element state key is =
    let variable = (and_parts (is_variable_kind (declared_kind state key.symbol)) (length key.tuple == length (symbol_at state key.symbol).domain) is).0 in
    let long = eqb-true (length key.tuple) (length (symbol_at state key.symbol).domain) (second-holds (is_variable_kind (declared_kind state key.symbol)) (length key.tuple == length (symbol_at state key.symbol).domain) is) in
    (is-element state key (variable-elements (declared_kind state key.symbol) variable) long, variable)
