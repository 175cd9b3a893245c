-- A model that is solved in an accepted program is declared in it, so that later statements change
-- none of its equations.
use Rattle.std.proofs.Common.{◌≡◌, ℕ, Bool, true, false, ◌||◌, ◌==◌, cond, if◌then◌else◌, List, [], ◌∷◌, ◌++◌, length, Some, None, Option, Ok, Err, Result, refl, sym, ap, ◌∙◌, subst, inl, inr}
use Rattle.std.specs.List.{fold, list_any}
use Rattle.std.proofs.lemmas.Bool.{both_ways, eq-eqb, and_parts}
use Rattle.gq_extended.specs.Extended.{Extended}
use Rattle.gq_extended.specs.Meaning.{extended as value_shown}
use Rattle.gq_number.specs.Number.{Number}
use Rattle.gms_ast.specs.declared.declaration.Decl.{Decl}
use Rattle.gms_ast.specs.declared.declaration.DeclKind.{DeclKind}
use Rattle.gms_ast.specs.declared.declaration.DeclKind.TheVariants as declaring
use Rattle.gms_ast.specs.declared.declaration.ModelDecl.{ModelDecl}
use Rattle.gms_ast.specs.declared.program.Act.{Act, roll-Act}
use Rattle.gms_ast.specs.declared.program.Act.TheOpen.{Act-F}
use Rattle.gms_ast.specs.declared.program.Act.TheVariants.{rolls-Declare, rolls-Alias, rolls-Assign, rolls-Define, rolls-Model, rolls-Solve, rolls-Display, rolls-Loop, rolls-Options, rolls-Abort}
use Rattle.gms_ast.specs.declared.program.Stmt.{Stmt}
use Rattle.gms_store.specs.declared.kind.SymbolKind.{SymbolKind}
use Rattle.gms_store.specs.declared.kind.SymbolKind.TheVariants as kind
use Rattle.gms_store.specs.declared.kind.VariableType.TheVariants as type
use Rattle.gms_store.specs.Declarations.{names_of, positions_of, content_of, symbol_of_kind, retyped, is_set, is_undeclared, put_at, declare, kind_in, alias_symbol, can_join, join_name, declare_alias, model_symbol, declare_model, blank_state}
use Rattle.gms_store.specs.State.{State, Content, undeclared, alias_of, set_of, parameter_of, variable_of, equation_of, model_with, Symbol, symbol_at, symbol_of, base_of, with_content, if_fits, with_membership, with_value}
use Rattle.gms_set.specs.declared.fault.SetFault.{SetFault}
use Rattle.gms_set.specs.Expansion.{ExpandedData, expanded}
use Rattle.gms_scope.specs.Data.{with_datum}
use Rattle.gms_scope.specs.Names.{is_model, declared_kind, has_no_declaration}
use Rattle.gms_check.specs.Loaded.{sound}
use Rattle.gms_check.specs.Past.{with_data, with_item, with_name, after_act, after_statement, state_after}
use Rattle.gms_check.proofs.Growing.{put-at, by_parts}
use Rattle.gms_check.proofs.IndexSetsStay.{none-declared}
use Rattle.gms_rows.specs.Rows.{distinct_numbers, listed_equations, found, equations_declared_by, models_of, equations_from}

pub or-right : (a b : Bool) → a ≡ false → (a || b) ≡ true → b ≡ true
or-right true b e both = absurd (cc)
or-right false b e both = both

-- ---- kinds

kind-again : (c : Content) (k : DeclKind) → kind_in (retyped c (content_of k)) ≡ kind_in c
kind-again undeclared k = refl
kind-again (alias_of base) k = refl
kind-again (set_of members) k = refl
kind-again (parameter_of entries) k = refl
kind-again (variable_of type.Free entries) declaring.Set = refl
kind-again (variable_of type.Free entries) declaring.Parameter = refl
kind-again (variable_of type.Free entries) declaring.Scalar = refl
kind-again (variable_of type.Free entries) declaring.Table = refl
kind-again (variable_of type.Free entries) declaring.Free = refl
kind-again (variable_of type.Free entries) declaring.Positive = refl
kind-again (variable_of type.Free entries) declaring.Negative = refl
kind-again (variable_of type.Free entries) declaring.Discrete = refl
kind-again (variable_of type.Free entries) declaring.Equation = refl
kind-again (variable_of type.Positive entries) k = refl
kind-again (variable_of type.Negative entries) k = refl
kind-again (variable_of type.Discrete entries) k = refl
kind-again (equation_of entries) k = refl
kind-again (model_with model solver) k = refl

kind-member : (c : Content) (t : List ℕ) → kind_in (with_membership c t true) ≡ kind_in c
kind-member undeclared t = refl
kind-member (alias_of base) t = refl
kind-member (set_of members) t = refl
kind-member (parameter_of entries) t = refl
kind-member (variable_of type entries) t = refl
kind-member (equation_of entries) t = refl
kind-member (model_with model solver) t = refl

kind-value : (c : Content) (t : List ℕ) (x : Extended) → kind_in (with_value c t x) ≡ kind_in c
kind-value undeclared t x = refl
kind-value (alias_of base) t x = refl
kind-value (set_of members) t x = refl
kind-value (parameter_of entries) t x = refl
kind-value (variable_of type entries) t x = refl
kind-value (equation_of entries) t x = refl
kind-value (model_with model solver) t x = refl

pub kind-fitted : (s : Symbol) (t : List ℕ) (new : Content) → kind_in new ≡ kind_in s.content → kind_in (if_fits s t new).content ≡ kind_in s.content
kind-fitted s t new same = by (length t == length s.domain)
  where
    by : (b : Bool) → kind_in (cond b (with_content s new) s).content ≡ kind_in s.content
    by true = same
    by false = refl

no-model : (k : DeclKind) → is_model (kind_in (content_of k)) ≡ false
no-model declaring.Set = refl
no-model declaring.Parameter = refl
no-model declaring.Scalar = refl
no-model declaring.Table = refl
no-model declaring.Free = refl
no-model declaring.Positive = refl
no-model declaring.Negative = refl
no-model declaring.Discrete = refl
no-model declaring.Equation = refl

-- what is not declared has no kind
no-kind : (c : Content) → is_undeclared c ≡ true → kind_in c ≡ kind.Undeclared
no-kind undeclared e = refl
no-kind (alias_of base) e = absurd (cc)
no-kind (set_of members) e = absurd (cc)
no-kind (parameter_of entries) e = absurd (cc)
no-kind (variable_of type entries) e = absurd (cc)
no-kind (equation_of entries) e = absurd (cc)
no-kind (model_with model solver) e = absurd (cc)

module _ (test : SymbolKind → Bool) (m : ℕ) where
  abbrev pub Fails : State → Type 0
  Fails s = test (declared_kind s m) ≡ false

  -- a kind that may be given to the name
  abbrev pub MayGet : ℕ → SymbolKind → Type 0
  MayGet i k = m ≡ i → test kind.Undeclared ≡ false → test k ≡ false

  fails-put : (s : State) (i : ℕ) (new : Symbol) → (m ≡ i → test (kind_in new.content) ≡ false) → Fails s → Fails (put_at s i new)
  fails-put s i new own fails = elim (put-at s i new m) [
    | inl same ↦ ap (λ (x : Symbol). test (kind_in x.content)) same ∙ fails
    | inr changed ↦ ap (λ (x : Symbol). test (kind_in x.content)) changed.1 ∙ own changed.0
  ]

  -- a new symbol of the same kind
  fails-alike : (s : State) (i : ℕ) (new : Symbol) → kind_in new.content ≡ declared_kind s i → Fails s → Fails (put_at s i new)
  fails-alike s i new same fails =
      fails-put s i new (λ at. ap test same ∙ ap (λ n. test (declared_kind s n)) (sym at) ∙ fails) fails

  -- one of a name that was not declared
  fails-fresh : (s : State) (i : ℕ) (new : Symbol) → has_no_declaration s i ≡ true → MayGet i (kind_in new.content) → Fails s → Fails (put_at s i new)
  fails-fresh s i new unknown may fails =
      fails-put s i new (λ at. may at (sym (ap (λ n. test (declared_kind s n)) at ∙ ap test (no-kind (symbol_at s i).content unknown)) ∙ fails)) fails

  fails-declare : (k : DeclKind) (domain : List (Option ℕ)) (s : State) (i : ℕ) → MayGet i (kind_in (content_of k)) → Fails s → Fails (declare k domain s i)
  fails-declare k domain s i may fails = by (is_undeclared (symbol_at s i).content) refl
    where
      by : (b : Bool) → is_undeclared (symbol_at s i).content ≡ b → Fails (put_at s i (cond b (symbol_of_kind k domain) (with_content (symbol_at s i) (retyped (symbol_at s i).content (content_of k)))))
      by true unknown = fails-fresh s i (symbol_of_kind k domain) unknown may fails
      by false known =
          fails-alike s i (with_content (symbol_at s i) (retyped (symbol_at s i).content (content_of k))) (kind-again (symbol_at s i).content k) fails

  fails-join : (s : State) (old new : ℕ) → can_join s old new ≡ true → MayGet new kind.Set → Fails s → Fails (join_name s old new)
  fails-join s old new can may fails =
      fails-fresh s new (alias_symbol (base_of s old)) ((and_parts (is_set (symbol_at s old).content) (is_undeclared (symbol_at s new).content) can).1) may fails

  pub fails-alias : (s : State) (one two : ℕ) → ((i : ℕ) → MayGet i kind.Set) → Fails s → Fails (declare_alias s one two)
  fails-alias s one two may fails = by (can_join s one two) (can_join s two one) refl refl
    where
      by : (a b : Bool) → can_join s one two ≡ a → can_join s two one ≡ b → Fails (cond a (join_name s one two) (cond b (join_name s two one) (declare declaring.Set [] (declare declaring.Set [] s one) two)))
      by true b can other = fails-join s one two can (may two) fails
      by false true none can = fails-join s two one can (may one) fails
      by false false none other = fails-declare declaring.Set [] (declare declaring.Set [] s one) two (may two) (fails-declare declaring.Set [] s one (may one) fails)

  pub fails-model : (s : State) (name : ℕ) → MayGet name kind.Model → Fails s → Fails (declare_model s name)
  fails-model s name may fails = by (is_undeclared (symbol_at s name).content) refl
    where
      by : (b : Bool) → is_undeclared (symbol_at s name).content ≡ b → Fails (cond b (put_at s name model_symbol) s)
      by true unknown = fails-fresh s name model_symbol unknown may fails
      by false known = fails

  module _ {F : Type 0} (v : F → Number) where
    fails-data : (ds : ExpandedData F) (s : State) (name : ℕ) → Fails s → Fails (fold (with_datum v name) s ds)
    fails-data [] s name fails = fails
    fails-data ((t, None) ∷ ds) s name fails =
        let x = symbol_of s name in
        fails-data ds (put_at s (base_of s name) (if_fits x t (with_membership x.content t true))) name (fails-alike s (base_of s name) (if_fits x t (with_membership x.content t true)) (kind-fitted x t (with_membership x.content t true) (kind-member x.content t)) fails)
    fails-data ((t, Some value) ∷ ds) s name fails =
        let x = symbol_of s name in
        fails-data ds (put_at s (base_of s name) (if_fits x t (with_value x.content t (value_shown v value)))) name (fails-alike s (base_of s name) (if_fits x t (with_value x.content t (value_shown v value))) (kind-fitted x t (with_value x.content t (value_shown v value)) (kind-value x.content t (value_shown v value))) fails)

    pub fails-given : (s : State) (name : ℕ) (given : Result (ExpandedData F) SetFault) → Fails s → Fails (with_data v s name given)
    fails-given s name (Ok given) fails = fails-data given s name fails
    fails-given s name (Err fault) fails = fails

    pub fails-item : (k : DeclKind) (s : State) (item : Decl F) → MayGet item.named.name (kind_in (content_of k)) → Fails s → Fails (with_item v k s item)
    fails-item k s item may fails =
        fails-given (with_name v k s item) item.named.name (expanded s (positions_of k (names_of item.domain)) item.items) (fails-declare k (names_of item.domain) s item.named.name may fails)

    pub fails-items : (k : DeclKind) → ((i : ℕ) → MayGet i (kind_in (content_of k))) → (items : List (Decl F)) (s : State) → Fails s → Fails (fold (with_item v k) s items)
    fails-items k may [] s fails = fails
    fails-items k may (item ∷ items) s fails =
        fails-items k may items (with_item v k s item) (fails-item k s item (may item.named.name) fails)

    -- where each kind may be given to the name
    pub fails-act : (any : (i : ℕ) (k : SymbolKind) → MayGet i k) (s : State) → Fails s → (act : Act F) → Fails (after_act v s act)
    fails-act any s fails act = by_parts P by act
      where
        P : Act F → Type 0
        P a = Fails (after_act v s a)

        models : (those : List ModelDecl) (s : State) → Fails s → Fails (fold (λ state (model : ModelDecl). declare_model state model.named.name) s those)
        models [] s fails = fails
        models (model ∷ those) s fails = models those (declare_model s model.named.name) (fails-model s model.named.name (any model.named.name kind.Model) fails)

        by : (layer : Act-F F (Act F) (Stmt F)) → P (roll-Act F layer)
        by (Act-F.Declare k items) = subst P (sym (rolls-Declare k items)) (fails-items k (λ i. any i (kind_in (content_of k))) items s fails)
        by (Act-F.Alias one two) = subst P (sym (rolls-Alias one two)) (fails-alias s one.name two.name (λ i. any i kind.Set) fails)
        by (Act-F.Assign target condition right_at right) = subst P (sym (rolls-Assign target condition right_at right)) fails
        by (Act-F.Define equation indices condition left_at left side right_at right) =
            subst P (sym (rolls-Define equation indices condition left_at left side right_at right)) fails
        by (Act-F.Model those) = subst P (sym (rolls-Model those)) (models those s fails)
        by (Act-F.Solve model method objective maximize) = subst P (sym (rolls-Solve model method objective maximize)) fails
        by (Act-F.Display items) = subst P (sym (rolls-Display items)) fails
        by (Act-F.Loop control body) = subst P (sym (rolls-Loop control body)) fails
        by (Act-F.Options settings) = subst P (sym (rolls-Options settings)) fails
        by (Act-F.Abort condition items) = subst P (sym (rolls-Abort condition items)) fails

-- ---- models

module _ (m : ℕ) where
  -- whether some of these models has the name
  abbrev pub has_model : List ModelDecl → Bool
  has_model models = list_any (λ (model : ModelDecl). model.named.name == m) models

  found-there : (declared : List ℕ) (models : List ModelDecl) → has_model models ≡ true → (es : List ℕ) × (found declared m models ≡ Some es)
  found-there declared [] there = absurd (cc)
  found-there declared (model ∷ models) there =
      by (model.named.name == m) there (λ following. found-there declared models following)
    where
      by : (b : Bool) → (b || has_model models) ≡ true → (has_model models ≡ true → (es : List ℕ) × (found declared m models ≡ Some es)) → (es : List ℕ) × ((if b then Some (listed_equations declared model) else found declared m models) ≡ Some es)
      by true there next = (listed_equations declared model, refl)
      by false there next = next there

  pub none-found : (declared : List ℕ) (models : List ModelDecl) → found declared m models ≡ None → has_model models ≡ false
  none-found declared models none = by (has_model models) refl
    where
      by : (b : Bool) → has_model models ≡ b → b ≡ false
      by true there = absurd (let f = found-there declared models there in let e : None ≡ Some f.0 = sym none ∙ f.1 in let z : ⊥ = cc in z)
      by false there = refl

  abbrev IsModelFree : State → Type 0
  IsModelFree s = is_model (declared_kind s m) ≡ false

  free-models : (models : List ModelDecl) (s : State) → has_model models ≡ false → IsModelFree s → IsModelFree (fold (λ state (model : ModelDecl). declare_model state model.named.name) s models)
  free-models [] s none free = free
  free-models (model ∷ models) s none free =
      free-models models (declare_model s model.named.name) (second (model.named.name == m) (has_model models) none)
      (fails-model is_model m s model.named.name (λ at empty. absurd (both_ways (model.named.name == m) (first (model.named.name == m) (has_model models) none) (eq-eqb model.named.name m (sym at)))) free)
    where
      first : (a b : Bool) → (a || b) ≡ false → a ≡ false
      first true b e = absurd (cc)
      first false b e = refl

      second : (a b : Bool) → (a || b) ≡ false → b ≡ false
      second true b e = absurd (cc)
      second false b e = e

  module _ {F : Type 0} where
    -- whether some statement declares the model
    abbrev pub declares_model : List (Stmt F) → Bool
    declares_model statements = list_any (λ (s : Stmt F). has_model (models_of s.act)) statements

    -- Statements after those that declare a model change none of its equations.
    pub equations-prefix : (declared : List ℕ) (statements others : List (Stmt F)) → declares_model statements ≡ true → equations_from declared m (statements ++ others) ≡ equations_from declared m statements
    equations-prefix declared [] others there = absurd (cc)
    equations-prefix declared (s ∷ statements) others there =
        by (found (distinct_numbers declared) m (models_of s.act)) refl (λ following. equations-prefix (declared ++ equations_declared_by s.act) statements others following)
      where
        by : (o : Option (List ℕ)) → found (distinct_numbers declared) m (models_of s.act) ≡ o →
            (declares_model statements ≡ true → equations_from (declared ++ equations_declared_by s.act) m (statements ++ others) ≡ equations_from (declared ++ equations_declared_by s.act) m statements) →
            ◌≡◌ {A = List ℕ} (elim o [ Some equations ↦ equations | None ↦ equations_from (declared ++ equations_declared_by s.act) m (statements ++ others) ]) (elim o [ Some equations ↦ equations | None ↦ equations_from (declared ++ equations_declared_by s.act) m statements ])
        by (Some equations) is next = refl
        by None is next =
            next (or-right (has_model (models_of s.act)) (declares_model statements) (none-found (distinct_numbers declared) (models_of s.act) is) there)

    free-act : (v : F → Number) (s : State) → IsModelFree s → (act : Act F) → has_model (models_of act) ≡ false → IsModelFree (after_act v s act)
    free-act v s free act = by_parts P by act
      where
        P : Act F → Type 0
        P a = has_model (models_of a) ≡ false → IsModelFree (after_act v s a)

        by : (layer : Act-F F (Act F) (Stmt F)) → P (roll-Act F layer)
        by (Act-F.Declare k items) = subst P (sym (rolls-Declare k items)) (λ none. fails-items is_model m v k (λ i at empty. no-model k) items s free)
        by (Act-F.Alias one two) = subst P (sym (rolls-Alias one two)) (λ none. fails-alias is_model m s one.name two.name (λ i at empty. refl) free)
        by (Act-F.Assign target condition right_at right) = subst P (sym (rolls-Assign target condition right_at right)) (λ none. free)
        by (Act-F.Define equation indices condition left_at left side right_at right) =
            subst P (sym (rolls-Define equation indices condition left_at left side right_at right)) (λ none. free)
        by (Act-F.Model models) = subst P (sym (rolls-Model models)) (λ none. free-models models s none free)
        by (Act-F.Solve model method objective maximize) = subst P (sym (rolls-Solve model method objective maximize)) (λ none. free)
        by (Act-F.Display items) = subst P (sym (rolls-Display items)) (λ none. free)
        by (Act-F.Loop control body) = subst P (sym (rolls-Loop control body)) (λ none. free)
        by (Act-F.Options settings) = subst P (sym (rolls-Options settings)) (λ none. free)
        by (Act-F.Abort condition items) = subst P (sym (rolls-Abort condition items)) (λ none. free)

    free-sound : (v : F → Number) (statements : List (Stmt F)) (s : State) → declares_model statements ≡ false → IsModelFree s → IsModelFree (fold (after_statement v) s (sound statements))
    free-sound v [] s none free = free
    free-sound v (statement ∷ statements) s none free =
        free-sound v statements (after_act v s statement.act) (second (has_model (models_of statement.act)) (declares_model statements) none) (free-act v s free statement.act (first (has_model (models_of statement.act)) (declares_model statements) none))
      where
        first : (a b : Bool) → (a || b) ≡ false → a ≡ false
        first true b e = absurd (cc)
        first false b e = refl

        second : (a b : Bool) → (a || b) ≡ false → b ≡ false
        second true b e = absurd (cc)
        second false b e = e

    -- A name is a model only where some statement declares it.
    pub model-declared : (v : F → Number) (count : ℕ) (statements : List (Stmt F)) → is_model (declared_kind (state_after v count (sound statements)) m) ≡ true → declares_model statements ≡ true
    model-declared v count statements is = by (declares_model statements) refl
      where
        by : (b : Bool) → declares_model statements ≡ b → b ≡ true
        by true there = refl
        by false none =
            absurd (both_ways (is_model (declared_kind (state_after v count (sound statements)) m)) (free-sound v statements (blank_state count) none (ap (λ (x : Symbol). is_model (kind_in x.content)) (none-declared count m))) is)
