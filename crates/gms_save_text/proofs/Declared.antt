-- Writing data into a state changes nothing of what it declares; and the state that the
-- declarations of a program make has no data.
use Rattle.std.proofs.Common.{◌≡◌, ℕ, zero, suc, ◌==◌, Bool, true, false, List, [], ◌∷◌, length, set, map, replicate, slice_get, refl, ap, ◌∙◌, Option, unwrap_or}
use Rattle.std.specs.Prelude.{if◌then◌else◌}
use Rattle.std.specs.List.{AllByRecursion}
use Rattle.gq_extended.specs.Extended as extended
use Rattle.gms_ast.specs.declared.declaration.DeclKind.{DeclKind}
use Rattle.gms_ast.specs.declared.declaration.DeclKind.TheVariants.{Set, Parameter, Scalar, Table, Free, Positive, Negative, Discrete, Equation}
use Rattle.gms_ast.specs.declared.declaration.Decl.{Decl}
use Rattle.gms_ast.specs.declared.declaration.ModelDecl.{ModelDecl}
use Rattle.gms_ast.specs.declared.program.Act.{Act}
use Rattle.gms_ast.specs.declared.program.Act.TheVariants.{Declare, Alias, Model}
use Rattle.gms_ast.specs.declared.program.Stmt.{Stmt}
use Rattle.gms_ast.specs.declared.program.Program.{Program}
use Rattle.gms_store.specs.declared.kind.VariableType.TheVariants as type
use Rattle.gms_store.specs.State.{Attributes, Content, undeclared, alias_of, set_of, parameter_of, variable_of, equation_of, model_with, Symbol, State, no_symbol, symbol_at, base_of, symbol_of, with_symbol, with_content, if_fits, with_membership, with_value, with_attributes, with_statuses, after_membership, after_value, after_attributes, after_statuses}
use Rattle.gms_store.specs.Declarations.{names_of, content_of, symbol_of_kind, retyped, is_undeclared, declared_again, put_at, declare, alias_symbol, model_symbol, join_name, can_join, declare_alias, declare_model, declare_models, blank_state, declare_each, declared_by, declared_by_all, declared_state}
use Rattle.gms_save_text.specs.Validity.{emptied, declared_symbols}
use Rattle.gms_save_text.proofs.Filling.{set-length}

-- a symbol with nothing given
abbrev pub blanked : Symbol → Symbol
blanked symbol = with_content symbol (emptied symbol.content)

-- ---- writes

blanked-set : (xs : List Symbol) (i : ℕ) (v : Symbol) → blanked v ≡ blanked (unwrap_or (slice_get xs i) no_symbol) → map blanked (set xs i v) ≡ map blanked xs
blanked-set [] i v same = refl
blanked-set (x ∷ xs) zero v same = ap (λ (s : Symbol). s ∷ map blanked xs) same
blanked-set (x ∷ xs) (suc i) v same = ap (λ (ys : List Symbol). blanked x ∷ ys) (blanked-set xs i v same)

-- a name that stands for another symbol, which declares the same
declared-with_symbol : (state : State) (name : ℕ) (v : Symbol) → blanked v ≡ blanked (symbol_of state name) → declared_symbols (with_symbol state name v) ≡ declared_symbols state
declared-with_symbol state name v same = blanked-set state.symbols (base_of state name) v same

fits-blanked : (s : Symbol) (t : List ℕ) (new : Content) → emptied new ≡ emptied s.content → blanked (if_fits s t new) ≡ blanked s
fits-blanked s t new same = by (length t == length s.domain)
  where
    by : (b : Bool) → blanked (if b then with_content s new else s) ≡ blanked s
    by true = ap (λ (c : Content). record { domain = s.domain; content = c }) same
    by false = refl

membership-emptied : (c : Content) (t : List ℕ) (on : Bool) → emptied (with_membership c t on) ≡ emptied c
membership-emptied undeclared t on = refl
membership-emptied (alias_of base) t on = refl
membership-emptied (set_of members) t on = refl
membership-emptied (parameter_of entries) t on = refl
membership-emptied (variable_of type entries) t on = refl
membership-emptied (equation_of entries) t on = refl
membership-emptied (model_with model solver) t on = refl

value-emptied : (c : Content) (t : List ℕ) (x : extended.Extended) → emptied (with_value c t x) ≡ emptied c
value-emptied undeclared t x = refl
value-emptied (alias_of base) t x = refl
value-emptied (set_of members) t x = refl
value-emptied (parameter_of entries) t x = refl
value-emptied (variable_of type entries) t x = refl
value-emptied (equation_of entries) t x = refl
value-emptied (model_with model solver) t x = refl

attributes-emptied : (c : Content) (t : List ℕ) (a : Attributes) → emptied (with_attributes c t a) ≡ emptied c
attributes-emptied undeclared t a = refl
attributes-emptied (alias_of base) t a = refl
attributes-emptied (set_of members) t a = refl
attributes-emptied (parameter_of entries) t a = refl
attributes-emptied (variable_of type entries) t a = refl
attributes-emptied (equation_of entries) t a = refl
attributes-emptied (model_with model solver) t a = refl

statuses-emptied : (c : Content) (m s : ℕ) → emptied (with_statuses c m s) ≡ emptied c
statuses-emptied undeclared m s = refl
statuses-emptied (alias_of base) m s = refl
statuses-emptied (set_of members) m s = refl
statuses-emptied (parameter_of entries) m s = refl
statuses-emptied (variable_of type entries) m s = refl
statuses-emptied (equation_of entries) m s = refl
statuses-emptied (model_with model solver) m s = refl

pub declared-membership : (state : State) (name : ℕ) (t : List ℕ) (on : Bool) → declared_symbols (after_membership state name t on) ≡ declared_symbols state
declared-membership state name t on =
    let s = symbol_of state name in
    declared-with_symbol state name (if_fits s t (with_membership s.content t on)) (fits-blanked s t (with_membership s.content t on) (membership-emptied s.content t on))

pub declared-value : (state : State) (name : ℕ) (t : List ℕ) (x : extended.Extended) → declared_symbols (after_value state name t x) ≡ declared_symbols state
declared-value state name t x =
    let s = symbol_of state name in
    declared-with_symbol state name (if_fits s t (with_value s.content t x)) (fits-blanked s t (with_value s.content t x) (value-emptied s.content t x))

pub declared-attributes : (state : State) (name : ℕ) (t : List ℕ) (a : Attributes) → declared_symbols (after_attributes state name t a) ≡ declared_symbols state
declared-attributes state name t a =
    let s = symbol_of state name in
    declared-with_symbol state name (if_fits s t (with_attributes s.content t a)) (fits-blanked s t (with_attributes s.content t a) (attributes-emptied s.content t a))

pub declared-statuses : (state : State) (name m k : ℕ) → declared_symbols (after_statuses state name m k) ≡ declared_symbols state
declared-statuses state name m k =
    let s = symbol_of state name in
    declared-with_symbol state name (with_content s (with_statuses s.content m k)) (ap (λ (c : Content). record { domain = s.domain; content = c }) (statuses-emptied s.content m k))

-- ---- declarations give nothing

-- a symbol without data
abbrev pub IsBlank : Symbol → Type 0
IsBlank symbol = emptied symbol.content ≡ symbol.content

-- nor of any
abbrev pub AreBlank : State → Type 0
AreBlank state = AllByRecursion IsBlank state.symbols

blank-set : (xs : List Symbol) (i : ℕ) (v : Symbol) → AllByRecursion IsBlank xs → IsBlank v → AllByRecursion IsBlank (set xs i v)
blank-set [] i v all is = tt
blank-set (x ∷ xs) zero v all is = (is, all.1)
blank-set (x ∷ xs) (suc i) v all is = (all.0, blank-set xs i v all.1 is)

blank-at : (xs : List Symbol) (i : ℕ) → AllByRecursion IsBlank xs → IsBlank (unwrap_or (slice_get xs i) no_symbol)
blank-at [] i all = refl
blank-at (x ∷ xs) zero all = all.0
blank-at (x ∷ xs) (suc i) all = blank-at xs i all.1

blank-kind : (kind : DeclKind) → emptied (content_of kind) ≡ content_of kind
blank-kind Set = refl
blank-kind Parameter = refl
blank-kind Scalar = refl
blank-kind Table = refl
blank-kind Free = refl
blank-kind Positive = refl
blank-kind Negative = refl
blank-kind Discrete = refl
blank-kind Equation = refl

blank-retyped : (c later : Content) → emptied c ≡ c → emptied later ≡ later → emptied (retyped c later) ≡ retyped c later
blank-retyped (variable_of type.Free entries) (variable_of kind none) e f = f
blank-retyped (variable_of type.Free entries) undeclared e f = e
blank-retyped (variable_of type.Free entries) (alias_of base) e f = e
blank-retyped (variable_of type.Free entries) (set_of members) e f = e
blank-retyped (variable_of type.Free entries) (parameter_of other) e f = e
blank-retyped (variable_of type.Free entries) (equation_of other) e f = e
blank-retyped (variable_of type.Free entries) (model_with m s) e f = e
blank-retyped (variable_of type.Positive entries) later e f = e
blank-retyped (variable_of type.Negative entries) later e f = e
blank-retyped (variable_of type.Discrete entries) later e f = e
blank-retyped undeclared later e f = e
blank-retyped (alias_of base) later e f = e
blank-retyped (set_of members) later e f = e
blank-retyped (parameter_of entries) later e f = e
blank-retyped (equation_of entries) later e f = e
blank-retyped (model_with m s) later e f = e

blank-again : (kind : DeclKind) (domain : List (Option ℕ)) (s : Symbol) → IsBlank s → IsBlank (declared_again kind domain s)
blank-again kind domain s is = by (is_undeclared s.content)
  where
    by : (b : Bool) → IsBlank (if b then symbol_of_kind kind domain else with_content s (retyped s.content (content_of kind)))
    by true = blank-kind kind
    by false = blank-retyped s.content (content_of kind) is (blank-kind kind)

blank-put : (state : State) (name : ℕ) (s : Symbol) → AreBlank state → IsBlank s → AreBlank (put_at state name s)
blank-put state name s all is = blank-set state.symbols name s all is

blank-declare : (kind : DeclKind) (domain : List (Option ℕ)) (state : State) (name : ℕ) → AreBlank state → AreBlank (declare kind domain state name)
blank-declare kind domain state name all =
    blank-put state name (declared_again kind domain (symbol_at state name)) all (blank-again kind domain (symbol_at state name) (blank-at state.symbols name all))

blank-alias : (state : State) (first second : ℕ) → AreBlank state → AreBlank (declare_alias state first second)
blank-alias state first second all = by (can_join state first second) (can_join state second first)
  where
    by : (a b : Bool) → AreBlank (if a then join_name state first second else (if b then join_name state second first else declare Set [] (declare Set [] state first) second))
    by true b = blank-put state second (alias_symbol (base_of state first)) all refl
    by false true = blank-put state first (alias_symbol (base_of state second)) all refl
    by false false = blank-declare Set [] (declare Set [] state first) second (blank-declare Set [] state first all)

blank-model : (state : State) (name : ℕ) → AreBlank state → AreBlank (declare_model state name)
blank-model state name all = by (is_undeclared (symbol_at state name).content)
  where
    by : (b : Bool) → AreBlank (if b then put_at state name model_symbol else state)
    by true = blank-put state name model_symbol all refl
    by false = all

blank-models : (state : State) (models : List ModelDecl) → AreBlank state → AreBlank (declare_models state models)
blank-models state [] all = all
blank-models state (model ∷ models) all = blank-models (declare_model state model.named.name) models (blank-model state model.named.name all)

blank-first : (names : ℕ) → AllByRecursion IsBlank (replicate names no_symbol)
blank-first zero = tt
blank-first (suc names) = (refl, blank-first names)

module _ {F : Type 0} where
  blank-each : (kind : DeclKind) (state : State) (items : List (Decl F)) → AreBlank state → AreBlank (declare_each kind state items)
  blank-each kind state [] all = all
  blank-each kind state (item ∷ items) all =
      blank-each kind (declare kind (names_of item.domain) state item.named.name) items (blank-declare kind (names_of item.domain) state item.named.name all)

  blank-act : (state : State) (act : Act F) → AreBlank state → AreBlank (declared_by state act)
  blank-act state (Declare kind items) all = blank-each kind state items all
  blank-act state (Alias first second) all = blank-alias state first.name second.name all
  blank-act state (Model models) all = blank-models state models all
  blank-act state act all = all

  blank-acts : (state : State) (statements : List (Stmt F)) → AreBlank state → AreBlank (declared_by_all state statements)
  blank-acts state [] all = all
  blank-acts state (statement ∷ statements) all = blank-acts (declared_by state statement.act) statements (blank-act state statement.act all)

  -- nothing is given in the state that the declarations of a program make
  pub declared-blank : (program : Program F) → AreBlank (declared_state program)
  declared-blank program = blank-acts (blank_state (length program.names)) program.statements.items (blank-first (length program.names))

-- ---- declarations keep how many names there are

-- a state has `n` names
abbrev pub Counts : ℕ → State → Type 0
Counts n state = length state.symbols ≡ n

count-put : (n : ℕ) (state : State) (name : ℕ) (s : Symbol) → Counts n state → Counts n (put_at state name s)
count-put n state name s count = set-length state.symbols name s ∙ count

count-declare : (n : ℕ) (kind : DeclKind) (domain : List (Option ℕ)) (state : State) (name : ℕ) → Counts n state → Counts n (declare kind domain state name)
count-declare n kind domain state name count = count-put n state name (declared_again kind domain (symbol_at state name)) count

count-alias : (n : ℕ) (state : State) (first second : ℕ) → Counts n state → Counts n (declare_alias state first second)
count-alias n state first second count = by (can_join state first second) (can_join state second first)
  where
    by : (a b : Bool) → Counts n (if a then join_name state first second else (if b then join_name state second first else declare Set [] (declare Set [] state first) second))
    by true b = count-put n state second (alias_symbol (base_of state first)) count
    by false true = count-put n state first (alias_symbol (base_of state second)) count
    by false false = count-declare n Set [] (declare Set [] state first) second (count-declare n Set [] state first count)

count-model : (n : ℕ) (state : State) (name : ℕ) → Counts n state → Counts n (declare_model state name)
count-model n state name count = by (is_undeclared (symbol_at state name).content)
  where
    by : (b : Bool) → Counts n (if b then put_at state name model_symbol else state)
    by true = count-put n state name model_symbol count
    by false = count

count-models : (n : ℕ) (state : State) (models : List ModelDecl) → Counts n state → Counts n (declare_models state models)
count-models n state [] count = count
count-models n state (model ∷ models) count = count-models n (declare_model state model.named.name) models (count-model n state model.named.name count)

count-first : (names : ℕ) → length (replicate names no_symbol) ≡ names
count-first zero = refl
count-first (suc names) = ap suc (count-first names)

module _ {F : Type 0} where
  count-each : (n : ℕ) (kind : DeclKind) (state : State) (items : List (Decl F)) → Counts n state → Counts n (declare_each kind state items)
  count-each n kind state [] count = count
  count-each n kind state (item ∷ items) count =
      count-each n kind (declare kind (names_of item.domain) state item.named.name) items (count-declare n kind (names_of item.domain) state item.named.name count)

  count-act : (n : ℕ) (state : State) (act : Act F) → Counts n state → Counts n (declared_by state act)
  count-act n state (Declare kind items) count = count-each n kind state items count
  count-act n state (Alias first second) count = count-alias n state first.name second.name count
  count-act n state (Model models) count = count-models n state models count
  count-act n state act count = count

  count-acts : (n : ℕ) (state : State) (statements : List (Stmt F)) → Counts n state → Counts n (declared_by_all state statements)
  count-acts n state [] count = count
  count-acts n state (statement ∷ statements) count = count-acts n (declared_by state statement.act) statements (count-act n state statement.act count)

  -- the declarations of a program make a state of its names
  pub declared-count : (program : Program F) → length (declared_state program).symbols ≡ length program.names
  declared-count program = count-acts (length program.names) (blank_state (length program.names)) program.statements.items (count-first (length program.names))
