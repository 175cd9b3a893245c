-- The data of a program change nothing of what its declarations declare.
use Rattle.std.proofs.Common.{◌≡◌, ℕ, zero, suc, ◌==◌, Bool, true, false, ◌&&◌, List, [], ◌∷◌, length, set, map, replicate, slice_get, refl, sym, ap, ap₂, ◌∙◌, Option, None, Some, Result, Ok, Err, unwrap_or}
use Rattle.std.specs.Prelude.{if◌then◌else◌}
use Rattle.std.specs.List.{fold}
use Rattle.gq_number.specs.Number.{Number}
use Rattle.gq_extended.specs.Extended as extended
use Rattle.gq_extended.specs.Meaning.{extended as meaning}
use Rattle.gq_extended.specs.declared.extended.Ext.{Ext}
use Rattle.gms_ast.specs.declared.declaration.DeclKind.{DeclKind}
use Rattle.gms_ast.specs.declared.declaration.DeclKind.TheVariants.{Set, Parameter, Scalar, Table, Free, Positive, Negative, Discrete, Equation}
use Rattle.gms_ast.specs.declared.declaration.Decl.{Decl}
use Rattle.gms_ast.specs.declared.declaration.ModelDecl.{ModelDecl}
use Rattle.gms_ast.specs.declared.program.Act.{Act}
use Rattle.gms_ast.specs.declared.program.Act.TheVariants.{Declare, Alias, Model}
use Rattle.gms_ast.specs.declared.program.Program.{Program}
use Rattle.gms_ast.specs.declared.program.Stmt.{Stmt}
use Rattle.gms_set.specs.declared.fault.SetFault.{SetFault}
use Rattle.gms_set.specs.Expansion.{ExpandedData, expanded}
use Rattle.gms_store.specs.declared.kind.VariableType.TheVariants as type
use Rattle.gms_store.specs.State.{Content, undeclared, alias_of, set_of, parameter_of, variable_of, equation_of, model_with, Symbol, State, no_symbol, alias_target, symbol_at, base_of, symbol_of, with_content, if_fits, with_membership, with_value}
use Rattle.gms_store.specs.Declarations.{names_of, positions_of, content_of, retyped, is_set, is_undeclared, declared_again, put_at, declare, alias_symbol, model_symbol, join_name, can_join, declare_alias, declare_model, declare_models, blank_state, declare_each, declared_by, declared_by_all, declared_state}
use Rattle.gms_scope.specs.Data.{given_to, with_datum}
use Rattle.gms_check.specs.Loaded.{loaded, sound}
use Rattle.gms_check.specs.Past.{after_act, after_statement, with_data, with_item}
use Rattle.gms_save_text.specs.Validity.{emptied, declared_symbols}

-- a symbol with nothing given
abbrev pub blanked : Symbol → Symbol
blanked symbol = with_content symbol (emptied symbol.content)

-- ---- what is declared of a name

blank-set : (xs : List Symbol) (n : ℕ) (s : Symbol) → map blanked (set xs n s) ≡ set (map blanked xs) n (blanked s)
blank-set [] n s = refl
blank-set (x ∷ xs) zero s = refl
blank-set (x ∷ xs) (suc n) s = ap (λ (ys : List Symbol). blanked x ∷ ys) (blank-set xs n s)

blank-read : (xs : List Symbol) (n : ℕ) → unwrap_or (slice_get (map blanked xs) n) no_symbol ≡ blanked (unwrap_or (slice_get xs n) no_symbol)
blank-read [] n = refl
blank-read (x ∷ xs) zero = refl
blank-read (x ∷ xs) (suc n) = blank-read xs n

-- two states that declare the same have at each name a symbol that declares the same
pub same-at : (a b : State) (n : ℕ) → declared_symbols a ≡ declared_symbols b → blanked (symbol_at a n) ≡ blanked (symbol_at b n)
same-at a b n e =
    sym (blank-read a.symbols n) ∙ ap (λ (xs : List Symbol). unwrap_or (slice_get xs n) no_symbol) e ∙ blank-read b.symbols n

-- what does not depend on data is read alike
pub same-read : {X : Type 0} (read : Content → X) → ((c : Content) → read (emptied c) ≡ read c) → (a b : State) (n : ℕ) → declared_symbols a ≡ declared_symbols b → read (symbol_at a n).content ≡ read (symbol_at b n).content
same-read read keeps a b n e =
    sym (keeps (symbol_at a n).content) ∙ ap (λ (s : Symbol). read s.content) (same-at a b n e) ∙ keeps (symbol_at b n).content

keeps-set : (c : Content) → is_set (emptied c) ≡ is_set c
keeps-set undeclared = refl
keeps-set (alias_of base) = refl
keeps-set (set_of members) = refl
keeps-set (parameter_of entries) = refl
keeps-set (variable_of t entries) = refl
keeps-set (equation_of entries) = refl
keeps-set (model_with m s) = refl

pub keeps-undeclared : (c : Content) → is_undeclared (emptied c) ≡ is_undeclared c
keeps-undeclared undeclared = refl
keeps-undeclared (alias_of base) = refl
keeps-undeclared (set_of members) = refl
keeps-undeclared (parameter_of entries) = refl
keeps-undeclared (variable_of t entries) = refl
keeps-undeclared (equation_of entries) = refl
keeps-undeclared (model_with m s) = refl

pub keeps-following : (n : ℕ) (c : Content) → alias_target n (emptied c) ≡ alias_target n c
keeps-following n undeclared = refl
keeps-following n (alias_of base) = refl
keeps-following n (set_of members) = refl
keeps-following n (parameter_of entries) = refl
keeps-following n (variable_of t entries) = refl
keeps-following n (equation_of entries) = refl
keeps-following n (model_with m s) = refl

same-base : (a b : State) (n : ℕ) → declared_symbols a ≡ declared_symbols b → base_of a n ≡ base_of b n
same-base a b n e = same-read (alias_target n) (keeps-following n) a b n e

-- ---- declarations, side by side

same-put : (a b : State) (n : ℕ) (s t : Symbol) → declared_symbols a ≡ declared_symbols b → blanked s ≡ blanked t → declared_symbols (put_at a n s) ≡ declared_symbols (put_at b n t)
same-put a b n s t e f =
    blank-set a.symbols n s ∙ ap₂ (λ (xs : List Symbol) (u : Symbol). set xs n u) e f ∙ sym (blank-set b.symbols n t)

-- a free variable takes a later type whatever its data are
again-free : (kind : DeclKind) (c : Content) → emptied (retyped c (content_of kind)) ≡ emptied (retyped (emptied c) (content_of kind))
again-free kind undeclared = refl
again-free kind (alias_of base) = refl
again-free kind (set_of members) = refl
again-free kind (parameter_of entries) = refl
again-free Set (variable_of type.Free entries) = refl
again-free Parameter (variable_of type.Free entries) = refl
again-free Scalar (variable_of type.Free entries) = refl
again-free Table (variable_of type.Free entries) = refl
again-free Free (variable_of type.Free entries) = refl
again-free Positive (variable_of type.Free entries) = refl
again-free Negative (variable_of type.Free entries) = refl
again-free Discrete (variable_of type.Free entries) = refl
again-free Equation (variable_of type.Free entries) = refl
again-free kind (variable_of type.Positive entries) = refl
again-free kind (variable_of type.Negative entries) = refl
again-free kind (variable_of type.Discrete entries) = refl
again-free kind (equation_of entries) = refl
again-free kind (model_with m s) = refl

again-blanked : (kind : DeclKind) (domain : List (Option ℕ)) (s : Symbol) → blanked (declared_again kind domain s) ≡ blanked (declared_again kind domain (blanked s))
again-blanked kind domain s =
    by (is_undeclared s.content) ∙ ap (λ (b : Bool). blanked (if b then record { domain = positions_of kind domain; content = content_of kind } else with_content s (retyped (emptied s.content) (content_of kind)))) (sym (keeps-undeclared s.content))
  where
    by : (b : Bool) → blanked (if b then record { domain = positions_of kind domain; content = content_of kind } else with_content s (retyped s.content (content_of kind))) ≡ blanked (if b then record { domain = positions_of kind domain; content = content_of kind } else with_content s (retyped (emptied s.content) (content_of kind)))
    by true = refl
    by false = ap (λ (c : Content). record { domain = s.domain; content = c }) (again-free kind s.content)

same-declare : (kind : DeclKind) (domain : List (Option ℕ)) (a b : State) (n : ℕ) → declared_symbols a ≡ declared_symbols b → declared_symbols (declare kind domain a n) ≡ declared_symbols (declare kind domain b n)
same-declare kind domain a b n e =
    same-put a b n (declared_again kind domain (symbol_at a n)) (declared_again kind domain (symbol_at b n)) e (again-blanked kind domain (symbol_at a n) ∙ ap (λ (s : Symbol). blanked (declared_again kind domain s)) (same-at a b n e) ∙ sym (again-blanked kind domain (symbol_at b n)))

same-alias : (a b : State) (first second : ℕ) → declared_symbols a ≡ declared_symbols b → declared_symbols (declare_alias a first second) ≡ declared_symbols (declare_alias b first second)
same-alias a b first second e =
    ap₂ (λ (p q : Bool). declared_symbols (if p then join_name a first second else (if q then join_name a second first else declare Set [] (declare Set [] a first) second))) (joins first second) (joins second first) ∙ by (can_join b first second) (can_join b second first)
  where
    joins : (old new : ℕ) → can_join a old new ≡ can_join b old new
    joins old new =
        ap₂ (λ (p q : Bool). p && q) (same-read is_set keeps-set a b old e) (same-read is_undeclared keeps-undeclared a b new e)

    joined : (old new : ℕ) → declared_symbols (join_name a old new) ≡ declared_symbols (join_name b old new)
    joined old new =
        same-put a b new (alias_symbol (base_of a old)) (alias_symbol (base_of b old)) e (ap (λ (n : ℕ). blanked (alias_symbol n)) (same-base a b old e))

    by : (p q : Bool) → declared_symbols (if p then join_name a first second else (if q then join_name a second first else declare Set [] (declare Set [] a first) second)) ≡ declared_symbols (if p then join_name b first second else (if q then join_name b second first else declare Set [] (declare Set [] b first) second))
    by true q = joined first second
    by false true = joined second first
    by false false = same-declare Set [] (declare Set [] a first) (declare Set [] b first) second (same-declare Set [] a b first e)

same-model : (a b : State) (n : ℕ) → declared_symbols a ≡ declared_symbols b → declared_symbols (declare_model a n) ≡ declared_symbols (declare_model b n)
same-model a b n e =
    ap (λ (p : Bool). declared_symbols (if p then put_at a n model_symbol else a)) (same-read is_undeclared keeps-undeclared a b n e) ∙ by (is_undeclared (symbol_at b n).content)
  where
    by : (p : Bool) → declared_symbols (if p then put_at a n model_symbol else a) ≡ declared_symbols (if p then put_at b n model_symbol else b)
    by true = same-put a b n model_symbol model_symbol e refl
    by false = e

same-models : (a b : State) (models : List ModelDecl) → declared_symbols a ≡ declared_symbols b → declared_symbols (declare_models a models) ≡ declared_symbols (declare_models b models)
same-models a b [] e = e
same-models a b (model ∷ models) e =
    same-models (declare_model a model.named.name) (declare_model b model.named.name) models (same-model a b model.named.name e)

-- ---- data

keeps-membership : (c : Content) (t : List ℕ) (on : Bool) → emptied (with_membership c t on) ≡ emptied c
keeps-membership undeclared t on = refl
keeps-membership (alias_of base) t on = refl
keeps-membership (set_of members) t on = refl
keeps-membership (parameter_of entries) t on = refl
keeps-membership (variable_of v entries) t on = refl
keeps-membership (equation_of entries) t on = refl
keeps-membership (model_with m s) t on = refl

keeps-value : (c : Content) (t : List ℕ) (x : extended.Extended) → emptied (with_value c t x) ≡ emptied c
keeps-value undeclared t x = refl
keeps-value (alias_of base) t x = refl
keeps-value (set_of members) t x = refl
keeps-value (parameter_of entries) t x = refl
keeps-value (variable_of v entries) t x = refl
keeps-value (equation_of entries) t x = refl
keeps-value (model_with m s) t x = refl

-- replacing a symbol by one that declares the same
set-kept : (xs : List Symbol) (n : ℕ) (s : Symbol) → blanked s ≡ blanked (unwrap_or (slice_get xs n) no_symbol) → map blanked (set xs n s) ≡ map blanked xs
set-kept [] n s same = refl
set-kept (x ∷ xs) zero s same = ap (λ (u : Symbol). u ∷ map blanked xs) same
set-kept (x ∷ xs) (suc n) s same = ap (λ (ys : List Symbol). blanked x ∷ ys) (set-kept xs n s same)

fits-kept : (s : Symbol) (t : List ℕ) (new : Content) → emptied new ≡ emptied s.content → blanked (if_fits s t new) ≡ blanked s
fits-kept s t new same = by (length t == length s.domain)
  where
    by : (b : Bool) → blanked (if b then with_content s new else s) ≡ blanked s
    by true = ap (λ (c : Content). record { domain = s.domain; content = c }) same
    by false = refl

module _ {F : Type 0} (value : F → Number) where
  datum-kept : (name : ℕ) (state : State) (datum : List ℕ × Option (Ext F)) → declared_symbols (with_datum value name state datum) ≡ declared_symbols state
  datum-kept name state (t, None) =
      let s = symbol_of state name in
      set-kept state.symbols (base_of state name) (if_fits s t (with_membership s.content t true)) (fits-kept s t (with_membership s.content t true) (keeps-membership s.content t true))
  datum-kept name state (t, Some x) =
      let s = symbol_of state name in
      set-kept state.symbols (base_of state name) (if_fits s t (with_value s.content t (meaning value x))) (fits-kept s t (with_value s.content t (meaning value x)) (keeps-value s.content t (meaning value x)))

  given-kept : (name : ℕ) (state : State) (given : List (List ℕ × Option (Ext F))) → declared_symbols (given_to value name state given) ≡ declared_symbols state
  given-kept name state [] = refl
  given-kept name state (datum ∷ given) = given-kept name (with_datum value name state datum) given ∙ datum-kept name state datum

  data-kept : (state : State) (name : ℕ) (r : Result (ExpandedData F) SetFault) → declared_symbols (with_data value state name r) ≡ declared_symbols state
  data-kept state name (Ok given) = given-kept name state given
  data-kept state name (Err fault) = refl

  -- ---- statements, with data and without

  same-items : (kind : DeclKind) (a b : State) (items : List (Decl F)) → declared_symbols a ≡ declared_symbols b → declared_symbols (fold (with_item value kind) a items) ≡ declared_symbols (declare_each kind b items)
  same-items kind a b [] e = e
  same-items kind a b (item ∷ items) e =
      same-items kind (with_item value kind a item) (declare kind (names_of item.domain) b item.named.name) items (data-kept (declare kind (names_of item.domain) a item.named.name) item.named.name (expanded a (positions_of kind (names_of item.domain)) item.items) ∙ same-declare kind (names_of item.domain) a b item.named.name e)

  same-act : (a b : State) (act : Act F) → declared_symbols a ≡ declared_symbols b → declared_symbols (after_act value a act) ≡ declared_symbols (declared_by b act)
  same-act a b (Declare kind items) e = same-items kind a b items e
  same-act a b (Alias first second) e = same-alias a b first.name second.name e
  same-act a b (Model models) e = same-models a b models e
  same-act a b act e = e

  same-acts : (a b : State) (statements : List (Stmt F)) → declared_symbols a ≡ declared_symbols b → declared_symbols (fold (after_statement value) a (sound statements)) ≡ declared_symbols (declared_by_all b statements)
  same-acts a b [] e = e
  same-acts a b (statement ∷ statements) e =
      same-acts (after_act value a statement.act) (declared_by b statement.act) statements (same-act a b statement.act e)

  -- the state with the data declares what the declarations do
  pub loaded-declares : (program : Program F) → declared_symbols (loaded value program) ≡ declared_symbols (declared_state program)
  loaded-declares program =
      same-acts (blank_state (length program.names)) (blank_state (length program.names)) program.statements.items refl

-- ---- how many names there are

-- a state has `n` names
abbrev Counts : ℕ → State → Type 0
Counts n state = length (declared_symbols state) ≡ n

count-put : (n : ℕ) (state : State) (name : ℕ) (s : Symbol) → Counts n state → Counts n (put_at state name s)
count-put n state name s count = by state.symbols name ∙ count
  where
    by : (xs : List Symbol) (i : ℕ) → length (map blanked (set xs i s)) ≡ length (map blanked xs)
    by [] i = refl
    by (x ∷ xs) zero = refl
    by (x ∷ xs) (suc i) = ap suc (by xs i)

count-declare : (n : ℕ) (kind : DeclKind) (domain : List (Option ℕ)) (state : State) (name : ℕ) → Counts n state → Counts n (declare kind domain state name)
count-declare n kind domain state name count = count-put n state name (declared_again kind domain (symbol_at state name)) count

count-alias : (n : ℕ) (state : State) (first second : ℕ) → Counts n state → Counts n (declare_alias state first second)
count-alias n state first second count = by (can_join state first second) (can_join state second first)
  where
    by : (a b : Bool) → Counts n (if a then join_name state first second else (if b then join_name state second first else declare Set [] (declare Set [] state first) second))
    by true b = count-put n state second (alias_symbol (base_of state first)) count
    by false true = count-put n state first (alias_symbol (base_of state second)) count
    by false false = count-declare n Set [] (declare Set [] state first) second (count-declare n Set [] state first count)

count-model : (n : ℕ) (state : State) (name : ℕ) → Counts n state → Counts n (declare_model state name)
count-model n state name count = by (is_undeclared (symbol_at state name).content)
  where
    by : (b : Bool) → Counts n (if b then put_at state name model_symbol else state)
    by true = count-put n state name model_symbol count
    by false = count

count-models : (n : ℕ) (state : State) (models : List ModelDecl) → Counts n state → Counts n (declare_models state models)
count-models n state [] count = count
count-models n state (model ∷ models) count = count-models n (declare_model state model.named.name) models (count-model n state model.named.name count)

count-first : (names : ℕ) → length (map blanked (replicate names no_symbol)) ≡ names
count-first zero = refl
count-first (suc names) = ap suc (count-first names)

module _ {F : Type 0} where
  count-each : (n : ℕ) (kind : DeclKind) (state : State) (items : List (Decl F)) → Counts n state → Counts n (declare_each kind state items)
  count-each n kind state [] count = count
  count-each n kind state (item ∷ items) count =
      count-each n kind (declare kind (names_of item.domain) state item.named.name) items (count-declare n kind (names_of item.domain) state item.named.name count)

  count-act : (n : ℕ) (state : State) (act : Act F) → Counts n state → Counts n (declared_by state act)
  count-act n state (Declare kind items) count = count-each n kind state items count
  count-act n state (Alias first second) count = count-alias n state first.name second.name count
  count-act n state (Model models) count = count-models n state models count
  count-act n state act count = count

  count-acts : (n : ℕ) (state : State) (statements : List (Stmt F)) → Counts n state → Counts n (declared_by_all state statements)
  count-acts n state [] count = count
  count-acts n state (statement ∷ statements) count = count-acts n (declared_by state statement.act) statements (count-act n state statement.act count)

  -- as many names are declared as a program has
  pub declared-count : (program : Program F) → length (declared_symbols (declared_state program)) ≡ length program.names
  declared-count program = count-acts (length program.names) (blank_state (length program.names)) program.statements.items (count-first (length program.names))
