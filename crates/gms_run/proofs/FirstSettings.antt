-- Declarations and data leave the settings that a run begins with.
use Rattle.std.proofs.Common.{◌≡◌, ℕ, Bool, true, false, List, [], ◌∷◌, refl, sym, ◌∙◌, subst, cond, Option, Some, None, Result, Ok, Err, arith}
use Rattle.std.specs.List.{fold}
use Rattle.gq_number.specs.Number.{Number}
use Rattle.gq_extended.specs.declared.extended.Ext.{Ext}
use Rattle.gms_ast.specs.declared.declaration.Decl.{Decl}
use Rattle.gms_ast.specs.declared.declaration.DeclKind.{DeclKind}
use Rattle.gms_ast.specs.declared.declaration.DeclKind.TheVariants as declaring
use Rattle.gms_ast.specs.declared.declaration.ModelDecl.{ModelDecl}
use Rattle.gms_ast.specs.declared.program.Act.{Act}
use Rattle.gms_ast.specs.declared.program.Act.TheVariants.{Declare, Alias, Model}
use Rattle.gms_ast.specs.declared.program.Program.{Program}
use Rattle.gms_ast.specs.declared.program.Stmt.{Stmt}
use Rattle.gms_store.specs.Declarations.{blank_state, can_join, declare, declare_alias, declare_each, declare_model, declare_models, declared_by, is_undeclared, join_name, model_symbol, names_of, positions_of, put_at}
use Rattle.gms_store.specs.State.{State, symbol_at}
use Rattle.gms_set.specs.declared.fault.SetFault.{SetFault}
use Rattle.gms_set.specs.Expansion.{ExpandedData, expanded}
use Rattle.gms_scope.specs.Data.{given_to, with_datum}
use Rattle.gms_check.specs.Loaded.{loaded, sound}
use Rattle.gms_check.specs.Past.{Past, after_act, after_statement, with_data, with_item, with_name}
use Rattle.gms_exec.specs.Stepping.{AreValidSettings}

-- ---- declarations

settings-alias : (state : State) (first second : ℕ) → (declare_alias state first second).settings ≡ state.settings
settings-alias state first second = by (can_join state first second) (can_join state second first)
  where
    by : (a b : Bool) → (cond a (join_name state first second) (cond b (join_name state second first) (declare declaring.Set [] (declare declaring.Set [] state first) second))).settings ≡ state.settings
    by true b = refl
    by false true = refl
    by false false = refl

settings-model : (state : State) (name : ℕ) → (declare_model state name).settings ≡ state.settings
settings-model state name = by (is_undeclared (symbol_at state name).content)
  where
    by : (b : Bool) → (cond b (put_at state name model_symbol) state).settings ≡ state.settings
    by true = refl
    by false = refl

settings-models : (models : List ModelDecl) (state : State) → (declare_models state models).settings ≡ state.settings
settings-models [] state = refl
settings-models (model ∷ models) state = settings-models models (declare_model state model.named.name) ∙ settings-model state model.named.name

module _ {F : Type 0} (value : F → Number) where
  -- ---- data

  settings-datum : (name : ℕ) (state : State) (datum : List ℕ × Option (Ext F)) → (with_datum value name state datum).settings ≡ state.settings
  settings-datum name state (t, None) = refl
  settings-datum name state (t, Some x) = refl

  settings-given : (name : ℕ) (given : List (List ℕ × Option (Ext F))) (state : State) → (given_to value name state given).settings ≡ state.settings
  settings-given name [] state = refl
  settings-given name (datum ∷ given) state = settings-given name given (with_datum value name state datum) ∙ settings-datum name state datum

  settings-data : (state : State) (name : ℕ) (given : Result (ExpandedData F) SetFault) → (with_data value state name given).settings ≡ state.settings
  settings-data state name (Ok given) = settings-given name given state
  settings-data state name (Err fault) = refl

  settings-item : (kind : DeclKind) (state : State) (item : Decl F) → (with_item value kind state item).settings ≡ state.settings
  settings-item kind state item =
      settings-data (with_name value kind state item) item.named.name (expanded state (positions_of kind (names_of item.domain)) item.items)

  settings-items : (kind : DeclKind) (items : List (Decl F)) (state : State) → (fold (with_item value kind) state items).settings ≡ state.settings
  settings-items kind [] state = refl
  settings-items kind (item ∷ items) state = settings-items kind items (with_item value kind state item) ∙ settings-item kind state item

  settings-names : (kind : DeclKind) (items : List (Decl F)) (state : State) → (declare_each kind state items).settings ≡ state.settings
  settings-names kind [] state = refl
  settings-names kind (item ∷ items) state = settings-names kind items (declare kind (names_of item.domain) state item.named.name)

  -- ---- statements

  settings-declared : (state : State) (act : Act F) → (declared_by state act).settings ≡ state.settings
  settings-declared state (Declare kind items) = settings-names kind items state
  settings-declared state (Alias first second) = settings-alias state first.name second.name
  settings-declared state (Model models) = settings-models models state
  settings-declared state act = refl

  settings-act : (state : State) (act : Act F) → (after_act value state act).settings ≡ state.settings
  settings-act state (Declare kind items) = settings-items kind items state
  settings-act state (Alias first second) = settings-alias state first.name second.name
  settings-act state (Model models) = settings-models models state
  settings-act state act = refl

  settings-statement : (state : State) (statement : Stmt F × Bool) → (after_statement value state statement).settings ≡ state.settings
  settings-statement state (statement, true) = settings-act state statement.act
  settings-statement state (statement, false) = settings-declared state statement.act

  settings-all : (past : Past F) (state : State) → (fold (after_statement value) state past).settings ≡ state.settings
  settings-all [] state = refl
  settings-all (statement ∷ past) state = settings-all past (after_statement value state statement) ∙ settings-statement state statement

  -- A program begins with settings within their ranges.
  pub begins-kept : (program : Program F) (solvers : ℕ) → AreValidSettings solvers (loaded value program).settings
  begins-kept program solvers =
      subst (AreValidSettings solvers) (sym (settings-all (sound program.statements.items) (blank_state _))) (record { decimals = omega arith; chosen = λ some. some })
