-- What the declarations of a program declare: GAMS User's Guide, "Set Definition", "Variables",
-- "Equations", "Model and Solve Statements". That the first declaration of a name counts is this
-- project's rule.
use Rattle.std.specs.Prelude.{take, ℕ, Bool, true, false, List, [], ◌∷◌, length, map, set, replicate, Option, None, option_map, if◌then◌else◌, ◌&&◌, ◌==◌}
use Rattle.std.specs.List.{fold}
use Rattle.std.specs.FinMap as finite
use Rattle.gms_ast.specs.declared.word.Named.{Named}
use Rattle.gms_ast.specs.declared.declaration.DeclKind.{DeclKind}
use Rattle.gms_ast.specs.declared.declaration.DeclKind.TheVariants.{Set, Parameter, Scalar, Table, Free, Positive, Negative, Discrete, Equation}
use Rattle.gms_ast.specs.declared.declaration.Decl.{Decl}
use Rattle.gms_ast.specs.declared.declaration.ModelDecl.{ModelDecl}
use Rattle.gms_ast.specs.declared.program.Act.{Act}
use Rattle.gms_ast.specs.declared.program.Act.TheVariants.{Declare, Alias, Model}
use Rattle.gms_ast.specs.declared.program.Stmt.{Stmt}
use Rattle.gms_ast.specs.declared.program.Program.{Program}
use Rattle.gms_store.specs.declared.kind.VariableType.TheVariants as type
use Rattle.gms_store.specs.declared.kind.SymbolKind.{SymbolKind}
use Rattle.gms_store.specs.declared.kind.SymbolKind.TheVariants as kind
use Rattle.gms_store.specs.declared.settings.Settings.{Settings}
use Rattle.gms_store.specs.State.{Content, undeclared, alias_of, set_of, parameter_of, variable_of, equation_of, model_with, Symbol, State, with_content, no_symbol, symbol_at, base_of}

-- the domain that is written in a declaration, with each set by the number of its name; None, of a
-- position that admits any label, stays
abbrev pub names_of : List (Option Named) → List (Option ℕ)
names_of domain = map (λ position. option_map (λ (named : Named). named.name) position) domain

-- the domain of a name that is declared by this kind of declaration with this written domain, each
-- position by the number of its set's name, or None if it admits any label: a set without a written
-- domain has one position, None; any other declaration has the written domain
abbrev pub positions_of : DeclKind → List (Option ℕ) → List (Option ℕ)
positions_of Set [] = None ∷ []
positions_of kind domain = domain

-- what a declaration of this kind declares, before any data: an empty set, a parameter without
-- values, or a variable of the declared type or an equation without data
abbrev pub content_of : DeclKind → Content
content_of Set = set_of []
content_of Parameter = parameter_of finite.empty
content_of Scalar = parameter_of finite.empty
content_of Table = parameter_of finite.empty
content_of Free = variable_of type.Free finite.empty
content_of Positive = variable_of type.Positive finite.empty
content_of Negative = variable_of type.Negative finite.empty
content_of Discrete = variable_of type.Discrete finite.empty
content_of Equation = equation_of finite.empty

-- the symbol that a declaration of a new name declares, by its kind and its written domain
abbrev pub symbol_of_kind : DeclKind → List (Option ℕ) → Symbol
symbol_of_kind kind domain = record { domain = positions_of kind domain; content = content_of kind }

-- the content of a name that is declared once more, as `later`: a free variable becomes `later` if
-- that is a variable of any type; in any other case the content stays
abbrev pub retyped : Content → Content → Content
retyped (variable_of type.Free entries) (variable_of type none) = variable_of type none
retyped content later = content

-- whether a content is that of a free variable
abbrev pub is_free : Content → Bool
is_free (variable_of type.Free entries) = true
is_free content = false

-- whether a content is that of an alias of a set
abbrev pub is_alias : Content → Bool
is_alias (alias_of base) = true
is_alias content = false

-- whether a content is that of a set or of an alias of a set
abbrev pub is_set : Content → Bool
is_set (set_of members) = true
is_set (alias_of base) = true
is_set content = false

-- whether a content is that of a name that nothing declares
abbrev pub is_undeclared : Content → Bool
is_undeclared undeclared = true
is_undeclared content = false

-- a symbol after one more declaration of its name, of this kind and written domain: a new name is
-- declared, and a declared one keeps its first declaration, with one exception: a free variable
-- that is declared as a variable once more gets the later type and loses its data
abbrev pub declared_again : DeclKind → List (Option ℕ) → Symbol → Symbol
declared_again kind domain symbol =
    if is_undeclared symbol.content then symbol_of_kind kind domain else with_content symbol (retyped symbol.content (content_of kind))

-- the state with this symbol at the name of this number
abbrev pub put_at : State → ℕ → Symbol → State
put_at state name symbol = record { symbols = set state.symbols name symbol; settings = state.settings }

-- the state after a declaration of this kind, with this written domain, of the name of this number;
-- a declared name keeps its first declaration, except that a free variable that is declared as a
-- variable once more gets the later type and loses its data
abbrev pub declare : DeclKind → List (Option ℕ) → State → ℕ → State
declare kind domain state name =
    put_at state name (declared_again kind domain (symbol_at state name))

-- the kind of symbol that a content belongs to; an alias of a set is a set
abbrev pub kind_in : Content → SymbolKind
kind_in undeclared = kind.Undeclared
kind_in (alias_of base) = kind.Set
kind_in (set_of members) = kind.Set
kind_in (parameter_of entries) = kind.Parameter
kind_in (variable_of type entries) = kind.Variable
kind_in (equation_of entries) = kind.Equation
kind_in (model_with model solver) = kind.Model

-- the symbol of an alias of the set whose name has the number `base`
abbrev pub alias_symbol : ℕ → Symbol
alias_symbol base = record { domain = []; content = alias_of base }

-- the symbol of a model before any solve: the number of its status and that of the solver's are 0
abbrev pub model_symbol : Symbol
model_symbol = record { domain = []; content = model_with 0 0 }

-- the state in which the name `new` is an alias of the set that the name `old` denotes
abbrev pub join_name : State → ℕ → ℕ → State
join_name state old new = put_at state new (alias_symbol (base_of state old))

-- whether the name `new` can become an alias of the name `old`: `old` is a set or an alias of one,
-- and `new` is not declared
abbrev pub can_join : State → ℕ → ℕ → Bool
can_join state old new = is_set (symbol_at state old).content && is_undeclared (symbol_at state new).content

-- the state after `alias (first, second)`: if one is a set or an alias of one, and the other is not
-- declared, the undeclared one becomes an alias of that set. In any other case, an error of the
-- program, each of the two that is not declared becomes a set
abbrev pub declare_alias : State → ℕ → ℕ → State
declare_alias state first second =
    if can_join state first second then join_name state first second else if can_join state second first then join_name state second first else declare Set [] (declare Set [] state first) second

-- the state after a declaration of a name as a model: a name that is declared already stays
abbrev pub declare_model : State → ℕ → State
declare_model state name =
    if is_undeclared (symbol_at state name).content then put_at state name model_symbol else state

-- the state after the declarations of these models, in order
abbrev pub declare_models : State → List ModelDecl → State
declare_models state models = fold (λ state (model : ModelDecl). declare_model state model.named.name) state models

-- the settings that a run begins with; the solver is given by its index in the list of the run's
-- solvers, here the first
abbrev pub first_settings : Settings
first_settings = record { limrow = 3; limcol = 3; iterlim = 1000; decimals = 3; solprint = true; solver = 0 }

-- the state with `names` names, of which none is declared, and with the settings that a run begins
-- with
abbrev pub blank_state : ℕ → State
blank_state names = record { symbols = replicate names no_symbol; settings = first_settings }

module _ {F : Type 0} where
  -- the state after declarations of one kind, in order
  abbrev pub declare_each : DeclKind → State → List (Decl F) → State
  declare_each kind state items = fold (λ state (item : Decl F). declare kind (names_of item.domain) state item.named.name) state items

  -- the state after an act: a declaration, an alias or a model statement declares its names, and
  -- any other act changes nothing
  abbrev pub declared_by : State → Act F → State
  declared_by state (Declare kind items) = declare_each kind state items
  declared_by state (Alias first second) = declare_alias state first.name second.name
  declared_by state (Model models) = declare_models state models
  declared_by state act = state

  -- the state after only the first `count` declarations of an act. Of an alias, the first name
  -- alone is declared, as a set, if `count` is not 0; no model is declared
  abbrev pub declared_first : ℕ → State → Act F → State
  declared_first count state (Declare kind items) = declare_each kind state (take count items)
  declared_first count state (Alias first second) = if count == 0 then state else declare Set [] state first.name
  declared_first count state act = state

  -- the state after the declarations of some statements, in order, without their data
  abbrev pub declared_by_all : State → List (Stmt F) → State
  declared_by_all state statements = fold (λ state (statement : Stmt F). declared_by state statement.act) state statements

  -- the state after all declarations of a program, before any data
  abbrev pub declared_state : Program F → State
  declared_state program = declared_by_all (blank_state (length program.names)) program.statements.items
