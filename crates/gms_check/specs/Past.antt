-- What the statements before a statement declare, define and give as data (GAMS User's Guide, "Set
-- Definition", "Data Entry: Parameters, Scalars and Tables", "Equations", "Model and Solve
-- Statements"). The names of a statement with an error count as declared, and its data as not
-- given; this is the project's own rule.
use Rattle.std.specs.Prelude.{ℕ, Bool, true, false, not, ◌&&◌, ◌==◌, List, [], ◌∷◌, ◌++◌, map, flat_map, Option, Result, Ok, Err, if◌then◌else◌}
use Rattle.std.specs.List.{fold, list_any}
use Rattle.gq_number.specs.Number.{Number}
use Rattle.gms_ast.specs.declared.word.Named.{Named}
use Rattle.gms_ast.specs.declared.declaration.DeclKind.{DeclKind}
use Rattle.gms_ast.specs.declared.declaration.DeclKind.TheVariants as declaring
use Rattle.gms_ast.specs.declared.declaration.Decl.{Decl}
use Rattle.gms_ast.specs.declared.declaration.ModelDecl.{ModelDecl}
use Rattle.gms_ast.specs.declared.program.Act.{Act}
use Rattle.gms_ast.specs.declared.program.Act.TheVariants.{Declare, Alias, Define, Model}
use Rattle.gms_ast.specs.declared.program.Stmt.{Stmt}
use Rattle.gms_store.specs.State.{State, base_of}
use Rattle.gms_store.specs.Declarations.{names_of, positions_of, declare, declared_by, blank_state}
use Rattle.gms_set.specs.declared.fault.SetFault.{SetFault}
use Rattle.gms_set.specs.Expansion.{ExpandedData, expanded}
use Rattle.gms_scope.specs.Data.{given_to, is_ascending, labels_of_items}

-- the statements before a statement, in order, each with whether it has no error
abbrev pub Past : Type 0 → Type 0
Past F = List (Stmt F × Bool)

-- ---- names

-- the numbers of these names
abbrev pub numbers_of_names : List Named → List ℕ
numbers_of_names names = map (λ (named : Named). named.name) names

-- whether a name is one of these names
abbrev pub is_among : List ℕ → ℕ → Bool
is_among names name = list_any (λ other. other == name) names

-- the equations of a model: the listed ones, or for `/all/` the equations `declared` before; none
-- if its statement has an error (false)
abbrev pub equations_listed : List ℕ → Bool → ModelDecl → List ℕ
equations_listed declared true model = if model.all then declared else numbers_of_names model.equations
equations_listed declared false model = []

module _ {F : Type 0} where
  -- the names that an act declares, in order
  abbrev pub names_declared : Act F → List ℕ
  names_declared (Declare kind items) = map (λ (item : Decl F). item.named.name) items
  names_declared (Alias first second) = first.name ∷ second.name ∷ []
  names_declared (Model models) = map (λ (model : ModelDecl). model.named.name) models
  names_declared act = []

  -- the names that the statements `past` declare, in order
  abbrev pub declared_names : Past F → List ℕ
  declared_names past = flat_map (λ p. names_declared p.0.act) past

  -- ---- equations

  -- the names that an act declares as equations, in order
  abbrev pub equations_declared : Act F → List ℕ
  equations_declared (Declare declaring.Equation items) = map (λ (item : Decl F). item.named.name) items
  equations_declared act = []

  -- whether an act defines the equation of this name
  abbrev pub defines : ℕ → Act F → Bool
  defines name (Define equation indices condition left_at left side right_at right) = equation.name == name
  defines name act = false

  -- whether some statement of `past` defines the equation of this name, with an error or without
  abbrev pub is_defined : Past F → ℕ → Bool
  is_defined past name = list_any (λ p. defines name p.0.act) past

  -- ---- models

  -- the models that an act declares, each with its equations: the listed ones, or for `/all/` the
  -- equations `declared`, which are declared before it. A model has no equations if the statement
  -- of the act has an error (`sound` is false)
  abbrev pub models_declared_by : List ℕ → Bool → Act F → List (ℕ × List ℕ)
  models_declared_by declared sound (Model models) = map (λ (model : ModelDecl). (model.named.name, equations_listed declared sound model)) models
  models_declared_by declared sound act = []

  -- the models that these statements declare, each with its equations, where the equations
  -- `declared` are declared before them; a model of a statement with an error has no equations
  abbrev pub models_after : List ℕ → Past F → List (ℕ × List ℕ)
  models_after declared [] = []
  models_after declared (p ∷ past) = models_declared_by declared p.1 p.0.act ++ models_after (declared ++ equations_declared p.0.act) past

  -- ---- the order of a set's labels

  -- whether an act declares the set of this name with labels whose numbers do not ascend, that is,
  -- in another order than that in which labels first occur in the program
  abbrev pub gives_unordered : ℕ → Act F → Bool
  gives_unordered name (Declare declaring.Set items) = list_any (λ (item : Decl F). item.named.name == name && not (is_ascending (labels_of_items item.items))) items
  gives_unordered name act = false

  -- whether some statement of `past` without an error declares the set of this name with its labels
  -- in another order than that in which labels first occur in the program
  abbrev pub is_unordered : Past F → ℕ → Bool
  is_unordered past name = list_any (λ p. p.1 && gives_unordered name p.0.act) past

module _ {F : Type 0} (value : F → Number) where
  -- ---- the state

  -- the state after the expanded data of a name were written to it; the state unchanged if the
  -- expansion has a fault. `value` gives the number that a value of `F` means
  abbrev pub with_data : State → ℕ → Result (ExpandedData F) SetFault → State
  with_data state name (Ok given) = given_to value name state given
  with_data state name (Err fault) = state

  -- the state after one name of a declaration of this kind was declared, without its data
  abbrev pub with_name : DeclKind → State → Decl F → State
  with_name kind state item = declare kind (names_of item.domain) state item.named.name

  -- the state after one name of a declaration of this kind was declared, with its data; without
  -- them if they have a fault
  abbrev pub with_item : DeclKind → State → Decl F → State
  with_item kind state item =
      with_data (with_name kind state item) item.named.name (expanded state (positions_of kind (names_of item.domain)) item.items)

  -- the state after the declarations of an act that has no error, with their data
  abbrev pub after_act : State → Act F → State
  after_act state (Declare kind items) = fold (with_item kind) state items
  after_act state act = declared_by state act

  -- the state after the declarations of a statement, with their data if it has no error (`sound`),
  -- otherwise without
  abbrev pub after_statement : State → Stmt F × Bool → State
  after_statement state (statement, sound) = if sound then after_act state statement.act else declared_by state statement.act

  -- the state after the declarations of these statements, in a program of `names` names; it has the
  -- data of a statement only if the statement has no error
  abbrev pub state_after : ℕ → Past F → State
  state_after names past = fold after_statement (blank_state names) past

-- What is known before a statement.
pub record Known (F : Type 0) : Type 0 where
  -- the number that a value of `F` means
  pub value : F → Number
  -- the names that the statements before declare, with data; within a declaration, also its earlier
  -- names
  pub state : State
  -- the names that the statements before declare, in order
  pub declared : List ℕ
  -- the domain set of a one-dimensional set, if any
  pub above : ℕ → Option ℕ
  -- whether some statement of the program assigns the set of this number
  pub assigned : ℕ → Bool
  -- whether the set of this number has its labels in another order than that in which labels first
  -- occur
  pub unordered : ℕ → Bool
  -- whether a statement before defines the equation of this number
  pub defined : ℕ → Bool
  -- the models that the statements before declare, each with its equations
  pub models : List (ℕ × List ℕ)
  -- the names of the solvers
  pub solvers : List (List ℕ)

module _ {F : Type 0} where
  -- whether a set, or the set of an alias, is dynamic: some statement of the program assigns it
  abbrev pub is_dynamic : Known F → ℕ → Bool
  is_dynamic known name = known.assigned (base_of known.state name)
