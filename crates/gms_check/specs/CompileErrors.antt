-- The compile errors of a program: for each statement the first by its place in the source, and at
-- one place the one with the least number. A loop with its body is one statement. `Names`, `Kinds`,
-- `Domains`, `Controls`, `Linearity` and `Solves` define which conditions are errors, each in a
-- definition of the error's name.
use Rattle.std.specs.Prelude.{ℕ, nat_lt, Bool, true, false, ◌&&◌, List, [], ◌∷◌, ◌++◌, length, map, flat_map, filter, Option, is_none, option_to_list, if◌then◌else◌}
use Rattle.gq_number.specs.Number.{Number}
use Rattle.gms_labels.specs.declared.place.Place.{Place}
use Rattle.gms_ast.specs.declared.declaration.DeclKind.{DeclKind}
use Rattle.gms_ast.specs.declared.declaration.Decl.{Decl}
use Rattle.gms_ast.specs.declared.declaration.ModelDecl.{ModelDecl}
use Rattle.gms_ast.specs.declared.program.Act.{Act}
use Rattle.gms_ast.specs.declared.program.Act.TheVariants.{Declare, Model}
use Rattle.gms_ast.specs.declared.program.Stmt.{Stmt}
use Rattle.gms_ast.specs.declared.program.Program.{Program}
use Rattle.gms_store.specs.State.{State}
use Rattle.gms_store.specs.Declarations.{declare_model}
use Rattle.gms_check.specs.declared.error.ErrorKind.{ErrorKind}
use Rattle.gms_check.specs.declared.error.ErrorKind.TheVariants.{UnknownName, Redeclared, WrongKind, WrongArity, DomainOfSet, DomainOfLabel, Uncontrolled, ControlledTwice, NotOrdered, DynamicDomain, Nonlinear, Discrete, ModelType, NotDefined, DefinedTwice, Objective, UnknownSolver, OptionRange, Endogenous, Function, DataFault, Restart}
use Rattle.gms_check.specs.declared.error.CompileError.{CompileError}
use Rattle.gms_check.specs.Errors.{first_error}
use Rattle.gms_check.specs.Uses.{Use, Uses}
use Rattle.gms_check.specs.StatementUses.{statement_uses}
use Rattle.gms_check.specs.DeclarationUses.{item_uses, kind_uses, model_uses}
use Rattle.gms_check.specs.Past.{Past, Known, declared_names, is_among, is_defined, is_unordered, models_after, with_name, with_item, state_after}
use Rattle.gms_check.specs.Above.{directly_above}
use Rattle.gms_scope.specs.DynamicSets.{dynamic_sets}
use Rattle.gms_scope.specs.Names.{is_equation, declared_kind}
use Rattle.gms_check.specs.Names.{unknown_name, redeclared}
use Rattle.gms_check.specs.Kinds.{wrong_kind, discrete, wrong_function}
use Rattle.gms_check.specs.Domains.{wrong_arity, domain_of_set, domain_of_label, dynamic_domain}
use Rattle.gms_check.specs.Controls.{uncontrolled, controlled_twice, not_ordered}
use Rattle.gms_check.specs.Linearity.{nonlinear, endogenous}
use Rattle.gms_check.specs.Solves.{model_type, not_defined, defined_twice, objective, unknown_solver, option_range, data_fault}

-- the errors that a check finds, in the order of their numbers: all except Restart
abbrev pub checked_kinds : List ErrorKind
checked_kinds =
    UnknownName ∷ Redeclared ∷ WrongKind ∷ WrongArity ∷ DomainOfSet ∷ DomainOfLabel ∷ Uncontrolled ∷ ControlledTwice ∷ NotOrdered ∷ DynamicDomain ∷ Nonlinear ∷ Discrete ∷ ModelType ∷ NotDefined ∷ DefinedTwice ∷ Objective ∷ UnknownSolver ∷ OptionRange ∷ Endogenous ∷ Function ∷ DataFault ∷ []

-- whether there are no errors
abbrev pub is_faultless : List CompileError → Bool
is_faultless errors = is_none (first_error errors)

module _ {F : Type 0} where
  -- whether a use has an error of this kind, by what is known; no use has the error Restart
  abbrev pub has_error : Known F → Use F → ErrorKind → Bool
  has_error known used UnknownName = unknown_name known used
  has_error known used Redeclared = redeclared known used
  has_error known used WrongKind = wrong_kind known used
  has_error known used WrongArity = wrong_arity known used
  has_error known used DomainOfSet = domain_of_set known used
  has_error known used DomainOfLabel = domain_of_label known used
  has_error known used Uncontrolled = uncontrolled known used
  has_error known used ControlledTwice = controlled_twice known used
  has_error known used NotOrdered = not_ordered known used
  has_error known used DynamicDomain = dynamic_domain known used
  has_error known used Nonlinear = nonlinear known used
  has_error known used Discrete = discrete known used
  has_error known used ModelType = model_type known used
  has_error known used NotDefined = not_defined known used
  has_error known used DefinedTwice = defined_twice known used
  has_error known used Objective = objective known used
  has_error known used UnknownSolver = unknown_solver known used
  has_error known used OptionRange = option_range known used
  has_error known used Endogenous = endogenous known used
  has_error known used Function = wrong_function known used
  has_error known used DataFault = data_fault known used
  has_error known used Restart = false

  -- the errors of a use at a place in the source, by what is known, in the order of their numbers
  abbrev pub errors_at : Known F → Place × Use F → List CompileError
  errors_at known (at, used) = map (λ kind. record { kind = kind; at = at }) (filter (has_error known used) checked_kinds)

  -- the compile errors of these uses, use by use; `known` is what is known before the uses
  abbrev pub errors_of : Known F → Uses F → List CompileError
  errors_of known uses = flat_map (errors_at known) uses

  -- what is known, with its state replaced by `state`
  abbrev pub known_in : Known F → State → Known F
  known_in known state = record known { state = state }

  -- what is known after one name of a declaration, `item`: the name is declared, and has its data
  -- if none of the item's uses has an error
  abbrev pub known_after_item : Known F → DeclKind → Decl F → Known F
  known_after_item known kind item =
      known_in known (if is_faultless (errors_of known (item_uses known kind item)) then with_item known.value kind known.state item else with_name known.value kind known.state item)

  -- the errors of the names of a declaration, in order, each by what is known after the names
  -- before it
  abbrev pub declaration_errors : Known F → DeclKind → List (Decl F) → List CompileError
  declaration_errors known kind [] = []
  declaration_errors known kind (item ∷ items) =
      errors_of known (item_uses known kind item) ++ declaration_errors (known_after_item known kind item) kind items

  -- the errors of the models of a model statement, in order, each by what is known after the models
  -- before it
  abbrev pub model_errors : Known F → List ModelDecl → List CompileError
  model_errors known [] = []
  model_errors known (model ∷ models) =
      errors_of known (model_uses model) ++ model_errors (known_in known (declare_model known.state model.named.name)) models

  -- all errors of `statement`, whose act is given: of a declaration Discrete, if it is of discrete
  -- variables, and those of each name by what is known after the earlier names; of a model
  -- statement those of each model by what is known after the earlier models; else those of its
  -- uses, with no controlled sets around it (`[]`)
  abbrev pub act_errors : Known F → Stmt F → Act F → List CompileError
  act_errors known statement (Declare kind items) = errors_of known (kind_uses statement.at kind) ++ declaration_errors known kind items
  act_errors known statement (Model models) = model_errors known models
  act_errors known statement act = errors_of known (statement_uses statement known.state [])

  -- the error of a statement, by what is known before it, if it has one: the first by place, then
  -- by number
  abbrev pub statement_error : Known F → Stmt F → Option CompileError
  statement_error known statement = first_error (act_errors known statement statement.act)

  -- whether `name` is the number of a name of the program that has the property
  abbrev pub of_program : Program F → (ℕ → Bool) → ℕ → Bool
  of_program program property name = nat_lt name (length program.names) && property name

  -- the names of the program that the statements `past` declare, in order
  abbrev pub names_before : Program F → Past F → List ℕ
  names_before program past = filter (of_program program (λ name. true)) (declared_names past)

  -- the models of the program that the statements `past` declare, in order, each with those of its
  -- equations that the state declares as equations. A model with `/all/` has the equations that the
  -- statements before its statement declare; a model of a statement with an error has none
  abbrev pub models_before : State → Program F → Past F → List (ℕ × List ℕ)
  models_before state program past =
      map (λ (model : ℕ × List ℕ). (model.0, filter (λ equation. is_equation (declared_kind state equation)) model.1)) (filter (λ (model : ℕ × List ℕ). of_program program (λ name. true) model.0) (models_after [] past))

  -- what is known after these statements of a program, each with whether it has no error, where
  -- `value` gives the number that a value of `F` means, and `solvers` are the names of the solvers
  abbrev pub known_after : (F → Number) → Program F → List (List ℕ) → Past F → Known F
  known_after value program solvers past =
      record { value = value; state = state_after value (length program.names) past; declared = names_before program past; above = directly_above (state_after value (length program.names) past) (names_before program past); assigned = of_program program (is_among (dynamic_sets program)); unordered = of_program program (is_unordered past); defined = of_program program (is_defined past); models = models_before (state_after value (length program.names) past) program past; solvers = solvers }

  -- the first error of each of these statements, None if the statement has none; the statements
  -- `past`, each with whether it has no error, come before these. `value` gives the number that a
  -- value of `F` means, and `solvers` are the names of the solvers
  abbrev pub each_error : (F → Number) → Program F → List (List ℕ) → Past F → List (Stmt F) → List (Option CompileError)
  each_error value program solvers past [] = []
  each_error value program solvers past (statement ∷ rest) =
      statement_error (known_after value program solvers past) statement ∷ each_error value program solvers (past ++ (statement, is_none (statement_error (known_after value program solvers past) statement)) ∷ []) rest

  -- the first error of each of these statements that has one, in order; the statements `past`, each
  -- with whether it has no error, come before these. `value` gives the number that a value of `F`
  -- means, and `solvers` are the names of the solvers
  abbrev pub errors_after : (F → Number) → Program F → List (List ℕ) → Past F → List (Stmt F) → List CompileError
  errors_after value program solvers past statements = flat_map option_to_list (each_error value program solvers past statements)

  -- the first error of each statement of a program, None if the statement has none; `value` gives
  -- the number that a value of `F` means, and `solvers` are the names of the solvers
  abbrev pub statement_errors : (F → Number) → Program F → List (List ℕ) → List (Option CompileError)
  statement_errors value program solvers = each_error value program solvers [] program.statements.items

  -- the compile errors of a program, in order: of each statement the first error, if it has one;
  -- `value` gives the number that a value of `F` means, and `solvers` are the names of the solvers
  abbrev pub compile_errors : (F → Number) → Program F → List (List ℕ) → List CompileError
  compile_errors value program solvers = errors_after value program solvers [] program.statements.items
