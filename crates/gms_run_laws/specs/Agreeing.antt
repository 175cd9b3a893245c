-- States of which one has all that another declares, and runs of the same statements from both
-- (GAMS User's Guide, "Save and Restart").
use Rattle.std.specs.Prelude.{◌≡◌, ◌≤◌, ◌+◌, ℕ, Bool, true, not, List, [], ◌∷◌, ◌++◌, length, flat_map}
use Rattle.gq_number.specs.Number.{Number}
use Rattle.gms_ast.specs.declared.program.Stmt.{Stmt}
use Rattle.gms_store.specs.Declarations.{is_undeclared}
use Rattle.gms_store.specs.Overlays.{overlaid}
use Rattle.gms_store.specs.State.{State, base_of, symbol_at, symbol_of}
use Rattle.gms_rows.specs.ModelPoints.{definitions_of_model}
use Rattle.gms_exec.specs.Run.{Course, World}
use Rattle.lp_core.specs.declared.answer.Answer.{Answer}
use Rattle.gms_run_laws.specs.Names.{Each, models_solved, statement_names}

-- Each name for which the test is true has the same symbol in both states, and an alias among them
-- also the same symbol of its set.
pub record AgreeOn (test : ℕ → Bool) (one other : State) : Type 0 where
  pub own : (n : ℕ) → test n ≡ true → symbol_at other n ≡ symbol_at one n
  pub occurs : (n : ℕ) → test n ≡ true → symbol_of other n ≡ symbol_of one n

-- whether a state declares a name
abbrev pub declares : State → ℕ → Bool
declares state name = not (is_undeclared (symbol_at state name).content)

-- The set of which a declared name of the state is an alias is declared too.
abbrev pub IsClosed : State → Type 0
IsClosed state = (n : ℕ) → declares state n ≡ true → declares state (base_of state n) ≡ true

-- The state has at least as many names as `other`, and is unchanged if `other` is laid over it:
-- each name that `other` declares has the same symbol in both, and the settings are the same.
pub record HasAll (state other : State) : Type 0 where
  pub many : length other.symbols ≤ length state.symbols
  pub same : overlaid state other ≡ state

-- Each name on which the statements depend is declared in the state, also those in the definitions
-- of the models that they solve, as the program of the world has them. A world is a program and the
-- names of the solvers.
abbrev pub NameDeclared : {F : Type 0} → World F → State → List (Stmt F) → Type 0
NameDeclared world state statements = Each (declares state) (flat_map (statement_names world) statements)

-- each of these models has the same definitions in both lists of statements
abbrev pub DefineAlike : {F : Type 0} → List (Stmt F) → List (Stmt F) → List ℕ → Type 0
DefineAlike statements others [] = Unit {0}
DefineAlike statements others (model ∷ models) =
    (definitions_of_model others model ≡ definitions_of_model statements model) × DefineAlike statements others models

-- The two worlds have the same solvers, and each model that the statements solve has the same
-- definitions in the programs of both.
pub record SolveAlike {F : Type 0} (world other : World F) (statements : List (Stmt F)) : Type 0 where
  pub solvers : other.solvers ≡ world.solvers
  pub models : DefineAlike world.program.statements.items other.program.statements.items (flat_map models_solved statements)

-- A run `other`, which began in `state`, ends like the run `course`: its last state is `state`
-- overlaid with that of `course`; both have used as many answers for solves; the answers that
-- remain for `other` are those that remain for `course`, followed by `following`. `course` has
-- `count` answers, used and remaining.
pub record EndsAlike (state : State) (following : List (Answer Number)) (count : ℕ) (course other : Course) : Type 0 where
  pub ends : other.state ≡ overlaid state course.state
  pub left : other.left ≡ course.left ++ following
  pub taken : other.taken ≡ course.taken
  pub total : course.taken + length course.left ≡ count
