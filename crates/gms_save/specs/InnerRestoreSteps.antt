-- What the steps of restoring find: a program, and a state of it.
use Rattle.std.specs.Prelude.{◌≡◌, ◌⊎◌, ℕ, Bool, false, List, [], length, Some, None}
use Rattle.gq_frac.specs.declared.frac.Frac.{Frac}
use Rattle.gq_frac.specs.Frac.{frac_value, frac_limit}
use Rattle.gms_ast.specs.declared.program.Program.{Program}
use Rattle.gms_store.specs.State.{State, members_in, symbol_at}
use Rattle.gms_store.specs.Declarations.{declared_state}
use Rattle.gms_scope.specs.DynamicSets.{dynamic_sets}
use Rattle.gms_parse.specs.declared.fault.SourceFault.{SourceFault}
use Rattle.gms_parse.specs.Outcomes.{IsProgram, IsSourceFault}
use Rattle.gms_check.specs.CompileErrors.{compile_errors}
use Rattle.gms_check.specs.Loaded.{loaded}
use Rattle.gms_check.specs.Past.{is_among}
use Rattle.gms_save_text.specs.SavedState.{state_text}
use Rattle.gms_save_text.specs.Validity.{IsGivenWell, IsSavedOf}
use Rattle.gms_save.specs.declared.fault.SaveFault.TheVariants.{SaveTooLong, SaveShape, SaveSolver}
use Rattle.gms_save.specs.declared.fault.SaveFaultOrMemory.{SaveFaultOrMemory}
use Rattle.gms_save.specs.declared.fault.SaveFaultOrMemory.TheVariants.{Memory, Fault}
use Rattle.gms_save.specs.Saves.{place_of_solver, solvers_chosen, with_solver}

-- ---- the program

-- The program of a source, which has no error with solvers of the names that it chooses.
pub record IsFree (source : List ℕ) (program : Program Frac) : Type 0 where
  pub is_program : IsProgram frac_limit source frac_value program
  pub no_error : compile_errors frac_value program (solvers_chosen program) ≡ []

-- a source that has no such program: it has a fault, or a program with errors
abbrev pub IsFaulty : List ℕ → Type 0
IsFaulty source =
    ((fault : SourceFault) × IsSourceFault frac_limit source fault) ⊎ ((program : Program Frac) × IsProgram frac_limit source frac_value program × (compile_errors frac_value program (solvers_chosen program) ≡ [] → ⊥))

-- why there is no such program: the source has none, or memory ran out
abbrev pub IsFaultyBy : List ℕ → SaveFaultOrMemory → Type 0
IsFaultyBy source Memory = Unit {0}
IsFaultyBy source (Fault SaveTooLong) = ⊥
IsFaultyBy source (Fault SaveShape) = IsFaulty source
IsFaultyBy source (Fault SaveSolver) = ⊥

-- ---- the state

-- a state is a saved one of what a program declares
abbrev pub IsSavedIn : Program Frac → State → List ℕ → Type 0
IsSavedIn program state solver =
    IsSavedOf frac_limit (length program.labels) (declared_state program) (loaded frac_value program) (is_among (dynamic_sets program)) state solver

-- what a saved state has at a name: its data are valid, and the members of a set that is not
-- assigned are those of the data
pub record IsSavedAt (labels : ℕ) (assigned : ℕ → Bool) (loaded state : State) (name : ℕ) : Type 0 where
  pub given : IsGivenWell frac_limit labels state (symbol_at state name)
  pub static : assigned name ≡ false → members_in (symbol_at state name).content ≡ members_in (symbol_at loaded name).content

-- A state is a saved one of a program. Any saved state with this text is this state with the first
-- solver in its settings, and has the same solver's name.
pub record IsStateOf (program : Program Frac) (text : List ℕ) (state : State) (solver : List ℕ) : Type 0 where
  pub is_saved : IsSavedIn program state solver
  pub same_state : (other : State) (name : List ℕ) → IsSavedIn program other name → text ≡ state_text program.names other name → state ≡ with_solver other 0
  pub same_solver : (other : State) (name : List ℕ) → IsSavedIn program other name → text ≡ state_text program.names other name → solver ≡ name

-- a text is that of no saved state of a program
abbrev pub IsNoState : Program Frac → List ℕ → Type 0
IsNoState program text = (state : State) (solver : List ℕ) → IsSavedIn program state solver → text ≡ state_text program.names state solver → ⊥

-- why there is no such state: the text is that of none, or memory ran out
abbrev pub IsNoStateBy : Program Frac → List ℕ → SaveFaultOrMemory → Type 0
IsNoStateBy program text Memory = Unit {0}
IsNoStateBy program text (Fault SaveTooLong) = ⊥
IsNoStateBy program text (Fault SaveShape) = IsNoState program text
IsNoStateBy program text (Fault SaveSolver) = ⊥

-- ---- the place of the solver

-- Bytes are a text, and a saved solver has this place among solvers of these names.
abbrev pub IsPlaced : List ℕ → List ℕ → List (List ℕ) → List ℕ → ℕ → Type 0
IsPlaced bytes text solvers solver place = (bytes ≡ text) × (place_of_solver solvers solver ≡ Some place)

-- why there is no such place: the bytes are not the text; or they are, and the solvers lack the
-- saved one; or memory ran out
abbrev pub IsUnplacedBy : List ℕ → List ℕ → List (List ℕ) → List ℕ → SaveFaultOrMemory → Type 0
IsUnplacedBy bytes text solvers solver Memory = Unit {0}
IsUnplacedBy bytes text solvers solver (Fault SaveTooLong) = ⊥
IsUnplacedBy bytes text solvers solver (Fault SaveShape) = bytes ≡ text → ⊥
IsUnplacedBy bytes text solvers solver (Fault SaveSolver) = (bytes ≡ text) × (place_of_solver solvers solver ≡ None)
