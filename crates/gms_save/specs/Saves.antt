-- Saves: which bytes are one, and what is restored from them (GAMS User's Guide, "Save and
-- Restart"). Which texts are saves, and how many bytes one may have, is this project's own choice.
use Rattle.std.specs.Prelude.{◌≡◌, ℕ, ◌<◌, ◌≤◌, ◌==◌, List, [], ◌∷◌, length, flat_map, Option, Some, None, position, codes, Result, Ok, Err, if◌then◌else◌}
use Rattle.std.specs.Str.{bytes_eq, str_eq_ignore_ascii_case}
use Rattle.gq_frac.specs.declared.frac.Frac.{Frac}
use Rattle.gq_frac.specs.Frac.{frac_value, frac_limit}
use Rattle.gms_ast.specs.declared.word.Word.{Word}
use Rattle.gms_ast.specs.declared.program.Program.{Program}
use Rattle.gms_ast.specs.declared.program.Setting.{Setting}
use Rattle.gms_ast.specs.declared.program.Setting.TheVariants as setting
use Rattle.gms_ast.specs.declared.program.Stmt.{Stmt}
use Rattle.gms_ast.specs.declared.program.Act.TheOpen.{Act-F}
use Rattle.gms_ast.specs.declared.program.Act.TheFolds.{fold-Stmt}
use Rattle.gms_store.specs.State.{State}
use Rattle.gms_store.specs.Declarations.{declared_state}
use Rattle.gms_parse.specs.Outcomes.{IsProgram, program_view}
use Rattle.gms_scope.specs.DynamicSets.{dynamic_sets}
use Rattle.gms_check.specs.Past.{is_among}
use Rattle.gms_check.specs.CompileErrors.{compile_errors}
use Rattle.gms_check.specs.Loaded.{loaded}
use Rattle.gms_save_text.specs.SavedState.{saved_text}
use Rattle.gms_save_text.specs.Validity.{IsSavedOf}
use Rattle.gms_save.specs.declared.saved.Saved.{Saved}
use Rattle.gms_save.specs.declared.fault.SaveFault.TheVariants.{SaveTooLong, SaveShape, SaveSolver}
use Rattle.gms_save.specs.declared.fault.SaveFaultOrMemory.{SaveFaultOrMemory}
use Rattle.gms_save.specs.declared.fault.SaveFaultOrMemory.TheVariants.{Memory, Fault}

-- the greatest number of bytes of a save that can be restored
abbrev pub most_save_bytes : ℕ
most_save_bytes = 67108864

-- ---- the names of solvers

-- the name to which a setting sets the option `lp`, as a list; none if it sets another option, or
-- sets `lp` to a number
abbrev pub option_solvers : Word × Setting Frac → List (List ℕ)
option_solvers (word, setting.Number at value) = []
option_solvers (word, setting.Name name) = if str_eq_ignore_ascii_case word.text (codes "lp") then name.text ∷ [] else []

-- the names of solvers to which an act sets the option `lp`, where each statement of a loop's body
-- is replaced by its own such names
abbrev pub solvers_step : Act-F Frac (List (List ℕ)) (List (List ℕ)) → List (List ℕ)
solvers_step (Act-F.Options settings) = flat_map option_solvers settings
solvers_step (Act-F.Loop control body) = flat_map (λ names. names) body.items
solvers_step act = []

-- the names of solvers to which a statement sets `lp`, also in the body of a loop
abbrev pub solvers_in : Stmt Frac → List (List ℕ)
solvers_in = fold-Stmt Frac (List (List ℕ)) (List (List ℕ)) solvers_step (λ statement. statement.act)

-- the names of solvers to which the statements of a program set the option `lp`
abbrev pub solvers_chosen : Program Frac → List (List ℕ)
solvers_chosen program = flat_map solvers_in program.statements.items

-- the index of a save's solver in the list of solvers: that of the first with its name, letter case
-- ignored; None if there is none. A save has the name `none` if there was no solver; it is
-- accepted, as index 0, only if the list is empty
abbrev pub place_of_solver : List (List ℕ) → List ℕ → Option ℕ
place_of_solver solvers solver =
    if bytes_eq solver (codes "none") then (if length solvers == 0 then Some 0 else None) else position (λ name. str_eq_ignore_ascii_case name solver) solvers

-- ---- saves

-- The program has no error with solvers of the names that it chooses. `state`, with a solver named
-- `solver`, is a saved state of the program (`IsSavedOf`): both declare the same names alike, the
-- data and settings of `state` are valid, and a set that the program does not assign has its
-- declared members.
pub record IsSavedBy (program : Program Frac) (state : State) (solver : List ℕ) : Type 0 where
  pub no_error : compile_errors frac_value program (solvers_chosen program) ≡ []
  pub is_saved : IsSavedOf frac_limit (length program.labels) (declared_state program) (loaded frac_value program) (is_among (dynamic_sets program)) state solver

-- The bytes are the save of a state of a program, with the source of the program and a solver of
-- this name.
pub record IsSaveOf (bytes source : List ℕ) (program : Program Frac) (state : State) (solver : List ℕ) : Type 0 where
  pub is_program : IsProgram frac_limit source frac_value program
  pub is_saved : IsSavedBy program state solver
  pub text : bytes ≡ saved_text source program.names state solver

-- the bytes are no save: not that of any state of any program
abbrev pub IsNoSave : List ℕ → Type 0
IsNoSave bytes = (source : List ℕ) (program : Program Frac) (state : State) (solver : List ℕ) → ¬ (IsSaveOf bytes source program state solver)

-- the bytes are a save whose solver is none of these
pub record LacksSolver (solvers : List (List ℕ)) (bytes : List ℕ) : Type 0 where
  pub source : List ℕ
  pub program : Program Frac
  pub state : State
  pub solver : List ℕ
  pub is_save : IsSaveOf bytes source program state solver
  pub lacks : place_of_solver solvers solver ≡ None

-- The bytes are the save of the source, program and state in `saved`, and the settings of that
-- state have the index of the save's solver among `solvers`.
pub record IsRestored (solvers : List (List ℕ)) (bytes : List ℕ) (saved : Saved) : Type 0 where
  pub solver : List ℕ
  pub is_save : IsSaveOf bytes saved.source.items saved.program saved.store solver
  pub placed : place_of_solver solvers solver ≡ Some saved.store.settings.solver

-- The result of restoring these bytes, with solvers of these names, is right. SaveTooLong: they are
-- more than `most_save_bytes`; else they are not. Ok: they are the save of `saved`. SaveShape: they
-- are no save. SaveSolver: none of the solvers is that of the save. Out of memory makes no claim.
abbrev pub Restores : List (List ℕ) → List ℕ → Result Saved SaveFaultOrMemory → Type 0
Restores solvers bytes (Ok saved) = (length bytes ≤ most_save_bytes) × IsRestored solvers bytes saved
Restores solvers bytes (Err Memory) = Unit {0}
Restores solvers bytes (Err (Fault SaveTooLong)) = most_save_bytes < length bytes
Restores solvers bytes (Err (Fault SaveShape)) = (length bytes ≤ most_save_bytes) × IsNoSave bytes
Restores solvers bytes (Err (Fault SaveSolver)) = (length bytes ≤ most_save_bytes) × LacksSolver solvers bytes

-- the state with this index of the solver in its settings, and otherwise unchanged
abbrev pub with_solver : State → ℕ → State
with_solver state place = record { symbols = state.symbols; settings = record state.settings { solver = place } }

-- What was restored has this source, a program with the same names, labels and statements as this
-- one, and this state, except that the settings have the index of this solver.
pub record IsBack (solvers : List (List ℕ)) (saved : Saved) (source : List ℕ) (program : Program Frac) (state : State) (solver : List ℕ) : Type 0 where
  pub source_is : saved.source.items ≡ source
  pub program_is : program_view frac_value saved.program ≡ program_view frac_value program
  pub state_is : saved.store ≡ with_solver state saved.store.settings.solver
  pub placed : place_of_solver solvers solver ≡ Some saved.store.settings.solver

-- the result of restoring `bytes`, the save of this source, program and state with a solver of the
-- name `solver`, is right: what was saved (`IsBack`); SaveTooLong if the save is too long;
-- SaveSolver if none of `solvers` has this name; never SaveShape; out of memory makes no claim
abbrev pub AnswersSave : List (List ℕ) → List ℕ → List ℕ → Program Frac → State → List ℕ → Result Saved SaveFaultOrMemory → Type 0
AnswersSave solvers bytes source program state solver (Ok saved) = IsBack solvers saved source program state solver
AnswersSave solvers bytes source program state solver (Err Memory) = Unit {0}
AnswersSave solvers bytes source program state solver (Err (Fault SaveTooLong)) = most_save_bytes < length bytes
AnswersSave solvers bytes source program state solver (Err (Fault SaveShape)) = ⊥
AnswersSave solvers bytes source program state solver (Err (Fault SaveSolver)) = place_of_solver solvers solver ≡ None

-- for each state of a program that these bytes are the save of, the result of restoring the bytes
-- with solvers of these names is right (`AnswersSave`): this state, a fault whose cause holds, or
-- out of memory
abbrev pub GivesBack : List (List ℕ) → List ℕ → Result Saved SaveFaultOrMemory → Type 0
GivesBack solvers bytes result =
    (source : List ℕ) (program : Program Frac) (state : State) (solver : List ℕ) → IsSaveOf bytes source program state solver → AnswersSave solvers bytes source program state solver result
