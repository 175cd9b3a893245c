-- The inputs of a run: a source from its start, or a file that resumes from a saved state (GAMS
-- User's Guide, "Save and Restart").
use Rattle.std.specs.Prelude.{◌≡◌, ℕ, ◌≤◌, List, length, drop, Option, Some, None, Result, Ok, Err}
use Rattle.gq_frac.specs.declared.frac.Frac.{Frac}
use Rattle.gq_frac.specs.Frac.{frac_value}
use Rattle.gms_ast.specs.declared.program.Program.{Program}
use Rattle.gms_ast.specs.declared.program.Stmt.{Stmt}
use Rattle.gms_store.specs.State.{State}
use Rattle.gms_check.specs.declared.error.CompileError.{CompileError}
use Rattle.gms_check.specs.CompileErrors.{compile_errors}
use Rattle.gms_check.specs.Loaded.{loaded}
pub use Rattle.gms_joint_source.specs.JointSources.{first_line, joint_source}
use Rattle.gms_save.specs.declared.saved.Saved.{Saved}
use Rattle.gms_save.specs.declared.fault.SaveFault.{SaveFault}
use Rattle.gms_save.specs.declared.fault.SaveFaultOrMemory.{SaveFaultOrMemory}
use Rattle.gms_save.specs.declared.fault.SaveFaultOrMemory.TheVariants.{Fault}
use Rattle.gms_save.specs.JointErrors.{joint_errors, resumed, saved_statements}
use Rattle.gms_save.specs.Saves.{most_save_bytes, GivesBack, IsRestored, Restores}

-- A source to run: a file alone, or a joint source, which is a saved source followed by the file.
-- The lines of the file are echoed, and `line` is the number of the first of them in the source.
pub record Script : Type 0 where
  pub source : List ℕ
  pub file : List ℕ
  pub line : ℕ
  -- the saved state from which the run resumes; None for a run from its start
  pub saved : Option State

-- what loading the input gives: a script, or the fault of a save that cannot be restored
pub data LoadedInput : Type 0 where
  scripted : Script → LoadedInput
  unrestored : SaveFault → LoadedInput

-- the input of a run: a source that is run from its start, or a save and a file that resumes from
-- it
pub data RunInput : Type 0 where
  from_start : List ℕ → RunInput
  from_save : List ℕ → List ℕ → RunInput

-- ---- scripts

-- the script of a source that is run from its start
abbrev pub script_of : List ℕ → Script
script_of source = record { source = source; file = source; line = 1; saved = None }

-- the script of a file that resumes from a saved state, after the saved source
abbrev pub joint_script : List ℕ → State → List ℕ → Script
joint_script saved state file =
    record { source = joint_source saved file; file = file; line = first_line saved; saved = Some state }

-- The script, a source to run, is the saved source followed by the file, and its run resumes from
-- the saved state. `saved`, the saved source and state, is what `save` restores with solvers of
-- these names. `save` has at most `most_save_bytes` bytes.
pub record IsJoint (solvers : List (List ℕ)) (save file : List ℕ) (script : Script) : Type 0 where
  pub saved : Saved
  pub short : length save ≤ most_save_bytes
  pub restored : IsRestored solvers save saved
  -- any state that has this save is the one that was restored, except for the index of the solver
  pub back : GivesBack solvers save (let r : Result Saved SaveFaultOrMemory = Ok saved in r)
  pub joint : script ≡ joint_script saved.source.items saved.store file

-- Restoring the save with solvers of these names gives this fault (`answer`). SaveTooLong: the save
-- is longer than `most_save_bytes`. SaveShape: it is not the save of any state. SaveSolver: it is
-- the save of a state, with a solver that has none of these names. `back` says that the fault is
-- right for each state that has this save.
pub record IsUnrestored (solvers : List (List ℕ)) (save : List ℕ) (fault : SaveFault) : Type 0 where
  pub answer : Restores solvers save (let r : Result Saved SaveFaultOrMemory = Err (Fault fault) in r)
  pub back : GivesBack solvers save (let r : Result Saved SaveFaultOrMemory = Err (Fault fault) in r)

-- what loading the input gives, with solvers of these names: the script of a source that is run
-- from its start, or, if a file resumes from a save, the joint script, or the fault of the save
abbrev pub IsLoadedInput : List (List ℕ) → RunInput → LoadedInput → Type 0
IsLoadedInput solvers (from_start source) (scripted script) = script ≡ script_of source
IsLoadedInput solvers (from_start source) (unrestored fault) = ⊥
IsLoadedInput solvers (from_save save file) (scripted script) = IsJoint solvers save file script
IsLoadedInput solvers (from_save save file) (unrestored fault) = IsUnrestored solvers save fault

-- ---- programs of scripts

-- the errors of a program, with solvers of these names. In a restarted run the errors Restart of
-- the file, which begins at the line `line`, may be among them: the file declares a saved variable
-- as a variable again, or assigns a saved set that the saved source does not assign
abbrev pub errors_of_script : Option State → ℕ → Program Frac → List (List ℕ) → List CompileError
errors_of_script None line program solvers = compile_errors frac_value program solvers
errors_of_script (Some state) line program solvers = joint_errors frac_value program line solvers

-- the state in which a program begins: that of its declarations with their data, or in a restarted
-- run the saved one, to which `resumed` adds the names that only the program declares
abbrev pub first_state : Option State → Program Frac → State
first_state None program = loaded frac_value program
first_state (Some state) program = resumed frac_value state program

-- the statements that are run: all, or in a restarted run those after the saved source, whose
-- statements begin before the line `line`
abbrev pub statements_to_run : Option State → ℕ → Program Frac → List (Stmt Frac)
statements_to_run None line program = program.statements.items
statements_to_run (Some state) line program = drop (length (saved_statements line program)) program.statements.items
