-- The contracts between the functions that load an input, run it and report it.
use Rattle.std.specs.Prelude.{◌≡◌, ◌≢◌, ◌≤◌, ◌<◌, ◌⊎◌, Bool, true, false, ℕ, List, [], ◌++◌, map, take, drop, length, Option, Some, None, option_map, IfSome, IfOk, Result, Ok, Err, Vec, string_bytes}
use Rattle.std.specs.List.{All}
use Rattle.std.specs.declared.alloc.Global.{Global}
use Rattle.std.specs.declared.alloc.AllocError.{AllocError}
use Rattle.gq_frac.specs.declared.frac.Frac.{Frac}
use Rattle.gq_frac.specs.Frac.{frac_value, frac_limit}
use Rattle.gms_host.specs.declared.host.Failed.{Failed}
use Rattle.gms_host.specs.declared.host.Failed.TheVariants.{Fault as FailedSo, Memory}
use Rattle.gms_host.specs.Meaning.{Meaning, Outside, Counts}
use Rattle.gms_host.specs.Rules.{with_output, with_said}
use Rattle.gms_host.specs.Spooling.{Passes, PrintsPrefix}
use Rattle.gms_ast.specs.declared.program.Program.{Program}
use Rattle.gms_check.specs.declared.error.CompileError.{CompileError}
use Rattle.gms_store.specs.State.{State, fits_at, members_in, symbol_at, symbol_of}
use Rattle.gms_store.specs.Declarations.{declared_state}
use Rattle.gms_parse.specs.Outcomes.{IsProgram}
use Rattle.gms_save.specs.JointErrors.{resumed}
use Rattle.gms_save.specs.Saves.{IsSavedBy, place_of_solver}
use Rattle.gms_restart.specs.Alike.{IsAlike}
use Rattle.gms_exec.specs.Stepping.{AreValidSettings}
use Rattle.gms_list.specs.ListingText.{end_text}
use Rattle.gms_save_text.specs.SavedState.{saved_text}
use Rattle.lp_core.specs.declared.answer.Answer.{Answer}
use Rattle.lp_core.specs.declared.program.Lp.{Lp}
use Rattle.lp_core.specs.Numbers.{lp_numbers}
use Rattle.lp_slot.specs.SolverNames.{IsSolverName}
use Rattle.gms_command.specs.RangeTexts.{SaysRanges}
use Rattle.gms_command.specs.CommandLine.{Asked, Origin, in_file, restarted, generated, read_fault_line}
use Rattle.gms_run.specs.declared.status.Status.{Status}
use Rattle.gms_run.specs.declared.status.Status.TheVariants.{Compile, ReadFault, WriteFault}
use Rattle.gms_run.specs.declared.script.Script.{Script as OwnScript}
use Rattle.gms_run.specs.declared.script.LoadedInput.{LoadedInput as OwnInput}
use Rattle.gms_run.specs.declared.script.LoadedInput.TheVariants.{ToRun, Unrestored}
use Rattle.gms_run.specs.Solving.{Solving, SolvesNothing, numbers_of}
use Rattle.gms_run.specs.Scripts.{Script, LoadedInput, scripted, unrestored, RunInput, from_save, IsLoadedInput, first_line, first_state, joint_source}
use Rattle.gms_run.specs.ProgramsToRun.{solver_name, status_code}
use Rattle.gms_run.specs.Listings.{AreRemarks, IsAcceptedScript, IsListing, IsModelLine, SavesSo, errors_text, save_file}
use Rattle.gms_run.specs.declared.execution.Run.{Run}
use Rattle.gms_run.specs.InnerRuns.{Moment, pending, solved_between}
use Rattle.gms_run.specs.InnerSteps.{ResultsIn}
use Rattle.gms_run.specs.Statuses.{CountsSo, EndsByNoFault, IsFileOf, IsReported, IsRun, IsUnread, IsUnwritten, IsUnwrittenFile, IsWriteFault, OfRequest, RanSo, SaysLine, with_read, with_save, with_source_read}

-- ---- views of arguments

-- a saved state, if the run resumes from one
abbrev pub saved_if : Bool → State → Option State
saved_if true state = Some state
saved_if false state = None

-- a script as the specification sees it, with the state that it resumes from, if any
abbrev pub script_in : OwnScript → State → Script
script_in script state =
    record { source = script.source.now; file = script.file.now; line = script.line; saved = saved_if script.joint state }

-- the view of a loaded input
abbrev pub loaded_input_in : OwnInput → State → LoadedInput
loaded_input_in (ToRun script) state = scripted (script_in script state)
loaded_input_in (Unrestored fault) state = unrestored fault

-- The source is joint: a file follows the source of a program, and begins at this line. The state
-- is a saved one of that program, and its settings have the place of the solver that the save
-- names.
pub record IsGoneOn (solvers : List (List ℕ)) (source : List ℕ) (line : ℕ) (state : State) : Type 0 where
  pub before : List ℕ
  pub file : List ℕ
  pub program : Program Frac
  pub solver : List ℕ
  pub joint : source ≡ joint_source before file
  pub begins : line ≡ first_line before
  pub is_program : IsProgram frac_limit before frac_value program
  pub is_saved : IsSavedBy program state solver
  pub placed : place_of_solver solvers solver ≡ Some state.settings.solver

-- A run of a joint source can resume from this saved state. The settings choose one of the solvers,
-- the members of a set are as long as it has positions, and if the source is a program, the state
-- declares its names as the program does.
pub record CanContinue (solvers : List (List ℕ)) (source : List ℕ) (line : ℕ) (state : State) : Type 0 where
  pub origin : IsGoneOn solvers source line state
  pub settings : AreValidSettings (length solvers) state.settings
  pub arity : (name : ℕ) → All (λ t. length t ≡ length (symbol_at state name).domain) (members_in (symbol_at state name).content)
  pub declares : (program : Program Frac) → IsProgram frac_limit source frac_value program → (name : ℕ) → IsAlike (resumed frac_value state program) (declared_state program) name

-- a run of a source can resume from this state; without a state nothing is required
abbrev pub IsSound : List (List ℕ) → List ℕ → ℕ → Option State → Type 0
IsSound solvers source line None = Unit {0}
IsSound solvers source line (Some state) = CanContinue solvers source line state

-- a run of a loaded input can resume from its saved state, if it has one
abbrev pub IsSoundInput : List (List ℕ) → LoadedInput → Type 0
IsSoundInput solvers (scripted script) = IsSound solvers script.source script.line script.saved
IsSoundInput solvers (unrestored fault) = Unit {0}

-- A run begins a program in this state. The script is accepted, the names of the solvers can be
-- written in a source, and the state is the program's first. A saved state that it resumes from is
-- one of the saved source's program.
pub record Begins (solvers : List (List ℕ)) (script : Script) (program : Program Frac) (state : State) : Type 0 where
  pub accepted : IsAcceptedScript solvers script program
  pub named : All IsSolverName solvers
  pub origin : IfSome script.saved (IsGoneOn solvers script.source script.line)
  pub first : state ≡ first_state script.saved program

-- ---- transfers

-- the first `most` bytes of the input were taken, or all if it has fewer; after a failure only the
-- input has changed
abbrev pub TakesFirst : ℕ → Result (Vec ℕ Global) Failed → Outside → Outside → Type 0
TakesFirst most (Ok source) old new =
    (whole : List ℕ) × (IfSome old.input (λ bytes. whole ≡ bytes) × ((source.items ≡ take most whole) × (new ≡ record old { input = option_map (λ _. drop most whole) old.input })))
TakesFirst most (Err _) old new = new ≡ record old { input = new.input }

-- the bytes of a file were taken, or its first `most` bytes; after a failure the file is not read
abbrev pub ReadsFile : ℕ → Result (Vec ℕ Global) Failed → Outside → Outside → List ℕ → Type 0
ReadsFile most (Ok source) old new file =
    (whole : List ℕ) × (IsFileOf old file whole × ((source.items ≡ take most whole) × (new ≡ with_read most old file whole)))
ReadsFile most (Err _) old new file = IsUnread old new file

-- a line was printed, or after a failure a prefix of it
abbrev pub SaysAll : Result (Unit {0}) Failed → Outside → Outside → List ℕ → Type 0
SaysAll (Ok _) old new line = new ≡ with_said old line
SaysAll (Err _) old new line = PrintsPrefix old new line

-- the save of a run was written, if it is to be saved
abbrev pub WritesSave : Status → Asked → Outside → Outside → List ℕ → Type 0
WritesSave status request old new bytes = new ≡ with_save old (save_file status request) bytes

-- the save of a run was to be written to a file, and was not
pub record LosesSave (status : Status) (request : Asked) (old new : Outside) (bytes : List ℕ) : Type 0 where
  pub name : List ℕ
  pub named : save_file status request ≡ Some name
  pub outside : IsUnwrittenFile old new name bytes

-- ---- reports

-- The listing before its last line is written, except for what is pending; without a compile error
-- at most one spool is pending.
pub record Prepares (status : Status) (solving : Solving) (old new : Outside) (loaded_input : LoadedInput) (pending : List ℕ) : Type 0 where
  pub body : List ℕ
  pub listing : IsListing status solving loaded_input (body ++ end_text (status_code status) (length solving.answers))
  pub passes : Passes old new body pending
  pub within_bound : (status ≡ Compile) ⊎ (length pending ≤ 4096)

-- The loaded input was listed except for the last line, or a prefix of its listing was written.
abbrev pub ListsBody : Result Status Failed → LoadedInput → Moment → Moment → Type 0
ListsBody result loaded_input old new =
    ResultsIn result
    (λ status. Prepares status (solved_between old new) old.host.outside new.host.outside loaded_input (pending new.run))
    (IsUnwritten (solved_between old new) old.host.outside new.host.outside loaded_input)

-- The whole listing of the loaded input was added to the output.
pub record Lists (status : Status) (solving : Solving) (old new : Outside) (loaded_input : LoadedInput) : Type 0 where
  pub text : List ℕ
  pub listing : IsListing status solving loaded_input text
  pub written : new ≡ with_output old text

-- The whole listing of the loaded input was written, or a prefix of it.
abbrev pub ListsAll : Result Status Failed → LoadedInput → Moment → Moment → Type 0
ListsAll result loaded_input old new =
    ResultsIn result
    (λ status. Lists status (solved_between old new) old.host.outside new.host.outside loaded_input)
    (IsUnwritten (solved_between old new) old.host.outside new.host.outside loaded_input)

-- The listing was written, the requested save of the last state too, and the closing lines were
-- printed; or a write failed.
abbrev pub Reports : Result Status Failed → Asked → LoadedInput → Moment → Moment → Type 0
Reports result request loaded_input old new =
    ResultsIn result
    (λ status. IsReported status (solved_between old new) old.host.outside new.host.outside request loaded_input)
    (IsWriteFault (solved_between old new) old.host.outside new.host.outside request loaded_input)

-- the errors of a program are listed after the echo of its script; without errors nothing is listed
abbrev pub ListsErrors : Bool → List CompileError → Script → List ℕ → List ℕ → Type 0
ListsErrors true errors script before after = (errors ≢ []) × (after ≡ before ++ errors_text script errors)
ListsErrors false errors script before after = (errors ≡ []) × (after ≡ before)

-- What follows a listing: the remarks that are printed, and the save of the last state.
pub record Follows (status : Status) (solving : Solving) (request : Asked) (loaded_input : LoadedInput) (text bytes : List ℕ) : Type 0 where
  pub remarks : AreRemarks status solving request loaded_input text
  pub saves : SavesSo status solving request loaded_input bytes

-- what follows the listing is prepared in the run
abbrev pub HasRest : Result Status Failed → Asked → LoadedInput → Moment → Moment → Type 0
HasRest result request loaded_input old new =
    IfOk result (λ status. Follows status (solved_between old new) request loaded_input (string_bytes new.run.remarks) new.run.save.items)

-- the end of a run, by the result of its report: a fault of the host is a write fault, and out of
-- memory has no status
abbrev pub EndsAs : Result Status Failed → Result Status AllocError → Type 0
EndsAs (Ok status) end = end ≡ Ok status
EndsAs (Err FailedSo) end = end ≡ Ok WriteFault
EndsAs (Err Memory) end = (e : AllocError) × (end ≡ Err e)

-- The input was run: it was loaded, and what it gives to run was run.
pub record RanOf (status : Status) (solving : Solving) (old new : Outside) (request : Asked) (taken : RunInput) : Type 0 where
  pub loaded_input : LoadedInput
  pub is_loaded_input : IsLoadedInput solving.before.names taken loaded_input
  pub ran : RanSo status solving old new request loaded_input

-- A file could not be read, and the read fault line was printed.
pub record IsUnreadFile (old new : Meaning) (file : List ℕ) : Type 0 where
  pub before : Outside
  pub unread : IsUnread old.outside before file
  pub said : SaysLine old new before (read_fault_line file)

-- what a run did after it read a save: the file that resumes from the save was read and run, or it
-- could not be read
abbrev pub RanAfter : Status → Solving → Meaning → Meaning → Asked → List ℕ → List ℕ → Type 0
RanAfter ReadFault solving old new request save file = IsUnreadFile old new file × SolvesNothing solving
RanAfter status solving old new request save file =
    (source : List ℕ) × (IsFileOf old.outside file source × RanOf status solving (with_source_read old.outside file source) new.outside request (from_save save source))

-- ---- requests

-- the loaded input was run as the status says, unless memory ran out
abbrev pub RunsInput : Result Status AllocError → Asked → LoadedInput → Moment → Moment → Type 0
RunsInput result request loaded_input old new =
    IfOk result (λ status. RanSo status (solved_between old new) old.host.outside new.host.outside request loaded_input)

-- the same of the input that was read
abbrev pub RunsTaken : Result Status AllocError → Asked → RunInput → Moment → Moment → Type 0
RunsTaken result request taken old new =
    IfOk result (λ status. RanOf status (solved_between old new) old.host.outside new.host.outside request taken)

-- the same of a file after a save
abbrev pub RunsAfter : Result Status AllocError → Asked → List ℕ → List ℕ → Moment → Moment → Type 0
RunsAfter result request save file old new =
    IfOk result (λ status. RanAfter status (solved_between old new) old.host new.host request save file)

-- the same of a request
abbrev pub RunsRequest : Result Status AllocError → Asked → Moment → Moment → Type 0
RunsRequest result request old new =
    IfOk result (λ status. OfRequest status (solved_between old new) old.host new.host request)

-- the same of arguments
abbrev pub RunsWords : Result Status AllocError → List (List ℕ) → Moment → Moment → Type 0
RunsWords result words old new =
    IfOk result (λ status. IsRun status (solved_between old new) words old.host new.host)

-- ---- remarks

-- the line on a run, by where its source comes from, its program and its last state
abbrev pub IsTold : Origin → Program Frac → State → List (Answer Frac) → List ℕ → Type 0
IsTold (generated size) program last answers line = IsModelLine size program last answers line
IsTold (in_file file) program last answers line = line ≡ []
IsTold (restarted saved file) program last answers line = line ≡ []

-- what is printed of ranges, if they are requested, for a run that solved these linear programs
abbrev pub IsRanged : Bool → Program Frac → List (Lp Frac) → List (Answer Frac) → List ℕ → Type 0
IsRanged true program solved answers text =
    SaysRanges program.names program.labels frac_limit 1 (map (lp_numbers frac_value) solved) (numbers_of answers) text
IsRanged false program solved answers text = text ≡ []

-- the remarks on a run, by its program, its last state and the linear programs that it solved
abbrev pub IsRemarked : Asked → Program Frac → State → List (Lp Frac) → List (Answer Frac) → List ℕ → Type 0
IsRemarked request program last solved answers text =
    (ranges line : List ℕ) × IsRanged request.ranges program solved answers ranges × IsTold request.source program last answers line × (text ≡ ranges ++ line)

-- the remarks on a run of a program are those that its state calls for
abbrev pub HasRemarks : Asked → Program Frac → Run → Type 0
HasRemarks request program run =
    IsRemarked request program run.progress.store run.solved.items run.progress.answers.items (string_bytes run.remarks)

-- The bytes are the save of a last state with its source, and the numbers of the state are within
-- the limit.
pub record KeepsState (solvers : List (List ℕ)) (source : List ℕ) (program : Program Frac) (last : State) (bytes : List ℕ) : Type 0 where
  pub text : bytes ≡ saved_text source program.names last (solver_name solvers last)
  pub fit : (name : ℕ) → name < length program.names → (t : List ℕ) → fits_at frac_limit (symbol_of last name).content t ≡ true

-- the bytes are the save of the last state, if the run is to be saved
abbrev pub IsSave : Status → Asked → List (List ℕ) → List ℕ → Program Frac → State → List ℕ → Type 0
IsSave status request solvers source program last bytes = IfSome (save_file status request) (λ file. KeepsState solvers source program last bytes)

-- the save of a run of a program over a source, where one is requested, is that of its state
abbrev pub HasSave : Status → Asked → List (List ℕ) → List ℕ → Program Frac → Run → Type 0
HasSave status request solvers source program run =
    IsSave status request solvers source program run.progress.store run.save.items

-- ---- counts

-- How a run changes the counts: as its status says. Where it surely meets no fault, it counts none,
-- and does not end with one.
pub record CountsRun (result : Result Status AllocError) (sure : Type 0) (old new : Counts) : Type 0 where
  pub said : IfOk result (λ status. CountsSo status old new)
  pub stay : sure → new ≡ old
  pub unmet : sure → IfOk result EndsByNoFault

-- How printing a line changes the counts, where a fault in it is no fault of the run: only faults
-- of writing are counted, and a reliable host counts none.
pub record CountsMention (old new : Counts) : Type 0 where
  pub rest : new ≡ record old { write_faults = new.write_faults }
  pub no_fall : old.write_faults ≤ new.write_faults
  pub stay : old.reliable ≡ true → new ≡ old
