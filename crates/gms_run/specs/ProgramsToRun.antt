-- Programs to run, the course of a run with the solvers' answers, and the text of a run.
use Rattle.std.specs.Prelude.{◌≡◌, ℕ, ◌+◌, ◌≤◌, ◌⊎◌, List, [], ◌++◌, length, take, Option, Some, None}
use Rattle.gq_frac.specs.declared.frac.Frac.{Frac}
use Rattle.gq_frac.specs.Frac.{frac_value, frac_limit}
use Rattle.gms_ast.specs.declared.program.Program.{Program}
use Rattle.gms_ast.specs.declared.program.Stmt.{Stmt}
use Rattle.gms_store.specs.State.{State}
use Rattle.gms_eval.specs.Faults.{Fault}
use Rattle.gms_exec.specs.Answering.{AreAnswered}
use Rattle.gms_exec.specs.Run.{Course, Halt, stopped, waiting, run_from, all_events}
use Rattle.gms_laws.specs.Moments.{AnswersAreSo}
use Rattle.gms_list.specs.ListingText.{echo_text, events_text, end_text}
use Rattle.gms_run.specs.declared.status.Status.{Status}
use Rattle.gms_run.specs.declared.status.Status.TheVariants.{Done, Usage, Compile, Execution, ReadFault, WriteFault}
pub use Rattle.gms_restart.specs.Restarts.{solver_name}
use Rattle.gms_run.specs.Searches.{SearchesEnd}
use Rattle.gms_save_text.specs.SavedState.{saved_text}
use Rattle.gms_run.specs.Scripts.{Script, first_state, statements_to_run}
use Rattle.gms_run.specs.Solving.{Solving, HavePathsExtended, SolvesNothing, numbers_of}

-- What is run: statements of a program, from a state. `source` is the source of the program; the
-- lines of `file` are echoed, and `line` is the number of the first of them.
pub record ProgramToRun : Type 0 where
  pub program : Program Frac
  pub state : State
  pub statements : List (Stmt Frac)
  pub source : List ℕ
  pub file : List ℕ
  pub line : ℕ

-- The program to run of a script whose source is this program. Without a saved state all statements
-- are run, from the state that the declarations give. With a saved state those after the saved
-- source are run, from that state with the names added that only the program declares.
abbrev pub program_to_run : Script → Program Frac → ProgramToRun
program_to_run script program =
    record { program = program; state = first_state script.saved program; statements = statements_to_run script.saved script.line program; source = script.source; file = script.file; line = script.line }

-- a program to run, with its first n statements alone
abbrev pub first_of : ℕ → ProgramToRun → ProgramToRun
first_of n to_run = record to_run { statements = take n to_run.statements }

-- ---- the run

-- the run of a program with the answers of these solvers
abbrev pub course_of : ProgramToRun → Solving → Course
course_of to_run solving =
    run_from frac_value frac_limit (record { program = to_run.program; solvers = solving.before.names }) to_run.state (numbers_of solving.answers) to_run.statements

-- The solves of the run use all answers of `solving`. Each has an answer of the linear program that
-- its model means in the state before it, by the rule of the solver chosen in this state. The
-- answer is not Interrupted if the solve's limit of pivots is at least the known bound of the
-- pivots by this rule. A solver's paths are the lists of pivots of its answers; the pivots of each
-- answer are appended to them.
pub record IsRunSolved (to_run : ProgramToRun) (solving : Solving) : Type 0 where
  pub all_taken : (course_of to_run solving).left ≡ []
  pub answered : AreAnswered frac_value frac_limit solving.before.rules solving.answers (course_of to_run solving).events
  pub ended : SearchesEnd solving.before.rules solving.answers (course_of to_run solving).events
  pub extended : HavePathsExtended solving.before solving.after solving.answers (course_of to_run solving).events

-- each answer of the run is right: what it says is true of the model as it is written, with the
-- data at the moment of the solve
abbrev pub HasRightAnswers : ProgramToRun → Solving → Type 0
HasRightAnswers to_run solving =
    AnswersAreSo frac_value frac_limit (record { program = to_run.program; solvers = solving.before.names }) to_run.state to_run.statements solving.answers

-- the number of a status, which is the exit status
abbrev pub status_code : Status → ℕ
status_code Done = 0
status_code Usage = 1
status_code Compile = 2
status_code Execution = 3
status_code ReadFault = 4
status_code WriteFault = 5

-- how a run that ends with this status halts: with Done not at all, with Execution by a fault; with
-- any other status there is no such run
abbrev pub HaltsSo : Status → Option Halt → Type 0
HaltsSo Done halted = halted ≡ None
HaltsSo Execution halted = (fault : Fault) × (halted ≡ Some (stopped fault))
HaltsSo _ halted = ⊥

-- ---- the text of a run

-- the last line of a listing, by how the run halts and how many solves it has: with status 0 if the
-- run does not halt, and with status 3 if a fault stops it; empty if it waits for an answer
abbrev pub last_line : Option Halt → ℕ → List ℕ
last_line None solves = end_text 0 solves
last_line (Some (stopped fault)) solves = end_text 3 solves
last_line (Some waiting) solves = []

-- the text of what the run of this program with the solvers' answers shows: its events, and the
-- fault that stops it, if any. The run ends at a solve for which no answer remains
abbrev pub shown_by : ProgramToRun → Solving → List ℕ
shown_by to_run solving =
    events_text to_run.program.names to_run.program.labels frac_limit (numbers_of solving.answers) (all_events (course_of to_run solving))

-- the echo of the file, and what the statements show: the listing without its last line
abbrev pub body_of : ProgramToRun → Solving → List ℕ
body_of to_run solving = echo_text to_run.line to_run.file ++ shown_by to_run solving

-- the listing of a program: the echo, what the statements show, and the last line. If no answer
-- remains for a solve, the listing ends at this solve, without a last line
abbrev pub program_listing : ProgramToRun → Solving → List ℕ
program_listing to_run solving = body_of to_run solving ++ last_line (course_of to_run solving).halted (length solving.answers)

-- ---- the save of a run

-- the save of the last state of a run, with its source and the name of its solver
abbrev pub save_text : ProgramToRun → Solving → List ℕ
save_text to_run solving =
    saved_text to_run.source to_run.program.names (course_of to_run solving).state (solver_name solving.before.names (course_of to_run solving).state)

-- ---- where it is cut off

-- how many bytes of a listing may wait in memory before they are written
abbrev pub most_held : ℕ
most_held = 4096

-- After a write fault `written` bytes of the listing of `to_run` are written. For some `before`,
-- the solves of the first `before + 1` statements of `to_run` use all answers of `solving`. Of the
-- echo and what the first `before` statements show, at most the last 4,096 bytes (`most_held`) are
-- not written.
pub record IsWrittenUpTo (to_run : ProgramToRun) (solving : Solving) (written : ℕ) : Type 0 where
  -- how many statements are before the last executed one
  pub before : ℕ
  pub taken : (course_of (first_of (before + 1) to_run) solving).left ≡ []
  pub held : length (body_of (first_of before to_run) solving) ≤ written + most_held

-- Only the first `written` bytes of a program's listing were written. Either nothing was solved. Or
-- for some n (`IsWrittenUpTo`) the solves of the first n + 1 statements use all answers of
-- `solving`, and of the echo with the text of the first n statements at most the last 4,096 bytes
-- are missing
abbrev pub IsCutOff : ProgramToRun → Solving → ℕ → Type 0
IsCutOff to_run solving written = SolvesNothing solving ⊎ IsWrittenUpTo to_run solving written
