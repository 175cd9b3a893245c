-- The contracts between the functions that execute a program.
use Rattle.std.specs.Prelude.{◌≡◌, ℕ, ◌+◌, ◌≤◌, Bool, true, false, List, [], ◌∷◌, ◌++◌, length, map, slice_get, Option, Some, None, option_map, IfSome, Result, Ok, Err}
use Rattle.std.specs.List.{All, range_with_len}
use Rattle.gq_frac.specs.declared.frac.Frac.{Frac}
use Rattle.gq_frac.specs.Frac.{frac_value, frac_limit}
use Rattle.gq_number.specs.Number.{Number}
use Rattle.gms_host.specs.declared.host.Failed.{Failed}
use Rattle.gms_host.specs.declared.host.Failed.TheVariants.{Fault as FailedSo, Memory}
use Rattle.gms_host.specs.Meaning.{Outside}
use Rattle.gms_host.specs.Spooling.{Passes, WritesPrefix}
use Rattle.gms_ast.specs.declared.program.Program.{Program}
use Rattle.gms_ast.specs.declared.program.Stmt.{Stmt}
use Rattle.gms_store.specs.State.{State}
use Rattle.gms_store.specs.declared.settings.Settings.{Settings}
use Rattle.gms_eval.specs.Faults.{Fault}
use Rattle.gms_event.specs.declared.event.Event.{Event as OwnEvent}
use Rattle.gms_event.specs.declared.event.Event.TheVariants as own
use Rattle.gms_event.specs.Events.{Event}
use Rattle.gms_event.specs.EventView.{events_in}
use Rattle.lp_core.specs.declared.answer.Answer.{Answer}
use Rattle.lp_slot.specs.declared.solver.SolverRule.{SolverRule}
use Rattle.lp_core.specs.declared.program.Lp.{Lp}
use Rattle.lp_core.specs.Numbers.{lp_numbers}
use Rattle.gms_exec.specs.Run.{Course, stopped, last_event}
use Rattle.gms_exec.specs.ValidEvents.{IsValidEvent, IsValidSolve}
use Rattle.gms_list.specs.ListingText.{events_text}
use Rattle.gms_run.specs.declared.status.Status.{Status}
use Rattle.gms_run.specs.Solving.{Solvers, Solving, HavePathsExtended, numbers_of, places_of, programs_of, solves_in}
use Rattle.gms_run.specs.ProgramsToRun.{ProgramToRun, IsRunSolved, HaltsSo, course_of, first_of, shown_by}

-- what work over a host results in: `Done` on success, `Broken` on a host fault; out of memory
-- makes no claim
abbrev pub ResultsIn : {A : Type 0} → Result A Failed → (A → Type 0) → Type 0 → Type 0
ResultsIn (Ok x) Done Broken = Done x
ResultsIn (Err FailedSo) Done Broken = Broken
ResultsIn (Err Memory) Done Broken = Unit {0}

-- ---- the programs of solves

-- the answer at a place is one of a program, by the settings of some solve
abbrev pub IsAnsweredAt : List SolverRule → List (Answer Frac) → ℕ → Lp Frac → Type 0
IsAnsweredAt rules answers place lp = (settings : Settings) × IsValidSolve frac_value frac_limit rules answers lp place settings

-- The programs of the solves among events are kept, in order. They are those that the solves show,
-- one for each answer, and each answer is one of the program at its place.
pub record KeepsPrograms (rules : List SolverRule) (answers : List (Answer Frac)) (programs : List (Lp Frac)) (events : List Event) : Type 0 where
  pub shown : map (lp_numbers frac_value) programs ≡ programs_of (solves_in events)
  pub in_order : places_of (solves_in events) ≡ range_with_len 0 (length answers)
  pub answered : (place : ℕ) → IfSome (slice_get programs place) (IsAnsweredAt rules answers place)

-- the programs of the solves that were shown, in order
abbrev pub programs_in : List (OwnEvent Frac) → List (Lp Frac)
programs_in [] = []
programs_in (own.Solve line model equations lp answer solver settings level ∷ events) = lp ∷ programs_in events
programs_in (other ∷ events) = programs_in events

-- the programs that are kept: all of them, if requested, and otherwise none
abbrev pub kept_if : Bool → List (Lp Frac) → List (Lp Frac)
kept_if true programs = programs
kept_if false programs = []

-- ---- between statements

-- A run between two statements: its state, its answers, their linear programs, and its solvers.
pub record Between : Type 0 where
  pub state : State
  pub answers : List (Answer Frac)
  pub programs : List (Lp Frac)
  pub solvers : Solvers

-- the state of a run that has shown these events and has these answers left
abbrev pub course_at : Between → List Event → List (Answer Number) → Option Fault → Course
course_at at events left fault =
    record { state = at.state; events = events; left = left; taken = length at.answers; halted = option_map stopped fault }

-- a run continues where no fault stopped it
abbrev pub Continues : Bool → Option Fault → Type 0
Continues true fault = fault ≡ None
Continues false fault = (stop : Fault) × (fault ≡ Some stop)

-- Statements were executed. They appended events and took answers, and the run reached the state
-- and the end that these statements lead to with these answers. The text of the events, and of the
-- fault that stopped them, is appended to the text before. Each solve is answered, its program is
-- appended to those that are kept, if requested, and the pivots of its answer are appended to
-- the paths of its solver.
pub record IsListed (keep continues : Bool) (does : Course → Course) (program : Program Frac) (rules : List SolverRule) (old new : Between) (before after : List ℕ) : Type 0 where
  pub shown : List (OwnEvent Frac)
  pub fault : Option Fault
  pub end : Continues continues fault
  pub fresh : List (Answer Frac)
  pub answers : new.answers ≡ old.answers ++ fresh
  pub programs : new.programs ≡ old.programs ++ kept_if keep (programs_in shown)
  pub valid : All (IsValidEvent frac_value frac_limit rules new.answers) shown
  pub extended : HavePathsExtended old.solvers new.solvers new.answers (events_in frac_value shown)
  pub comes : (events : List Event) (more : List (Answer Number)) →
      does (course_at old events (numbers_of fresh ++ more) None) ≡ course_at new (events ++ events_in frac_value shown) more fault
  pub text : after ≡ before ++ events_text program.names program.labels frac_limit (numbers_of new.answers) (events_in frac_value shown ++ last_event (option_map stopped fault))

-- ---- programs to run

-- a program to run without an echo
abbrev pub work : Program Frac → State → List (Stmt Frac) → ProgramToRun
work program state statements = record { program = program; state = state; statements = statements; source = []; file = []; line = 0 }

-- A program ended with this status, in this state, and the programs of its solves were kept, if
-- requested.
pub record Ends (keep : Bool) (status : Status) (to_run : ProgramToRun) (solving : Solving) (last : State) (programs : List (Lp Frac)) : Type 0 where
  pub solved : IsRunSolved to_run solving
  pub halts : HaltsSo status (course_of to_run solving).halted
  pub comes : (course_of to_run solving).state ≡ last
  pub kept : keep ≡ true → KeepsPrograms solving.before.rules solving.answers programs (course_of to_run solving).events

-- The statements ended. Their text follows the text `expected`, and all of it is written except for
-- what is pending.
pub record EndsAfter (keep : Bool) (status : Status) (to_run : ProgramToRun) (solving : Solving) (last : State) (programs : List (Lp Frac)) (old new : Outside) (expected pending : List ℕ) : Type 0 where
  pub ends : Ends keep status to_run solving last programs
  pub passes : Passes old new (expected ++ shown_by to_run solving) pending
  pub within_bound : length pending ≤ 4096

-- The statements were executed up to one whose listing, after the text `expected`, was not written.
pub record BreaksAfter (to_run : ProgramToRun) (solving : Solving) (old new : Outside) (expected : List ℕ) : Type 0 where
  pub solved : IsRunSolved to_run solving
  pub beginning : WritesPrefix old new (expected ++ shown_by to_run solving)
  pub last : ℕ
  pub taken : (course_of (first_of (last + 1) to_run) solving).left ≡ []
  pub pending : length (expected ++ shown_by (first_of last to_run) solving) ≤ length beginning.1.bytes + 4096
