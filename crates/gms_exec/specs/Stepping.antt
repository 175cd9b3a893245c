-- The contract of `step`: what course a statement leads to, what its solvers did, and what stays
-- (GAMS User's Guide, "GAMS Programs", "Programming Flow Control Features", "Model and Solve
-- Statements").
use Rattle.std.specs.Prelude.{◌≡◌, ℕ, ◌<◌, ◌≤◌, ◌==◌, List, [], ◌∷◌, ◌++◌, length, map, slice_get, None, option_map, option_to_list, Result, Ok, Err, if◌then◌else◌}
use Rattle.gq_number.specs.Number.{Number}
use Rattle.gms_store.specs.declared.settings.Settings.{Settings}
use Rattle.gms_store.specs.State.{State}
use Rattle.gms_eval.specs.declared.stop.ExecStopOrMemory.{ExecStopOrMemory}
use Rattle.gms_eval.specs.declared.stop.ExecStopOrMemory.TheVariants.{Memory, Fault as Stop}
use Rattle.gms_eval.specs.Gives.{fault_of}
use Rattle.gms_event.specs.declared.event.Event.{Event}
use Rattle.gms_event.specs.declared.event.Event.TheVariants as event
use Rattle.gms_event.specs.EventView.{events_in}
use Rattle.lp_core.specs.declared.answer.Answer.{Answer}
use Rattle.lp_core.specs.declared.answer.Pivot.{Pivot}
use Rattle.lp_slot.specs.declared.solver.SolverRule.{SolverRule}
use Rattle.lp_core.specs.Numbers.{answer_numbers}
use Rattle.gms_exec.specs.Answering.{AreAnswered}
use Rattle.gms_exec.specs.Run.{Course, stopped_by}

-- The view of a run: its state, the events that it showed, and the answers of its solves.
pub record RunView (F : Type 0) : Type 0 where
  pub state : State
  pub events : List (Event F)
  pub answers : List (Answer F)

-- the claim P holds after a call with this result; if memory ran out, nothing is claimed
abbrev pub UnlessMemory : {F A : Type 0} → Result A (ExecStopOrMemory F) → Type 0 → Type 0
UnlessMemory (Ok x) P = P
UnlessMemory (Err Memory) P = Unit {0}
UnlessMemory (Err (Stop stop)) P = P

-- ---- the run

module _ {F : Type 0} (value : F → Number) where
  -- the course of a run with this view, for whose further solves these answers remain
  abbrev pub course_from_view : RunView F → List (Answer Number) → Course
  course_from_view seen left =
      record { state = seen.state; events = events_in value seen.events; left = left; taken = length seen.answers; halted = None }

  -- After a call with this result the course is `now`, or, if the result is a stop, `now` halted by
  -- its fault. Out of memory makes no claim.
  abbrev pub Comes : {A : Type 0} → Result A (ExecStopOrMemory F) → Course → Course → Type 0
  Comes (Ok x) course now = course ≡ now
  Comes (Err Memory) course now = Unit {0}
  Comes (Err (Stop stop)) course now = course ≡ stopped_by now (fault_of value stop)

  -- A call has this result; `old` and `new` are the views of the run before and after it. It
  -- appended the events `shown` and the answers `fresh`. The function `does` maps the course of
  -- `old`, for which `fresh` and then the answers `more` remain, to the course of `new`, for which
  -- `more` remain. If the result is a stop, it maps to this course halted by the stop's fault. Out
  -- of memory makes no claim of `does`.
  pub record Runs {A : Type 0} (result : Result A (ExecStopOrMemory F)) (does : Course → Course) (old new : RunView F) : Type 0 where
    pub shown : List (Event F)
    pub events : new.events ≡ old.events ++ shown
    pub fresh : List (Answer F)
    pub answers : new.answers ≡ old.answers ++ fresh
    pub comes : (more : List (Answer Number)) → Comes result (does (course_from_view old (map (answer_numbers value) fresh ++ more))) (course_from_view new more)

-- ---- the solvers

-- for each solve among the events whose solver has the index k, the pivots of its answer in the
-- list `answers`, in order
abbrev pub paths_taken : {F : Type 0} → ℕ → List (Answer F) → List (Event F) → List (List Pivot)
paths_taken {F} k answers [] = []
paths_taken {F} k answers (event.Solve line model equations lp answer solver settings level ∷ events) =
    (if settings.solver == k then option_to_list (option_map (λ (a : Answer F). a.pivots) (slice_get answers answer)) else []) ++ paths_taken k answers events
paths_taken {F} k answers (other ∷ events) = paths_taken k answers events

-- The solvers are `old` before a call and `new` after it, the views of the run `before` and
-- `after`. Number, order, names and rules are unchanged. To each solver's paths are appended the
-- pivots of its answers in the call. Each solve that the call appended to the events has an answer
-- to its linear program by its solver's rule (`AreAnswered`); `limit` bounds the size of numbers.
-- `name`, `rule` and `paths` give a solver's name, its pivot rule, and the pivots of each answer
-- that it gave. `value` gives the number that a value of `F` means.
pub record Answered {S F : Type 0} (value : F → Number) (limit : ℕ) (name : S → List ℕ) (rule : S → SolverRule) (paths : S → List (List Pivot)) (old new : List S) (before after : RunView F) : Type 0 where
  pub names : map name new ≡ map name old
  pub rules : map rule new ≡ map rule old
  pub shown : List (Event F)
  pub events : after.events ≡ before.events ++ shown
  pub answered : AreAnswered value limit (map rule old) after.answers (events_in value shown)
  pub extended : (k : ℕ) → slice_get (map paths new) k ≡ option_map (λ taken. taken ++ paths_taken k after.answers shown) (slice_get (map paths old) k)

-- ---- what stays

-- The settings have at most 8 decimals, and choose one of `solvers` solvers, if there are any.
pub record AreValidSettings (solvers : ℕ) (settings : Settings) : Type 0 where
  pub decimals : settings.decimals ≤ 8
  pub chosen : 0 < solvers → settings.solver < solvers
