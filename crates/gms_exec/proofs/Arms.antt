-- What calls did that do one act each, as runs.
use Rattle.std.proofs.Common.{◌≡◌, ℕ, List, [], ◌∷◌, ◌++◌, length, map, refl, sym, ap, subst, ◌∙◌, None, option_map, slice_get, Result, Ok, Err, append-nil}
use Rattle.std.proofs.lemmas.List.{map-append}
use Rattle.std.proofs.lemmas.List.Elements.{All-nil, All-cons}
use Rattle.gq_number.specs.Number.{Number}
use Rattle.gms_store.specs.State.{State}
use Rattle.gms_eval.specs.Faults.{Answer as Evaluated, Fault}
use Rattle.gms_eval.specs.Gives.{fault_of, Shows, ShowsStop}
use Rattle.gms_eval.specs.declared.stop.ExecStopOrMemory.{ExecStopOrMemory}
use Rattle.gms_eval.specs.declared.stop.ExecStopOrMemory.TheVariants.{Memory, Fault as Stop}
use Rattle.gms_event.specs.EventView.{event_in, events_in}
use Rattle.gms_event.specs.declared.event.Event.{Event}
use Rattle.gms_event.specs.declared.event.Event.TheVariants as event
use Rattle.lp_core.specs.declared.answer.Answer.{Answer}
use Rattle.lp_core.specs.declared.answer.Pivot.{Pivot}
use Rattle.lp_slot.specs.declared.solver.SolverRule.{SolverRule}
use Rattle.lp_core.specs.Numbers.{answer_numbers}
use Rattle.gms_exec.specs.Answering.{IsAnswered, AreAnswered}
use Rattle.gms_exec.specs.Run.{Course, stopped_by, with_evaluated, with_event, in_state}
use Rattle.gms_exec.specs.InnerContracts.{Assigns, HasNoSolve, ShowsNoSolve}
use Rattle.gms_exec.specs.Stepping.{RunView, course_from_view, Runs, Answered, paths_taken, UnlessMemory}
use Rattle.gms_exec.proofs.Joining.{extended-nothing}

module _ {F : Type 0} (value : F → Number) where
  -- a call that does the same as another
  pub runs-alike : {A : Type 0} (result : Result A (ExecStopOrMemory F)) (does other : Course → Course) (old new : RunView F) → ((left : List (Answer Number)) → does (course_from_view value old left) ≡ other (course_from_view value old left)) → Runs value result other old new → Runs value result does old new
  runs-alike (Ok x) does other old new same runs =
      record { shown = runs.shown; events = runs.events; fresh = runs.fresh; answers = runs.answers; comes = λ more. same (map (answer_numbers value) runs.fresh ++ more) ∙ runs.comes more }
  runs-alike (Err Memory) does other old new same runs =
      record { shown = runs.shown; events = runs.events; fresh = runs.fresh; answers = runs.answers; comes = λ more. tt }
  runs-alike (Err (Stop stop)) does other old new same runs =
      record { shown = runs.shown; events = runs.events; fresh = runs.fresh; answers = runs.answers; comes = λ more. same (map (answer_numbers value) runs.fresh ++ more) ∙ runs.comes more }

  -- a call that changed nothing, where nothing was to be done
  pub runs-nothing : {A : Type 0} (x : A) (does : Course → Course) (seen : RunView F) → ((left : List (Answer Number)) → does (course_from_view value seen left) ≡ course_from_view value seen left) → Runs value {A = A} (Ok x) does seen seen
  runs-nothing x does seen same =
      record { shown = []; events = sym (append-nil seen.events); fresh = []; answers = sym (append-nil seen.answers); comes = same }

  -- a call that changed the state alone
  pub runs-state : {A : Type 0} (x : A) (does : Course → Course) (old new : State) (events : List (Event F)) (answers : List (Answer F)) → ((left : List (Answer Number)) → does (course_from_view value (record { state = old; events = events; answers = answers }) left) ≡ course_from_view value (record { state = new; events = events; answers = answers }) left) → Runs value {A = A} (Ok x) does (record { state = old; events = events; answers = answers }) (record { state = new; events = events; answers = answers })
  runs-state x does old new events answers goes =
      record { shown = []; events = sym (append-nil events); fresh = []; answers = sym (append-nil answers); comes = goes }

  -- out of memory makes no claim on the state: earlier events and answers remain as a prefix
  pub runs-memory : {A : Type 0} (failed : ExecStopOrMemory F) (does : Course → Course) (old new : RunView F) (fresh : List (Answer F)) → failed ≡ Memory → new.events ≡ old.events → new.answers ≡ old.answers ++ fresh → Runs value {A = A} (Err failed) does old new
  runs-memory {A} failed does old new fresh memory events answers =
      subst (λ failed. Runs value {A = A} (Err failed) does old new) (sym memory) (record { shown = []; events = events ∙ sym (append-nil old.events); fresh = fresh; answers = answers; comes = λ more. tt })

  -- a call that failed and changed nothing
  pub runs-stopped : {A : Type 0} (failed : ExecStopOrMemory F) (does : Course → Course) (seen : RunView F) → ((stop : _) → failed ≡ Stop stop → (left : List (Answer Number)) → does (course_from_view value seen left) ≡ stopped_by (course_from_view value seen left) (fault_of value stop)) → Runs value {A = A} (Err failed) does seen seen
  runs-stopped Memory does seen stops =
      record { shown = []; events = sym (append-nil seen.events); fresh = []; answers = sym (append-nil seen.answers); comes = λ more. tt }
  runs-stopped (Stop stop) does seen stops =
      record { shown = []; events = sym (append-nil seen.events); fresh = []; answers = sym (append-nil seen.answers); comes = λ more. stops stop refl more }

  -- where the first thing to do is a value that stops
  pub runs-value_stops : {A B : Type 0} (failed : ExecStopOrMemory F) (does : Course → Course) (seen : RunView F) (answer : Evaluated B) (next : Course → B → Course) → ShowsStop value {A = B} failed answer → ((left : List (Answer Number)) → does (course_from_view value seen left) ≡ with_evaluated answer (next (course_from_view value seen left)) (course_from_view value seen left)) → Runs value {A = A} (Err failed) does seen seen
  runs-value_stops Memory does seen answer next stops does_so = runs-stopped Memory does seen (λ stop e. absurd cc)
  runs-value_stops (Stop stop) does seen answer next stops does_so =
      record {
        shown = [];
        events = sym (append-nil seen.events);
        fresh = [];
        answers = sym (append-nil seen.answers);
        comes = λ more. does_so more ∙ ap (λ answer. with_evaluated answer (next (course_from_view value seen more)) (course_from_view value seen more)) stops;
      }

  -- an assignment
  pub runs-assigned : {A : Type 0} (result : Result A (ExecStopOrMemory F)) (does : Course → Course) (old new : State) (events : List (Event F)) (answers : List (Answer F)) (answer : Evaluated State) → ((left : List (Answer Number)) → does (course_from_view value (record { state = old; events = events; answers = answers }) left) ≡ with_evaluated answer (in_state (course_from_view value (record { state = old; events = events; answers = answers }) left)) (course_from_view value (record { state = old; events = events; answers = answers }) left)) → Assigns value result old new answer → Runs value result does (record { state = old; events = events; answers = answers }) (record { state = new; events = events; answers = answers })
  runs-assigned (Ok x) does old new events answers answer does_so assigns =
      let seen : RunView F = record { state = old; events = events; answers = answers } in
      runs-state x does old new events answers (λ left. does_so left ∙ ap (λ answer. with_evaluated answer (in_state (course_from_view value seen left)) (course_from_view value seen left)) assigns)
  runs-assigned (Err Memory) does old new events answers answer does_so assigns =
      record { shown = []; events = sym (append-nil events); fresh = []; answers = sym (append-nil answers); comes = λ more. tt }
  runs-assigned (Err (Stop stop)) does old new events answers answer does_so assigns =
      let seen : RunView F = record { state = old; events = events; answers = answers } in
      record {
        shown = [];
        events = sym (append-nil events);
        fresh = [];
        answers = sym (append-nil answers);
        comes = λ more. does_so more ∙ ap (λ answer. with_evaluated answer (in_state (course_from_view value seen more)) (course_from_view value seen more)) assigns.0 ∙ ap (λ state. stopped_by (course_from_view value (record { state = state; events = events; answers = answers }) more) (fault_of value stop)) (sym assigns.1);
      }

  -- one event more
  pub come-event : (state : State) (events : List (Event F)) (e : Event F) (answers : List (Answer F)) (left : List (Answer Number)) → with_event (course_from_view value (record { state = state; events = events; answers = answers }) left) (event_in value e) ≡ course_from_view value (record { state = state; events = events ++ e ∷ []; answers = answers }) left
  come-event state events e answers left =
      ap (λ means. record { state = state; events = means; left = left; taken = length answers; halted = None }) (sym (map-append (event_in value) events (e ∷ [])))

  -- a call that showed one event
  pub runs-event : {A : Type 0} (x : A) (does : Course → Course) (state : State) (old new : List (Event F)) (e : Event F) (answers : List (Answer F)) → new ≡ old ++ e ∷ [] → ((left : List (Answer Number)) → does (course_from_view value (record { state = state; events = old; answers = answers }) left) ≡ with_event (course_from_view value (record { state = state; events = old; answers = answers }) left) (event_in value e)) → Runs value {A = A} (Ok x) does (record { state = state; events = old; answers = answers }) (record { state = state; events = new; answers = answers })
  runs-event x does state old new e answers is goes =
      record {
        shown = e ∷ [];
        events = is;
        fresh = [];
        answers = sym (append-nil answers);
        comes = λ more. goes more ∙ come-event state old e answers more ∙ ap (λ events. course_from_view value (record { state = state; events = events; answers = answers }) more) (sym is);
      }

  -- a call that showed one event, and stopped there
  pub runs-event_stopped : {A : Type 0} (failed : ExecStopOrMemory F) (fault : Fault) (does : Course → Course) (state : State) (old new : List (Event F)) (e : Event F) (answers : List (Answer F)) → new ≡ old ++ e ∷ [] → Shows value failed fault → ((left : List (Answer Number)) → does (course_from_view value (record { state = state; events = old; answers = answers }) left) ≡ stopped_by (with_event (course_from_view value (record { state = state; events = old; answers = answers }) left) (event_in value e)) fault) → Runs value {A = A} (Err failed) does (record { state = state; events = old; answers = answers }) (record { state = state; events = new; answers = answers })
  runs-event_stopped Memory fault does state old new e answers is shows goes =
      record { shown = e ∷ []; events = is; fresh = []; answers = sym (append-nil answers); comes = λ more. tt }
  runs-event_stopped (Stop stop) fault does state old new e answers is shows goes =
      record {
        shown = e ∷ [];
        events = is;
        fresh = [];
        answers = sym (append-nil answers);
        comes = λ more. goes more ∙ ap (λ fault. stopped_by (with_event (course_from_view value (record { state = state; events = old; answers = answers }) more) (event_in value e)) fault) shows ∙ ap (λ course. stopped_by course (fault_of value stop)) (come-event state old e answers more ∙ ap (λ events. course_from_view value (record { state = state; events = events; answers = answers }) more) (sym is));
      }

-- ---- events that are no solves

pub no-solve_nothing : {F : Type 0} (old new : List (Event F)) → new ≡ old → ShowsNoSolve old new
no-solve_nothing old new e = record { shown = []; events = e ∙ sym (append-nil old); quiet = tt }

module _ {F : Type 0} (value : F → Number) (limit : ℕ) (rules : List SolverRule) (answers : List (Answer F)) where
  quiet-answered : (shown : List (Event F)) → HasNoSolve shown → AreAnswered value limit rules answers (events_in value shown)
  quiet-answered [] quiet = All-nil (IsAnswered value limit rules answers)
  quiet-answered (event.Display line items ∷ shown) quiet = All-cons (IsAnswered value limit rules answers) (event_in value (event.Display line items)) (events_in value shown) tt (quiet-answered shown quiet)
  quiet-answered (event.Solve line model equations lp answer solver settings level ∷ shown) quiet = absurd quiet
  quiet-answered (event.Abort line items ∷ shown) quiet = All-cons (IsAnswered value limit rules answers) (event_in value (event.Abort line items)) (events_in value shown) tt (quiet-answered shown quiet)
  quiet-answered (event.Fault stop ∷ shown) quiet = All-cons (IsAnswered value limit rules answers) (event_in value (event.Fault stop)) (events_in value shown) tt (quiet-answered shown quiet)

quiet-paths : {F : Type 0} (k : ℕ) (answers : List (Answer F)) (shown : List (Event F)) → HasNoSolve shown → paths_taken k answers shown ≡ []
quiet-paths k answers [] quiet = refl
quiet-paths k answers (event.Display line items ∷ shown) quiet = quiet-paths k answers shown quiet
quiet-paths k answers (event.Solve line model equations lp answer solver settings level ∷ shown) quiet = absurd quiet
quiet-paths k answers (event.Abort line items ∷ shown) quiet = quiet-paths k answers shown quiet
quiet-paths k answers (event.Fault stop ∷ shown) quiet = quiet-paths k answers shown quiet

module _ {S F : Type 0} (value : F → Number) (limit : ℕ) (name : S → List ℕ) (rule : S → SolverRule) (paths : S → List (List Pivot)) where
  -- a call that asked no solver
  pub answered-quiet : (solvers : List S) (old new : RunView F) → ShowsNoSolve old.events new.events → Answered value limit name rule paths solvers solvers old new
  answered-quiet solvers old new shows =
      record {
        names = refl;
        rules = refl;
        shown = shows.shown;
        events = shows.events;
        answered = quiet-answered value limit (map rule solvers) new.answers shows.shown shows.quiet;
        extended = λ k. extended-nothing (slice_get (map paths solvers) k) ∙ ap (λ taken. option_map (λ before. before ++ taken) (slice_get (map paths solvers) k)) (sym (quiet-paths k new.answers shows.shown shows.quiet));
      }

-- what holds in any case holds unless memory ran out
pub unless-any : {F A : Type 0} (result : Result A (ExecStopOrMemory F)) (P : Type 0) → P → UnlessMemory result P
unless-any (Ok x) P p = p
unless-any (Err Memory) P p = tt
unless-any (Err (Stop stop)) P p = p

-- what follows from three facts that hold unless memory ran out
pub unless-all : {F A : Type 0} (result : Result A (ExecStopOrMemory F)) (P Q R All : Type 0) → (P → Q → R → All) → UnlessMemory result P → UnlessMemory result Q → UnlessMemory result R → UnlessMemory result All
unless-all (Ok x) P Q R All both p q r = both p q r
unless-all (Err Memory) P Q R All both p q r = tt
unless-all (Err (Stop stop)) P Q R All both p q r = both p q r
