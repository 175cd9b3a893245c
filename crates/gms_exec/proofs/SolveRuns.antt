-- What a solve did: as a run, as an answer, and as a valid event.
use Rattle.std.proofs.Common.{◌≡◌, ℕ, zero, suc, ◌+◌, ◌<◌, Bool, true, false, ◌==◌, List, [], ◌∷◌, ◌++◌, length, map, slice_get, refl, sym, ap, subst, ◌∙◌, cond, Option, Some, None, option_map, option_to_list, Ok, Err, append-nil, arith, Vec}
use Rattle.std.specs.Prelude.{slice_index_or, vec_len}
use Rattle.std.specs.declared.alloc.Global.{Global}
use Rattle.std.proofs.lemmas.Bool.{eqb-true}
use Rattle.std.proofs.lemmas.List.{map-append}
use Rattle.std.proofs.lemmas.List.Elements.{All-nil, All-cons}
use Rattle.gms_labels.specs.declared.place.Place.{Place}
use Rattle.gq_number.specs.Number.{Number}
use Rattle.gms_ast.specs.declared.program.Stmt.{Stmt}
use Rattle.gms_store.specs.declared.settings.Settings.{Settings}
use Rattle.gms_store.specs.State.{State, attributes_of}
use Rattle.gms_eval.specs.Bindings.{Pairs}
use Rattle.gms_eval.specs.Faults.{Fault, faulted, nothing}
use Rattle.gms_eval.specs.Gives.{Shows}
use Rattle.gms_eval.specs.declared.stop.StopKind.TheVariants.{NoSolver}
use Rattle.gms_eval.specs.declared.stop.ExecStopOrMemory.{ExecStopOrMemory}
use Rattle.gms_eval.specs.declared.stop.ExecStopOrMemory.TheVariants.{Memory, Fault as Stop}
use Rattle.gms_event.specs.Events as means
use Rattle.gms_event.specs.EventView.{event_in, events_in}
use Rattle.gms_event.specs.declared.event.Event.{Event}
use Rattle.gms_event.specs.declared.event.Event.TheVariants as event
use Rattle.gms_rows.specs.Rows.{equations_of}
use Rattle.gms_rows.specs.ProgramLp.{program_lp}
use Rattle.lp_core.specs.declared.answer.Answer.{Answer}
use Rattle.lp_core.specs.declared.answer.Pivot.{Pivot}
use Rattle.lp_slot.specs.declared.solver.SolverRule.{SolverRule}
use Rattle.lp_core.specs.declared.program.Lp.{Lp}
use Rattle.lp_core.specs.Numbers.{lp_numbers, end_numbers, answer_numbers}
use Rattle.lp_core.specs.WellFormed.{IsWellFormed}
use Rattle.gms_exec.specs.Answering.{IsAnswered}
use Rattle.gms_exec.specs.Run.{Course, stopped_by, with_evaluated, answered, solve}
use Rattle.gms_exec.specs.Solved.{after_end}
use Rattle.gms_exec.specs.InnerSolving.{IsExtended, ShowsSolve, Solves, AnswersAt, path_at}
use Rattle.gms_exec.specs.ValidEvents.{IsValidEvent, ShowsValidEvents}
use Rattle.gms_exec.specs.Stepping.{RunView, course_from_view, Runs, Answered, paths_taken}

get-last : {A : Type 0} (xs : List A) (x : A) → slice_get (xs ++ x ∷ []) (length xs) ≡ Some x
get-last [] x = refl
get-last (y ∷ xs) x = get-last xs x

length-more : {A : Type 0} (xs : List A) (x : A) → length xs + 1 ≡ length (xs ++ x ∷ [])
length-more [] x = refl
length-more (y ∷ xs) x = by (length xs) (length (xs ++ x ∷ [])) (length-more xs x)
  where
    by : (m n : ℕ) → m + 1 ≡ n → suc m + 1 ≡ suc n
    by m n e = omega arith

-- how many elements there are
pub counted : {X : Type 0} (n : ℕ) (v : Vec X Global) → n ≡ vec_len v → n ≡ length v.items
counted n v e = let counts = v.ok.0 in omega arith

-- ---- what the pieces of the code did is a solve

pub extended-same : {A : Type 0} (old new : List A) → new ≡ old → IsExtended old new
extended-same old new e = record { fresh = []; is = e ∙ sym (append-nil old) }

pub extended-one : {A : Type 0} (old new : List A) (x : A) → new ≡ old ++ x ∷ [] → IsExtended old new
extended-one old new x e = record { fresh = x ∷ []; is = e }

module _ {F : Type 0} (value : F → Number) (limit : ℕ) where
  -- what was read of the settings before is what a solve says of them
  pub solves-of : (names : List (List ℕ)) (rules : List SolverRule) (old_paths new_paths : List (List (List Pivot))) (line model : ℕ) (equations : List ℕ) (objective : ℕ) (lp : Lp F) (old new : RunView F) (settings : Settings) (answer : Answer F) (solver : List ℕ) → settings ≡ old.state.settings → AnswersAt value limit rules settings.solver lp settings.iterlim answer → solver ≡ slice_index_or names settings.solver [] → new.state ≡ after_end old.state model (lp_numbers value lp) (end_numbers value answer.end) → ((k : ℕ) → slice_get new_paths k ≡ option_map (λ before. before ++ path_at settings.solver answer.pivots k) (slice_get old_paths k)) → ShowsSolve value (record { line = line; model = model; equations = equations; objective = objective; lp = lp; answer = answer; solver = solver; settings = settings }) new.state old.answers new.answers old.events new.events → Solves value limit names rules old_paths new_paths line model equations objective lp old new
  solves-of names rules old_paths new_paths line model equations objective lp old new settings answer solver e is_answer named after paths shows =
      record {
        answer = answer;
        is_answer = subst (λ (s : Settings). AnswersAt value limit rules s.solver lp s.iterlim answer) e is_answer;
        after = after;
        paths = subst (λ (s : Settings). (k : ℕ) → slice_get new_paths k ≡ option_map (λ before. before ++ path_at s.solver answer.pivots k) (slice_get old_paths k)) e paths;
        shows =
            subst (λ (s : Settings). ShowsSolve value (record { line = line; model = model; equations = equations; objective = objective; lp = lp; answer = answer; solver = slice_index_or names s.solver []; settings = s }) new.state old.answers new.answers old.events new.events) e
            (subst (λ (n : List ℕ). ShowsSolve value (record { line = line; model = model; equations = equations; objective = objective; lp = lp; answer = answer; solver = n; settings = settings }) new.state old.answers new.answers old.events new.events) named shows);
      }

  module _ (names : List (List ℕ)) (rules : List SolverRule) (old_paths new_paths : List (List (List Pivot))) (at : Place) (model : ℕ) (equations : List ℕ) (objective : ℕ) (lp : Lp F) (old new : RunView F) (is : Solves value limit names rules old_paths new_paths at.line model equations objective lp old new) where
    -- the event that was shown
    abbrev shown_event : Event F
    shown_event = event.Solve at.line model equations lp (length old.answers) (slice_index_or names old.state.settings.solver []) old.state.settings is.shows.level

    answer-occurs : slice_get new.answers (length old.answers) ≡ Some is.answer
    answer-occurs = ap (λ xs. slice_get xs (length old.answers)) is.shows.answers ∙ get-last old.answers is.answer

    -- the event that a run shows in a state after the solve
    abbrev event_with : Number → means.Event
    event_with level =
        means.solves (record {
          line = at.line;
          model = model;
          equations = equations;
          lp = lp_numbers value lp;
          answer = length old.answers;
          solver = slice_index_or names old.state.settings.solver [];
          settings = old.state.settings;
          objective_level = level;
        })

    abbrev course_with : State → List means.Event → ℕ → List (Answer Number) → Course
    course_with state events taken left = record { state = state; events = events; left = left; taken = taken; halted = None }

    -- with its answer the run reaches the point that the call has reached
    solves-comes : (more : List (Answer Number)) → answered value limit names model equations objective at (course_from_view value old (answer_numbers value is.answer ∷ more)) (lp_numbers value lp) ≡ course_from_view value new more
    solves-comes more =
        ap (λ (state : State). course_with state (events_in value old.events ++ event_with (attributes_of state objective []).level ∷ []) (length old.answers + 1) more) (sym is.after)
        ∙ ap (λ (level : Number). course_with new.state (events_in value old.events ++ event_with level ∷ []) (length old.answers + 1) more) (sym is.shows.is_level)
        ∙ ap (λ (events : List means.Event). course_with new.state events (length old.answers + 1) more) (sym (map-append (event_in value) old.events (shown_event ∷ [])) ∙ ap (events_in value) (sym is.shows.events))
        ∙ ap (λ (taken : ℕ). course_with new.state (events_in value new.events) taken more) (length-more old.answers is.answer ∙ ap length (sym is.shows.answers))

    pub solves-runs : {A : Type 0} (x : A) (does : Course → Course) → ((left : List (Answer Number)) → does (course_from_view value old left) ≡ answered value limit names model equations objective at (course_from_view value old left) (lp_numbers value lp)) → Runs value {A = A} (Ok x) does old new
    solves-runs x does same =
        record {
          shown = shown_event ∷ [];
          events = is.shows.events;
          fresh = is.answer ∷ [];
          answers = is.shows.answers;
          comes = λ more. same (answer_numbers value is.answer ∷ more) ∙ solves-comes more;
        }

    pub solves-valid : IsWellFormed value lp → ShowsValidEvents value limit rules new.answers old.events new.events
    solves-valid formed =
        record {
          shown = shown_event ∷ [];
          events = is.shows.events;
          valid =
              All-cons (IsValidEvent value limit rules new.answers) shown_event [] (record { formed = formed; given = is.answer; occurs = answer-occurs; rule = is.is_answer.rule; chosen = is.is_answer.chosen; is_answer = is.is_answer.is_answer })
              (All-nil (IsValidEvent value limit rules new.answers));
        }

    path-taken : (k : ℕ) → path_at old.state.settings.solver is.answer.pivots k ≡ paths_taken k new.answers (shown_event ∷ [])
    path-taken k =
        sym (append-nil (path_at old.state.settings.solver is.answer.pivots k))
        ∙ ap (λ (o : Option (Answer F)). cond (old.state.settings.solver == k) (option_to_list (option_map (λ (a : Answer F). a.pivots) o)) [] ++ []) (sym answer-occurs)

    module _ {S : Type 0} (name : S → List ℕ) (rule : S → SolverRule) (paths : S → List (List Pivot)) (old_solvers new_solvers : List S) where
      pub solves-answered : rules ≡ map rule old_solvers → old_paths ≡ map paths old_solvers → new_paths ≡ map paths new_solvers → map name new_solvers ≡ map name old_solvers → map rule new_solvers ≡ map rule old_solvers → Answered value limit name rule paths old_solvers new_solvers old new
      solves-answered are old_are new_are same_names same_rules =
          record {
            names = same_names;
            rules = same_rules;
            shown = shown_event ∷ [];
            events = is.shows.events;
            answered =
                All-cons (IsAnswered value limit (map rule old_solvers) new.answers) (event_in value shown_event) [] (record { lp = lp; shows = refl; answer = is.answer; occurs = answer-occurs; rule = is.is_answer.rule; chosen = ap (λ rs. slice_get rs old.state.settings.solver) (sym are) ∙ is.is_answer.chosen; is_answer = is.is_answer.is_answer })
                (All-nil (IsAnswered value limit (map rule old_solvers) new.answers));
            extended = λ k.
                ap (λ ps. slice_get ps k) (sym new_are)
                ∙ is.paths k
                ∙ ap (λ taken. option_map (λ before. before ++ taken) (slice_get old_paths k)) (path-taken k)
                ∙ ap (λ ps. option_map (λ before. before ++ paths_taken k new.answers (shown_event ∷ [])) (slice_get ps k)) old_are;
          }

  -- ---- what a solve is, by whether there is a solver

  pub solve-does : (names : List (List ℕ)) (statements : List (Stmt F)) (model objective : ℕ) (maximize : Bool) (at : Place) (binding : Pairs) (course : Course) → 0 < length names → solve value limit names statements model objective maximize at binding course ≡ with_evaluated (program_lp value limit course.state statements model objective maximize at) (answered value limit names model (equations_of statements model) objective at course) course
  solve-does [] statements model objective maximize at binding course some = absurd (omega arith)
  solve-does (n ∷ names) statements model objective maximize at binding course some = refl

  pub solve-none : (names : List (List ℕ)) (statements : List (Stmt F)) (model objective : ℕ) (maximize : Bool) (at : Place) (binding : Pairs) (course : Course) → length names ≡ 0 → solve value limit names statements model objective maximize at binding course ≡ stopped_by course (faulted NoSolver at binding nothing nothing)
  solve-none [] statements model objective maximize at binding course none = refl
  solve-none (n ∷ names) statements model objective maximize at binding course none = absurd (omega arith)

-- ---- failures

module _ {F : Type 0} (value : F → Number) where
  -- a call that failed with a fault, and changed nothing
  pub runs-fault : {A : Type 0} (failed : ExecStopOrMemory F) (fault : Fault) (does : Course → Course) (seen : RunView F) → Shows value failed fault → ((left : List (Answer Number)) → does (course_from_view value seen left) ≡ stopped_by (course_from_view value seen left) fault) → Runs value {A = A} (Err failed) does seen seen
  runs-fault Memory fault does seen shows goes =
      record { shown = []; events = sym (append-nil seen.events); fresh = []; answers = sym (append-nil seen.answers); comes = λ more. tt }
  runs-fault (Stop stop) fault does seen shows goes =
      record {
        shown = [];
        events = sym (append-nil seen.events);
        fresh = [];
        answers = sym (append-nil seen.answers);
        comes = λ more. goes more ∙ ap (λ fault. stopped_by (course_from_view value seen more) fault) shows;
      }

  -- a call that ran out of memory, after it had shown events and taken answers
  pub runs-extended : {A : Type 0} (failed : ExecStopOrMemory F) (does : Course → Course) (old new : RunView F) → failed ≡ Memory → IsExtended old.events new.events → IsExtended old.answers new.answers → Runs value {A = A} (Err failed) does old new
  runs-extended {A} failed does old new memory events answers =
      subst (λ failed. Runs value {A = A} (Err failed) does old new) (sym memory) (record { shown = events.fresh; events = events.is; fresh = answers.fresh; answers = answers.is; comes = λ more. tt })

-- ---- whether there is a solver

positive : (n : ℕ) → (n == 0) ≡ false → 0 < n
positive zero e = absurd cc
positive (suc n) e = omega arith

-- a list has as many elements where each is made another
pub as-long : {X B : Type 0} (f : X → B) (xs : List X) → length (map f xs) ≡ length xs
as-long f [] = refl
as-long f (x ∷ xs) = ap suc (as-long f xs)

pub is-none : {X B : Type 0} (f : X → B) (v : Vec X Global) → (vec_len v == 0) ≡ true → length (map f v.items) ≡ 0
is-none f v e = let counts = v.ok.0 in let same = as-long f v.items in let none = eqb-true v.len 0 e in omega arith

pub is-some : {X B : Type 0} (f : X → B) (v : Vec X Global) → (vec_len v == 0) ≡ false → 0 < length (map f v.items)
is-some f v e = let counts = v.ok.0 in let same = as-long f v.items in let some = positive v.len e in omega arith

pub some-there : {X : Type 0} (v : Vec X Global) → (vec_len v == 0) ≡ false → 0 < length v.items
some-there v e = let counts = v.ok.0 in let some = positive v.len e in omega arith
