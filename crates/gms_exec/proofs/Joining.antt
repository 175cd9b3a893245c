-- Runs in sequence, and what solvers answered in them.
use Rattle.std.proofs.Common.{◌≡◌, ℕ, zero, suc, ◌==◌, List, [], ◌∷◌, ◌++◌, map, slice_get, refl, sym, ap, subst, ◌∙◌, cond, Option, Some, None, option_map, option_to_list, Ok, Err, append_assoc, append-nil, arith}
use Rattle.std.proofs.lemmas.List.{map-append}
use Rattle.std.proofs.lemmas.List.Elements.{All-head, All-tail, All-append, All-weaker}
use Rattle.gq_number.specs.Number.{Number}
use Rattle.gms_eval.specs.Gives.{fault_of}
use Rattle.gms_eval.specs.declared.stop.ExecStopOrMemory.{ExecStopOrMemory}
use Rattle.gms_eval.specs.declared.stop.ExecStopOrMemory.TheVariants.{Memory, Fault as Stop}
use Rattle.gms_event.specs.Events as means
use Rattle.gms_event.specs.EventView.{event_in, events_in}
use Rattle.gms_event.specs.declared.event.Event.{Event}
use Rattle.gms_event.specs.declared.event.Event.TheVariants as event
use Rattle.lp_core.specs.declared.answer.Answer.{Answer}
use Rattle.lp_core.specs.declared.answer.Pivot.{Pivot}
use Rattle.lp_slot.specs.declared.solver.SolverRule.{SolverRule}
use Rattle.lp_core.specs.Numbers.{answer_numbers}
use Rattle.gms_exec.specs.Answering.{IsAnswered, AreAnswered}
use Rattle.gms_exec.specs.Run.{Course, Halt, stopped, stopped_by, while_it_runs, OfStatement, in_sequence, for_each}
use Rattle.gms_exec.specs.Stepping.{RunView, course_from_view, Runs, Answered, paths_taken}

-- ---- a run that is halted stays

pub while-halted : (next : Course → Course) (course : Course) (halt : Halt) → course.halted ≡ Some halt → while_it_runs next course ≡ course
while-halted next course halt e = ap (λ (o : Option Halt). elim o [ None ↦ next course | Some h ↦ course ]) e

pub statements-halted : (body : List OfStatement) (binding : List (ℕ × ℕ)) (course : Course) (halt : Halt) → course.halted ≡ Some halt → in_sequence body binding course ≡ course
statements-halted [] binding course halt e = refl
statements-halted (s ∷ body) binding course halt e =
    ap (in_sequence body binding) (while-halted (s binding) course halt e) ∙ statements-halted body binding course halt e

pub each-halted : (sets : List ℕ) (body : List OfStatement) (elements : List (List ℕ)) (binding : List (ℕ × ℕ)) (course : Course) (halt : Halt) → course.halted ≡ Some halt → for_each sets body elements binding course ≡ course
each-halted sets body [] binding course halt e = refl
each-halted sets body (element ∷ elements) binding course halt e =
    ap (for_each sets body elements binding) (statements-halted body _ course halt e) ∙ each-halted sets body elements binding course halt e

-- a halted run does not change
abbrev pub LeavesHalted : (Course → Course) → Type 0
LeavesHalted rest = (course : Course) (halt : Halt) → course.halted ≡ Some halt → rest course ≡ course

-- two lists appended to another, the second after the first
pub following-both : {A : Type 0} (old mid new first second : List A) → mid ≡ old ++ first → new ≡ mid ++ second → new ≡ old ++ (first ++ second)
following-both old mid new first second a b = b ∙ ap (λ xs. xs ++ second) a ∙ append_assoc old first second

-- ---- runs

module _ {F : Type 0} (value : F → Number) where
  -- A run of `does` from an old point has reached a new one, where `rest` remains to be done. It
  -- showed events and took answers.
  pub record Reaches (does rest : Course → Course) (old new : RunView F) : Type 0 where
    pub shown : List (Event F)
    pub events : new.events ≡ old.events ++ shown
    pub fresh : List (Answer F)
    pub answers : new.answers ≡ old.answers ++ fresh
    pub comes : (more : List (Answer Number)) → does (course_from_view value old (map (answer_numbers value) fresh ++ more)) ≡ rest (course_from_view value new more)

  -- what remains is the next step, followed by what remains after it
  abbrev pub GoesOn : (Course → Course) → (Course → Course) → (Course → Course) → Type 0
  GoesOn rest first then = (seen : RunView F) (left : List (Answer Number)) → rest (course_from_view value seen left) ≡ then (first (course_from_view value seen left))

  pub reaches-start : (does : Course → Course) (old : RunView F) → Reaches does does old old
  reaches-start does old =
      record { shown = []; events = sym (append-nil old.events); fresh = []; answers = sym (append-nil old.answers); comes = λ more. refl }

  module _ (does rest first then : Course → Course) (old mid new : RunView F) (reached : Reaches does rest old mid) (goes : GoesOn rest first then) where
    -- the next step, with its answers after those that were taken
    next-comes : (fresh : List (Answer F)) (more : List (Answer Number)) → does (course_from_view value old (map (answer_numbers value) (reached.fresh ++ fresh) ++ more)) ≡ then (first (course_from_view value mid (map (answer_numbers value) fresh ++ more)))
    next-comes fresh more =
        ap (λ left. does (course_from_view value old left)) (ap (λ xs. xs ++ more) (map-append (answer_numbers value) reached.fresh fresh) ∙ append_assoc (map (answer_numbers value) reached.fresh) (map (answer_numbers value) fresh) more)
        ∙ reached.comes (map (answer_numbers value) fresh ++ more)
        ∙ goes mid (map (answer_numbers value) fresh ++ more)

    -- a call that went well leads on
    pub reaches-more : {A : Type 0} (x : A) → Runs value {A = A} (Ok x) first mid new → Reaches does then old new
    reaches-more x runs =
        record {
          shown = reached.shown ++ runs.shown;
          events = following-both old.events mid.events new.events reached.shown runs.shown reached.events runs.events;
          fresh = reached.fresh ++ runs.fresh;
          answers = following-both old.answers mid.answers new.answers reached.fresh runs.fresh reached.answers runs.answers;
          comes = λ more. next-comes runs.fresh more ∙ ap then (runs.comes more);
        }

    -- a call that failed ends the run there
    pub reaches-stop : {A B : Type 0} (failed : ExecStopOrMemory F) → LeavesHalted then → Runs value {A = A} (Err failed) first mid new → Runs value {A = B} (Err failed) does old new
    reaches-stop Memory leaves runs =
        record {
          shown = reached.shown ++ runs.shown;
          events = following-both old.events mid.events new.events reached.shown runs.shown reached.events runs.events;
          fresh = reached.fresh ++ runs.fresh;
          answers = following-both old.answers mid.answers new.answers reached.fresh runs.fresh reached.answers runs.answers;
          comes = λ more. tt;
        }
    reaches-stop (Stop stop) leaves runs =
        record {
          shown = reached.shown ++ runs.shown;
          events = following-both old.events mid.events new.events reached.shown runs.shown reached.events runs.events;
          fresh = reached.fresh ++ runs.fresh;
          answers = following-both old.answers mid.answers new.answers reached.fresh runs.fresh reached.answers runs.answers;
          comes = λ more. next-comes runs.fresh more ∙ ap then (runs.comes more) ∙ leaves (stopped_by (course_from_view value new more) (fault_of value stop)) (stopped (fault_of value stop)) refl;
        }

  -- a run with nothing left to do
  pub reaches-end : {A : Type 0} (x : A) (does rest : Course → Course) (old new : RunView F) → Reaches does rest old new → ((left : List (Answer Number)) → rest (course_from_view value new left) ≡ course_from_view value new left) → Runs value {A = A} (Ok x) does old new
  reaches-end x does rest old new reached done =
      record { shown = reached.shown; events = reached.events; fresh = reached.fresh; answers = reached.answers; comes = λ more. reached.comes more ∙ done more }

  -- out of memory ends a run where it is
  pub reaches-memory : {A : Type 0} (failed : ExecStopOrMemory F) (does rest : Course → Course) (old new : RunView F) → failed ≡ Memory → Reaches does rest old new → Runs value {A = A} (Err failed) does old new
  reaches-memory {A} failed does rest old new memory reached =
      subst (λ failed. Runs value {A = A} (Err failed) does old new) (sym memory) (record { shown = reached.shown; events = reached.events; fresh = reached.fresh; answers = reached.answers; comes = λ more. tt })

  -- a run that a stop ends where it is
  pub reaches-fault : {A : Type 0} (stop : _) (does rest : Course → Course) (old new : RunView F) → Reaches does rest old new → ((left : List (Answer Number)) → rest (course_from_view value new left) ≡ stopped_by (course_from_view value new left) (fault_of value stop)) → Runs value {A = A} (Err (Stop stop)) does old new
  reaches-fault stop does rest old new reached done =
      record { shown = reached.shown; events = reached.events; fresh = reached.fresh; answers = reached.answers; comes = λ more. reached.comes more ∙ done more }

-- ---- answers

pub get-prefix : {A : Type 0} (xs ys : List A) (k : ℕ) (x : A) → slice_get xs k ≡ Some x → slice_get (xs ++ ys) k ≡ Some x
get-prefix [] ys k x e = absurd cc
get-prefix (y ∷ xs) ys zero x e = e
get-prefix (y ∷ xs) ys (suc k) x e = get-prefix xs ys k x e

-- paths taken over two lists of events
paths-both : {F : Type 0} (k : ℕ) (answers : List (Answer F)) (first second : List (Event F)) → paths_taken k answers (first ++ second) ≡ paths_taken k answers first ++ paths_taken k answers second
paths-both k answers [] second = refl
paths-both k answers (event.Display line items ∷ first) second = paths-both k answers first second
paths-both {F} k answers (event.Solve line model equations lp answer solver settings level ∷ first) second =
    let own : List (List Pivot) = cond (settings.solver == k) (option_to_list (option_map (λ (a : Answer F). a.pivots) (slice_get answers answer))) [] in
    ap (λ paths. own ++ paths) (paths-both k answers first second) ∙ sym (append_assoc own (paths_taken k answers first) (paths_taken k answers second))
paths-both k answers (event.Abort line items ∷ first) second = paths-both k answers first second
paths-both k answers (event.Fault stop ∷ first) second = paths-both k answers first second

module _ {F : Type 0} (value : F → Number) (limit : ℕ) (rules : List SolverRule) (answers fresh : List (Answer F)) where
  -- answered events remain so with further answers
  still-answered : (e : means.Event) → IsAnswered value limit rules answers e → IsAnswered value limit rules (answers ++ fresh) e
  still-answered (means.displays line items) is = tt
  still-answered (means.solves solved) is =
      record { lp = is.lp; shows = is.shows; answer = is.answer; occurs = get-prefix answers fresh solved.answer is.answer is.occurs; rule = is.rule; chosen = is.chosen; is_answer = is.is_answer }
  still-answered (means.aborts line items) is = tt
  still-answered (means.stops fault) is = tt

  -- and so do the paths that were taken
  paths-stay : (k : ℕ) (shown : List (Event F)) → AreAnswered value limit rules answers (events_in value shown) → paths_taken k (answers ++ fresh) shown ≡ paths_taken k answers shown
  paths-stay k [] are = refl
  paths-stay k (event.Display line items ∷ shown) are = paths-stay k shown (All-tail (IsAnswered value limit rules answers) (event_in value (event.Display line items)) (events_in value shown) are)
  paths-stay k (event.Solve line model equations lp answer solver settings level ∷ shown) are =
      let is = All-head (IsAnswered value limit rules answers) (event_in value (event.Solve line model equations lp answer solver settings level)) (events_in value shown) are in
      ap (λ o. cond (settings.solver == k) (option_to_list (option_map (λ (a : Answer F). a.pivots) o)) [] ++ paths_taken k (answers ++ fresh) shown) (get-prefix answers fresh answer is.answer is.occurs ∙ sym is.occurs)
      ∙ ap (λ paths. cond (settings.solver == k) (option_to_list (option_map (λ (a : Answer F). a.pivots) (slice_get answers answer))) [] ++ paths) (paths-stay k shown (All-tail (IsAnswered value limit rules answers) (event_in value (event.Solve line model equations lp answer solver settings level)) (events_in value shown) are))
  paths-stay k (event.Abort line items ∷ shown) are = paths-stay k shown (All-tail (IsAnswered value limit rules answers) (event_in value (event.Abort line items)) (events_in value shown) are)
  paths-stay k (event.Fault stop ∷ shown) are = paths-stay k shown (All-tail (IsAnswered value limit rules answers) (event_in value (event.Fault stop)) (events_in value shown) are)

pub extended-nothing : (paths : Option (List (List Pivot))) → paths ≡ option_map (λ before. before ++ []) paths
extended-nothing None = refl
extended-nothing (Some before) = ap Some (sym (append-nil before))

extended-both : (paths : Option (List (List Pivot))) (first second : List (List Pivot)) → option_map (λ before. before ++ second) (option_map (λ before. before ++ first) paths) ≡ option_map (λ before. before ++ (first ++ second)) paths
extended-both None first second = refl
extended-both (Some before) first second = ap Some (append_assoc before first second)

module _ {S F : Type 0} (value : F → Number) (limit : ℕ) (name : S → List ℕ) (rule : S → SolverRule) (paths : S → List (List Pivot)) where
  -- a call that shows nothing and asks no solver
  pub answered-nothing : (solvers : List S) (seen : RunView F) → Answered value limit name rule paths solvers solvers seen seen
  answered-nothing solvers seen =
      record { names = refl; rules = refl; shown = []; events = sym (append-nil seen.events); answered = λ k d within. absurd (omega arith); extended = λ k. extended-nothing (slice_get (map paths solvers) k) }

  -- a call after another, with further answers
  pub answered-both : (old mid new : List S) (before between after : RunView F) (fresh : List (Answer F)) → after.answers ≡ between.answers ++ fresh → Answered value limit name rule paths old mid before between → Answered value limit name rule paths mid new between after → Answered value limit name rule paths old new before after
  answered-both old mid new before between after fresh are first second =
      record {
        names = second.names ∙ first.names;
        rules = second.rules ∙ first.rules;
        shown = first.shown ++ second.shown;
        events = following-both before.events between.events after.events first.shown second.shown first.events second.events;
        answered =
            subst (AreAnswered value limit (map rule old) after.answers) (sym (map-append (event_in value) first.shown second.shown))
            (All-append (IsAnswered value limit (map rule old) after.answers) (events_in value first.shown) (events_in value second.shown)
            (subst (λ answers. AreAnswered value limit (map rule old) answers (events_in value first.shown)) (sym are) (All-weaker (IsAnswered value limit (map rule old) between.answers) (IsAnswered value limit (map rule old) (between.answers ++ fresh)) (still-answered value limit (map rule old) between.answers fresh) (events_in value first.shown) first.answered))
            (subst (λ rules. AreAnswered value limit rules after.answers (events_in value second.shown)) first.rules second.answered));
        extended = λ k.
            second.extended k
            ∙ ap (option_map (λ those. those ++ paths_taken k after.answers second.shown)) (first.extended k ∙ ap (λ taken. option_map (λ those. those ++ taken) (slice_get (map paths old) k)) (sym (ap (λ answers. paths_taken k answers first.shown) are ∙ paths-stay value limit (map rule old) between.answers fresh k first.shown first.answered)))
            ∙ extended-both (slice_get (map paths old) k) (paths_taken k after.answers first.shown) (paths_taken k after.answers second.shown)
            ∙ ap (λ taken. option_map (λ those. those ++ taken) (slice_get (map paths old) k)) (sym (paths-both k after.answers first.shown second.shown));
      }
