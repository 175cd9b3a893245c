-- The paths of solvers: the pivots of the answers that were given at events.
use Rattle.std.proofs.Common.{◌≡◌, ◌==◌, ℕ, zero, suc, List, [], ◌∷◌, ◌++◌, map, cond, Option, Some, None, refl, sym, ap, ◌∙◌, append_assoc, append-nil}
use Rattle.std.specs.Prelude.{option_map, option_to_list, slice_get}
use Rattle.std.specs.List.{All}
use Rattle.std.proofs.lemmas.List.Elements.{All-head, All-tail}
use Rattle.gq_frac.specs.declared.frac.Frac.{Frac}
use Rattle.gq_frac.specs.Frac.{frac_value, frac_limit}
use Rattle.gms_event.specs.declared.event.Event.{Event as OwnEvent}
use Rattle.gms_event.specs.declared.event.Event.TheVariants as event
use Rattle.gms_event.specs.Events.{Event, Solved, displays, solves, aborts, stops}
use Rattle.gms_event.specs.EventView.{events_in}
use Rattle.lp_core.specs.declared.answer.Answer.{Answer}
use Rattle.lp_core.specs.declared.answer.Pivot.{Pivot}
use Rattle.lp_slot.specs.declared.solver.SolverRule.{SolverRule}
use Rattle.gms_exec.specs.Answering.{AreAnswered, IsAnswered}
use Rattle.gms_store.specs.State.{State}
use Rattle.gms_exec.specs.Stepping.{Answered, paths_taken}
use Rattle.gms_exec.proofs.Quiet.{IsNoSolve}
use Rattle.gms_run.specs.Solving.{Solvers, HavePathsExtended, paths_of, solver_views}

-- the paths of all solvers
abbrev pub AllPaths : Type 0
AllPaths = List (List (List Pivot))

-- the pivots of the answer at a solve, where the solver of a place gave it
abbrev pub path_of : ℕ → List (Answer Frac) → Solved → List (List Pivot)
path_of k answers solved = cond (solved.settings.solver == k) (option_to_list (option_map (λ (answer : Answer Frac). answer.pivots) (slice_get answers solved.answer))) []

-- the events of the code have the paths of those that they mean
pub taken_of : (k : ℕ) (answers : List (Answer Frac)) (es : List (OwnEvent Frac)) → paths_taken k answers es ≡ paths_of k answers (events_in frac_value es)
taken_of k answers [] = refl
taken_of k answers (event.Display line items ∷ es) = taken_of k answers es
taken_of k answers (event.Solve line model equations lp answer solver settings level ∷ es) =
    ap (λ ps. cond (settings.solver == k) (option_to_list (option_map (λ (a : Answer Frac). a.pivots) (slice_get answers answer))) [] ++ ps) (taken_of k answers es)
taken_of k answers (event.Abort line items ∷ es) = taken_of k answers es
taken_of k answers (event.Fault stop ∷ es) = taken_of k answers es

-- paths over two lists of events
pub paths_both : (k : ℕ) (answers : List (Answer Frac)) (first second : List Event) → paths_of k answers (first ++ second) ≡ paths_of k answers first ++ paths_of k answers second
paths_both k answers [] second = refl
paths_both k answers (displays line items ∷ first) second = paths_both k answers first second
paths_both k answers (solves solved ∷ first) second =
    ap (λ ps. path_of k answers solved ++ ps) (paths_both k answers first second) ∙ sym (append_assoc (path_of k answers solved) (paths_of k answers first) (paths_of k answers second))
paths_both k answers (aborts line items ∷ first) second = paths_both k answers first second
paths_both k answers (stops fault ∷ first) second = paths_both k answers first second

-- events of which none is a solve add none
pub paths_quiet : (k : ℕ) (answers : List (Answer Frac)) (es : List Event) → All IsNoSolve es → paths_of k answers es ≡ []
paths_quiet k answers [] quiet = refl
paths_quiet k answers (displays line items ∷ es) quiet = paths_quiet k answers es (All-tail IsNoSolve (displays line items) es quiet)
paths_quiet k answers (solves solved ∷ es) quiet = absurd (All-head IsNoSolve (solves solved) es quiet)
paths_quiet k answers (aborts line items ∷ es) quiet = paths_quiet k answers es (All-tail IsNoSolve (aborts line items) es quiet)
paths_quiet k answers (stops fault ∷ es) quiet = paths_quiet k answers es (All-tail IsNoSolve (stops fault) es quiet)

-- an entry of a list keeps its place where more is appended
pub occurs-more : {A : Type 0} (xs ys : List A) (k : ℕ) (x : A) → slice_get xs k ≡ Some x → slice_get (xs ++ ys) k ≡ Some x
occurs-more [] ys k x e = let z : ⊥ = cc in absurd z
occurs-more (a ∷ xs) ys zero x e = e
occurs-more (a ∷ xs) ys (suc k) x e = occurs-more xs ys k x e

module _ (rules : List SolverRule) (answers more : List (Answer Frac)) where
  abbrev Answers_at : Event → Type 0
  Answers_at e = IsAnswered frac_value frac_limit rules answers e

  -- the answers at events stay where more are given
  pub paths_stay : (k : ℕ) (es : List Event) → AreAnswered frac_value frac_limit rules answers es → paths_of k (answers ++ more) es ≡ paths_of k answers es
  paths_stay k [] are = refl
  paths_stay k (displays line items ∷ es) are = paths_stay k es (All-tail Answers_at (displays line items) es are)
  paths_stay k (solves solved ∷ es) are =
      let is = All-head Answers_at (solves solved) es are in
      let same : slice_get (answers ++ more) solved.answer ≡ slice_get answers solved.answer = occurs-more answers more solved.answer is.answer is.occurs ∙ sym is.occurs in
      ap (λ o. cond (solved.settings.solver == k) (option_to_list (option_map (λ (a : Answer Frac). a.pivots) o)) [] ++ paths_of k (answers ++ more) es) same
      ∙ ap (λ ps. path_of k answers solved ++ ps) (paths_stay k es (All-tail Answers_at (solves solved) es are))
  paths_stay k (aborts line items ∷ es) are = paths_stay k es (All-tail Answers_at (aborts line items) es are)
  paths_stay k (stops fault ∷ es) are = paths_stay k es (All-tail Answers_at (stops fault) es are)

-- ---- growth

-- to the paths of each solver those of its answers at these events were appended
abbrev pub Grew : AllPaths → AllPaths → List (Answer Frac) → List Event → Type 0
Grew old new answers es = (k : ℕ) → slice_get new k ≡ option_map (λ before. before ++ paths_of k answers es) (slice_get old k)

extended_nothing : (paths : Option (List (List Pivot))) → paths ≡ option_map (λ before. before ++ []) paths
extended_nothing None = refl
extended_nothing (Some before) = ap Some (sym (append-nil before))

extended_both : (paths : Option (List (List Pivot))) (first second : List (List Pivot)) → option_map (λ before. before ++ second) (option_map (λ before. before ++ first) paths) ≡ option_map (λ before. before ++ (first ++ second)) paths
extended_both None first second = refl
extended_both (Some before) first second = ap Some (append_assoc before first second)

-- nothing was shown
pub grew_none : (paths : AllPaths) (answers : List (Answer Frac)) → Grew paths paths answers []
grew_none paths answers = λ k. extended_nothing (slice_get paths k)

-- two extensions in sequence, with more answers
pub grew_more : (rules : List SolverRule) (old mid new : AllPaths) (answers fresh all : List (Answer Frac)) (first second : List Event) → all ≡ answers ++ fresh → AreAnswered frac_value frac_limit rules answers first →
    Grew old mid answers first → Grew mid new all second → Grew old new all (first ++ second)
grew_more rules old mid new answers fresh all first second same are p q = λ k.
    let stays : paths_of k answers first ≡ paths_of k all first = sym (ap (λ given. paths_of k given first) same ∙ paths_stay rules answers fresh k first are) in
    let grows : Option (List (List Pivot)) → List (List Pivot) → Option (List (List Pivot)) = λ paths taken. option_map (λ before. before ++ taken) paths in
    q k
    ∙ ap (λ paths. grows paths (paths_of k all second)) (p k ∙ ap (grows (slice_get old k)) stays)
    ∙ extended_both (slice_get old k) (paths_of k all first) (paths_of k all second)
    ∙ ap (grows (slice_get old k)) (sym (paths_both k all first second))

-- events without a solve change nothing
pub grew_quiet : (old new : AllPaths) (answers : List (Answer Frac)) (es more : List Event) → All IsNoSolve more → Grew old new answers es → Grew old new answers (es ++ more)
grew_quiet old new answers es more quiet p = λ k.
    p k ∙ ap (λ taken. option_map (λ before. before ++ taken) (slice_get old k)) (sym (paths_both k answers es more ∙ ap (λ ps. paths_of k answers es ++ ps) (paths_quiet k answers more quiet) ∙ append-nil (paths_of k answers es)))

-- What a statement says of its solvers, where nothing was shown before it.
pub grew_answered : {S : Type 0} {before after : State} {given : List (Answer Frac)} (name : S → List ℕ) (rule : S → SolverRule) (paths : S → List (List Pivot)) (old new : List S) (answers : List (Answer Frac)) (none events : List (OwnEvent Frac)) → none ≡ [] →
    Answered frac_value frac_limit name rule paths old new (record { state = before; events = none; answers = given }) (record { state = after; events = events; answers = answers }) → Grew (map paths old) (map paths new) answers (events_in frac_value events)
grew_answered name rule paths old new answers none events empty a = λ k.
    let shown : events ≡ a.shown = a.events ∙ ap (λ es. es ++ a.shown) empty in
    a.extended k
    ∙ ap (λ taken. option_map (λ before. before ++ taken) (slice_get (map paths old) k)) (taken_of k answers a.shown ∙ ap (λ es. paths_of k answers (events_in frac_value es)) (sym shown))

-- ---- solvers

-- nothing was shown
pub extended_none : (solvers : Solvers) (answers : List (Answer Frac)) → HavePathsExtended solvers solvers answers []
extended_none solvers answers = record { names = refl; rules = refl; paths = grew_none solvers.paths answers }

-- two extensions in sequence, with more answers
pub extended_more : (rules : List SolverRule) (old mid new : Solvers) (answers fresh all : List (Answer Frac)) (first second : List Event) → all ≡ answers ++ fresh → AreAnswered frac_value frac_limit rules answers first →
    HavePathsExtended old mid answers first → HavePathsExtended mid new all second → HavePathsExtended old new all (first ++ second)
extended_more rules old mid new answers fresh all first second same are p q =
    record { names = q.names ∙ p.names; rules = q.rules ∙ p.rules; paths = grew_more rules old.paths mid.paths new.paths answers fresh all first second same are p.paths q.paths }

-- events without a solve change nothing
pub extended_quiet : (old new : Solvers) (answers : List (Answer Frac)) (es more : List Event) → All IsNoSolve more → HavePathsExtended old new answers es → HavePathsExtended old new answers (es ++ more)
extended_quiet old new answers es more quiet p = record { names = p.names; rules = p.rules; paths = grew_quiet old.paths new.paths answers es more quiet p.paths }

-- What a statement says of its solvers, where nothing was shown before it.
pub extended_answered : {S : Type 0} {before after : State} {given : List (Answer Frac)} (name : S → List ℕ) (rule : S → SolverRule) (paths : S → List (List Pivot)) (old new : List S) (answers : List (Answer Frac)) (none events : List (OwnEvent Frac)) → none ≡ [] →
    Answered frac_value frac_limit name rule paths old new (record { state = before; events = none; answers = given }) (record { state = after; events = events; answers = answers }) → HavePathsExtended (solver_views name rule paths old) (solver_views name rule paths new) answers (events_in frac_value events)
extended_answered name rule paths old new answers none events empty a =
    record { names = a.names; rules = a.rules; paths = grew_answered name rule paths old new answers none events empty a }
