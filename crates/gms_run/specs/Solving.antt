-- The solvers that a run uses, their state after the run, and the answers that they gave.
use Rattle.std.specs.Prelude.{◌≡◌, ℕ, ◌==◌, ◌++◌, if◌then◌else◌, List, [], ◌∷◌, map, flat_map, slice_get, option_map, option_to_list}
use Rattle.gq_number.specs.Number.{Number}
use Rattle.gq_frac.specs.declared.frac.Frac.{Frac}
use Rattle.gq_frac.specs.Frac.{frac_value}
use Rattle.lp_core.specs.declared.answer.Answer.{Answer}
use Rattle.lp_core.specs.declared.answer.Pivot.{Pivot}
use Rattle.lp_slot.specs.declared.solver.SolverRule.{SolverRule}
use Rattle.lp_core.specs.declared.program.Lp.{Lp}
use Rattle.lp_core.specs.Numbers.{answer_numbers}
use Rattle.gms_event.specs.Events.{Event, Solved, solves}

-- The view of the solvers: their names, their rules, and their paths, in order.
pub record Solvers : Type 0 where
  pub names : List (List ℕ)
  pub rules : List SolverRule
  -- for each solver, the pivots of each answer that it has given
  pub paths : List (List (List Pivot))

-- The solvers before a run and after it, and their answers, in the order of the solves.
pub record Solving : Type 0 where
  pub before : Solvers
  pub after : Solvers
  pub answers : List (Answer Frac)

-- the view of a list of solvers, where `name`, `rule` and `paths` give those of one solver
abbrev pub solver_views : {S : Type 0} → (S → List ℕ) → (S → SolverRule) → (S → List (List Pivot)) → List S → Solvers
solver_views name rule paths solvers = record { names = map name solvers; rules = map rule solvers; paths = map paths solvers }

-- the view of a run's solvers before it (`old`) and after it (`new`), and of their answers
abbrev pub solving : {S : Type 0} → (S → List ℕ) → (S → SolverRule) → (S → List (List Pivot)) → List S → List S → List (Answer Frac) → Solving
solving name rule paths old new answers =
    record { before = solver_views name rule paths old; after = solver_views name rule paths new; answers = answers }

-- the answers with the numbers that their values mean
abbrev pub numbers_of : List (Answer Frac) → List (Answer Number)
numbers_of answers = map (answer_numbers frac_value) answers

-- an event as a list: of one solve if it is one, and else empty
abbrev pub solve_of : Event → List Solved
solve_of (solves solved) = solved ∷ []
solve_of event = []

-- the solves among events, in order
abbrev pub solves_in : List Event → List Solved
solves_in events = flat_map solve_of events

-- the positions of these solves' answers in the list of answers
abbrev pub places_of : List Solved → List ℕ
places_of all = map (λ (solved : Solved). solved.answer) all

-- the linear programs of these solves
abbrev pub programs_of : List Solved → List (Lp Number)
programs_of all = map (λ (solved : Solved). solved.lp) all

-- for each solve among the events whose solver has the index k, the pivots of its answer in the
-- list `answers`, in order
abbrev pub paths_of : ℕ → List (Answer Frac) → List Event → List (List Pivot)
paths_of k answers [] = []
paths_of k answers (solves solved ∷ events) =
    (if solved.settings.solver == k then option_to_list (option_map (λ (answer : Answer Frac). answer.pivots) (slice_get answers solved.answer)) else []) ++ paths_of k answers events
paths_of k answers (other ∷ events) = paths_of k answers events

-- The solvers after these events: their number, names and rules are unchanged, and the pivots of
-- each answer are appended to the paths of the solver that gave it.
pub record HavePathsExtended (old new : Solvers) (answers : List (Answer Frac)) (events : List Event) : Type 0 where
  pub names : new.names ≡ old.names
  pub rules : new.rules ≡ old.rules
  pub paths : (k : ℕ) → slice_get new.paths k ≡ option_map (λ before. before ++ paths_of k answers events) (slice_get old.paths k)

-- Nothing was solved: no answer was given, and the solvers are unchanged.
abbrev pub SolvesNothing : Solving → Type 0
SolvesNothing solving = (solving.answers ≡ []) × (solving.after ≡ solving.before)
