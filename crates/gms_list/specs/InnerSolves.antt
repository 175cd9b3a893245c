-- The contracts of listing a solve.
use Rattle.std.specs.Prelude.{ℕ, ◌==◌, if◌then◌else◌, List, [], ◌∷◌, ◌++◌, length, codes, decimal, map, None}
use Rattle.std.specs.List.{list_any}
use Rattle.gq_number.specs.Number.{Number}
use Rattle.gms_event.specs.Events.{Solved}
use Rattle.lp_core.specs.Numbers.{lp_numbers}
use Rattle.gms_list.specs.SolveText.{Solution, ray_mark, objective_mark, amount, solver_status_text, model_status_text}
use Rattle.gms_list.specs.Amounts.{line_of}
use Rattle.lp_core.specs.declared.answer.Answer.{Answer}
use Rattle.gms_list.specs.declared.solution.Marks.{Marks}
use Rattle.gms_list.specs.declared.solution.Marks.TheVariants as marks
use Rattle.gms_list.specs.declared.solution.Solution.{Solution as OwnSolution}
use Rattle.gms_list.specs.declared.solves.Solved.{Solved as OwnSolved}

-- numbers, followed by one more if they do not have it yet
abbrev pub once_more : List ℕ → ℕ → List ℕ
once_more ns n = if list_any (λ m. m == n) ns then ns else ns ++ n ∷ []

-- the text after the name of a solver: how many pivots it took of how many, the statuses and the
-- level of the objective
abbrev pub status_lines : ℕ → Number → Answer Number → List ℕ
status_lines limit level answer =
    line_of (codes " PIVOTS " ++ decimal (length answer.pivots) ++ codes " LIMIT " ++ decimal limit)
    ++ (line_of (solver_status_text answer.end) ++ (line_of (model_status_text answer.end) ++ line_of (codes "OBJECTIVE " ++ amount level)))

module _ {F : Type 0} (value : F → Number) where
  -- the mark after a column
  abbrev pub mark_in : Marks F → ℕ → List ℕ
  mark_in marks.None j = []
  mark_in (marks.Ray ray) j = ray_mark (map value ray.now) j
  mark_in (marks.Objective objective) j = objective_mark objective j

  -- the view of a solution
  abbrev pub solution_in : OwnSolution F → Solution
  solution_in s =
      record { levels = map value s.levels.now; row_levels = map value s.row_levels.now; duals = map value s.duals.now; reduced = map value s.reduced.now; mark = mark_in s.marks }

  -- the view of a solve, with the place of its answer
  abbrev pub solved_in : ℕ → OwnSolved F → Solved
  solved_in answer s =
      record { line = s.line; model = s.model; equations = s.equations.now; lp = lp_numbers value s.lp.now; answer = answer; solver = s.solver.now; settings = s.settings; objective_level = value s.objective_level }
