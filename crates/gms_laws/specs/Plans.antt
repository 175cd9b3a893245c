-- What a planner asks with a solve, and what an answer states (GAMS User's Guide, "Equations",
-- "Model and Solve Statements"; Chvatal, "Linear Programming", chapters 1, 5 and 9). What is stated
-- speaks of plans, equations and bounds, in the values that the language gives to expressions, and
-- not of matrices, duals or rays; rows only decide which elements are `listed`. Variables are
-- continuous, and `limit` bounds the numerators and denominators of data.
use Rattle.std.specs.Prelude.{◌≡◌, ℕ, Bool, true, false, List, [], map, Ok}
use Rattle.std.specs.List.{All}
use Rattle.gq_number.specs.Number.{Number}
use Rattle.gq_number.specs.Order.{◌<ℚ◌}
use Rattle.gms_ast.specs.declared.program.Stmt.{Stmt}
use Rattle.gms_store.specs.State.{State}
use Rattle.gms_tuple.specs.TupleSet.{has}
use Rattle.gms_eval.specs.Domain.{elements}
use Rattle.gms_rows.specs.ElementRows.{sets_of_definition, bound_to, holds_for}
use Rattle.gms_rows.specs.ModelPoints.{SidesCompare, KeepsBoundsOf, definitions_of_model}
use Rattle.gms_rows.specs.Rows.{Definition}
use Rattle.lp_core.specs.declared.answer.End.{End}
use Rattle.lp_core.specs.declared.answer.End.TheVariants.{Optimal, Infeasible, Unbounded, Interrupted, Refused}
use Rattle.lp_form.specs.declared.key.Key.{Key}

-- ---- plans and questions

-- A plan gives each element of a variable a number: a level for the variable at a tuple of labels.
abbrev pub Plan : Type 0
Plan = Key → Number

-- The question of a solve: which plans are feasible, that is, satisfy the equations of a model and
-- keep the bounds of the listed elements, with the data of a state; and which feasible plan has the
-- best number for the objective variable.
pub record Question (F : Type 0) : Type 0 where
  -- all statements of the program, which define the model's equations
  pub statements : List (Stmt F)
  -- the state at the solve: all data, bounds and set members of that moment
  pub state : State
  -- the model, by the number of its name
  pub model : ℕ
  -- the variable that is the objective, by the number of its name
  pub objective : ℕ
  -- whether the objective is maximized; otherwise it is minimized
  pub maximize : Bool
  -- the elements whose bounds count. In the question of a solve of a run they are the columns of
  -- its linear program, in their order (`question_of` of `Moments.antt`): the objective, and each
  -- element of a variable that has a coefficient other than 0 in a row of the model. A row is an
  -- equation at one tuple of labels
  pub listed : List Key

-- the first outcome is better than the second: greater if the objective is maximized (true),
-- otherwise less
abbrev pub IsBetter : Bool → Number → Number → Type 0
IsBetter true outcome other = other <ℚ outcome
IsBetter false outcome other = outcome <ℚ other

-- ---- which plans are feasible, and which optimal

module _ {F : Type 0} (number_of : F → Number) (limit : ℕ) (question : Question F) where
  -- A plan satisfies an equation: at each tuple of labels of the equation's sets for which its
  -- condition holds, both sides are numbers, and the left one compares with the right one as `=e=`,
  -- `=l=` or `=g=` says (`=n=`: any two numbers do). Variables are read in the plan; data, and
  -- attributes such as `.l`, in the state of the solve. A part without variables is data, computed
  -- within `limit`; sums and products with variables have no limit. A condition whose computation
  -- ends in a fault does not hold, and a side with a fault in its data is no number. No answer
  -- depends on this: a solve with such a condition, or with such a side where the condition holds,
  -- ends in an execution error (`program` of `IsSolve` in `Moments.antt`: an answered solve has a
  -- linear program, and no fault).
  abbrev pub Satisfies : Plan → Definition F → Type 0
  Satisfies plan equation = (tuple : List ℕ) → has (elements question.state (sets_of_definition equation)) tuple ≡ true →
      holds_for number_of limit question.state (bound_to equation tuple) equation.condition ≡ Ok true → SidesCompare number_of limit question.state plan equation (bound_to equation tuple)

  -- A plan is feasible if it satisfies each equation of the model, and if its number for each
  -- element in `listed` is within the element's bounds.
  pub record IsFeasible (plan : Plan) : Type 0 where
    pub equations : All (Satisfies plan) (definitions_of_model question.statements question.model)
    pub bounds : KeepsBoundsOf question.state plan question.listed

  -- the outcome of a plan: its number for the objective variable
  abbrev pub plan_outcome : Plan → Number
  plan_outcome plan = plan (record { symbol = question.objective; tuple = [] })

  -- A plan is optimal if it is feasible, and no feasible plan has a better outcome.
  pub record IsOptimal (plan : Plan) : Type 0 where
    pub feasible : IsFeasible plan
    pub best : (other : Plan) → IsFeasible other → IsBetter question.maximize (plan_outcome other) (plan_outcome plan) → ⊥

  -- ---- what an answer says

  -- `levels` has one number for each listed element, in order. Such levels are optimal, or
  -- feasible, if some plan has them, and each plan that has them is so, whatever its numbers for
  -- other elements are. `Holds` is the property of a plan: to be optimal, or to be feasible.
  pub record AreLevels (Holds : Plan → Type 0) (levels : List Number) : Type 0 where
    pub some : (plan : Plan) × (map plan question.listed ≡ levels)
    pub each : (plan : Plan) → map plan question.listed ≡ levels → Holds plan

  -- What an answer states of plans. Optimal: its levels are optimal. Infeasible: no plan is
  -- feasible. Unbounded: its levels are feasible, and for each number some feasible plan has a
  -- better outcome. Interrupted (at the limit of the number of pivots) in phase 2 of the simplex
  -- method: its levels are feasible. Interrupted in phase 1, or Refused (a number was too large to
  -- compute with): nothing. The other fields of Optimal, Infeasible and Unbounded (levels of rows,
  -- duals, reduced costs, a column with crossed bounds, a ray) are the certificate; what they state
  -- is no statement of plans.
  abbrev pub IsSo : End Number → Type 0
  IsSo (Optimal levels row_levels duals reduced) = AreLevels IsOptimal levels
  IsSo (Infeasible duals crossed) = (plan : Plan) → IsFeasible plan → ⊥
  IsSo (Unbounded levels row_levels ray) =
      AreLevels IsFeasible levels × ((goal : Number) → (plan : Plan) × IsFeasible plan × IsBetter question.maximize (plan_outcome plan) goal)
  IsSo (Interrupted phase levels row_levels) = phase ≡ 2 → AreLevels IsFeasible levels
  IsSo (Refused step) = Unit {0}
