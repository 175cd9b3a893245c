-- What the crate's functions return to each other: an intermediate number, and how many steps led
-- to it.
use Rattle.std.specs.Prelude.{◌≡◌, ℕ, ◌+◌, ◌==◌, if◌then◌else◌, Bool, true, false, List, [], ◌∷◌, ◌++◌, length, pos, Option, Some, None, option_map, Result, Ok, Err}
use Rattle.gq_number.specs.Number.{Number, whole}
use Rattle.lp_core.specs.declared.answer.StepName.{StepName}
use Rattle.lp_core.specs.declared.answer.StepName.TheVariants.{Check, Standard as StandardStep, Ratio, Exchange, Recover}
use Rattle.lp_core.specs.declared.program.Row.{Row}
use Rattle.lp_core.specs.declared.program.Column.{Column}
use Rattle.lp_core.specs.declared.program.Lp.{Lp}
use Rattle.lp_check.specs.BoundSteps.{less_steps, less_product, entry_in, all_reduced_steps, row_bound_steps, rows_sum, columns_steps, columns_sum}
use Rattle.lp_check.specs.declared.partial.Partial.{Partial}

-- the number, from 0, of the first step that does not fit under the limit on the size of numbers;
-- None if all fit
abbrev pub first_unfit : List Bool → Option ℕ
first_unfit [] = None
first_unfit (true ∷ fits) = option_map (λ n. n + 1) (first_unfit fits)
first_unfit (false ∷ fits) = Some 0

-- the step is a `Check` step with the number of the first of these steps that does not fit; these
-- steps are numbered from `taken` on, the number of the steps before them
abbrev pub StopsAfterSteps : ℕ → List Bool → StepName → Type 0
StopsAfterSteps taken fits (Check part) = (n : ℕ) × (first_unfit fits ≡ Some n) × (part ≡ taken + n)
StopsAfterSteps taken fits (StandardStep row column part) = ⊥
StopsAfterSteps taken fits (Ratio pivot row) = ⊥
StopsAfterSteps taken fits (Exchange pivot row column part) = ⊥
StopsAfterSteps taken fits (Recover what index entry part) = ⊥

-- all these steps fit under the limit on the size of numbers, and `after` is their number plus
-- `before`, the number of the steps before them
abbrev pub Took : ℕ → List Bool → ℕ → Type 0
Took before fits after = (first_unfit fits ≡ None) × (after ≡ before + length fits)

-- `fits` has for each step whether it fits under the limit on the size of numbers. Ok: all these
-- steps fit, and the result has the sum `number` and counts these steps and the `taken` ones
-- before. Err: the first step that does not fit.
abbrev pub Reaches : {F : Type 0} → (F → Number) → ℕ → List Bool → Number → Result (Partial F) StepName → Type 0
Reaches value taken fits number (Ok p) = Took taken fits p.taken × (value p.sum ≡ number)
Reaches value taken fits number (Err step) = StopsAfterSteps taken fits step

-- `fits` has for each step whether it fits under the limit on the size of numbers. Ok: all these
-- steps fit, and `after` counts them and the `taken` ones before. Err: the first step that does not
-- fit.
abbrev pub TakesSteps : ℕ → List Bool → Result ℕ StepName → Type 0
TakesSteps taken fits (Ok after) = Took taken fits after
TakesSteps taken fits (Err step) = StopsAfterSteps taken fits step

-- the number s less, for each of these rows, its dual times its entry of column j; nothing for a
-- nonbinding row. s is the column's cost less what is subtracted so far
abbrev pub reduced_sum : {F : Type 0} → (F → Number) → ℕ → Number → List (Row F) → List Number → Number
reduced_sum value j s [] duals = s
reduced_sum value j s (row ∷ rows) [] = s
reduced_sum value j s (row ∷ rows) (y ∷ duals) = reduced_sum value j (less_product s y (entry_in value j row)) rows duals

-- the reduced cost of column j: its cost less, for each row, the row's dual times its entry of the
-- column; nothing is subtracted for a nonbinding row
abbrev pub reduced_costs : {F : Type 0} → (F → Number) → (ℕ → Number) → List (Row F) → List Number → ℕ → Number
reduced_costs value costs rows duals j = reduced_sum value j (costs j) rows duals

-- for each column j, `after` has the number of `before` less a factor times the column's entry, and
-- the steps of this fit under the limit
abbrev pub Lessened : ℕ → Number → (ℕ → Option Number) → (ℕ → Number) → (ℕ → Number) → Type 0
Lessened limit factor entry before after =
    (j : ℕ) → (first_unfit (less_steps limit (before j) factor (entry j)) ≡ None) × (after j ≡ less_product (before j) factor (entry j))

-- the cost of column j: 1 if it is the objective, else 0; without an objective each cost is 0
abbrev pub costs_of : Option ℕ → ℕ → Number
costs_of None j = whole (pos 0)
costs_of (Some objective) j = if objective == j then whole (pos 1) else whole (pos 0)

-- Whether the bound that duals give is an upper bound and not a lower one. With true the objective
-- is bounded: from above if it is maximized, else from below. With false a sum over the columns
-- whose costs are all 0 is bounded: from below.
abbrev pub is_above : {F : Type 0} → Bool → Lp F → Bool
is_above true lp = lp.maximize
is_above false lp = false

module _ {F : Type 0} (value : F → Number) (above : Bool) (costs : ℕ → Number) (rows : List (Row F)) (columns : List (Column F)) (duals : List Number) where
  -- for each step, whether its integers are at most `limit` in magnitude. From the duals the steps
  -- compute an upper (if `above`) or a lower bound of the sum of cost times value over the columns:
  -- first the reduced costs, then each row's dual times the bound that it uses, then each column's
  -- reduced cost times the bound that it uses
  abbrev pub steps_over : ℕ → List Bool
  steps_over limit =
      all_reduced_steps value limit costs rows duals 0 columns
      ++ row_bound_steps value limit above (whole (pos 0)) rows duals
      ++ columns_steps value limit above (reduced_costs value costs rows duals) (rows_sum value above (whole (pos 0)) rows duals) 0 columns

  -- what the steps of `steps_over` compute, an upper bound (if `above`) or a lower bound of the sum
  -- of each column's cost times its value: the sum of each dual times the bound of its row that it
  -- uses, and of each reduced cost times the bound of its column that it uses
  abbrev pub sum_over : Number
  sum_over = columns_sum value above (reduced_costs value costs rows duals) (rows_sum value above (whole (pos 0)) rows duals) 0 columns
