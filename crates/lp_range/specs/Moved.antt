-- Programs with one right side or one cost moved, and what the listed answer proves of them
-- (Chvatal, Linear Programming, chapters 5 and 10).
use Rattle.std.specs.Prelude.{◌≡◌, ℕ, zero, suc, ◌==◌, List, [], ◌∷◌, length, Some, Option, if◌then◌else◌}
use Rattle.std.specs.List.{enumerate_from}
use Rattle.gq_number.specs.Number.{Number, ◌*ℚ◌}
use Rattle.gq_number.specs.Sums.{sum_by_ℚ}
use Rattle.lp_core.specs.declared.program.Column.{Column}
use Rattle.lp_core.specs.declared.program.Row.{Row}
use Rattle.lp_core.specs.declared.program.Lp.{Lp}
use Rattle.lp_core.specs.Sums.{value_of_column}
use Rattle.lp_core.specs.Feasible.{Feasible}
use Rattle.lp_core.specs.DualBound.{low, high, objective_costs, dual_bound}
use Rattle.lp_core.specs.Numbers.{lp_numbers}

-- the number that a number means: itself
abbrev pub itself : Number → Number
itself x = x

-- these rows with `right` in place of the right side of row i, counted from 0
abbrev pub rows_with_right : ℕ → Number → List (Row Number) → List (Row Number)
rows_with_right i right [] = []
rows_with_right zero right (row ∷ rows) = record row { right = right } ∷ rows
rows_with_right (suc i) right (row ∷ rows) = row ∷ rows_with_right i right rows

-- a program with `right` in place of the right side of row i, counted from 0
abbrev pub with_right : ℕ → Number → Lp Number → Lp Number
with_right i right lp = record lp { rows = rows_with_right i right lp.rows }

-- the cost of column k after `cost` replaces the cost of column j; before that, the cost of the
-- objective's column is 1 and that of each other column is 0
abbrev pub costs_with : {F : Type 0} → Lp F → ℕ → Number → ℕ → Number
costs_with lp j cost k = if j == k then cost else objective_costs lp k

-- the sum of each column's cost times its value at the point x
abbrev pub cost_at : {F : Type 0} → Lp F → (ℕ → Number) → List Number → Number
cost_at {F} lp costs x = sum_by_ℚ (λ (q : ℕ × Column F). costs q.0 *ℚ value_of_column x q.0) (enumerate_from 0 lp.columns)

-- the bound that duals give of the sum of each column's cost times its value: an upper bound when
-- maximizing, else a lower bound; None if it uses a lower or upper bound of a column or of a row's
-- sum that does not exist
abbrev pub bound_of_costs : {F : Type 0} → (F → Number) → Lp F → (ℕ → Number) → List Number → Option Number
bound_of_costs value lp costs duals = if lp.maximize then high value lp costs duals else low value lp costs duals

-- The program with this right side in row i has a feasible point whose objective equals the bound
-- that these duals give for the program with this right side.
abbrev pub MeetsBoundWithRight : {F : Type 0} → (F → Number) → Lp F → List Number → ℕ → Number → Type 0
MeetsBoundWithRight value lp duals i right =
    (x : List Number) × Feasible itself (with_right i right (lp_numbers value lp)) x
    × (dual_bound itself (with_right i right (lp_numbers value lp)) duals ≡ Some (value_of_column x lp.objective))

-- With this cost of column j, there are duals, one for each row, whose bound of the sum of cost
-- times value over the columns equals this sum at the values `levels`. The bound (`bound_of_costs`)
-- is an upper one if the program maximizes, else a lower one.
abbrev pub MeetsBoundWithCost : {F : Type 0} → (F → Number) → Lp F → List Number → ℕ → Number → Type 0
MeetsBoundWithCost value lp levels j cost =
    (duals : List Number) × (length duals ≡ length lp.rows)
    × (bound_of_costs value lp (costs_with lp j cost) duals ≡ Some (cost_at lp (costs_with lp j cost) levels))
