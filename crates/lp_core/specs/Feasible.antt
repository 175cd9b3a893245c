-- Feasible points (Chvatal, Linear Programming, chapter 1).
use Rattle.std.specs.Prelude.{◌≡◌, ℕ, List, length, Option, Some, None}
use Rattle.std.specs.List.{All, enumerate_from}
use Rattle.gq_number.specs.Number.{Number}
use Rattle.gq_number.specs.Order.{◌≤ℚ◌}
use Rattle.lp_core.specs.declared.program.Sense.{Sense}
use Rattle.lp_core.specs.declared.program.Sense.TheVariants as sense
use Rattle.lp_core.specs.declared.program.Column.{Column}
use Rattle.lp_core.specs.declared.program.Row.{Row}
use Rattle.lp_core.specs.declared.program.Lp.{Lp}
use Rattle.lp_core.specs.Sums.{value_of_column, row_sum}

-- a number is at least a lower bound, if there is one
abbrev pub KeepsLower : Option Number → Number → Type 0
KeepsLower None x = Unit {0}
KeepsLower (Some bound) x = bound ≤ℚ x

-- a number is at most an upper bound, if there is one
abbrev pub KeepsUpper : Option Number → Number → Type 0
KeepsUpper None x = Unit {0}
KeepsUpper (Some bound) x = x ≤ℚ bound

-- the number that a bound means; None without a bound
abbrev pub bound_value : {F : Type 0} → (F → Number) → Option F → Option Number
bound_value value None = None
bound_value value (Some bound) = Some (value bound)

-- the value x of a column is within the column's bounds
abbrev pub KeepsBounds : {F : Type 0} → (F → Number) → Column F → Number → Type 0
KeepsBounds value column x = KeepsLower (bound_value value column.lower) x × KeepsUpper (bound_value value column.upper) x

-- a row's sum and its right side satisfy the sense of the row; in a nonbinding row any two numbers
-- do
abbrev pub KeepsSense : Sense → Number → Number → Type 0
KeepsSense sense.E sum right = sum ≡ right
KeepsSense sense.L sum right = sum ≤ℚ right
KeepsSense sense.G sum right = right ≤ℚ sum
KeepsSense sense.N sum right = Unit {0}

-- the sum of a row at a point compares with its right side as its sense says
abbrev pub KeepsRow : {F : Type 0} → (F → Number) → Row F → List Number → Type 0
KeepsRow value row x = KeepsSense row.sense (row_sum value row.entries x) (value row.right)

-- A feasible point: one number for each column, within the column's bounds, that satisfies each
-- row.
pub record Feasible {F : Type 0} (value : F → Number) (lp : Lp F) (x : List Number) : Type 0 where
  pub sized : length x ≡ length lp.columns
  pub bounds : All (λ (p : ℕ × Column F). KeepsBounds value p.1 (value_of_column x p.0)) (enumerate_from 0 lp.columns)
  pub rows : All (λ (row : Row F). KeepsRow value row x) lp.rows
