-- Values of the variables of a standard form (Chvatal, Linear Programming, chapter 1).
use Rattle.std.specs.Prelude.{ℕ, pos, List}
use Rattle.std.specs.List.{All, enumerate_from}
use Rattle.gq_number.specs.Number.{Number, whole, ◌+ℚ◌, ◌*ℚ◌}
use Rattle.gq_number.specs.Order.{◌≤ℚ◌}
use Rattle.gq_number.specs.Sums.{sum_by_ℚ}
use Rattle.lp_core.specs.Sums.{value_of_column}
use Rattle.lp_core.specs.StandardForm.{Standard, StandardRow}

-- A list has the values of all variables by their numbers, beginning with variable 0; a variable
-- past its end has the value 0.

-- each of these values is at least 0
abbrev pub AreAtLeastZero : List Number → Type 0
AreAtLeastZero y = All (λ x. whole (pos 0) ≤ℚ x) y

-- the sum of a row of the standard form at the values y: each coefficient times its variable's
-- value
abbrev pub sum_at : List (ℕ × Number) → List Number → Number
sum_at entries y = sum_by_ℚ (λ (e : ℕ × Number). e.1 *ℚ value_of_column y e.0) entries

-- at the values y the sum of each row of the standard form is at most the row's right side
abbrev pub KeepsRows : Standard → List Number → Type 0
KeepsRows s y = All (λ (row : StandardRow). sum_at row.entries y ≤ℚ row.right) s.rows

-- the objective of the standard form at the values y: its constant, and each variable's coefficient
-- times its value
abbrev pub objective_at : Standard → List Number → Number
objective_at s y = s.constant +ℚ sum_at (enumerate_from 1 s.objective) y
