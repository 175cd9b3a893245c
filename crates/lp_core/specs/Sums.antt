-- The numbers of a linear program: values of columns, coefficients and sums of rows.
use Rattle.std.specs.Prelude.{ℕ, ◌==◌, pos, List, slice_index_or, if◌then◌else◌}
use Rattle.gq_number.specs.Number.{Number, whole, ◌*ℚ◌}
use Rattle.gq_number.specs.Sums.{sum_by_ℚ}

-- An entry is a pair of a column's place and a coefficient; a point is the list of the columns'
-- values. `value` gives the number that a field's value means.

-- the value of a column at a point; 0 past the point's end
abbrev pub value_of_column : List Number → ℕ → Number
value_of_column x j = slice_index_or x j (whole (pos 0))

-- the coefficient of column j: the sum of its entries, of which a well-formed row has at most one
abbrev pub column_coefficient : {F : Type 0} → (F → Number) → List (ℕ × F) → ℕ → Number
column_coefficient value entries j = sum_by_ℚ (λ e. if e.0 == j then value e.1 else whole (pos 0)) entries

-- the sum of a row at the point x: the sum, over its entries, of the coefficient times the value of
-- its column
abbrev pub row_sum : {F : Type 0} → (F → Number) → List (ℕ × F) → List Number → Number
row_sum value entries x = sum_by_ℚ (λ e. value e.1 *ℚ value_of_column x e.0) entries
