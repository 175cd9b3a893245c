-- Denominators that the numbers of a row or of a column have in common.
use Rattle.std.specs.Prelude.{ℕ, zero, suc, ◌*◌, ◌/◌, ◌-◌, ◌^◌, min}
use Rattle.gq_number.specs.Gcd.{gcd}
use Rattle.lp_core.specs.Dictionary.{Dictionary}

-- the least common multiple of two numbers, but at most 2^128 - 1
abbrev pub multiple_of : ℕ → ℕ → ℕ
multiple_of first second = min (first / gcd first second * second) (2 ^ 128 - 1)

-- the least common denominator of a row's numbers in the first n columns, but at most 2^128 - 1
abbrev pub row_denominator : Dictionary → ℕ → ℕ → ℕ
row_denominator d row zero = 1
row_denominator d row (suc n) = multiple_of (row_denominator d row n) (d.numbers row n).denominator

-- the least common denominator of a column's numbers in the first n rows, but at most 2^128 - 1
abbrev pub column_denominator : Dictionary → ℕ → ℕ → ℕ
column_denominator d column zero = 1
column_denominator d column (suc n) = multiple_of (column_denominator d column n) (d.numbers n column).denominator
