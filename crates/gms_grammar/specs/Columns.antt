-- Columns of a line, counted from 1.
use Rattle.std.specs.Prelude.{ℕ, ◌+◌, ◌*◌, ◌/◌, ◌==◌, if◌then◌else◌}

-- the column after the byte b, which is at `column`; after a tab it is the next column that is one
-- more than a multiple of 8
abbrev pub column_after : ℕ → ℕ → ℕ
column_after column b = if b == 9 then (column + 7) / 8 * 8 + 1 else column + 1
