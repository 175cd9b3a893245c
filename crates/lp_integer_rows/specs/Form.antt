-- A dictionary as integer rows. Variable 0 may be deferred: the stored rows are those before
-- variable 0 enters, and its exchange is made as numbers are read.
use Rattle.std.specs.Prelude.{◌≡◌, ◌≢◌, ℕ, ◌+◌, ◌*◌, ◌<◌, ◌≤◌, ◌^◌, ◌==◌, ◌⊎◌, if◌then◌else◌, ℤ, pos, ◌-ℤ◌, ◌*ℤ◌, ◌<ℤ◌, nat_abs, List, length, slice_get, Option, Some, None}
use Rattle.std.specs.Int.{◌∣◌}
use Rattle.gq_number.specs.Number.{Number, whole, ratio, ◌-ℚ◌, ◌*ℚ◌, ◌/ℚ◌, neg_ℚ}
use Rattle.gq_number.specs.Gcd.{gcd}
use Rattle.lp_integer_rows.specs.declared.line.Line.{Line}
use Rattle.lp_integer_rows.specs.declared.line.Factors.{Factors}
use Rattle.lp_integers.specs.Lines.{whole_at, AreWithin, AreDivided}
use Rattle.lp_integer_rows.specs.Turning.{turned_at}
use Rattle.lp_integer_rows.specs.Marks.{AreMarked, AreLeading}

-- the integers of a row, by column
abbrev pub wholes : Line → List ℤ
wholes l = l.numbers

-- the number of a row at a column: its integer there over its denominator
abbrev pub line_number : Line → ℕ → Number
line_number l c = ratio (whole_at (wholes l) c) l.denominator

-- The invariant of a row: its denominator is above 0, its integers and its denominator have at most
-- 127 bits, none exceeds its stored greatest magnitude (`most`), each column with an integer other
-- than 0 has a mark, a bit of `marks`, and the first two integers are stored once more.
pub record IsLine (l : Line) : Type 0 where
  pub positive : 0 < l.denominator
  pub numbers_within : AreWithin (wholes l) l.most
  pub denominator_within : l.denominator ≤ l.most
  pub small : l.most < 2 ^ 127
  pub marked : AreMarked (wholes l) l.marks
  pub leading : AreLeading (wholes l) l.leading

-- a and b are p and f divided by their greatest common divisor, and a is above 0.
pub record AreFactors (f p a b : ℤ) : Type 0 where
  pub shared : ℕ
  pub greatest : shared ≡ gcd (nat_abs f) (nat_abs p)
  pub positive : 0 < shared
  pub above : pos 0 <ℤ a
  pub first : a *ℤ pos shared ≡ p
  pub second : b *ℤ pos shared ≡ f

-- The factors of an exchange at a column: `f.line`, by which the row is multiplied, is the pivot
-- row's integer at the column; `f.pivot`, by which the pivot row is multiplied, is the row's
-- integer there; both are divided by their greatest common divisor. The estimate `f.most` of the
-- resulting row's integers is the sum over both rows of the factor's magnitude times the row's
-- stored bound `most`. It is at most `bound`.
pub record IsPlanned (bound column : ℕ) (line pivot : Line) (f : Factors) : Type 0 where
  pub factors : AreFactors (whole_at (wholes line) column) (whole_at (wholes pivot) column) f.line f.pivot
  pub most : f.most ≡ nat_abs f.line * line.most + nat_abs f.pivot * pivot.most
  pub within : f.most ≤ bound

-- In an exchange at a column the estimate of the magnitudes that result in a row exceeds the bound.
-- The estimate is the magnitude of `of_line` times the stored greatest magnitude of the row, plus
-- that of `of_pivot` times that of the pivot row. `of_line` is the pivot row's integer at the
-- column, and `of_pivot` the row's, both divided by their greatest common divisor (`AreFactors`).
pub record IsCrowded (bound column : ℕ) (line pivot : Line) : Type 0 where
  pub of_line : ℤ
  pub of_pivot : ℤ
  pub factors : AreFactors (whole_at (wholes line) column) (whole_at (wholes pivot) column) of_line of_pivot
  pub no_bound : bound < nat_abs of_line * line.most + nat_abs of_pivot * pivot.most

-- The row `after` an exchange stays within the estimate of its factors f: its stored greatest
-- magnitude (`most`) is at most that of f, and each of its integers is in magnitude at most the
-- difference of products that f makes of the integers of `before` and of the pivot row.
pub record IsWithinFactors (before pivot after : Line) (f : Factors) : Type 0 where
  pub most : after.most ≤ f.most
  pub magnitudes : (c : ℕ) → nat_abs (whole_at (wholes after) c) ≤ nat_abs (f.line *ℤ whole_at (wholes before) c -ℤ f.pivot *ℤ whole_at (wholes pivot) c)

-- The row `after` means the same numbers as `before`, by integers of no greater magnitude.
pub record IsSameLine (before after : Line) : Type 0 where
  pub is_line : IsLine after
  pub sized : length (wholes after) ≡ length (wholes before)
  pub numbers : (c : ℕ) → line_number after c ≡ line_number before c
  pub most : after.most ≤ before.most
  pub magnitudes : (c : ℕ) → nat_abs (whole_at (wholes after) c) ≤ nat_abs (whole_at (wholes before) c)

-- no divisor but 1 divides all integers of a row and its denominator
abbrev pub IsReducedLine : Line → Type 0
IsReducedLine l = (d : ℕ) → d ∣ l.denominator → AreDivided (wholes l) d → d ≡ 1

-- A row is in lowest terms: no divisor but 1 divides all its integers and its denominator, and its
-- stored greatest magnitude (`most`) is at most the greatest magnitude among these.
pub record IsLowest (l : Line) : Type 0 where
  pub reduced : IsReducedLine l
  pub least : (m : ℕ) → AreWithin (wholes l) m → l.denominator ≤ m → l.most ≤ m

-- The row `after` is `before` less the multiple of the pivot row that makes the number at `column`
-- zero, and it stays within the estimate of the factors f (`IsWithinFactors`).
pub record IsLessenedLine (column : ℕ) (before pivot after : Line) (f : Factors) : Type 0 where
  pub is_line : IsLine after
  pub sized : length (wholes after) ≡ length (wholes before)
  pub numbers : (c : ℕ) → line_number after c ≡ line_number before c -ℚ line_number before column *ℚ (line_number pivot c /ℚ line_number pivot column)
  pub within : IsWithinFactors before pivot after f

-- The row `after` is `before` divided by the number of `before` at `column`. At each column the
-- integer of `after` is at most that of `before` in magnitude, and the stored bound `most` of the
-- magnitudes is not greater in `after`.
pub record IsDividedLine (column : ℕ) (before after : Line) : Type 0 where
  pub is_line : IsLine after
  pub sized : length (wholes after) ≡ length (wholes before)
  pub numbers : (c : ℕ) → line_number after c ≡ line_number before c /ℚ line_number before column
  pub most : after.most ≤ before.most
  pub magnitudes : (c : ℕ) → nat_abs (whole_at (wholes after) c) ≤ nat_abs (whole_at (wholes before) c)

-- The row `after` is `before` with the coefficient 0 for variable 0, which is at column 1. Its
-- stored greatest magnitude (`most`) is no greater.
pub record IsForgottenLine (before after : Line) : Type 0 where
  pub is_line : IsLine after
  pub sized : length (wholes after) ≡ length (wholes before)
  pub most : after.most ≤ before.most
  pub numbers : (c : ℕ) → line_number after c ≡ (if c == 1 then whole (pos 0) else line_number before c)

-- The row `after` is `before` or its negative, whichever has a positive coefficient of variable 0,
-- which is at column 1, after the constant.
pub record IsRaisedLine (before after : Line) : Type 0 where
  pub is_line : IsLine after
  pub sized : length (wholes after) ≡ length (wholes before)
  pub most : after.most ≡ before.most
  pub above : pos 0 <ℤ whole_at (wholes after) 1
  pub magnitudes : (c : ℕ) → nat_abs (whole_at (wholes after) c) ≡ nat_abs (whole_at (wholes before) c)
  pub numbers : ((c : ℕ) → line_number after c ≡ line_number before c) ⊎ ((c : ℕ) → line_number after c ≡ neg_ℚ (line_number before c))

-- each of these has the invariant of a row, and `width` columns
abbrev pub AreLines : ℕ → List Line → Type 0
AreLines width lines = (i : ℕ) (l : Line) → slice_get lines i ≡ Some l → IsLine l × (length (wholes l) ≡ width)

-- the stored greatest magnitude (`most`) of each of these rows is at most the bound
abbrev pub AreBounded : ℕ → List Line → Type 0
AreBounded bound lines = (i : ℕ) (l : Line) → slice_get lines i ≡ Some l → l.most ≤ bound

-- The rows `after` mean the same numbers as `before`, by integers of no greater magnitude.
pub record AreSameLines (before after : List Line) : Type 0 where
  pub sized : length after ≡ length before
  pub each : (i : ℕ) (x y : Line) → slice_get before i ≡ Some x → slice_get after i ≡ Some y → IsSameLine x y

-- each of these rows is in lowest terms
abbrev pub AreLowest : List Line → Type 0
AreLowest lines = (i : ℕ) (l : Line) → slice_get lines i ≡ Some l → IsLowest l

-- Each row of `after` is that of `before` with the coefficient 0 for variable 0.
pub record AreForgotten (before after : List Line) : Type 0 where
  pub sized : length after ≡ length before
  pub each : (i : ℕ) (x y : Line) → slice_get before i ≡ Some x → slice_get after i ≡ Some y → IsForgottenLine x y

-- Row k, whose coefficient of variable 0 is not 0, is as before, or negated if this coefficient was
-- negative; the other rows are unchanged.
pub record IsRaisedAt (k : ℕ) (before after : List Line) : Type 0 where
  pub sized : length after ≡ length before
  pub here : (x y : Line) → slice_get before k ≡ Some x → slice_get after k ≡ Some y → IsRaisedLine x y
  pub others : (i : ℕ) → i ≢ k → slice_get after i ≡ slice_get before i

-- Rows k and l have changed places; the other rows are unchanged.
pub record AreSwapped (k l : ℕ) (before after : List Line) : Type 0 where
  pub sized : length after ≡ length before
  pub first : slice_get after k ≡ slice_get before l
  pub second : slice_get after l ≡ slice_get before k
  pub others : (i : ℕ) → i ≢ k → i ≢ l → slice_get after i ≡ slice_get before i

-- the factors of an exchange that leave a row as it is: 1 for the row, 0 for the pivot row, and as
-- the estimate of its integers its stored greatest magnitude (`most`)
abbrev pub own_factors : Line → Factors
own_factors l = record { line = pos 1; pivot = pos 0; most = l.most }

-- The list `plans` has the factors of the first n rows for an exchange at a column. For each row
-- except the pivot row, the estimate of the resulting integers is at most the bound; the factors
-- of the pivot row, which is at `place`, leave it as it is.
pub record ArePlanned (bound column place : ℕ) (lines : List Line) (pivot : Line) (plans : List Factors) (n : ℕ) : Type 0 where
  pub sized : length plans ≡ n
  pub each : (i : ℕ) (l : Line) (f : Factors) → i ≢ place → slice_get lines i ≡ Some l → slice_get plans i ≡ Some f → IsPlanned bound column l pivot f
  pub own : (f : Factors) → slice_get plans place ≡ Some f → f ≡ own_factors pivot

-- In an exchange at a column the estimate of the integers that result in some row, other than the
-- pivot row at `place`, exceeds the bound.
pub record IsSomeCrowded (bound column place : ℕ) (lines : List Line) (pivot : Line) : Type 0 where
  pub at : ℕ
  pub line : Line
  pub other : at ≢ place
  pub there : slice_get lines at ≡ Some line
  pub crowded : IsCrowded bound column line pivot

-- From each of the first n rows the multiple of the pivot row is subtracted, by the factors
-- `plans`, that makes the row's number at `column` zero. The row at `place`, where the pivot row
-- is, and the rows after the first n are unchanged.
pub record AreLinesExchanged (column place : ℕ) (pivot : Line) (plans : List Factors) (before after : List Line) (n : ℕ) : Type 0 where
  pub sized : length after ≡ length before
  pub each : (i : ℕ) (x y : Line) (f : Factors) → i < n → i ≢ place → slice_get before i ≡ Some x → slice_get after i ≡ Some y → slice_get plans i ≡ Some f → IsLessenedLine column x pivot y f
  pub left : (i : ℕ) → n ≤ i → slice_get after i ≡ slice_get before i
  pub kept : slice_get after place ≡ slice_get before place

-- The list `plans` has the factors of all rows for an exchange of the pivot row, which is at
-- `place`, and the variable at `column`. The integer of the pivot row at `column` is above 0. The
-- bound is below 2^127. For each row except the pivot row the estimate of the integers that the
-- exchange gives the row is at most the bound.
pub record IsPlan (bound column place : ℕ) (lines : List Line) (pivot : Line) (plans : List Factors) : Type 0 where
  pub small : bound < 2 ^ 127
  pub above : pos 0 <ℤ whole_at (wholes pivot) column
  pub planned : ArePlanned bound column place lines pivot plans (length lines)

-- each of these, except the one at `place`, has the invariant of a row, and `width` columns
abbrev pub AreLinesBut : ℕ → ℕ → List Line → Type 0
AreLinesBut place width lines = (i : ℕ) (l : Line) → i ≢ place → slice_get lines i ≡ Some l → IsLine l × (length (wholes l) ≡ width)

-- the number of a row at column c; 0 without a row
abbrev pub number_or_none : Option Line → ℕ → Number
number_or_none None c = whole (pos 0)
number_or_none (Some l) c = line_number l c

-- the number of row i at column c; 0 past the last row
abbrev pub lines_number : List Line → ℕ → ℕ → Number
lines_number lines i c = number_or_none (slice_get lines i) c

-- The rows `after` result from `before` by the exchange in which the variable at `column` becomes
-- basic in the row at `place`, and each stays within the estimate of its factors in `plans`.
pub record AreTurned (column place : ℕ) (plans : List Factors) (before after : List Line) : Type 0 where
  pub sized : length after ≡ length before
  pub are_lines : (width : ℕ) → AreLines width before → AreLines width after
  pub numbers : (i c : ℕ) → i < length before → lines_number after i c ≡ turned_at (lines_number before) column place i c
  pub within : (i : ℕ) (p x y : Line) (f : Factors) → slice_get before place ≡ Some p → slice_get before i ≡ Some x → slice_get after i ≡ Some y → slice_get plans i ≡ Some f → IsWithinFactors x p y f

-- the number of row i at column c that the stored numbers `kept` mean: the stored one if no
-- exchange is deferred (None), else the one after the deferred exchange of variable 0, which is at
-- column 1, into row k
abbrev pub numbers_above : Option ℕ → (ℕ → ℕ → Number) → ℕ → ℕ → Number
numbers_above None kept i c = kept i c
numbers_above (Some k) kept i c = turned_at kept 1 k i c
