-- Stored rows, with variable 0 deferred or not, that stay within a bound. Where variable 0 is
-- deferred, what counts is the dictionary that its exchange into its row makes.
use Rattle.std.specs.Prelude.{◌≡◌, ◌≢◌, ℕ, ◌+◌, ◌*◌, ◌<◌, ◌≤◌, ◌^◌, ◌-◌, ◌==◌, ◌⊎◌, ℤ, pos, ◌-ℤ◌, ◌*ℤ◌, ◌<ℤ◌, nat_abs, List, length, slice_get, Option, Some, None, if◌then◌else◌}
use Rattle.lp_integer_rows.specs.declared.line.Line.{Line}
use Rattle.lp_integer_rows.specs.declared.line.Factors.{Factors}
use Rattle.lp_integers.specs.Lines.{whole_at}
use Rattle.lp_integer_rows.specs.Form.{wholes, lines_number, AreLines, AreBounded, AreLowest, IsPlan, IsSomeCrowded}
use Rattle.lp_integer_rows.specs.Turning.{turned_at}

-- The exchange of variable 0 into row k, which is stored as p, stays within the bound: for each
-- resulting row, an estimate of its greatest magnitude, computed from the stored greatest
-- magnitudes, is at most the bound.
pub record DeferredStaysWithin (k : ℕ) (p : Line) (lines : List Line) (bound : ℕ) : Type 0 where
  pub own : p.most ≤ bound
  pub others : (i : ℕ) (l : Line) → i ≢ k → slice_get lines i ≡ Some l → l.most * nat_abs (whole_at (wholes p) 1) + nat_abs (whole_at (wholes l) 1) * p.most ≤ bound

-- In the exchange of variable 0 into row k, the estimate of the greatest magnitude in some
-- resulting row exceeds the bound: `DeferredStaysWithin` is false.
pub record DeferredExceeds (k : ℕ) (lines : List Line) (bound : ℕ) : Type 0 where
  pub pivot : Line
  pub there : slice_get lines k ≡ Some pivot
  pub crowded : ¬ (DeferredStaysWithin k pivot lines bound)

-- The stored greatest magnitude of some row exceeds the bound.
pub record IsSomeGreat (bound : ℕ) (lines : List Line) : Type 0 where
  pub at : ℕ
  pub line : Line
  pub there : slice_get lines at ≡ Some line
  pub great : bound < line.most

-- Variable 0 is deferred in row k: the row's integer for variable 0 is above 0, and the exchange of
-- variable 0 into the row stays within the bound (`DeferredStaysWithin`).
pub record IsDeferred (k : ℕ) (lines : List Line) (bound : ℕ) : Type 0 where
  pub pivot : Line
  pub there : slice_get lines k ≡ Some pivot
  pub above : pos 0 <ℤ whole_at (wholes pivot) 1
  pub within_bound : DeferredStaysWithin k pivot lines bound

-- the dictionary that stored rows mean stays within the bound. None: it has these rows, and their
-- stored greatest magnitudes are at most the bound. Some k: it results from these rows by the
-- exchange of variable 0 into row k; the integer of row k for variable 0 is above 0, and the
-- exchange stays within the bound (`IsDeferred`)
abbrev pub RowsStayWithin : Option ℕ → List Line → ℕ → Type 0
RowsStayWithin None lines bound = AreBounded bound lines
RowsStayWithin (Some k) lines bound = IsDeferred k lines bound

-- if the exchange of variable 0 into row k is deferred (Some k), `above` is the integer of the
-- stored row k at the column; if none is deferred (None), `above` is any integer
abbrev pub IsNumberAbove : Option ℕ → List Line → ℕ → ℤ → Type 0
IsNumberAbove None lines column above = Unit {0}
IsNumberAbove (Some k) lines column above = (l : Line) → slice_get lines k ≡ Some l → above ≡ whole_at (wholes l) column

-- Stored rows with `width` columns, at least 2, and a bound of at most 127 bits. The dictionary
-- that the rows mean stays within the bound. If `deferred` is Some k, this dictionary results from
-- the stored rows by the exchange of variable 0 into row k; if None, it has the stored rows
-- themselves.
pub record AreWhole (lines : List Line) (deferred : Option ℕ) (width bound : ℕ) : Type 0 where
  pub are_lines : AreLines width lines
  pub wide : 1 < width
  pub small : bound < 2 ^ 127
  pub within_bound : RowsStayWithin deferred lines bound

-- the magnitude of the integer that row l has for variable 0 after an exchange with the pivot row
-- p, where f are the factors of the rows l and p
abbrev pub zero_after : Line → Line → Factors → ℕ
zero_after l p f = nat_abs (f.line *ℤ whole_at (wholes l) 1 -ℤ f.pivot *ℤ whole_at (wholes p) 1)

-- after an exchange by the factors `plans`, one for each row, the estimate of the greatest
-- magnitude in each row is at most `top`
abbrev pub AreFactorsWithin : ℕ → List Factors → Type 0
AreFactorsWithin top plans = (i : ℕ) (f : Factors) → slice_get plans i ≡ Some f → f.most ≤ top

-- the exchange of variable 0 into the row `leaving`, made after an exchange by the factors `plans`,
-- keeps the estimate of the greatest magnitude in each other row at most `bound`. `lines` are the
-- rows before the first exchange; of these, l is the row `leaving`, with the factors g, and p is
-- the pivot row
abbrev pub DeferredStaysWithinAfter : ℕ → Line → Line → Factors → List Line → List Factors → ℕ → Type 0
DeferredStaysWithinAfter leaving p l g lines plans bound =
    (i : ℕ) (x : Line) (f : Factors) → i ≢ leaving → slice_get lines i ≡ Some x → slice_get plans i ≡ Some f → f.most * zero_after l p g + zero_after x p f * g.most ≤ bound

-- Two exchanges: first of the row at `place` and the variable at `column`, by the factors `plans`,
-- whose estimates for the other rows are at most the bound (`IsPlan`); then of variable 0 into
-- another row, at `leaving`. In the second the estimate of the greatest magnitude in some row other
-- than `leaving` exceeds the bound.
pub record DeferredExceedsAfter (bound column place leaving : ℕ) (lines : List Line) : Type 0 where
  pub plans : List Factors
  pub pivot : Line
  pub line : Line
  pub factors : Factors
  pub apart : leaving ≢ place
  pub pivot_there : slice_get lines place ≡ Some pivot
  pub line_there : slice_get lines leaving ≡ Some line
  pub factors_there : slice_get plans leaving ≡ Some factors
  pub planned : IsPlan bound column place lines pivot plans
  pub crowded : ¬ (DeferredStaysWithinAfter leaving pivot line factors lines plans bound)

-- In one of two exchanges the estimate of the greatest magnitude in some row other than the pivot
-- row exceeds the bound: in that of the row at `place` and the variable at `column`; or, if not
-- there, in that of variable 0 into the row at `leaving`, made after it, where `leaving` is not
-- `place`.
abbrev pub FactorsExceed : ℕ → ℕ → ℕ → ℕ → List Line → Type 0
FactorsExceed bound column place leaving lines =
    ((pivot : Line) × (slice_get lines place ≡ Some pivot) × IsSomeCrowded bound column place lines pivot) ⊎ DeferredExceedsAfter bound column place leaving lines

-- `plans` has the factors of each row for an exchange of the row at `place` and the variable at
-- `column`. By these the estimate of the greatest magnitude in each resulting row, except that at
-- `place`, is within the bound. If `leaving` is not `place`, an exchange of variable 0 into row
-- `leaving` afterwards stays within it too.
pub record IsRoomyPlan (bound column place leaving : ℕ) (lines : List Line) (plans : List Factors) : Type 0 where
  pub planned : (p : Line) → slice_get lines place ≡ Some p → IsPlan bound column place lines p plans
  pub within_bound : (p l : Line) (g : Factors) → leaving ≢ place → slice_get lines place ≡ Some p → slice_get lines leaving ≡ Some l → slice_get plans leaving ≡ Some g → DeferredStaysWithinAfter leaving p l g lines plans bound

-- `lines` are the stored rows after an exchange of the row at `place`. The stored greatest
-- magnitude (`most`) of each is at most the bound. If `leaving` is not `place`, the exchange of
-- variable 0 into row `leaving`, deferred from then on, stays within the bound
-- (`DeferredStaysWithin`).
pub record ExchangedStayWithin (bound place leaving : ℕ) (lines : List Line) : Type 0 where
  pub bounded : AreBounded bound lines
  pub others : (p : Line) → leaving ≢ place → slice_get lines leaving ≡ Some p → DeferredStaysWithin leaving p lines bound

-- The rows `after` result from `before` by the exchange of the stored row at `place` and the
-- variable at `column`, and stay within the bound (`ExchangedStayWithin`). `leaving` is the row of
-- the leaving variable in the dictionary; it can be another row than that at `place` while an
-- exchange of variable 0 is deferred.
pub record AreExchangedWithin (bound column place leaving : ℕ) (before after : List Line) : Type 0 where
  pub sized : length after ≡ length before
  pub are_lines : (width : ℕ) → AreLines width before → AreLines width after
  pub numbers : (i c : ℕ) → i < length before → lines_number after i c ≡ turned_at (lines_number before) column place i c
  pub within_bound : ExchangedStayWithin bound place leaving after

-- The rows `made` mean the result of the exchange of the row at `place` and the variable at
-- `column` in the rows `before`, and are in lowest terms.
pub record AreMade (column place : ℕ) (before made : List Line) : Type 0 where
  pub sized : length made ≡ length before
  pub numbers : (i c : ℕ) → i < length before → lines_number made i c ≡ turned_at (lines_number before) column place i c
  pub lowest : AreLowest made

-- the rows that the exchange of the stored row at `place` and the variable at `column` makes exceed
-- the bound: the estimate of the greatest magnitude in some other row exceeds 2^127 - 1, or the
-- rows made, in lowest terms, do not stay within `bound` (`ExchangedStayWithin`). `leaving` is the
-- row of the leaving variable in the dictionary; it can be another than that at `place` while an
-- exchange of variable 0 is deferred
abbrev pub MadeRowsExceed : ℕ → ℕ → ℕ → ℕ → List Line → Type 0
MadeRowsExceed bound column place leaving lines =
    ((pivot : Line) × (slice_get lines place ≡ Some pivot) × IsSomeCrowded (2 ^ 127 - 1) column place lines pivot)
    ⊎ ((made : List Line) × AreMade column place lines made × ¬ (ExchangedStayWithin bound place leaving made))

-- An exchange of the stored row at `place` and the variable at `column` might exceed the bound: an
-- estimate from its factors exceeds the bound (`FactorsExceed`), and so do the rows that the
-- exchange makes (`MadeRowsExceed`). `leaving` is the row of the leaving variable in the
-- dictionary; it can be another row than that at `place` while an exchange of variable 0 is
-- deferred.
pub record ExchangeExceeds (bound column place leaving : ℕ) (lines : List Line) : Type 0 where
  pub factors : FactorsExceed bound column place leaving lines
  pub made : MadeRowsExceed bound column place leaving lines

-- the stored greatest magnitude of a row; 1 if there is no row
abbrev pub most_or_one : Option Line → ℕ
most_or_one None = 1
most_or_one (Some l) = l.most

-- the denominator of a row; 1 if there is no row
abbrev pub denominator_or_one : Option Line → ℕ
denominator_or_one None = 1
denominator_or_one (Some l) = l.denominator

-- the magnitude of a row's integer for variable 0; 1 if there is no row
abbrev pub zero_or_one : Option Line → ℕ
zero_or_one None = 1
zero_or_one (Some l) = nat_abs (whole_at (wholes l) 1)

-- the denominator of row i of the dictionary that stored rows mean: with Some k, the exchange by
-- which variable 0 enters in row k is still to be made in the stored rows; with None, no exchange
-- is
abbrev pub line_denominator : Option ℕ → List Line → ℕ → ℕ
line_denominator None lines i = denominator_or_one (slice_get lines i)
line_denominator (Some k) lines i = if i == k then zero_or_one (slice_get lines k) else zero_or_one (slice_get lines k) * denominator_or_one (slice_get lines i)

-- a bound of the magnitudes in row i of the dictionary that stored rows mean: with Some k, the
-- exchange by which variable 0 enters in row k is still to be made in the stored rows; with None,
-- no exchange is
abbrev pub row_most : Option ℕ → List Line → ℕ → ℕ
row_most None lines i = most_or_one (slice_get lines i)
row_most (Some k) lines i =
    if i == k then
    most_or_one (slice_get lines k) else
    most_or_one (slice_get lines i) * zero_or_one (slice_get lines k) + zero_or_one (slice_get lines i) * most_or_one (slice_get lines k)

-- the integer of a row at column c; 0 if there is no row
abbrev pub whole_or_zero : Option Line → ℕ → ℤ
whole_or_zero None c = pos 0
whole_or_zero (Some l) c = whole_at (wholes l) c

-- the integer at column c of row i of the dictionary that stored rows mean, over the denominator
-- `line_denominator`: with Some k, the exchange by which variable 0 enters in row k is still to be
-- made in the stored rows; with None, no exchange is
abbrev pub row_number : Option ℕ → List Line → ℕ → ℕ → ℤ
row_number None lines i c = whole_or_zero (slice_get lines i) c
row_number (Some k) lines i c =
    if i == k then
    whole_or_zero (slice_get lines k) c else
    whole_or_zero (slice_get lines k) 1 *ℤ whole_or_zero (slice_get lines i) c -ℤ whole_or_zero (slice_get lines i) 1 *ℤ whole_or_zero (slice_get lines k) c
