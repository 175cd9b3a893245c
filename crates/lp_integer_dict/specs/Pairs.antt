-- An estimate for two rows at a time, by which every step of an exchange fits (Edmonds, and
-- Bareiss, on integer pivoting).
use Rattle.std.specs.Prelude.{◌≡◌, ◌≢◌, ℕ, ◌+◌, ◌*◌, ◌<◌, ◌≤◌, ℤ, pos, ◌*ℤ◌, ◌<ℤ◌, nat_abs, List, length, Option, Some, None}
use Rattle.std.specs.Int.{◌∣◌}
use Rattle.gq_number.specs.Number.{ratio}
use Rattle.lp_integer_rows.specs.declared.line.Line.{Line}
use Rattle.lp_integer_dict.specs.declared.pairs.Measure.{Measure}
use Rattle.lp_integer_rows.specs.Form.{lines_number, numbers_above, AreFactors}
use Rattle.lp_integer_dict.specs.WithinBound.{line_denominator, row_most}

-- An exchange replaces a row by the difference of `of_row` times this row and `of_leaving` times
-- the leaving variable's row. For the entering variable the row has the integer f, and the leaving
-- variable's row has p. Divided by a common factor `shared`, p is `of_row`, and f is `of_leaving`.
-- The estimate of the difference, from bounds of the magnitudes, `most` in the row and `other` in
-- the leaving variable's row, is at most the limit.
pub record IsPairWithin (f p : ℤ) (most other limit : ℕ) : Type 0 where
  pub of_row : ℤ
  pub of_leaving : ℤ
  pub shared : ℕ
  pub positive : 0 < shared
  pub first : of_row *ℤ pos shared ≡ p
  pub second : of_leaving *ℤ pos shared ≡ f
  pub within_bound : nat_abs of_row * most + nat_abs of_leaving * other ≤ limit

-- In an exchange a row has the integer f for the entering variable, and the row of the leaving
-- variable has p. Divided by their greatest common divisor, p is `of_row`, by which the row is
-- multiplied, and f is `of_leaving`, by which the other row is. |of_row| · most + |of_leaving| ·
-- other exceeds the limit; `most` and `other` are the two rows' greatest magnitudes.
pub record ReducedPairExceeds (f p : ℤ) (most other limit : ℕ) : Type 0 where
  pub of_row : ℤ
  pub of_leaving : ℤ
  pub factors : AreFactors f p of_row of_leaving
  pub no_bound : limit < nat_abs of_row * most + nat_abs of_leaving * other

-- In an exchange a row has the integer f for the entering variable, and the row of the leaving
-- variable has p. `most` and `other` are the greatest magnitudes of the two rows. The estimate of p
-- times the first less f times the second, |p| · most + |f| · other, exceeds the limit. If p is
-- above 0, so it does with f and p divided by their greatest common divisor.
pub record PairExceeds (f p : ℤ) (most other limit : ℕ) : Type 0 where
  pub plain : limit < nat_abs p * most + nat_abs f * other
  pub reduced : pos 0 <ℤ p → ReducedPairExceeds f p most other limit

-- The measure m of the row at `place` of a dictionary. The dictionary is the stored rows `lines`;
-- if `deferred` is Some k, it results from them by the exchange of variable 0 into row k. m has the
-- row's integer at `column`, over the denominator `line_denominator`, and a bound of the magnitudes
-- in the row (`row_most`).
pub record IsMeasured (lines : List Line) (deferred : Option ℕ) (place column : ℕ) (m : Measure) : Type 0 where
  pub number : ratio m.number (line_denominator deferred lines place) ≡ numbers_above deferred (lines_number lines) place column
  pub most : m.most ≡ row_most deferred lines place

-- a bound of the magnitudes in all rows of a dictionary, where `top` is a bound of those in the
-- stored rows: `top` if these are the rows of the dictionary (None), or twice its square if the
-- exchange of variable 0 into a stored row is still to be made (Some)
abbrev pub rows_top : Option ℕ → ℕ → ℕ
rows_top None top = top
rows_top (Some k) top = top * top + top * top

-- The magnitudes in each row of the dictionary that the stored rows `lines` mean have a bound
-- (`row_most`) that is at most `top`, and twice the square of `top` is at most `bound`. If
-- `deferred` is Some k, the exchange of variable 0 into row k is still to be made in `lines`.
pub record IsRoomy (lines : List Line) (deferred : Option ℕ) (bound : ℕ) : Type 0 where
  pub top : ℕ
  pub rows : (i : ℕ) → i < length lines → row_most deferred lines i ≤ top
  pub square : top * top + top * top ≤ bound

-- The row at `place` of the dictionary that the stored rows `lines` mean is a list of integers over
-- `denominator`; the magnitudes of the integers and the denominator are at most `most`, and the
-- integer at `column` is `number`. If `deferred` is Some k, the exchange of variable 0 into row k
-- is still to be made in `lines`.
pub record IsRowOver (lines : List Line) (deferred : Option ℕ) (place column : ℕ) (number : ℤ) (denominator most : ℕ) : Type 0 where
  pub positive : 0 < denominator
  pub low : denominator ≤ most
  pub number_is : ratio number denominator ≡ numbers_above deferred (lines_number lines) place column
  pub each : (c : ℕ) → (n : ℤ) × (ratio n denominator ≡ numbers_above deferred (lines_number lines) place c) × (nat_abs n ≤ most)

-- The measure m of the row at `place`, in lowest terms, of the dictionary that the stored rows
-- `lines` mean: only 1 divides all integers of the row and its denominator. m has the integer at
-- `column`, and the greatest magnitude of the integers and the denominator. If `deferred` is Some
-- k, the exchange of variable 0 into row k is still to be made in `lines`.
pub record IsLowestRow (lines : List Line) (deferred : Option ℕ) (place column : ℕ) (m : Measure) : Type 0 where
  pub denominator : ℕ
  pub row : IsRowOver lines deferred place column m.number denominator m.most
  pub reduced : (d : ℕ) → d ∣ denominator → ((c : ℕ) (n : ℤ) → ratio n denominator ≡ numbers_above deferred (lines_number lines) place c → d ∣ nat_abs n) → d ≡ 1
  pub least : (b : ℕ) → denominator ≤ b → ((c : ℕ) (n : ℤ) → ratio n denominator ≡ numbers_above deferred (lines_number lines) place c → nat_abs n ≤ b) → m.most ≤ b

-- In the dictionary that the stored rows `lines` mean, row i and the row of the leaving variable,
-- at `leaving`, can each be written as integers over a denominator (`IsRowOver`) such that in the
-- exchange with the variable at `column` the estimate for row i (`IsPairWithin`) is at most the
-- bound. If `deferred` is Some k, this dictionary results from the stored rows by the exchange of
-- variable 0 into row k; if None, it has the stored rows themselves.
pub record IsPairFit (lines : List Line) (deferred : Option ℕ) (leaving column bound i : ℕ) : Type 0 where
  pub number : ℤ
  pub of_leaving : ℤ
  pub denominator : ℕ
  pub denominator_leaving : ℕ
  pub most : ℕ
  pub most_leaving : ℕ
  pub row : IsRowOver lines deferred i column number denominator most
  pub row_leaving : IsRowOver lines deferred leaving column of_leaving denominator_leaving most_leaving
  pub within_bound : IsPairWithin number of_leaving most most_leaving bound

-- For each of the first n rows of a dictionary, except the leaving variable's, at `leaving`: after
-- the exchange with the variable at `column`, the estimate of the row's greatest magnitude is at
-- most the bound (`IsPairFit`). The dictionary is the stored rows `lines`; if `deferred` is Some k,
-- it results from them by the exchange of variable 0 into row k
abbrev pub ArePairsFit : List Line → Option ℕ → ℕ → ℕ → ℕ → ℕ → Type 0
ArePairsFit lines deferred leaving column bound n = (i : ℕ) → i < n → i ≢ leaving → IsPairFit lines deferred leaving column bound i

-- In the dictionary that the stored rows `lines` mean, the leaving variable's row is at `leaving`,
-- and some other row is at `at`, both in lowest terms (`IsLowestRow`). In the exchange with the
-- variable at `column`, the estimate of the magnitudes in the row at `at` exceeds the bound
-- (`PairExceeds`). If `deferred` is Some k, the exchange of variable 0 into row k is still to be
-- made in `lines`.
pub record IsSomePairCrowded (lines : List Line) (deferred : Option ℕ) (leaving column bound : ℕ) : Type 0 where
  pub at : ℕ
  pub within : at < length lines
  pub other : at ≢ leaving
  pub row : Measure
  pub row_leaving : Measure
  pub row_is : IsLowestRow lines deferred at column row
  pub leaving_is : IsLowestRow lines deferred leaving column row_leaving
  pub no_bound : PairExceeds row.number row_leaving.number row.most row_leaving.most bound
