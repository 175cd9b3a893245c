-- A dictionary by integers, as contracts view it, and how it is stored (Chvatal, Linear
-- Programming, chapters 2 and 3).
use Rattle.std.specs.Prelude.{◌≡◌, ◌≢◌, ◌⊎◌, ℕ, ◌+◌, ◌<◌, ◌^◌, nat_lt, List, length, Option, Some, None, Result, IfOk, IfErr, if◌then◌else◌}
use Rattle.lp_core.specs.declared.answer.Pivot.{Pivot}
use Rattle.lp_core.specs.Dictionary.{Dictionary, exchanged, IsProper}
use Rattle.lp_fraction_dict.specs.Tableau.{IsPlace}
use Rattle.lp_integer_rows.specs.declared.line.Line.{Line}
use Rattle.lp_integer_rows.specs.Form.{lines_number, numbers_above}
use Rattle.lp_integer_dict.specs.WithinBound.{AreWhole, DeferredExceeds, ExchangeExceeds}
use Rattle.lp_integer_dict.specs.Pairs.{IsSomePairCrowded}

-- the index of the stored row for row i of a dictionary: i if that is below `rows`, otherwise
-- `rows`, the index of the objective
abbrev pub row_of : ℕ → ℕ → ℕ
row_of rows i = if nat_lt i rows then i else rows

-- the dictionary that the stored rows `lines` mean, with the objective after the rows of the
-- variables `basic`; `variables` is the greatest number of a variable. If `deferred` is Some k, the
-- exchange of variable 0 into row k is still to be made in the stored rows
abbrev pub whole_dictionary : ℕ → List ℕ → List Line → Option ℕ → Dictionary
whole_dictionary variables basic lines deferred =
    record {
      variables = variables;
      basic = basic;
      numbers = λ i c. numbers_above deferred (lines_number lines) (row_of (length basic) i) c;
    }

-- What is stored: the basic variable of each row; the rows, then the objective (`lines`); the row
-- into which an exchange of variable 0 is deferred, if one is; and the bound on the denominators
-- and the magnitudes of the integers in `lines`.
pub record WholeTableau : Type 0 where
  -- the greatest number of a variable
  pub variables : ℕ
  pub basic : List ℕ
  pub lines : List Line
  pub deferred : Option ℕ
  pub bound : ℕ

-- the dictionary that a tableau stores
abbrev pub integer_dictionary : WholeTableau → Dictionary
integer_dictionary t = whole_dictionary t.variables t.basic t.lines t.deferred

-- The invariant of a tableau: it has a stored row for each basic variable and one for the
-- objective; the dictionary that these rows mean stays within the bound (`AreWhole`); an exchange
-- of variable 0 is deferred exactly if variable 0 is basic, and into its row; column numbers have
-- at most 32 bits; and the dictionary satisfies `IsProper`, the invariant of a program's
-- dictionaries.
pub record IsWhole (t : WholeTableau) : Type 0 where
  pub sized : t.variables + 2 < 2 ^ 32
  pub paired : length t.lines ≡ length t.basic + 1
  pub are_whole : AreWhole t.lines t.deferred (t.variables + 2) t.bound
  pub is_deferred : IsPlace t.basic 0 t.deferred
  pub proper : IsProper (integer_dictionary t)

-- the pivot row of the exchange of the stored rows when the variable of row k leaves: row z if the
-- exchange of variable 0 into row z is deferred (Some z), or row k if no exchange is (None)
abbrev pub kept_place : Option ℕ → ℕ → ℕ
kept_place None k = k
kept_place (Some z) k = z

-- estimates of the stored rows exceed the bound in the pivot p, in which the variable of row k
-- leaves: if variable 0 enters, those of its exchange into row k (`DeferredExceeds`); if another
-- variable enters, those of its exchange into the row into which an exchange of variable 0 is
-- deferred, or, if none is, into row k (`ExchangeExceeds`)
abbrev pub AreCrowded : WholeTableau → Pivot → ℕ → Type 0
AreCrowded t p k =
    ((p.enter ≡ 0) × DeferredExceeds k t.lines t.bound)
    ⊎ ((p.enter ≢ 0) × ExchangeExceeds t.bound (p.enter + 1) (kept_place t.deferred k) k t.lines)

-- in the pivot p, in which the variable of row k leaves, an estimate exceeds the bound: that of the
-- greatest magnitude in the objective or in some row other than k, from the dictionary's rows in
-- lowest terms (`IsSomePairCrowded`), or one from the rows as they are stored, where an exchange of
-- variable 0 may be deferred (`AreCrowded`)
abbrev pub IsPivotCrowded : WholeTableau → Pivot → ℕ → Type 0
IsPivotCrowded t p k = IsSomePairCrowded t.lines t.deferred k (p.enter + 1) t.bound ⊎ AreCrowded t p k

-- The result of the pivot p, where the variable of row k leaves. Ok: a tableau of the exchanged
-- dictionary. Err: a tableau of the unchanged dictionary, whose stored rows might exceed the bound
-- in the pivot (`AreCrowded`). The bound is unchanged.
abbrev pub IsPivoted : WholeTableau → Pivot → ℕ → Result WholeTableau WholeTableau → Type 0
IsPivoted t p k r =
    IfOk r (λ after. (integer_dictionary after ≡ exchanged (integer_dictionary t) p.enter k) × (after.bound ≡ t.bound))
    × IfErr r (λ same. (integer_dictionary same ≡ integer_dictionary t) × (same.bound ≡ t.bound) × AreCrowded same p k)
