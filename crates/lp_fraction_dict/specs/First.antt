-- The first dictionary, row by row, as the crate's functions make it.
use Rattle.std.specs.Prelude.{◌≡◌, Bool, ℕ, ◌+◌, ◌<◌, ◌≤◌, List, [], ◌∷◌, length, slice_index_or}
use Rattle.std.specs.List.{All}
use Rattle.gq_number.specs.Number.{Number}
use Rattle.lp_core.specs.StandardForm as form
use Rattle.lp_core.specs.Dictionary.{first_row, no_row}
use Rattle.lp_fraction_dict.specs.declared.row.Entry.{Entry}
use Rattle.lp_fraction_dict.specs.Rows.{IsRow, number_in}

-- the entries ascend by variable, from number `low` on and below `high`
abbrev pub InOrder : ℕ → ℕ → List (ℕ × Number) → Type 0
InOrder low high [] = Unit {0}
InOrder low high (e ∷ es) = (low ≤ e.0) × (e.0 < high) × InOrder (e.0 + 1) high es

-- The entries of the stored row `made` ascend by column, below `column`, and none is 0; at each
-- column below `column` the row has the number that `target` gives.
pub record IsFilled {F : Type 0} (value : F → Number) (target : ℕ → Number) (column : ℕ) (made : List (Entry F)) : Type 0 where
  pub is_row : IsRow value 0 column made
  pub numbers : (c : ℕ) → c < column → number_in value made c ≡ target c

-- A standard form in which the entries of each row ascend by variable, from 1 to the number of
-- variables, and that has at most 1,500 rows and 3,000 variables.
pub record IsInForm (s : form.Standard) : Type 0 where
  pub rows : All (λ (row : form.StandardRow). InOrder 1 (length s.objective + 1) row.entries) s.rows
  pub rows_few : length s.rows ≤ 1500
  pub variables_few : length s.objective ≤ 3000

-- The stored rows `made` are the first n rows of the first dictionary of a standard form with these
-- `rows`. `needed` says whether phase 1 is needed, and `slack` is the number of the first row's
-- slack variable. Row k has entries up to column `slack + k + 1`, the column of its slack variable,
-- which has the number `slack + k`.
pub record AreFirst {F : Type 0} (value : F → Number) (needed : Bool) (slack : ℕ) (rows : List form.StandardRow) (made : List (List (Entry F))) (n : ℕ) : Type 0 where
  pub sized : length made ≡ n
  pub each : (k : ℕ) → k < n → IsFilled value (first_row needed (slack + k) (slice_index_or rows k no_row)) (slack + k + 2) (slice_index_or made k [])
