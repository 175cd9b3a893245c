-- Lists with a number for each variable, read from the stored rows of a dictionary.
use Rattle.std.specs.Prelude.{◌≡◌, ◌≢◌, ℕ, ◌+◌, ◌<◌, pos, List, [], map, length, take, slice_get, slice_index_or, Some}
use Rattle.gq_number.specs.Number.{Number, whole, neg_ℚ}
use Rattle.lp_core.specs.Sums.{value_of_column}
use Rattle.lp_fraction_dict.specs.declared.row.Entry.{Entry}
use Rattle.lp_fraction_dict.specs.Rows.{number_in}
-- passed on: where a search ends, and what is read there
pub use Rattle.lp_core.specs.Ends.{IsDone, last_with}

module _ {F : Type 0} (value : F → Number) where
  -- the list has `count` numbers, and each is 0
  pub record AreNumbers (count : ℕ) (list : List F) : Type 0 where
    pub sized : length list ≡ count
    pub zeros : (v : ℕ) → value_of_column (map value list) v ≡ whole (pos 0)

  -- The list has a number for each of `count` variables: for the basic variable of one of the first
  -- n rows, that row's number at `column`; for any other 0.
  pub record AreByVariable (rows : List (List (Entry F))) (basic : List ℕ) (count column n : ℕ) (list : List F) : Type 0 where
    pub sized : length list ≡ count
    pub here : (k v : ℕ) → k < n → slice_get basic k ≡ Some v → value_of_column (map value list) v ≡ number_in value (slice_index_or rows k []) column
    pub elsewhere : (v : ℕ) → ((k : ℕ) → k < n → slice_get basic k ≢ Some v) → value_of_column (map value list) v ≡ whole (pos 0)

  -- The list has a number for each of `count` variables: that of the variable's column in the first
  -- n entries of a row.
  pub record AreByColumn (row : List (Entry F)) (count n : ℕ) (list : List F) : Type 0 where
    pub sized : length list ≡ count
    pub each : (v : ℕ) → v < count → value_of_column (map value list) v ≡ number_in value (take n row) (v + 1)

  -- The list has the change of each variable if the variable `enter` rises by 1: 1 for `enter`, and
  -- for any other variable its negated number in `numbers`. There a variable has the coefficient of
  -- `enter` in its row, or 0 without a row.
  pub record AreChanges (numbers : List F) (enter : ℕ) (list : List F) : Type 0 where
    pub sized : length list ≡ length numbers
    pub enters : value_of_column (map value list) enter ≡ whole (pos 1)
    pub others : (v : ℕ) → v ≢ enter → value_of_column (map value list) v ≡ neg_ℚ (value_of_column (map value numbers) v)
