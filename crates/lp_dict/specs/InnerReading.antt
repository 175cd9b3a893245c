-- Lists with a number for each variable, as they are read from a dictionary, and what the functions
-- that read them promise.
use Rattle.std.specs.Prelude.{◌≡◌, ◌≢◌, ℕ, ◌<◌, pos, List, map, length, slice_get, Some}
use Rattle.gq_number.specs.Number.{Number, whole}
use Rattle.lp_core.specs.Sums.{value_of_column}
use Rattle.lp_core.specs.Dictionary.{Dictionary, entry_at}

module _ {F : Type 0} (value : F → Number) (d : Dictionary) where
  -- at each variable of the first n rows the number of its row at a column, elsewhere 0
  pub record AreByVariable (count column n : ℕ) (list : List F) : Type 0 where
    pub sized : length list ≡ count
    pub here : (k v : ℕ) → k < n → slice_get d.basic k ≡ Some v → value_of_column (map value list) v ≡ d.numbers k column
    pub elsewhere : (v : ℕ) → ((k : ℕ) → k < n → slice_get d.basic k ≢ Some v) → value_of_column (map value list) v ≡ whole (pos 0)

  -- the numbers of the first variables in a row
  pub record AreOfRow (row count : ℕ) (list : List F) : Type 0 where
    pub sized : length list ≡ count
    pub each : (v : ℕ) → v < count → value_of_column (map value list) v ≡ entry_at d row v
