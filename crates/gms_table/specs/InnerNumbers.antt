-- The result of reading a number in a row of a table.
use Rattle.std.specs.Prelude.{ℕ, List, Option, Some, None, Result, Ok, Err}
use Rattle.gq_number.specs.Number.{Number}
use Rattle.gms_table.specs.CellNumbers.{IsNumberText, IsValue}

-- the number that a text is, with its sign; an error if it is not within the limit; nothing if the
-- text is no number
abbrev pub ReadsCell : {F E : Type 0} → ℕ → (F → Number) → List ℕ → Option (Result F E) → Type 0
ReadsCell limit value text (Some (Ok v)) = IsNumberText text × IsValue limit text (value v)
ReadsCell limit value text (Some (Err e)) = IsNumberText text × ((x : Number) → ¬ IsValue limit text x)
ReadsCell limit value text None = (¬ IsNumberText text) × ((x : Number) → ¬ IsValue limit text x)
