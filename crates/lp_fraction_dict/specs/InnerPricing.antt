-- The first variable of a row whose number is above 0, and the one whose number is greatest; what
-- the functions promise.
use Rattle.std.specs.Prelude.{◌≡◌, ◌⊎◌, ℕ, ◌+◌, ◌≤◌, pos, List, Option, Some, None}
use Rattle.gq_number.specs.Number.{Number, whole}
use Rattle.gq_number.specs.Order.{◌<ℚ◌}
use Rattle.lp_fraction_dict.specs.declared.row.Entry.{Entry}
use Rattle.lp_fraction_dict.specs.Rows.{number_in}

-- the least variable from 1 on whose number in the row is above 0, if any
abbrev pub IsFirstAbove : {F : Type 0} → (F → Number) → List (Entry F) → Option ℕ → Type 0
IsFirstAbove value row None = (v : ℕ) → 1 ≤ v → ¬ (whole (pos 0) <ℚ number_in value row (v + 1))
IsFirstAbove value row (Some q) =
    (1 ≤ q) × (whole (pos 0) <ℚ number_in value row (q + 1)) × ((v : ℕ) → 1 ≤ v → whole (pos 0) <ℚ number_in value row (v + 1) → q ≤ v)

-- a variable from 1 on has a number above 0, which is greater than that of the best entry so far
abbrev pub IsBetter : {F : Type 0} → (F → Number) → Entry F → Option (Entry F) → Type 0
IsBetter value entry None = (2 ≤ entry.column) × (whole (pos 0) <ℚ value entry.number)
IsBetter value entry (Some best) = (2 ≤ entry.column) × (value best.number <ℚ value entry.number)

-- the better of the best entry so far and another
abbrev pub IsBest : {F : Type 0} → (F → Number) → Option (Entry F) → Entry F → Option (Entry F) → Type 0
IsBest value best entry r = ((r ≡ Some entry) × IsBetter value entry best) ⊎ ((r ≡ best) × ¬ (IsBetter value entry best))

-- the variable from 1 on with the greatest number above 0 in the row, and of equal ones the least;
-- none if no number is above 0
abbrev pub IsGreatestAbove : {F : Type 0} → (F → Number) → List (Entry F) → Option ℕ → Type 0
IsGreatestAbove value row None = (v : ℕ) → 1 ≤ v → ¬ (whole (pos 0) <ℚ number_in value row (v + 1))
IsGreatestAbove value row (Some q) =
    (1 ≤ q) × (whole (pos 0) <ℚ number_in value row (q + 1))
    × ((v : ℕ) → 1 ≤ v → whole (pos 0) <ℚ number_in value row (v + 1) →
    (number_in value row (v + 1) <ℚ number_in value row (q + 1)) ⊎ ((number_in value row (v + 1) ≡ number_in value row (q + 1)) × (q ≤ v)))
