-- What the functions promise each other.
use Rattle.std.specs.Prelude.{◌≡◌, ℕ, ◌+◌, true, false, List, Option, Some, None, Result, Ok, Err}
use Rattle.gq_number.specs.Number.{Number}
use Rattle.lp_core.specs.Dictionary.{Dictionary}
use Rattle.lp_core.specs.Feasible.{bound_value}
use Rattle.lp_std.specs.Meaning.{shift_value}
use Rattle.lp_fraction_dict.specs.Tableau.{IsPlace}
use Rattle.lp_range.specs.declared.interval.Interval.{Interval}
use Rattle.lp_range.specs.declared.costs.ColumnPlace.{ColumnPlace}
use Rattle.lp_range.specs.Spans.{Gain, low_with, high_with, gain_fits, moved_fits, moved_to}
use Rattle.lp_range.specs.Ranges.{column_change, column_change_fits}

-- a gain is found, or the step by which it is found does not fit
abbrev pub IsFound : {F : Type 0} → (F → Number) → Gain → Option F → Type 0
IsFound value g (Some each) = (g.fits ≡ true) × (value each ≡ g.each)
IsFound value g None = g.fits ≡ false

-- ends so far with one amount more, or a step on it does not fit
abbrev pub EndsWith : {F : Type 0} → (F → Number) → ℕ → Interval F → Gain → Option (Interval F) → Type 0
EndsWith value limit ends g (Some after) =
    (gain_fits limit g ≡ true) × (bound_value value after.low ≡ low_with (bound_value value ends.low) g)
    × (bound_value value after.high ≡ high_with (bound_value value ends.high) g)
EndsWith value limit ends g None = gain_fits limit g ≡ false

-- a number is moved to an end, if there is one, or the sum does not fit
abbrev pub AddsTo : {F : Type 0} → (F → Number) → ℕ → Number → Option Number → Result (Option F) (Unit {0}) → Type 0
AddsTo value limit x e (Ok sum) = (moved_fits limit x e ≡ true) × (bound_value value sum ≡ moved_to x e)
AddsTo value limit x e (Err u) = moved_fits limit x e ≡ false

-- the variables of a column are placed: each with its row, the second after the first
abbrev pub IsPlaced : {F : Type 0} → List ℕ → ColumnPlace F → Type 0
IsPlaced basic column =
    IsPlace basic column.first.variable column.first.row × IsPlace basic column.second.variable column.second.row
    × (column.second.variable ≡ column.first.variable + 1)

-- what a column gains is found, or the step by which it is found does not fit
abbrev pub FindsChange : {F : Type 0} → (F → Number) → ℕ → Dictionary → ColumnPlace F → ℕ → Option F → Type 0
FindsChange value limit d column q (Some each) =
    (column_change_fits limit d (column.first.variable, shift_value value column.shift) q ≡ true)
    × (value each ≡ column_change limit d (column.first.variable, shift_value value column.shift) q)
FindsChange value limit d column q None = column_change_fits limit d (column.first.variable, shift_value value column.shift) q ≡ false
