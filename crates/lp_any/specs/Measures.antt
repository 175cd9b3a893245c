-- The cost of a variable's entering, by its pivot number: its coefficient in the row of the leaving
-- variable (Chvatal, Linear Programming, chapters 2 and 3).
use Rattle.std.specs.Prelude.{◌≡◌, ◌⊎◌, ℕ, ◌+◌, ◌*◌, ◌-◌, ◌/◌, nat_abs, length, slice_get, Some, None}
use Rattle.std.specs.Int.{w128, leading_zeros}
use Rattle.gq_number.specs.Number.{Number}
use Rattle.lp_core.specs.declared.answer.StepName.{StepName}
use Rattle.lp_core.specs.Dictionary.{Dictionary, constant_at, entry_at, IsPriced, IsLeaving}
use Rattle.lp_core.specs.Steps.{FirstStop, ratio_steps}
use Rattle.lp_any.specs.Denominators.{row_denominator, column_denominator}

-- how many bits an integer from 0 to 2^128 - 1 has
abbrev pub bits : ℕ → ℕ
bits n = 128 - leading_zeros w128 n

-- how many bits the numerator and the denominator of a number have together
abbrev pub length_of : Number → ℕ
length_of x = bits (nat_abs x.numerator) + bits x.denominator

-- A pivot's gain, by which it improves the objective, or in phase 1 lowers variable 0: the entering
-- variable's `coefficient` in the priced row times the leaving row's `constant` over the pivot
-- `number`. `gain_above` is the sum of the bits of the three integers whose product is its
-- numerator.
abbrev pub gain_above : Number → Number → Number → ℕ
gain_above coefficient constant number = bits (nat_abs coefficient.numerator) + bits (nat_abs constant.numerator) + bits number.denominator

-- the sum of the bits of the three integers in the denominator of a pivot's gain, which is
-- `coefficient` times `constant` over the pivot `number`
abbrev pub gain_below : Number → Number → Number → ℕ
gain_below coefficient constant number = bits coefficient.denominator + bits constant.denominator + bits (nat_abs number.numerator)

-- the cost of a pivot: the bits of the numerator of the pivot `number` less the bits of the gain,
-- which is `coefficient` times `constant` over `number` (`gain_above` less `gain_below`), plus
-- 1000; 0 if this is negative
abbrev pub cost_of_gain : Number → Number → Number → ℕ
cost_of_gain coefficient constant number =
    1000 + bits (nat_abs number.numerator) + gain_below coefficient constant number - gain_above coefficient constant number

-- an upper bound of how many bits a number's numerator has when the number is written over
-- `denominator`, a multiple of the number's denominator: the bits of its numerator plus those of
-- the quotient of the two denominators
abbrev pub bits_over : Number → ℕ → ℕ
bits_over number denominator = bits (nat_abs number.numerator) + bits (denominator / number.denominator)

-- the cost of a pivot: 1000 + 2 b - g, or 0 if that is negative. b (`bits_over`) bounds the bits of
-- the pivot's numerator when the pivot `number` is written over `in_row`, its row's common
-- denominator. g (`gain_above` less `gain_below`) is the bits of the gain, which is `coefficient`
-- times `constant` over `number`
abbrev pub cost_in_row : Number → Number → Number → ℕ → ℕ
cost_in_row coefficient constant number in_row =
    1000 + 2 * bits_over number in_row + gain_below coefficient constant number - gain_above coefficient constant number

-- the cost of a pivot: 2000 + b + c - 3 g, or 0 if that is negative. b and c (`bits_over`) bound
-- the bits of the pivot's numerator when the pivot `number` is written over `in_row`, its row's
-- common denominator, and over `in_column`, its column's. g (`gain_above` less `gain_below`) is the
-- bits of the gain, which is `coefficient` times `constant` over `number`
abbrev pub cost_in_both : Number → Number → Number → ℕ → ℕ → ℕ
cost_in_both coefficient constant number in_row in_column =
    2000 + bits_over number in_row + bits_over number in_column + 3 * gain_below coefficient constant number
    - 3 * gain_above coefficient constant number

-- k is the row of the variable that leaves when v enters
abbrev pub IsLeavingRow : Dictionary → ℕ → ℕ → Type 0
IsLeavingRow d v k = (leave : ℕ) × IsLeaving d v (Some leave) × (slice_get d.basic k ≡ Some leave)

-- The number n is the cost of an improving variable v: 0 if no row limits v; what `AtRow` gives for
-- the row k of the leaving variable; or 10000 if a step of the ratio test of v does not fit under
-- `limit`, the limit of the size of numbers. `pivot`, any number, is only a part of a step's name.
abbrev pub IsCostBy : ℕ → (Dictionary → ℕ → ℕ → ℕ → Type 0) → Dictionary → ℕ → ℕ → Type 0
IsCostBy limit AtRow d v n =
    (IsLeaving d v None × (n ≡ 0))
    ⊎ ((k : ℕ) × IsLeavingRow d v k × AtRow d v k n)
    ⊎ ((n ≡ 10000) × ((pivot : ℕ) × (step : StepName) × FirstStop (ratio_steps limit pivot d v) step))

-- n is the cost of the pivot by which v enters in row k: how many bits the numerator and the
-- denominator of the pivot number (v's entry in row k) have together
abbrev pub LengthAt : Dictionary → ℕ → ℕ → ℕ → Type 0
LengthAt d v k n = n ≡ length_of (entry_at d k v)

-- n is the cost of v, which pivots in row k (`cost_of_gain`): from v's entry in row j, the constant
-- of row k, and the pivot number (v's entry in row k). j is the priced row: that of variable 0
-- while it is basic, else the objective
abbrev pub GainAt : Dictionary → ℕ → ℕ → ℕ → Type 0
GainAt d v k n = (j : ℕ) × IsPriced d j × (n ≡ cost_of_gain (entry_at d j v) (constant_at d k) (entry_at d k v))

-- n is the cost of the pivot in which v enters and the variable of row k leaves (`cost_in_row`):
-- from v's entry in row j, the constant of row k, v's entry in row k, and the common denominator of
-- the `d.variables + 2` numbers of row k. j is the priced row: that of variable 0 while it is
-- basic, else the objective
abbrev pub RowAt : Dictionary → ℕ → ℕ → ℕ → Type 0
RowAt d v k n =
    (j : ℕ) × IsPriced d j × (n ≡ cost_in_row (entry_at d j v) (constant_at d k) (entry_at d k v) (row_denominator d k (d.variables + 2)))

-- n is the cost (`cost_in_both`) of the pivot by which v enters in row k. It is computed from v's
-- entry in the priced row j (that of variable 0 while it is basic, else the objective), the
-- constant of row k, the pivot number (v's entry in row k), and two common denominators: that of
-- the `d.variables + 2` numbers of row k, and that of the `length d.basic + 1` numbers of v's
-- column, one of them in the objective.
abbrev pub BothAt : Dictionary → ℕ → ℕ → ℕ → Type 0
BothAt d v k n =
    (j : ℕ) × IsPriced d j
    × (n ≡ cost_in_both (entry_at d j v) (constant_at d k) (entry_at d k v) (row_denominator d k (d.variables + 2)) (column_denominator d (v + 1) (length d.basic + 1)))
