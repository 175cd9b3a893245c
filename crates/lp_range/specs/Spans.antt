-- How far a number may move while the amounts that change with it remain at least 0 (Chvatal,
-- Linear Programming, chapter 10).
use Rattle.std.specs.Prelude.{ℕ, ◌&&◌, Bool, true, pos, List, [], ◌∷◌, Option, Some, None, option_map, if◌then◌else◌}
use Rattle.std.specs.List.{All}
use Rattle.std.specs.declared.cmp.Ordering.{Ordering}
use Rattle.std.specs.declared.cmp.Ordering.TheVariants.{Less, Equal, Greater}
use Rattle.std.specs.Ordering.{is_lt}
use Rattle.gq_number.specs.Number.{Number, whole, ◌+ℚ◌, ◌*ℚ◌, ◌/ℚ◌, neg_ℚ}
use Rattle.gq_number.specs.Order.{◌≤ℚ◌, number_cmp}
use Rattle.gq_field.specs.Fits.{sum_fits}
use Rattle.lp_core.specs.Feasible.{KeepsLower, KeepsUpper}
use Rattle.lp_core.specs.Steps.{quotient_fits}

-- An amount, what it gains for each unit by which a number moves, and whether the step that
-- computes this gain fits under the limit of numerators and denominators.
pub record Gain : Type 0 where
  pub amount : Number
  pub each : Number
  pub fits : Bool

-- An interval of numbers; None is no end on that side.
pub record Span : Type 0 where
  pub low : Option Number
  pub high : Option Number

-- x is in the span
abbrev pub IsInSpan : Span → Number → Type 0
IsInSpan span x = KeepsLower span.low x × KeepsUpper span.high x

-- after a move by t each amount is at least 0
abbrev pub Stay : List Gain → Number → Type 0
Stay gains t = All (λ (g : Gain). whole (pos 0) ≤ℚ g.amount +ℚ t *ℚ g.each) gains

-- the move by which an amount, which gains g.each for each unit of the move, becomes 0
abbrev pub end_of : Gain → Number
end_of g = neg_ℚ (g.amount /ℚ g.each)

-- the greater of the end e so far, if there is one, and x
abbrev pub greater_end : Option Number → Number → Option Number
greater_end None x = Some x
greater_end (Some e) x = if is_lt (number_cmp e x) then Some x else Some e

-- the lesser of the end e so far, if there is one, and x
abbrev pub lesser_end : Option Number → Number → Option Number
lesser_end None x = Some x
lesser_end (Some e) x = if is_lt (number_cmp x e) then Some x else Some e

-- the least allowed move, where `low` is the least so far (None: no least move), and e is the move
-- at which an amount becomes 0. If the gain of the amount is Greater than 0, the amount grows with
-- the move, and the result is the greater of `low` and e, or e without a `low`; otherwise `low`
abbrev pub low_by : Ordering → Option Number → Number → Option Number
low_by Less low e = low
low_by Equal low e = low
low_by Greater low e = greater_end low e

-- the greatest move allowed so far (None: any move), lowered to at most e, the move at which an
-- amount becomes 0, if the amount falls with the move, that is, if its gain is Less than 0
abbrev pub high_by : Ordering → Option Number → Number → Option Number
high_by Less high e = lesser_end high e
high_by Equal high e = high
high_by Greater high e = high

-- the least move allowed so far, if there is one, raised so that the amount g, which changes with
-- the move, remains at least 0
abbrev pub low_with : Option Number → Gain → Option Number
low_with low g = low_by (number_cmp g.each (whole (pos 0))) low (end_of g)

-- the greatest move allowed so far, if there is one, lowered so that the amount g, which changes
-- with the move, remains at least 0
abbrev pub high_with : Option Number → Gain → Option Number
high_with high g = high_by (number_cmp g.each (whole (pos 0))) high (end_of g)

-- the least move allowed so far, if there is one, raised so that each of these amounts, which
-- change with the move, remains at least 0
abbrev pub low_end : Option Number → List Gain → Option Number
low_end low [] = low
low_end low (g ∷ gains) = low_end (low_with low g) gains

-- the greatest allowed move, so that each of these amounts remains at least 0: the least of `high`,
-- the greatest move so far, and the moves at which the amounts that fall with the move become 0.
-- None, of `high` or as the result, means no greatest move
abbrev pub high_end : Option Number → List Gain → Option Number
high_end high [] = high
high_end high (g ∷ gains) = high_end (high_with high g) gains

-- whether the quotient of an amount by `g.each`, what it gains for each unit of the move, stays
-- within the limit on the size of numbers. The move that makes the amount 0 is this quotient,
-- negated. The Ordering compares `g.each` with 0; if it is Equal, there is no quotient (true)
abbrev pub end_fits : Ordering → ℕ → Gain → Bool
end_fits Less limit g = quotient_fits limit g.amount g.each
end_fits Equal limit g = true
end_fits Greater limit g = quotient_fits limit g.amount g.each

-- whether the steps on an amount stay within the limit on the size of numbers: the step that
-- computes its gain for each unit by which some number moves, and, unless this gain is 0, the step
-- that divides the amount by the gain
abbrev pub gain_fits : ℕ → Gain → Bool
gain_fits limit g = g.fits && end_fits (number_cmp g.each (whole (pos 0))) limit g

-- whether the steps on each of these amounts stay within the limit on the size of numbers: the step
-- that computes its gain, how much it grows for each unit by which some number moves, and, unless
-- the gain is 0, the quotient of the amount by its gain
abbrev pub gains_fit : ℕ → List Gain → Bool
gains_fit limit [] = true
gains_fit limit (g ∷ gains) = gain_fits limit g && gains_fit limit gains

-- whether the computation of x plus the least or greatest move e stays within the limit on the size
-- of numbers; true without such a move
abbrev pub moved_fits : ℕ → Number → Option Number → Bool
moved_fits limit x None = true
moved_fits limit x (Some e) = sum_fits limit x e

-- x plus the least or greatest move e; None without such a move
abbrev pub moved_to : Number → Option Number → Option Number
moved_to x e = option_map (λ t. x +ℚ t) e

-- the values that x may take while these amounts, which change with x, remain at least 0, where
-- changes of x below `low` and above `high` are excluded already (None: none is); the result is
-- None if a step exceeds the limit on the size of numbers
abbrev pub span_from : ℕ → Number → Option Number → Option Number → List Gain → Option Span
span_from limit x low high gains =
    if gains_fit limit gains && moved_fits limit x (low_end low gains) && moved_fits limit x (high_end high gains) then
    Some (record { low = moved_to x (low_end low gains); high = moved_to x (high_end high gains) }) else
    None

-- the values that x may take while these amounts, which change with it, remain at least 0; None if
-- a step exceeds the limit on the size of numbers
abbrev pub span : ℕ → Number → List Gain → Option Span
span limit x gains = span_from limit x None None gains
