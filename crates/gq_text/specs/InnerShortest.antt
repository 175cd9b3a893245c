-- Digits without the zeros at their end.
use Rattle.std.specs.Prelude.{◌≡◌, ℕ, Bool, true, false, ◌+◌, ◌-◌, ◌*◌, ◌^◌, ◌≤◌, List, ◌++◌, length}
use Rattle.gq_text.specs.Numeral.{AreDigits, spelled}
use Rattle.gq_text.specs.Literal.{HasNoTrailingZero}

-- the digits around a point without zeros at the end: they spell the same number up to a power of
-- ten, and end in no 0
pub record Shortens (before following whole fraction : List ℕ) : Type 0 where
  pub whole_digits : AreDigits whole
  pub fraction_digits : AreDigits fraction
  pub whole_shorter : length whole ≤ length before
  pub fraction_shorter : length fraction ≤ length following
  pub shortest : HasNoTrailingZero (spelled (whole ++ fraction))
  pub spells : spelled (before ++ following) ≡ spelled (whole ++ fraction) * 10 ^ ((length before - length whole) + (length following - length fraction))

-- a number that is added or not
abbrev pub added : Bool → ℕ → ℕ
added true n = n
added false n = 0
