-- The parts of a decimal's text, in order.
use Rattle.std.specs.Prelude.{◌≡◌, ◌≢◌, ℕ, ◌<◌, ◌≤◌, ◌⊎◌, Bool, true, false, List, [], ◌∷◌, ◌++◌, ℤ, pos, neg_ℤ}
use Rattle.gq_text.specs.Numeral.{AreDigits, spelled}

-- the text begins with no digit
abbrev pub BeginsNoDigit : List ℕ → Type 0
BeginsNoDigit [] = Unit {0}
BeginsNoDigit (b ∷ bs) = 48 ≤ b → 57 < b

-- the text does not begin with the byte
abbrev pub BeginsOther : ℕ → List ℕ → Type 0
BeginsOther byte [] = Unit {0}
BeginsOther byte (b ∷ bs) = b ≢ byte

-- all digits that a text begins with, and what follows them
pub record SplitsDigits (text digits rest : List ℕ) : Type 0 where
  pub text_is : text ≡ digits ++ rest
  pub are_digits : AreDigits digits
  pub all : BeginsNoDigit rest

-- what follows the digits before a point: a point, the digits after it and a rest; or a rest that
-- begins with no point
abbrev pub IsTail : List ℕ → List ℕ → List ℕ → Type 0
IsTail tail following rest = (tail ≡ 46 ∷ (following ++ rest)) ⊎ ((following ≡ []) × (tail ≡ rest) × BeginsOther 46 rest)

-- all digits around a point that a text begins with, and what follows them
pub record Divides (text before following rest : List ℕ) : Type 0 where
  pub tail : List ℕ
  pub text_is : text ≡ before ++ tail
  pub before_digits : AreDigits before
  pub after_digits : AreDigits following
  pub tail_is : IsTail tail following rest
  pub all : BeginsNoDigit rest

-- a sign that a text begins with, if it does, and what follows it
abbrev pub SplitsSign : List ℕ → Bool → List ℕ → Type 0
SplitsSign text negative rest =
    ((text ≡ 45 ∷ rest) × (negative ≡ true)) ⊎ (((text ≡ 43 ∷ rest) × (negative ≡ false)) ⊎ ((text ≡ rest) × (negative ≡ false) × BeginsOther 45 text × BeginsOther 43 text))

-- the exponent of this sign and these digits
abbrev pub exponent_of : Bool → List ℕ → ℤ
exponent_of false digits = pos (spelled digits)
exponent_of true digits = neg_ℤ (pos (spelled digits))
