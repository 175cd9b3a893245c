-- How a number is shown: rounded to some number of decimals, or exactly.
use Rattle.std.specs.Prelude.{◌≡◌, ◌≢◌, ℕ, ◌/◌, ◌%◌, ◌^◌, ◌⊎◌, List, [], ◌∷◌, ◌++◌, length, codes, ℤ, pos}
use Rattle.gq_number.specs.Number.{Number, whole, ◌*ℚ◌, ◌/ℚ◌, rounded}
use Rattle.gq_text.specs.Numeral.{AreDigits, spelled, IsNumeral, WithSign}
use Rattle.gq_text.specs.Decimal.{MeansNumber, MeansSigned}

-- the greatest number of decimals to which a number may be rounded
abbrev pub most_decimals : ℕ
most_decimals = 8

-- a point and the decimals after it, or nothing without decimals
abbrev pub with_decimal_point : List ℕ → List ℕ
with_decimal_point [] = []
with_decimal_point (b ∷ bs) = codes "." ++ (b ∷ bs)

-- The text is n over 10^decimals with that many decimals: the numeral of the whole part, a point,
-- and the decimals; without decimals there is no point.
pub record IsFixed (decimals n : ℕ) (text : List ℕ) : Type 0 where
  pub before : List ℕ
  pub following : List ℕ
  pub before_is : IsNumeral (n / 10 ^ decimals) before
  pub after_digits : AreDigits following
  pub after_places : length following ≡ decimals
  pub after_spells : spelled following ≡ n % 10 ^ decimals
  pub text_is : text ≡ before ++ with_decimal_point following

-- the text is the integer n over 10^decimals with that many decimals, after `-` if n is below 0; so
-- `-` never comes before zeros alone
abbrev pub IsFixedSigned : ℕ → ℤ → List ℕ → Type 0
IsFixedSigned decimals n text = WithSign (IsFixed decimals) n text

-- the text is the number x rounded to this many decimals, halves away from zero
abbrev pub IsRoundedText : ℕ → Number → List ℕ → Type 0
IsRoundedText decimals x text = IsFixedSigned decimals (rounded (x *ℚ whole (pos (10 ^ decimals)))) text

-- the text is the number x exactly: `n`, or `n/d` if the denominator d is not 1
abbrev pub IsExactText : Number → List ℕ → Type 0
IsExactText x text =
    ((x.denominator ≡ 1) × WithSign IsNumeral x.numerator text) ⊎ ((x.denominator ≢ 1) × ((above below : List ℕ) × (text ≡ above ++ codes "/" ++ below) × WithSign IsNumeral x.numerator above × IsNumeral x.denominator below))

-- the text means x: as a decimal, perhaps after `-`, or as such a decimal, `/` and a decimal, of
-- which x is the quotient
abbrev pub MeansQuotient : List ℕ → Number → Type 0
MeansQuotient text x =
    MeansSigned text x ⊎ ((above below : List ℕ) × (y z : Number) × (text ≡ above ++ codes "/" ++ below) × MeansSigned above y × MeansNumber below z × (x ≡ y /ℚ z))
