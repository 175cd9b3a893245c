-- What a decimal text means as a number: GAMS User's Guide, "Language Items", numbers.
use Rattle.std.specs.Prelude.{◌≡◌, ℕ, ◌+◌, ◌^◌, ◌<◌, ◌⊎◌, List, [], ◌∷◌, ◌++◌, length, codes, ℤ, pos, negsuc, neg_ℤ, suc}
use Rattle.gq_number.specs.Number.{Number, whole, ratio, ◌+ℚ◌, ◌*ℚ◌, ◌/ℚ◌, neg_ℚ}
use Rattle.gq_text.specs.Numeral.{AreDigits, spelled}

-- a decimal: the digits before its point and the digits after it, both as bytes of a text, and its
-- exponent of ten
pub record Decimal : Type 0 where
  pub before : List ℕ
  pub following : List ℕ
  pub exponent : ℤ

-- a number times ten to a power
abbrev pub scaled_by_ten : Number → ℤ → Number
scaled_by_ten x (pos k) = x *ℚ whole (pos (10 ^ k))
scaled_by_ten x (negsuc k) = x /ℚ whole (pos (10 ^ suc k))

-- the number that a decimal means: the digits before the point, plus those after it over ten to the
-- power of their count, all times ten to the power of the exponent
abbrev pub number_of : Decimal → Number
number_of d =
    scaled_by_ten (whole (pos (spelled d.before)) +ℚ ratio (pos (spelled d.following)) (10 ^ length d.following)) d.exponent

-- the text is one or more digits
abbrev pub IsSomeDigits : List ℕ → Type 0
IsSomeDigits text = AreDigits text × (0 < length text)

-- the text is one or more digits, perhaps after `+` or `-`, and e is the integer that it spells
abbrev pub IsSigned : List ℕ → ℤ → Type 0
IsSigned text e =
    (digits : List ℕ) × IsSomeDigits digits × (((text ≡ digits) × (e ≡ pos (spelled digits))) ⊎ (((text ≡ codes "+" ++ digits) × (e ≡ pos (spelled digits))) ⊎ ((text ≡ codes "-" ++ digits) × (e ≡ neg_ℤ (pos (spelled digits))))))

-- the text is that of the exponent e: empty for 0, or `e` or `E` before digits with an optional
-- sign, which spell e
abbrev pub IsExponent : List ℕ → ℤ → Type 0
IsExponent [] e = e ≡ pos 0
IsExponent (mark ∷ text) e = ((mark ≡ 101) ⊎ (mark ≡ 69)) × IsSigned text e

-- the text is the digits `before`, a point and the digits `following`; the point may be missing if
-- `following` is empty
abbrev pub IsPointed : List ℕ → List ℕ → List ℕ → Type 0
IsPointed text before following = (text ≡ before ++ codes "." ++ following) ⊎ ((following ≡ []) × (text ≡ before))

-- the text spells the decimal d: digits with or without a point, at least one digit, and perhaps an
-- exponent
pub record Spells (text : List ℕ) (d : Decimal) : Type 0 where
  pub pointed : List ℕ
  pub power : List ℕ
  pub text_is : text ≡ pointed ++ power
  pub before_digits : AreDigits d.before
  pub after_digits : AreDigits d.following
  pub some : 0 < length d.before + length d.following
  pub pointed_is : IsPointed pointed d.before d.following
  pub power_is : IsExponent power d.exponent

-- the text is that of a decimal, which has no sign, and the decimal means x
abbrev pub MeansNumber : List ℕ → Number → Type 0
MeansNumber text x = (d : Decimal) × Spells text d × (x ≡ number_of d)

-- the text is that of a decimal which means x, or `-` and a decimal which means the negated x
abbrev pub MeansSigned : List ℕ → Number → Type 0
MeansSigned text x = MeansNumber text x ⊎ ((rest : List ℕ) × (y : Number) × (text ≡ codes "-" ++ rest) × MeansNumber rest y × (x ≡ neg_ℚ y))
