-- What is appended to a text that grows.
use Rattle.std.specs.Prelude.{◌≡◌, ◌≢◌, ℕ, ◌⊎◌, Bool, true, false, List, [], ◌++◌, length, codes}
use Rattle.gq_text.specs.Numeral.{AreDigits, spelled, IsNumeral}
use Rattle.gq_text.specs.Shown.{with_decimal_point}

-- `places` digits, which spell n
pub record AppendsDigits (old new : List ℕ) (n places : ℕ) : Type 0 where
  pub digits : List ℕ
  pub appended : new ≡ old ++ digits
  pub are_digits : AreDigits digits
  pub places_are : length digits ≡ places
  pub spells : spelled digits ≡ n

-- the numeral of n
pub record AppendsNumeral (old new : List ℕ) (n : ℕ) : Type 0 where
  pub numeral : List ℕ
  pub appended : new ≡ old ++ numeral
  pub is_numeral : IsNumeral n numeral

-- `-` or nothing
abbrev pub sign_text : Bool → List ℕ
sign_text true = codes "-"
sign_text false = []

-- a point and `places` decimals, which spell n; nothing without decimals
pub record AppendsDecimals (old new : List ℕ) (n places : ℕ) : Type 0 where
  pub decimals : List ℕ
  pub appended : new ≡ old ++ with_decimal_point decimals
  pub are_digits : AreDigits decimals
  pub places_are : length decimals ≡ places
  pub spells : spelled decimals ≡ n

-- `/` and the numeral of a denominator; nothing if it is 1
abbrev pub AppendsDenominator : List ℕ → List ℕ → ℕ → Type 0
AppendsDenominator old new d =
    ((d ≡ 1) × (new ≡ old)) ⊎ ((d ≢ 1) × ((numeral : List ℕ) × IsNumeral d numeral × (new ≡ old ++ (codes "/" ++ numeral))))
