-- The numbers in a row of a table: decimals, each with or without a sign (GAMS User's Guide,
-- "Language Items", numbers).
use Rattle.std.specs.Prelude.{◌≡◌, ℕ, ◌==◌, if◌then◌else◌, List, drop}
use Rattle.gms_grammar.specs.Lines.{begins}
use Rattle.gms_grammar.specs.Numbers.{is_sign}
use Rattle.gq_number.specs.Number.{Number, neg_ℚ}
use Rattle.gq_text.specs.Decimal.{MeansNumber}
use Rattle.gq_text.specs.Literal.{FitsLiteral}

-- a text without the sign with which it begins, if it begins with one
abbrev pub unsigned : List ℕ → List ℕ
unsigned text = if begins is_sign text then drop 1 text else text

-- the number x, negated if the text begins with `-`
abbrev pub signed_number : List ℕ → Number → Number
signed_number text x = if begins (λ b. b == 45) text then neg_ℚ x else x

-- the text is a number, however large, with or without a sign
abbrev pub IsNumberText : List ℕ → Type 0
IsNumberText text = (x : Number) × MeansNumber (unsigned text) x

-- The text is a number, with or without a sign: its value is y, and its magnitude may be written as
-- a literal (`FitsLiteral`) under `limit`, the limit of the size of numbers.
pub record IsValue (limit : ℕ) (text : List ℕ) (y : Number) : Type 0 where
  pub magnitude : Number
  pub means : MeansNumber (unsigned text) magnitude
  pub fits : FitsLiteral limit magnitude
  pub value : y ≡ signed_number text magnitude
