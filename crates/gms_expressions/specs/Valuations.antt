-- What the texts of numbers mean (GAMS User's Guide, "Language Items", numbers).
use Rattle.std.specs.Prelude.{ℕ, ℤ, pos, neg_ℤ, ◌==◌, if◌then◌else◌, List, [], ◌∷◌, take, drop, ◌≡◌}
use Rattle.std.specs.List.{prefix_len}
use Rattle.std.specs.Char.{is_ascii_digit}
use Rattle.gq_number.specs.Number.{Number}
use Rattle.gq_text.specs.Numeral.{spelled}
use Rattle.gq_text.specs.Decimal.{number_of, MeansNumber}

-- for each text that means a number, `value` gives that number
abbrev pub IsValuation : (List ℕ → Number) → Type 0
IsValuation value = (text : List ℕ) (x : Number) → MeansNumber text x → value text ≡ x

-- the digits that a text begins with
abbrev pub leading_digits : List ℕ → List ℕ
leading_digits text = take (prefix_len is_ascii_digit text) text

-- a text without the digits that it begins with
abbrev pub after_digits : List ℕ → List ℕ
after_digits text = drop (prefix_len is_ascii_digit text) text

-- the digits after the point, byte 46, with which a text begins; none if the text begins with no
-- point
abbrev pub point_digits : List ℕ → List ℕ
point_digits [] = []
point_digits (b ∷ text) = if b == 46 then leading_digits text else []

-- a text without the point, byte 46, with which it begins and the digits after that; the text
-- unchanged if it begins with no point
abbrev pub after_point : List ℕ → List ℕ
after_point [] = []
after_point (b ∷ text) = if b == 46 then after_digits text else b ∷ text

-- the integer that digits spell, with an optional sign before them, `-` (byte 45) or `+` (byte 43);
-- 0 for no digits
abbrev pub signed_digits : List ℕ → ℤ
signed_digits [] = pos 0
signed_digits (b ∷ text) = if b == 45 then neg_ℤ (pos (spelled text)) else (if b == 43 then pos (spelled text) else pos (spelled (b ∷ text)))

-- the exponent that a text means: the digits after its first byte, with an optional sign; 0 for the
-- empty text
abbrev pub exponent_in : List ℕ → ℤ
exponent_in [] = pos 0
exponent_in (mark ∷ text) = signed_digits text

-- the number that a text means; for a text that means no number, any number
unfoldable pub number_meant : List ℕ → Number
number_meant text =
    number_of (record {
      before = leading_digits text;
      following = point_digits (after_digits text);
      exponent = exponent_in (after_point (after_digits text));
    })
