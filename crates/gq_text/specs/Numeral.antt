-- Decimal digits, and the whole numbers that they spell: Knuth, The Art of Computer Programming,
-- volume 2, section 4.1.
use Rattle.std.specs.Prelude.{◌≡◌, ◌≢◌, ℕ, ◌+◌, ◌-◌, ◌*◌, ◌^◌, ◌<◌, ◌≤◌, List, [], ◌∷◌, ◌++◌, length, slice_index, codes, ℤ, pos, negsuc, suc}

-- each byte is a digit, from `0` to `9`
abbrev pub AreDigits : List ℕ → Type 0
AreDigits [] = Unit {0}
AreDigits (b ∷ bs) = (48 ≤ b) × (b ≤ 57) × AreDigits bs

-- the whole number that digits spell: each digit times ten to the power of the number of digits
-- after it
abbrev pub spelled : List ℕ → ℕ
spelled [] = 0
spelled (b ∷ bs) = (b - 48) * 10 ^ length bs + spelled bs

-- The text is the numeral of n: at least one digit, and no leading `0` if there are several.
pub record IsNumeral (n : ℕ) (text : List ℕ) : Type 0 where
  pub digits : AreDigits text
  pub some : 0 < length text
  pub first : 1 < length text → slice_index text 0 ≢ 48
  pub spells : spelled text ≡ n

-- the text is that of an integer, where `Is` holds for a magnitude and its text: `-` comes before
-- the text of the magnitude if the integer is below 0, and nothing otherwise
abbrev pub WithSign : (ℕ → List ℕ → Type 0) → ℤ → List ℕ → Type 0
WithSign Is (pos n) text = Is n text
WithSign Is (negsuc n) text = (rest : List ℕ) × (text ≡ codes "-" ++ rest) × Is (suc n) rest
