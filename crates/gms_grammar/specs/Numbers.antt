-- The spelling of numbers (GAMS User's Guide, "Language Items", numbers).
use Rattle.std.specs.Prelude.{ℕ, ◌+◌, Bool, not, ◌&&◌, ◌||◌, ◌==◌, if◌then◌else◌, List, drop}
use Rattle.std.specs.List.{prefix_len}
use Rattle.std.specs.Char.{is_ascii_digit}
use Rattle.gms_grammar.specs.Lines.{begins}

-- how many digits a text begins with
abbrev pub digit_count : List ℕ → ℕ
digit_count text = prefix_len is_ascii_digit text

-- whether a text begins with a dot
abbrev pub begins_dot : List ℕ → Bool
begins_dot text = begins (λ b. b == 46) text

-- whether a text begins with a number: with a digit, or with a dot and a digit
abbrev pub begins_number : List ℕ → Bool
begins_number text = begins is_ascii_digit text || (begins_dot text && begins is_ascii_digit (drop 1 text))

-- How many bytes the dot after a number's digits takes, with the digits after the dot; 0 without a
-- dot. `rest` is the text after the number's digits. The dot does not belong to the number if
-- another dot follows it.
abbrev pub point_length : List ℕ → ℕ
point_length rest = if begins_dot rest && not (begins_dot (drop 1 rest)) then 1 + digit_count (drop 1 rest) else 0

-- whether a byte is `+` or `-`
abbrev pub is_sign : ℕ → Bool
is_sign b = b == 43 || b == 45

-- how many bytes the sign of an exponent takes at the start of the text `rest`: 1, or 0 if it
-- begins with no sign
abbrev pub sign_length : List ℕ → ℕ
sign_length rest = if begins is_sign rest then 1 else 0

-- how many bytes an exponent takes: `e` or `E`, an optional sign and at least one digit; 0 if the
-- text does not begin with an exponent
abbrev pub exponent_length : List ℕ → ℕ
exponent_length rest =
    let digits = drop (1 + sign_length (drop 1 rest)) rest in
    if begins (λ b. b == 101 || b == 69) rest && begins is_ascii_digit digits then 1 + sign_length (drop 1 rest) + digit_count digits else 0

-- how many bytes the number at the start of a text takes without its exponent: its digits, and the
-- dot with the digits after it
abbrev pub decimal_length : List ℕ → ℕ
decimal_length text = digit_count text + point_length (drop (digit_count text) text)

-- how many bytes the number at the start of a text takes: its decimal, and its exponent if it has
-- one
abbrev pub number_length : List ℕ → ℕ
number_length text = decimal_length text + exponent_length (drop (decimal_length text) text)
