-- Which bytes tokens are made of (GAMS User's Guide, "Language Items").
use Rattle.std.specs.Prelude.{ℕ, Bool, not, ◌||◌, ◌==◌, nat_le}
use Rattle.std.specs.Char.{is_ascii_alphanumeric}

-- whether a name may continue with the byte: a letter, a digit or `_`
abbrev pub is_name_byte : ℕ → Bool
is_name_byte b = is_ascii_alphanumeric b || b == 95

-- whether a label may continue with the byte: a letter, a digit, `+`, `-` or `_`
abbrev pub is_label_byte : ℕ → Bool
is_label_byte b = is_ascii_alphanumeric b || (b == 43 || (b == 45 || b == 95))

-- whether a byte is a quotation mark, double or single
abbrev pub is_quote : ℕ → Bool
is_quote b = b == 34 || b == 39

-- whether an unquoted descriptive text may contain the byte: any except `/`, `,`, `;`, a line feed
-- and a carriage return
abbrev pub is_text_byte : ℕ → Bool
is_text_byte b = not (b == 47 || (b == 44 || (b == 59 || (b == 10 || b == 13))))

-- whether a byte is one of ASCII, at most 127
abbrev pub is_ascii : ℕ → Bool
is_ascii b = nat_le b 127
