-- How words, labels, numbers, symbols and texts are spelled (GAMS User's Guide, "Language Items").
use Rattle.std.specs.Prelude.{◌≡◌, ◌⊎◌, ℕ, ◌<◌, true, false, not, ◌||◌, ◌==◌, List, [], ◌∷◌, ◌++◌, length}
use Rattle.std.specs.List.{list_all}
use Rattle.std.specs.Char.{is_ascii_alphabetic, is_ascii_alphanumeric, is_ascii_digit}
use Rattle.std.specs.Str.{str_eq_ignore_ascii_case}
use Rattle.gms_grammar.specs.Lines.{begins}
use Rattle.gms_grammar.specs.declared.kind.Sym.{Sym}
use Rattle.gms_grammar.specs.Bytes.{is_name_byte, is_label_byte, is_quote, is_text_byte}
use Rattle.gms_grammar.specs.Numbers.{begins_dot, is_sign}
use Rattle.gms_grammar.specs.Symbols.{written_symbol}

-- the text is a word: a letter, then letters, digits and `_`
abbrev pub IsWord : List ℕ → Type 0
IsWord text = (begins is_ascii_alphabetic text ≡ true) × (list_all is_name_byte text ≡ true)

-- the text is an unquoted label: a letter or a digit, then letters, digits, `+`, `-` and `_`
abbrev pub IsLabel : List ℕ → Type 0
IsLabel text = (begins is_ascii_alphanumeric text ≡ true) × (list_all is_label_byte text ≡ true)

-- The text is quoted: a quotation mark, bytes that are neither this mark nor a line feed, and the
-- same mark again.
pub record IsQuoted (text : List ℕ) : Type 0 where
  pub mark : ℕ
  pub inner : List ℕ
  pub quotes : is_quote mark ≡ true
  pub free : list_all (λ b. not (b == mark || b == 10)) inner ≡ true
  pub spelled : text ≡ mark ∷ (inner ++ mark ∷ [])

-- an unquoted descriptive text: at least one byte, the first no quotation mark, and none of them
-- `/`, `,`, `;`, a line feed or a carriage return
abbrev pub IsUnquotedText : List ℕ → Type 0
IsUnquotedText text = (0 < length text) × (begins is_quote text ≡ false) × (list_all is_text_byte text ≡ true)

-- the text is a descriptive text: a quoted or an unquoted one
abbrev pub IsText : List ℕ → Type 0
IsText text = IsQuoted text ⊎ IsUnquotedText text

-- the text is this symbol as it is written, letter case ignored
abbrev pub IsSymbol : Sym → List ℕ → Type 0
IsSymbol symbol text = str_eq_ignore_ascii_case text (written_symbol symbol) ≡ true

-- the text is one or more digits
abbrev pub AreSomeDigits : List ℕ → Type 0
AreSomeDigits text = (begins is_ascii_digit text ≡ true) × (list_all is_ascii_digit text ≡ true)

-- the text is a dot with zero or more digits after it, or empty
abbrev pub IsPoint : List ℕ → Type 0
IsPoint [] = Unit {0}
IsPoint (b ∷ digits) = (b ≡ 46) × (list_all is_ascii_digit digits ≡ true)

-- the text is an optional sign and one or more digits
abbrev pub IsPower : List ℕ → Type 0
IsPower [] = ⊥
IsPower (b ∷ digits) = AreSomeDigits (b ∷ digits) ⊎ ((is_sign b ≡ true) × AreSomeDigits digits)

-- the text is `e` or `E` and digits with an optional sign, or empty
abbrev pub IsExponentSpelling : List ℕ → Type 0
IsExponentSpelling [] = Unit {0}
IsExponentSpelling (b ∷ power) = ((b == 101 || b == 69) ≡ true) × IsPower power

-- The text is a number that `following` follows: digits, a dot that digits may follow, and an
-- exponent, of which each may be absent; there is a digit before the exponent. A dot that no digit
-- follows is not followed by another dot.
pub record IsNumberSpelling (text following : List ℕ) : Type 0 where
  pub whole : List ℕ
  pub point : List ℕ
  pub exponent : List ℕ
  pub spelled : text ≡ whole ++ (point ++ exponent)
  pub digits : list_all is_ascii_digit whole ≡ true
  pub fraction : IsPoint point
  pub power : IsExponentSpelling exponent
  pub some : (0 < length whole) ⊎ (1 < length point)
  pub alone : point ≡ 46 ∷ [] → begins_dot (exponent ++ following) ≡ false
