-- The texts of tokens: their places in the source, and how words and labels are spelled.
use Rattle.std.specs.Prelude.{◌≡◌, ℕ, ◌-◌, ◌≤◌, true, if◌then◌else◌, List, [], ◌∷◌, length, take, drop}
use Rattle.std.specs.Str.{IsAscii}
use Rattle.gms_grammar.specs.Lines.{begins}
use Rattle.gms_grammar.specs.LineFaults.{longest_line}
use Rattle.gms_grammar.specs.declared.kind.Kind.{Kind}
use Rattle.gms_grammar.specs.declared.kind.Kind.TheVariants.{Word, Label, Number, Text, Symbol, Break, TableLine, End}
use Rattle.gms_grammar.specs.Bytes.{is_quote}
use Rattle.gms_grammar.specs.Shapes.{longest_label}
use Rattle.gms_lex.specs.declared.token.Token.{Token}
use Rattle.gms_lex.specs.Places.{place_of_byte}

-- the bytes of the source that a token takes
abbrev pub token_text : List ℕ → Token → List ℕ
token_text source token = take (token.end - token.start) (drop token.start source)

-- the bytes of a quoted token without its quotation marks; those of any other token as they are
abbrev pub unquoted : List ℕ → List ℕ
unquoted [] = []
unquoted (b ∷ text) = if is_quote b then take (length text - 1) text else b ∷ text

-- A token of this kind may have these bytes. Words, labels, quoted texts and lines of tables are
-- ASCII. Words and labels have at most 63 bytes, quotation marks not counted; a quoted text begins
-- with its mark; a line of a table has at most as many bytes as a line of a source may have. Tokens
-- of the other kinds may have any bytes.
abbrev pub IsSpelled : Kind → List ℕ → Type 0
IsSpelled Word text = IsAscii text × (length text ≤ longest_label)
IsSpelled Label text = IsAscii text × (length (unquoted text) ≤ longest_label)
IsSpelled Text text = IsAscii text × (begins is_quote text ≡ true)
IsSpelled Number text = Unit {0}
IsSpelled (Symbol symbol) text = Unit {0}
IsSpelled Break text = Unit {0}
IsSpelled TableLine text = IsAscii text × (length text ≤ longest_line)
IsSpelled End text = Unit {0}

-- A token takes bytes of the source, its place is that of the first, and it is spelled as its kind.
pub record IsPlaced (source : List ℕ) (token : Token) : Type 0 where
  pub starts : token.start ≤ token.end
  pub ends : token.end ≤ length source
  pub at : token.at ≡ place_of_byte source token.start
  pub spelled : IsSpelled token.kind (token_text source token)
