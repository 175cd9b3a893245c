-- Which tokens and texts a text may begin with, in each mode, and which of them is the longest
-- (GAMS User's Guide, "Language Items", "GAMS Programs", data declarations, lists and tables).
use Rattle.std.specs.Prelude.{◌≡◌, ◌⊎◌, ℕ, zero, suc, ◌<◌, ◌≤◌, Bool, true, false, ◌||◌, ◌==◌, List, length, take, drop, get_or}
use Rattle.gms_grammar.specs.declared.fault.LexError.TheVariants.{BadByte, LongLabel}
use Rattle.gms_grammar.specs.Lines.{begins, content}
use Rattle.gms_grammar.specs.declared.kind.Kind.{Kind}
use Rattle.gms_grammar.specs.declared.kind.Kind.TheVariants.{Word, Label, Number, Text, Symbol, Break, TableLine}
use Rattle.gms_grammar.specs.declared.lexeme.Piece.{Piece}
use Rattle.gms_grammar.specs.declared.lexeme.Piece.TheVariants.{Gap, LineEnd, Remark, Token}
use Rattle.gms_grammar.specs.declared.lexeme.Lexeme.{Lexeme}
use Rattle.gms_grammar.specs.declared.lexeme.Misread.{Misread}
use Rattle.gms_grammar.specs.Numbers.{begins_dot}
use Rattle.gms_grammar.specs.Shapes.{longest_label}
use Rattle.gms_grammar.specs.TableLines.{table_bytes}
use Rattle.gms_lex.specs.declared.keyword.Shape.{Shape}
use Rattle.gms_lex.specs.declared.keyword.Shape.TheVariants.{Set, Parameter, Scalar, Model}
use Rattle.gms_lex.specs.declared.mode.Stage.{Stage}
use Rattle.gms_lex.specs.declared.mode.Stage.TheVariants.{Fresh, Expected, After, Spaced}
use Rattle.gms_lex.specs.declared.mode.Mode.{Mode}
use Rattle.gms_lex.specs.declared.mode.Mode.TheVariants.{Named, Bare, Element, Value, Tail, TableNamed, TableBare, TableLines}
use Rattle.gms_lex.specs.Keywords.{begins_statement}
use Rattle.gms_lex.specs.Pieces.{is_item_mark, is_element_mark}
use Rattle.gms_lex.specs.TokenTexts.{unquoted}
use Rattle.gms_lex.specs.Spellings.{IsWord, IsLabel, IsQuoted, IsText, IsSymbol, IsNumberSpelling}

-- the text is a piece of code, which `following` follows: a word, a number, a symbol, or a quoted
-- token of the kind `quoted`
abbrev pub IsCode : Kind → Piece → List ℕ → List ℕ → Type 0
IsCode quoted (Token Word) text following = IsWord text
IsCode quoted (Token Number) text following = IsNumberSpelling text following
IsCode quoted (Token (Symbol symbol)) text following = IsSymbol symbol text
IsCode quoted (Token Text) text following = (quoted ≡ Text) × IsQuoted text
IsCode quoted (Token Label) text following = (quoted ≡ Label) × IsQuoted text
IsCode quoted piece text following = ⊥

-- the text is this piece, where an element is expected: a label, unquoted or quoted, or a symbol
abbrev pub IsElementPiece : Piece → List ℕ → Type 0
IsElementPiece (Token Label) text = IsLabel text ⊎ IsQuoted text
IsElementPiece (Token (Symbol symbol)) text = IsSymbol symbol text
IsElementPiece piece text = ⊥

-- the text is this piece: a symbol whose first byte passes the test, or a descriptive text whose
-- first byte does not
abbrev pub IsMarkOrText : (ℕ → Bool) → Piece → List ℕ → Type 0
IsMarkOrText marks (Token (Symbol symbol)) text = (begins marks text ≡ true) × IsSymbol symbol text
IsMarkOrText marks Remark text = (begins marks text ≡ false) × IsText text
IsMarkOrText marks piece text = ⊥

-- The text is a token of code, which `following` follows, after an element of a parameter's list. A
-- quoted token is a label there. Directly after the element (`After`) a dot joins a label, and
-- begins no number.
abbrev pub IsValuePiece : Stage → Piece → List ℕ → List ℕ → Type 0
IsValuePiece After (Token Number) text following = IsNumberSpelling text following × (begins_dot text ≡ false)
IsValuePiece stage piece text following = IsCode Label piece text following

-- The text, which `following` follows, is this piece after an element outside parentheses. In a
-- parameter's list, where a value may follow the element, it is a token of code (`IsValuePiece`).
-- In any other list it is a symbol that begins with `/`, `,`, `;`, `)`, `*` or `.`, or a
-- descriptive text that begins with none of these.
abbrev pub IsAfterElementPiece : Shape → Stage → Piece → List ℕ → List ℕ → Type 0
IsAfterElementPiece Parameter stage piece text following = IsValuePiece stage piece text following
IsAfterElementPiece Set stage piece text following = IsMarkOrText is_element_mark piece text
IsAfterElementPiece Scalar stage piece text following = IsMarkOrText is_element_mark piece text
IsAfterElementPiece Model stage piece text following = IsMarkOrText is_element_mark piece text

-- The text is a piece in a list of this shape, inside `depth` parentheses; `following` follows.
-- After an element outside parentheses (`After`; `Spaced` after a blank) the text is what may
-- follow an element of the list. Inside parentheses or where an element or a label is expected
-- (`Fresh`, `Expected`), it is a label or a symbol.
abbrev pub IsInList : Shape → ℕ → Stage → Piece → List ℕ → List ℕ → Type 0
IsInList shape depth Fresh piece text following = IsElementPiece piece text
IsInList shape depth Expected piece text following = IsElementPiece piece text
IsInList shape zero After piece text following = IsAfterElementPiece shape After piece text following
IsInList shape zero Spaced piece text following = IsAfterElementPiece shape Spaced piece text following
IsInList shape (suc depth) After piece text following = IsElementPiece piece text
IsInList shape (suc depth) Spaced piece text following = IsElementPiece piece text

-- The first n bytes of the text are this piece, among the lines of a table. Let m be the number of
-- bytes before the `;` that ends the table or, without one on the line, before the line's end. If m
-- is above 0 and no statement begins here, the piece is a line of the table, and n is m. Else it is
-- a token of code; a quoted token is a text.
abbrev pub IsOfTable : List ℕ → Piece → ℕ → Type 0
IsOfTable text (Token TableLine) n = (begins_statement text ≡ false) × (0 < n) × (n ≡ table_bytes (content text))
IsOfTable text piece n =
    ((table_bytes (content text) == 0 || begins_statement text) ≡ true) × IsCode Text piece (take n text) (drop n text)

-- The first n bytes of a text are a token or a descriptive text that the mode allows there. After
-- the name of an item or a table (`Named`, `TableNamed`) this is `(`, `/`, `,`, `;` or a
-- descriptive text; after its domain (`Bare`, `TableBare`) the same without `(`. In a list it
-- depends on whether an element is expected or has been read (`Element`). Where a value is expected
-- or has begun (`Value`, `Tail`) it is a token of code, a quoted one a label. Otherwise it is a
-- token of code, a quoted one a text; among the lines of a table (`TableLines`) it may also be a
-- line.
abbrev pub IsAllowedPiece : Mode → List ℕ → Piece → ℕ → Type 0
IsAllowedPiece (Named shape) text piece n = IsMarkOrText (λ b. b == 40 || is_item_mark b) piece (take n text)
IsAllowedPiece TableNamed text piece n = IsMarkOrText (λ b. b == 40 || is_item_mark b) piece (take n text)
IsAllowedPiece (Bare shape) text piece n = IsMarkOrText is_item_mark piece (take n text)
IsAllowedPiece TableBare text piece n = IsMarkOrText is_item_mark piece (take n text)
IsAllowedPiece (Element shape depth stage) text piece n = IsInList shape depth stage piece (take n text) (drop n text)
IsAllowedPiece (Value shape) text piece n = IsCode Label piece (take n text) (drop n text)
IsAllowedPiece (Tail shape) text piece n = IsCode Label piece (take n text) (drop n text)
IsAllowedPiece TableLines text piece n = IsOfTable text piece n
IsAllowedPiece current text piece n = IsCode Text piece (take n text) (drop n text)

-- whether a piece is a token or a descriptive text, and no blanks and no line end
abbrev pub has_text : Piece → Bool
has_text Gap = false
has_text LineEnd = false
has_text (Token Break) = false
has_text piece = true

-- the piece at the start of a text is one that the mode allows there, and none that it allows is
-- longer
pub record IsLongest (mode : Mode) (text : List ℕ) (p : Lexeme) : Type 0 where
  pub allowed : IsAllowedPiece mode text p.piece p.length
  pub longest : (other : Piece) (n : ℕ) → n ≤ length text → IsAllowedPiece mode text other n → n ≤ p.length

-- The piece at the start of a text is no token, because of this error: it has over 63 bytes,
-- quotation marks not counted (LongLabel), or its byte at the error is not ASCII (BadByte).
abbrev pub IsUnlawful : Lexeme → List ℕ → Misread → Type 0
IsUnlawful p text misread =
    ((misread.error ≡ LongLabel) × (longest_label < length (unquoted (take p.length text))))
    ⊎ ((misread.error ≡ BadByte) × (misread.ahead < p.length) × (127 < get_or text misread.ahead 0))

-- there is an error instead of a piece: the mode allows no piece there, and `misread` is any error;
-- or the longest piece that the mode allows is no token because of the error `misread`
abbrev pub IsRefusedPiece : Mode → List ℕ → Misread → Type 0
IsRefusedPiece mode text misread =
    ((other : Piece) (n : ℕ) → n ≤ length text → IsAllowedPiece mode text other n → ⊥)
    ⊎ ((p : Lexeme) × IsLongest mode text p × IsUnlawful p text misread)
