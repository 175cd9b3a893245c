-- The tokens and texts with which a text can begin: words, numbers, labels, quoted tokens, symbols
-- and descriptive texts, each the longest (GAMS User's Guide, "Language Items").
use Rattle.std.specs.Prelude.{ℕ, ◌+◌, ◌<◌, ◌≤◌, Bool, true, false, not, ◌&&◌, ◌||◌, ◌==◌, nat_lt, if◌then◌else◌, List, [], ◌∷◌, length, take, drop, Option, Some, None, Result, Ok, Err}
use Rattle.std.specs.List.{prefix_len}
use Rattle.std.specs.Char.{is_ascii_alphabetic, is_ascii_alphanumeric}
use Rattle.gms_grammar.specs.declared.fault.LexError.{LexError}
use Rattle.gms_grammar.specs.declared.fault.LexError.TheVariants.{BadByte, OpenQuote, LongLabel}
use Rattle.gms_grammar.specs.Lines.{begins}
use Rattle.gms_grammar.specs.declared.kind.Sym.{Sym}
use Rattle.gms_grammar.specs.declared.kind.Kind.{Kind}
use Rattle.gms_grammar.specs.declared.kind.Kind.TheVariants.{Word, Label, Number, Symbol}
use Rattle.gms_grammar.specs.declared.lexeme.Piece.{Piece}
use Rattle.gms_grammar.specs.declared.lexeme.Piece.TheVariants.{Remark, Token}
use Rattle.gms_grammar.specs.declared.lexeme.Lexeme.{Lexeme}
use Rattle.gms_grammar.specs.declared.lexeme.Misread.{Misread}
use Rattle.gms_grammar.specs.Bytes.{is_name_byte, is_label_byte, is_quote, is_text_byte, is_ascii}
use Rattle.gms_grammar.specs.Numbers.{begins_number, number_length}
use Rattle.gms_grammar.specs.Symbols.{longest_symbol}

-- the result of reading the start of a text: a piece, or an error
abbrev pub Read : Type 0
Read = Result Lexeme Misread

-- a piece of `length` bytes
abbrev pub lexeme : Piece → ℕ → Read
lexeme piece length = Ok record { piece = piece; length = length }

-- an error `ahead` bytes after the start of the text
abbrev pub misread : LexError → ℕ → Read
misread error ahead = Err record { error = error; ahead = ahead }

-- a piece has at least one byte and at most all of the text; an error is at one of the text's
-- bytes, or at the text's end
abbrev pub IsWithinText : List ℕ → Read → Type 0
IsWithinText text (Ok p) = (0 < p.length) × (p.length ≤ length text)
IsWithinText text (Err m) = m.ahead ≤ length text

-- the greatest number of bytes that a name or a label may have, quotation marks not counted
abbrev pub longest_label : ℕ
longest_label = 63

-- a token of this kind, a word or a label, of `length` bytes; LongLabel if that is over 63
abbrev pub bounded : Kind → ℕ → Read
bounded kind length = if nat_lt longest_label length then misread LongLabel 0 else lexeme (Token kind) length

-- a symbol that was found, with its number of bytes; the error BadByte without one
abbrev pub symbol_read : Option (ℕ × Sym) → Read
symbol_read None = misread BadByte 0
symbol_read (Some symbol) = lexeme (Token (Symbol symbol.1)) symbol.0

-- the longest symbol with which a text begins; BadByte if it begins with none
abbrev pub symbol : List ℕ → Read
symbol text = symbol_read (longest_symbol text)

-- how many bytes of a text come before this quotation mark or a line feed; all if it has neither
abbrev pub quoted_length : ℕ → List ℕ → ℕ
quoted_length mark text = prefix_len (λ b. not (b == mark || b == 10)) text

-- whether this quotation mark occurs in the text before any line feed
abbrev pub is_closed : ℕ → List ℕ → Bool
is_closed mark text = begins (λ b. b == mark) (drop (quoted_length mark text) text)

-- whether a piece is a label
abbrev pub is_label : Piece → Bool
is_label (Token Label) = true
is_label piece = false

-- A quoted piece with `inner` bytes between its quotation marks, the first `plain` of them ASCII.
-- Or an error: at the first mark OpenQuote if it is not `closed` on its line, else LongLabel if it
-- is a label and `inner` is over 63; else, at the first byte that is not ASCII, BadByte if `plain`
-- is less than `inner`.
abbrev pub quoted_of : Piece → Bool → ℕ → ℕ → Read
quoted_of piece closed inner plain =
    if not closed then misread OpenQuote 0 else (if is_label piece && nat_lt longest_label inner then misread LongLabel 0 else (if nat_lt plain inner then misread BadByte (1 + plain) else lexeme piece (inner + 2)))

-- the quoted piece with which a text begins; its first byte is the quotation mark. BadByte if the
-- text is empty. Otherwise the errors of `quoted_of`: OpenQuote if that mark does not recur on the
-- line; else LongLabel for a label over 63 bytes; else BadByte at the first byte that is not ASCII
abbrev pub quoted : Piece → List ℕ → Read
quoted piece [] = misread BadByte 0
quoted piece (mark ∷ text) =
    let inner = quoted_length mark text in
    quoted_of piece (is_closed mark text) inner (prefix_len is_ascii (take inner text))

-- the token of code with which a text begins: a word (LongLabel if it has over 63 bytes), a number,
-- a quoted token of this kind (or an error of `quoted`), or a symbol (BadByte if there is none)
abbrev pub code_token : Kind → List ℕ → Read
code_token kind text =
    if begins is_ascii_alphabetic text then bounded Word (prefix_len is_name_byte text) else (if begins_number text then lexeme (Token Number) (number_length text) else (if begins is_quote text then quoted (Token kind) text else symbol text))

-- the token with which a text begins where an element of a list is expected: an unquoted label
-- (LongLabel if it has over 63 bytes), a quoted label (or an error of `quoted`), or a symbol
-- (BadByte if there is none)
abbrev pub label_token : List ℕ → Read
label_token text =
    if begins is_ascii_alphanumeric text then bounded Label (prefix_len is_label_byte text) else (if begins is_quote text then quoted (Token Label) text else symbol text)

-- an unquoted descriptive text of `length` bytes; BadByte if that is 0
abbrev pub remark_of : ℕ → Read
remark_of length = if length == 0 then misread BadByte 0 else lexeme Remark length

-- the descriptive text with which a text begins: a quoted one ends at its mark (or has an error of
-- `quoted`), an unquoted one before `/`, `,`, `;` or the line's end (BadByte if it is empty)
abbrev pub remark : List ℕ → Read
remark text = if begins is_quote text then quoted Remark text else remark_of (prefix_len is_text_byte text)
