-- The first piece of a text, in each mode: blanks, line ends, a descriptive text, or the longest
-- token of the mode (GAMS User's Guide, "GAMS Programs", data declarations, lists and tables).
use Rattle.std.specs.Prelude.{ℕ, Bool, true, false, not, ◌&&◌, ◌||◌, ◌==◌, nat_lt, nat_le, if◌then◌else◌, List, [], ◌∷◌, drop}
use Rattle.std.specs.List.{prefix_len}
use Rattle.std.specs.Char.{is_ascii_digit}
use Rattle.gms_grammar.specs.Lines.{begins, before, content, is_blank, is_line_end}
use Rattle.gms_grammar.specs.declared.kind.Kind.TheVariants.{Label, Text, Break}
use Rattle.gms_grammar.specs.declared.lexeme.Piece.TheVariants.{Gap, LineEnd, Token}
use Rattle.gms_grammar.specs.Numbers.{begins_dot}
use Rattle.gms_grammar.specs.Shapes.{Read, lexeme, symbol, code_token, label_token, remark}
use Rattle.gms_grammar.specs.TableLines.{table_bytes, table_line}
use Rattle.gms_lex.specs.declared.keyword.Shape.{Shape}
use Rattle.gms_lex.specs.declared.keyword.Shape.TheVariants.{Set, Parameter, Scalar, Model}
use Rattle.gms_lex.specs.declared.mode.Stage.{Stage}
use Rattle.gms_lex.specs.declared.mode.Stage.TheVariants.{Fresh, Expected, After, Spaced}
use Rattle.gms_lex.specs.declared.mode.Mode.{Mode}
use Rattle.gms_lex.specs.declared.mode.Mode.TheVariants.{Named, Bare, Rest, Element, Value, Tail, TableNamed, TableBare, TableLines}
use Rattle.gms_lex.specs.declared.mode.LineEnds.{LineEnds}
use Rattle.gms_lex.specs.declared.mode.LineEnds.TheVariants.{Skipped, EndItem, EndElement}
use Rattle.gms_lex.specs.Keywords.{begins_statement}

-- what a line end means in an element that has begun: it ends the element outside parentheses, and
-- means nothing within them
abbrev pub element_line_ends : ℕ → LineEnds
element_line_ends depth = if depth == 0 then EndElement else Skipped

-- what a line end means in a list, inside `depth` parentheses and at this stage of an element:
-- nothing if no element has begun (`Fresh`) or inside parentheses, otherwise the end of the element
abbrev pub list_line_ends : ℕ → Stage → LineEnds
list_line_ends depth Fresh = Skipped
list_line_ends depth Expected = element_line_ends depth
list_line_ends depth After = element_line_ends depth
list_line_ends depth Spaced = element_line_ends depth

-- What a line end means in a mode. It ends an item after the item's name, domain (`Bare`), and text
-- or list (`Rest`). In an element of a list it means what `list_line_ends` gives, and in the
-- element's text or value (`Tail`) it ends the element. In all other modes it means nothing.
abbrev pub line_ends : Mode → LineEnds
line_ends (Named shape) = EndItem
line_ends (Bare shape) = EndItem
line_ends (Rest shape) = EndItem
line_ends (Element shape depth stage) = list_line_ends depth stage
line_ends (Tail shape) = EndElement
line_ends current = Skipped

-- Whether a line end of this meaning ends nothing if the byte follows it. A line end that may end
-- an item ends nothing before `/`, `,` and `;`, which begin the item's list or end the item. One
-- that may end an element ends nothing before `/` and `,`, which end the element. One that means
-- nothing ends nothing.
abbrev pub passes : LineEnds → ℕ → Bool
passes EndItem b = b == 47 || (b == 44 || b == 59)
passes EndElement b = b == 47 || b == 44
passes Skipped b = true

-- whether the text is empty, or begins with a byte that passes the test
abbrev pub ends_or_begins : (ℕ → Bool) → List ℕ → Bool
ends_or_begins test [] = true
ends_or_begins test (b ∷ text) = test b

-- whether a text begins with neither a blank nor a line end; true of the empty text
abbrev pub begins_other : List ℕ → Bool
begins_other text = not (begins is_blank text || is_line_end text)

-- how many bytes of blanks and line ends a text begins with
abbrev pub space_length : List ℕ → ℕ
space_length text = before begins_other text

-- how many bytes the line end takes with which a text begins: 2 if it is a carriage return and a
-- line feed, 1 if it is a line feed
abbrev pub line_end_length : List ℕ → ℕ
line_end_length text = if begins (λ b. b == 13) text then 2 else 1

-- The first piece of a text that begins with a line end. If line ends mean nothing (`Skipped`), it
-- is `LineEnd`, this line end. Else a line end may end an item or an element. If the text ends
-- after all blanks and line ends, or a byte follows before which a line end ends nothing
-- (`passes`), all of these are one `LineEnd`; if not, this line end is the token `Break`.
abbrev pub line_end : LineEnds → List ℕ → Read
line_end Skipped text = lexeme LineEnd (line_end_length text)
line_end EndItem text = if ends_or_begins (passes EndItem) (drop (space_length text) text) then lexeme LineEnd (space_length text) else lexeme (Token Break) (line_end_length text)
line_end EndElement text = if ends_or_begins (passes EndElement) (drop (space_length text) text) then lexeme LineEnd (space_length text) else lexeme (Token Break) (line_end_length text)

-- a byte that ends an item, or begins its list: `/`, `,` or `;`
abbrev pub is_item_mark : ℕ → Bool
is_item_mark b = b == 47 || (b == 44 || b == 59)

-- the piece after an item's name: a symbol if the text begins with `(`, `/`, `,` or `;`, otherwise
-- a descriptive text
abbrev pub piece_after_name : List ℕ → Read
piece_after_name text = if begins (λ b. b == 40 || is_item_mark b) text then symbol text else remark text

-- the piece after an item's domain: a symbol if the text begins with `/`, `,` or `;`, otherwise a
-- descriptive text
abbrev pub piece_after_domain : List ℕ → Read
piece_after_domain text = if begins is_item_mark text then symbol text else remark text

-- a byte that ends an element, or continues it: `/`, `,`, `;`, `)`, `*` and `.`
abbrev pub is_element_mark : ℕ → Bool
is_element_mark b = is_item_mark b || (b == 41 || (b == 42 || b == 46))

-- whether a text begins with the dot of a number: in a parameter's list outside parentheses, after
-- a blank and before a digit
abbrev pub begins_value_dot : Shape → ℕ → Stage → List ℕ → Bool
begins_value_dot Parameter depth Spaced text = depth == 0 && (begins_dot text && begins is_ascii_digit (drop 1 text))
begins_value_dot shape depth stage text = false

-- the piece of the text or value of an element, in a list of this shape: in a parameter's list a
-- token of code, where a quoted token is a label; in any other list a descriptive text
abbrev pub element_tail : Shape → List ℕ → Read
element_tail Parameter text = code_token Label text
element_tail Set text = remark text
element_tail Scalar text = remark text
element_tail Model text = remark text

-- The piece after a label of a list, inside `depth` parentheses and at this stage. It is a symbol
-- if the text begins with a byte that ends or continues an element (`is_element_mark`), and not
-- with the dot of a number. Otherwise it is, outside parentheses, the element's text or value, and
-- inside them a label or a symbol (`label_token`).
abbrev pub piece_after_label : Shape → ℕ → Stage → List ℕ → Read
piece_after_label shape depth stage text =
    if begins is_element_mark text && not (begins_value_dot shape depth stage text) then symbol text else (if depth == 0 then element_tail shape text else label_token text)

-- the piece at the start of a text in a list, inside `depth` parentheses and at this stage of an
-- element: a label or a symbol where an element or a label is expected (`Fresh`, `Expected`), and
-- by `piece_after_label` after a label (`After`, `Spaced`)
abbrev pub in_list : Shape → ℕ → Stage → List ℕ → Read
in_list shape depth Fresh text = label_token text
in_list shape depth Expected text = label_token text
in_list shape depth After text = piece_after_label shape depth After text
in_list shape depth Spaced text = piece_after_label shape depth Spaced text

-- The piece at the start of a text that begins with neither a blank nor a line end: after a name
-- that of `piece_after_name`, after a domain (`Bare`, `TableBare`) that of `piece_after_domain`, in
-- an element that of `in_list`. Otherwise it is a token of code; a quoted token is a label in the
-- text or value of an element (`Value`, `Tail`), else a text.
abbrev pub token_read : Mode → List ℕ → Read
token_read (Named shape) text = piece_after_name text
token_read TableNamed text = piece_after_name text
token_read (Bare shape) text = piece_after_domain text
token_read TableBare text = piece_after_domain text
token_read (Element shape depth stage) text = in_list shape depth stage text
token_read (Value shape) text = code_token Label text
token_read (Tail shape) text = code_token Label text
token_read current text = code_token Text text

-- The first piece of `text` among the lines of a table. The text begins with `blanks` blanks;
-- `bytes` of its first bytes precede the `;` that ends the table or, without one on the line, the
-- line's end. The piece is the blanks, if there are any and that `;`, the line's end or a statement
-- keyword follows them. Else it is a token of code (a quoted one is a text) if `bytes` is 0 or the
-- text begins with a statement keyword, else a line of the table.
abbrev pub table_piece_of : ℕ → ℕ → List ℕ → Read
table_piece_of blanks bytes text =
    if nat_lt 0 blanks && (nat_le bytes blanks || begins_statement (drop blanks text)) then lexeme Gap blanks else (if bytes == 0 || begins_statement text then code_token Text text else table_line bytes text)

-- the first piece of a text among the lines of a table: a line end if the text begins with one,
-- otherwise by `table_piece_of`, from how many blanks it begins with and how many bytes of its
-- first line come before the `;` that ends the table (all, if there is none)
abbrev pub table_piece : List ℕ → Read
table_piece text =
    if is_line_end text then lexeme LineEnd (line_end_length text) else table_piece_of (prefix_len is_blank text) (table_bytes (content text)) text

-- the first piece of a text in the mode `current`, which is not `TableLines`
abbrev pub plain_piece : Mode → List ℕ → Read
plain_piece current text =
    if begins is_blank text then lexeme Gap (prefix_len is_blank text) else (if is_line_end text then line_end (line_ends current) text else token_read current text)

-- the first piece of a text in this mode, or the error instead of a piece; `TableLines` is the mode
-- among the lines of a table
abbrev pub piece_at : Mode → List ℕ → Read
piece_at TableLines text = table_piece text
piece_at current text = plain_piece current text
