-- Where a line of a table ends: before the `;` that ends the table, or with the line (GAMS User's
-- Guide, "Data Entry: Tables").
use Rattle.std.specs.Prelude.{ℕ, nat_lt, if◌then◌else◌, List, take}
use Rattle.std.specs.List.{prefix_len}
use Rattle.gms_grammar.specs.declared.fault.LexError.TheVariants.{BadByte}
use Rattle.gms_grammar.specs.declared.kind.Kind.TheVariants.{TableLine}
use Rattle.gms_grammar.specs.declared.lexeme.Piece.TheVariants.{Token}
use Rattle.gms_grammar.specs.declared.split_fields.Separator.TheVariants.{Semicolon}
use Rattle.gms_grammar.specs.SplitFields.{is_separator, field_bytes}
use Rattle.gms_grammar.specs.Bytes.{is_ascii}
use Rattle.gms_grammar.specs.Shapes.{Read, lexeme, misread}

-- how many bytes of a line belong to the table: those before the first `;` outside quoted labels,
-- or all if there is no such `;`
abbrev pub table_bytes : List ℕ → ℕ
table_bytes line = field_bytes (is_separator Semicolon) line

-- the token of `length` bytes of a table's line, of which the first `plain` are ASCII; BadByte at
-- the first that is not
abbrev pub table_line_of : ℕ → ℕ → Read
table_line_of length plain = if nat_lt plain length then misread BadByte plain else lexeme (Token TableLine) length

-- the token of the first `length` bytes of a table's line; BadByte at the first that is not ASCII
abbrev pub table_line : ℕ → List ℕ → Read
table_line length line = table_line_of length (prefix_len is_ascii (take length line))
