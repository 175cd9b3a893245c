-- The words of a line of a table: the fields between its blanks, and the columns that they take
-- (GAMS User's Guide, "Data Entry: Parameters, Scalars and Tables").
use Rattle.std.specs.Prelude.{ℕ, zero, suc, ◌+◌, Bool, List, [], ◌∷◌, ◌++◌, length, take, drop, fold}
use Rattle.gms_labels.specs.declared.place.Place.{Place}
use Rattle.gms_grammar.specs.Lines.{is_blank}
use Rattle.gms_grammar.specs.Columns.{column_after}
use Rattle.gms_grammar.specs.SplitFields.{field_bytes}

-- A word: its place, the column after it, and its bytes.
pub record Word : Type 0 where
  pub at : Place
  pub end : ℕ
  pub text : List ℕ

-- the fields after the first field of a text, given the text from the byte that ends the first
-- field: those that `fields` gives of what follows this byte; none if the text is empty
abbrev pub others_by : (List ℕ → List (List ℕ)) → List ℕ → List (List ℕ)
others_by fields [] = []
others_by fields (b ∷ rest) = fields rest

-- the first fields of a text, at most `most` of them; the text is split at bytes that pass the test
-- outside labels in quotation marks
abbrev pub first_fields : (ℕ → Bool) → ℕ → List ℕ → List (List ℕ)
first_fields test zero text = []
first_fields test (suc most) text = take (field_bytes test text) text ∷ others_by (first_fields test most) (drop (field_bytes test text) text)

-- the fields of a text, split at bytes that pass the test outside labels in quotation marks; a
-- field may be empty
abbrev pub parted : (ℕ → Bool) → List ℕ → List (List ℕ)
parted test text = first_fields test (suc (length text)) text

-- the column, from 1, of the byte n of a line, counted from 0; past the last byte, the column of
-- the line's end. A tab leads to the next column that is one more than a multiple of 8
abbrev pub column_of_byte : List ℕ → ℕ → ℕ
column_of_byte line n = fold column_after 1 (take n line)

-- the word with these bytes, which has the place `at` and ends before the column `end`; no word if
-- there are no bytes
abbrev pub word_of : Place → ℕ → List ℕ → List Word
word_of at end [] = []
word_of at end (b ∷ text) = record { at = at; end = end; text = b ∷ text } ∷ []

-- the word with the bytes `text`, which begins at byte `start` of the line `line`, numbered
-- `number`; no word if there are no bytes
abbrev pub word_at : ℕ → List ℕ → ℕ → List ℕ → List Word
word_at number line start text = word_of record { line = number; column = column_of_byte line start } (column_of_byte line (start + length text)) text

-- the words among these fields of the line `line`, which has the number `number` in the source; the
-- first field begins at byte `start` of the line, and empty fields are no words
abbrev pub words_among : ℕ → List ℕ → ℕ → List (List ℕ) → List Word
words_among number line start [] = []
words_among number line start (text ∷ others) = word_at number line start text ++ words_among number line (start + length text + 1) others

-- the words of a line, whose number in the source is `number`
abbrev pub words_of : ℕ → List ℕ → List Word
words_of number line = words_among number line 0 (parted is_blank line)
