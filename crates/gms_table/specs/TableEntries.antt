-- The entries of a table: each number is under one heading, by the columns that they take, and in
-- the row of a label; or the first fault (GAMS User's Guide, "Data Entry: Parameters, Scalars and
-- Tables"). Which faults there are, and which comes first, is this project's rule.
use Rattle.std.specs.Prelude.{◌≡◌, ◌⊎◌, ℕ, ◌≤◌, ◌<◌, Bool, ◌&&◌, ◌==◌, nat_lt, if◌then◌else◌, List, [], ◌∷◌, ◌++◌, length, map, filter, Contains, None, string_bytes}
use Rattle.gms_labels.specs.declared.place.Place.{Place}
use Rattle.gms_labels.specs.Labels.{lower_case, most_labels}
use Rattle.gms_grammar.specs.Lines.{begins}
use Rattle.gq_number.specs.Number.{Number}
use Rattle.gms_table.specs.declared.entry.TableLine.{TableLine}
use Rattle.gms_table.specs.declared.entry.Entry.{Entry}
use Rattle.gms_table.specs.declared.fault.TableError.{TableError}
use Rattle.gms_table.specs.declared.fault.TableError.TheVariants.{NoColumn, TwoColumns, RepeatedEntry, BadRow, NoHeading, Labels}
use Rattle.gms_table.specs.declared.fault.TableFault.{TableFault}
use Rattle.gms_table.specs.declared.fault.TableFaultOrMemory.{TableFaultOrMemory}
use Rattle.gms_table.specs.declared.fault.TableFaultOrMemory.TheVariants.{Memory, Fault}
use Rattle.gms_table.specs.Words.{Word, words_of}
use Rattle.gms_table.specs.WordLabels.{labels_of_text, labels_of_word, all_entered, AreLabelNumbers}
use Rattle.gms_table.specs.CellNumbers.{IsNumberText, IsValue}
use Rattle.gms_table.specs.Faults.{table_error_code}

-- ---- what the words of a table are

-- A word of a table, except a `+` before further headings.
pub data TablePart : Type 0 where
  -- a heading or a row label
  name : Word → TablePart
  -- a word of a row after its label, where a number is expected: the row's label, the headings that
  -- apply to the row, and the word
  cell : Word → List Word → Word → TablePart

-- whether a word is `+`
abbrev pub is_plus : Word → Bool
is_plus word = begins (λ b. b == 43) word.text && length word.text == 1

-- the words of the lines after the headings `headings`: a line whose first word is `+` has new
-- headings after this word, a line without words is skipped, and any other line is a row
abbrev pub under : List Word → List (List Word) → List TablePart
under headings [] = []
under headings ([] ∷ lines) = under headings lines
under headings ((first ∷ words) ∷ lines) =
    if is_plus first then map name words ++ under words lines else name first ∷ (map (cell first headings) words ++ under headings lines)

-- the words of a table, given those of each of its lines; the first line with words has the
-- headings
abbrev pub table_of : List (List Word) → List TablePart
table_of [] = []
table_of ([] ∷ lines) = table_of lines
table_of ((first ∷ words) ∷ lines) = map name (first ∷ words) ++ under (first ∷ words) lines

-- the words of the lines of a table, in order, each with its use: as a heading or a row label, or
-- as a cell, with its row's label and the headings above; a `+` before headings is left out
abbrev pub table_parts : List TableLine → List TablePart
table_parts lines = table_of (map (λ line. words_of line.line (string_bytes line.text)) lines)

-- the place of a word of a table
abbrev pub place_of_part : TablePart → Place
place_of_part (name word) = word.at
place_of_part (cell row headings word) = word.at

-- the labels that make up the headings and the row labels, in order
abbrev pub label_texts : List TablePart → List (List ℕ)
label_texts [] = []
label_texts (name word ∷ parts) = labels_of_word word ++ label_texts parts
label_texts (cell row headings word ∷ parts) = label_texts parts

-- ---- which heading a number is under

-- whether a number and a heading share a column: a number at columns p up to q, q not included, and
-- a heading at columns r up to s, s not included, meet where p < s and r < q
abbrev pub meet : Word → Word → Bool
meet number heading = nat_lt number.at.column heading.end && nat_lt heading.at.column number.end

-- those of the headings that share a column with a number
abbrev pub met : List Word → Word → List Word
met headings number = filter (meet number) headings

-- the labels of the row and of the heading of a number, in lower case; two numbers with equal keys
-- are entries of the same row and heading
abbrev pub Key : Type 0
Key = List (List ℕ) × List (List ℕ)

-- the key of a number in this row under this heading: the labels of both, in lower case
abbrev pub key_of : Word → Word → Key
key_of row heading = (map lower_case (labels_of_word row), map lower_case (labels_of_word heading))

-- the keys of the numbers, in order: for each heading that shares a column with a number, the
-- labels of the number's row and of the heading
abbrev pub keys_of : List TablePart → List Key
keys_of [] = []
keys_of (name word ∷ parts) = keys_of parts
keys_of (cell row headings word ∷ parts) = map (key_of row) (met headings word) ++ keys_of parts

-- ---- entries

module _ {F : Type 0} (limit : ℕ) (value : F → Number) (labels : List (List ℕ)) where
  -- The entry is that of the number `word` in the row `row` under these headings: it has the word's
  -- place, the value that the word means, a number within `limit`, and the labels of the row and of
  -- the one heading that shares a column with the word, by their numbers in the table `labels`.
  pub record IsEntry (row : Word) (headings : List Word) (word : Word) (entry : Entry F) : Type 0 where
    pub heading : Word
    pub under_one : met headings word ≡ heading ∷ []
    pub at : entry.at ≡ word.at
    pub row_is : AreLabelNumbers labels entry.row (labels_of_word row)
    pub column_is : AreLabelNumbers labels entry.column (labels_of_word heading)
    pub value_is : IsValue limit word.text (value entry.value)

  -- the entries of a table: one for each number, in the order of the numbers
  abbrev pub AreEntries : List TablePart → List (Entry F) → Type 0
  AreEntries [] entries = entries ≡ []
  AreEntries (name word ∷ parts) entries = AreEntries parts entries
  AreEntries (cell row headings word ∷ parts) [] = ⊥
  AreEntries (cell row headings word ∷ parts) (entry ∷ entries) = IsEntry row headings word entry × AreEntries parts entries

-- ---- faults

module _ (limit : ℕ) (labels : List (List ℕ)) where
  -- The word has this error, after the words `before`. A heading or a row label: BadRow, if it is
  -- not made of labels; Labels, if one of these is beyond the limit of the table of labels. Where a
  -- number is expected: NoColumn, TwoColumns or RepeatedEntry, if a number of any size shares a
  -- column with no heading, with more than one, or with just one and an earlier number has its row
  -- and heading; BadRow, if the word is no number within the limit of the size of numbers. No word
  -- has NoHeading.
  abbrev pub IsPartFault : List TablePart → TablePart → TableError → Type 0
  IsPartFault before (name word) BadRow = labels_of_text word.text ≡ None
  IsPartFault before (name word) Labels = most_labels < length (all_entered labels (label_texts before ++ labels_of_word word))
  IsPartFault before (name word) NoColumn = ⊥
  IsPartFault before (name word) TwoColumns = ⊥
  IsPartFault before (name word) RepeatedEntry = ⊥
  IsPartFault before (name word) NoHeading = ⊥
  IsPartFault before (cell row headings word) NoColumn = IsNumberText word.text × (met headings word ≡ [])
  IsPartFault before (cell row headings word) TwoColumns = IsNumberText word.text × (1 < length (met headings word))
  IsPartFault before (cell row headings word) RepeatedEntry =
      IsNumberText word.text × ((heading : Word) × (met headings word ≡ heading ∷ []) × Contains (keys_of before) (key_of row heading))
  IsPartFault before (cell row headings word) BadRow = (x : Number) → ¬ IsValue limit word.text x
  IsPartFault before (cell row headings word) NoHeading = ⊥
  IsPartFault before (cell row headings word) Labels = ⊥

  -- none of the words in the second list, which follow the words `before`, has an error
  abbrev pub ArePartsFaultless : List TablePart → List TablePart → Type 0
  ArePartsFaultless before [] = Unit {0}
  ArePartsFaultless before (part ∷ parts) = ((error : TableError) → ¬ IsPartFault before part error) × ArePartsFaultless (before ++ part ∷ []) parts

  -- The fault is the first of the words: no word before the one at its place has an error, and of
  -- the errors of that word its error has the least number.
  pub record IsFirstPartFault (parts : List TablePart) (fault : TableFault) : Type 0 where
    pub before : List TablePart
    pub part : TablePart
    pub following : List TablePart
    pub parts_are : parts ≡ before ++ part ∷ following
    pub sound : ArePartsFaultless [] before
    pub at : fault.at ≡ place_of_part part
    pub occurs : IsPartFault before part fault.error
    pub least : (other : TableError) → IsPartFault before part other → table_error_code fault.error ≤ table_error_code other

-- ---- the whole

-- the place of a fault that belongs to no word
abbrev pub nowhere : Place
nowhere = record { line = 0; column = 0 }

-- These are the entries of a table that has headings and no fault; `before` and `after` are the
-- labels of the program before the table and after it, and `limit` is the limit on the size of
-- numbers.
pub record IsTable {F : Type 0} (limit : ℕ) (value : F → Number) (lines : List TableLine) (before after : List (List ℕ)) (entries : List (Entry F)) : Type 0 where
  pub headed : ¬ (table_parts lines ≡ [])
  pub sound : ArePartsFaultless limit before [] (table_parts lines)
  pub labels_are : after ≡ all_entered before (label_texts (table_parts lines))
  pub entries_are : AreEntries limit value after (table_parts lines) entries

-- the table of these lines has this fault: NoHeading, at line 0, column 0, if the lines have no
-- words; or the first fault of its words. `labels` are the labels of the program before the table,
-- and `limit` is the limit on the size of numbers
abbrev pub IsTableFault : ℕ → List TableLine → List (List ℕ) → TableFault → Type 0
IsTableFault limit lines labels fault =
    ((table_parts lines ≡ []) × (fault ≡ record { error = NoHeading; at = nowhere })) ⊎ IsFirstPartFault limit labels (table_parts lines) fault

-- the result in place of entries is right: the fault of the table (`IsTableFault`), or out of
-- memory
abbrev pub IsTableRefusal : ℕ → List TableLine → List (List ℕ) → TableFaultOrMemory → Type 0
IsTableRefusal limit lines labels (Fault fault) = IsTableFault limit lines labels fault
IsTableRefusal limit lines labels Memory = Unit {0}
