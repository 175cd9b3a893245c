-- How far a table was read, and the result of reading more of it.
use Rattle.std.specs.Prelude.{◌≡◌, ℕ, ◌<◌, List, [], ◌∷◌, ◌++◌, length, map, Result, Ok, Err, Vec, string_bytes}
use Rattle.std.specs.declared.alloc.Global.{Global}
use Rattle.std.specs.Borrow.{Bor}
use Rattle.gq_number.specs.Number.{Number}
use Rattle.gms_table.specs.declared.entry.TableLine.{TableLine}
use Rattle.gms_table.specs.declared.entry.Entry.{Entry}
use Rattle.gms_table.specs.declared.fault.TableError.{TableError}
use Rattle.gms_table.specs.declared.fault.TableError.TheVariants.{NoColumn, TwoColumns, RepeatedEntry, BadRow, NoHeading, Labels}
use Rattle.gms_table.specs.declared.fault.TableFaultOrMemory.{TableFaultOrMemory}
use Rattle.gms_table.specs.declared.fault.TableFaultOrMemory.TheVariants.{Memory, Fault}
use Rattle.gms_table.specs.declared.heading.Heading.{Heading}
use Rattle.gms_table.specs.Words.{Word, words_of}
use Rattle.gms_table.specs.WordLabels.{labels_of_word, all_entered, AreLabelNumbers}
use Rattle.gms_table.specs.InnerShown.{AreSpacedFrom, AreSpaced, AreHeadings, IsHeading}
use Rattle.gms_table.specs.TableEntries.{TablePart, name, cell, met, under, table_of, label_texts, ArePartsFaultless, AreEntries, IsFirstPartFault}

-- the words of a line
abbrev pub words_in : TableLine → List Word
words_in line = words_of line.line (string_bytes line.text)

-- the words of each of these lines
abbrev pub lines_of : List TableLine → List (List Word)
lines_of lines = map (λ line. words_of line.line (string_bytes line.text)) lines

-- The parts so far have no fault, and their labels were entered.
pub record Progress (limit : ℕ) (labels : List (List ℕ)) (before : List TablePart) (table : List (List ℕ)) : Type 0 where
  pub sound : ArePartsFaultless limit labels [] before
  pub table_is : table ≡ all_entered labels (label_texts before)

-- an answer in place of reading these parts: their first fault, or out of memory
abbrev pub Refuses : ℕ → List (List ℕ) → List TablePart → TableFaultOrMemory → Type 0
Refuses limit labels parts (Fault fault) = IsFirstPartFault limit labels parts fault
Refuses limit labels parts Memory = Unit {0}

-- the result of reading these words as headings
abbrev pub ReadsHeadings : ℕ → List (List ℕ) → List TablePart → List Word → List (List ℕ) → Result (Vec Heading Global) TableFaultOrMemory → Type 0
ReadsHeadings limit labels before words table (Ok headings) = Progress limit labels (before ++ map name words) table × AreHeadings table words headings.items
ReadsHeadings limit labels before words table (Err error) = Refuses limit labels (before ++ map name words) error

-- The headings that remain without those that end before a number begins.
pub record AreLeft (table : List (List ℕ)) (names : List Word) (number : Word) (left : List Heading) : Type 0 where
  pub column : ℕ
  pub rest : List Word
  pub spaced : AreSpacedFrom column rest
  pub are : AreHeadings table rest left
  pub met_are : met names number ≡ met rest number
  pub following : (heading : Heading) (others : List Heading) → left ≡ heading ∷ others → number.at.column < heading.end

-- the result of looking for the heading of a number
abbrev pub Finds : List (List ℕ) → List Word → Word → Result (Bor Heading) TableError → Type 0
Finds table names word (Ok heading) = (found : Word) × (met names word ≡ found ∷ []) × IsHeading table found heading.now
Finds table names word (Err NoColumn) = met names word ≡ []
Finds table names word (Err TwoColumns) = 1 < length (met names word)
Finds table names word (Err RepeatedEntry) = ⊥
Finds table names word (Err BadRow) = ⊥
Finds table names word (Err NoHeading) = ⊥
Finds table names word (Err Labels) = ⊥

-- These are the numbers of a row's labels, and the headings that apply to it, in order.
pub record IsRow (table : List (List ℕ)) (label : Word) (names : List Word) (row : List ℕ) (headings : List Heading) : Type 0 where
  pub row_is : AreLabelNumbers table row (labels_of_word label)
  pub headings_are : AreHeadings table names headings
  pub spaced : AreSpaced names

-- the parts of a row
abbrev pub row_parts : Word → List Word → List Word → List TablePart
row_parts label names words = name label ∷ map (cell label names) words

-- The first line with words of these lines: its words, and the lines after it.
pub record IsFirstLine (lines : List (List Word)) (words : List Word) (rest : List (List Word)) : Type 0 where
  pub some : ¬ (words ≡ [])
  pub spaced : AreSpaced words
  pub parts_are : table_of lines ≡ map name words ++ under words rest

module _ {F : Type 0} (limit : ℕ) (value : F → Number) (labels : List (List ℕ)) where
  -- The parts so far have no fault, their labels were entered, and these are their entries.
  pub record Keeps (before : List TablePart) (table : List (List ℕ)) (entries : List (Entry F)) : Type 0 where
    pub progress : Progress limit labels before table
    pub entries_are : AreEntries limit value table before entries

-- Of these lines, of which the first ones are under these headings, all except the rest were read.
pub record LinesSoFar {F : Type 0} (limit : ℕ) (value : F → Number) (labels : List (List ℕ)) (before : List TablePart) (begun : List Word) (all rest : List (List Word)) (table : List (List ℕ)) (entries : List (Entry F)) (headings : List Heading) : Type 0 where
  pub done : List TablePart
  pub names : List Word
  pub keeps : Keeps limit value labels (before ++ done) table entries
  pub are : AreHeadings table names headings
  pub spaced : AreSpaced names
  pub parts_are : under begun all ≡ done ++ under names rest
