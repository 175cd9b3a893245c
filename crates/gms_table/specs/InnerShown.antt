-- Words and headings as they are stored while a table is read.
use Rattle.std.specs.Prelude.{◌≡◌, ℕ, ◌≤◌, ◌<◌, Bool, false, nat_lt, List, [], ◌∷◌, map}
use Rattle.gms_table.specs.Words as words
use Rattle.gms_table.specs.WordLabels.{labels_of_word, AreLabelNumbers}
use Rattle.gms_table.specs.declared.word.Word.{Word}
use Rattle.gms_table.specs.declared.heading.Heading.{Heading}

-- the view of a stored word
abbrev pub seen : Word → words.Word
seen word = record { at = word.at; end = word.end; text = word.text.now }

-- the views of stored words
abbrev pub seen_all : List Word → List words.Word
seen_all kept = map seen kept

-- these words are in order after a column: each has columns, and ends before the next
abbrev pub AreSpacedFrom : ℕ → List words.Word → Type 0
AreSpacedFrom column [] = Unit {0}
AreSpacedFrom column (word ∷ others) = (column ≤ word.at.column) × (word.at.column < word.end) × AreSpacedFrom word.end others

-- the words of a line are in order
abbrev pub AreSpaced : List words.Word → Type 0
AreSpaced words = AreSpacedFrom 0 words

-- a stored heading is this word, with the numbers of its labels
pub record IsHeading (labels : List (List ℕ)) (word : words.Word) (heading : Heading) : Type 0 where
  pub column : heading.column ≡ word.at.column
  pub end : heading.end ≡ word.end
  pub numbers : AreLabelNumbers labels heading.labels.items (labels_of_word word)

-- the stored headings are these words
abbrev pub AreHeadings : List (List ℕ) → List words.Word → List Heading → Type 0
AreHeadings labels [] headings = headings ≡ []
AreHeadings labels (word ∷ words) [] = ⊥
AreHeadings labels (word ∷ words) (heading ∷ headings) = IsHeading labels word heading × AreHeadings labels words headings

-- the first of these headings begins before a column
abbrev pub begin_before : List Heading → ℕ → Bool
begin_before [] column = false
begin_before (heading ∷ headings) column = nat_lt heading.column column
