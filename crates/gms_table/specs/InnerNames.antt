-- The result of reading and entering the labels of a word.
use Rattle.std.specs.Prelude.{◌≡◌, ◌⊎◌, ℕ, ◌≤◌, ◌<◌, List, length, map, Option, None, option_map, Result, Ok, Err, Vec}
use Rattle.std.specs.declared.alloc.Global.{Global}
use Rattle.std.specs.Borrow.{Bor}
use Rattle.gms_labels.specs.declared.fault.LabelFault.{LabelFault}
use Rattle.gms_labels.specs.declared.fault.LabelFault.TheVariants as label
use Rattle.gms_table.specs.declared.fault.TableFaultOrMemory.{TableFaultOrMemory}
use Rattle.gms_table.specs.declared.fault.TableFaultOrMemory.TheVariants.{Memory, Fault}
use Rattle.gms_table.specs.declared.fault.TableFault.{TableFault}
use Rattle.gms_table.specs.declared.fault.TableError.TheVariants.{BadRow, Labels}
use Rattle.gms_table.specs.Words.{Word}
use Rattle.gms_labels.specs.Labels.{most_labels}
use Rattle.gms_table.specs.WordLabels.{labels_of_text, labels_of_word, all_entered, AreLabelNumbers}

-- the labels that were read
abbrev pub read_all : List (Bor (List ℕ)) → List (List ℕ)
read_all labels = map (λ label. label.now) labels

-- the labels that were read, if any
abbrev pub read : Option (Vec (Bor (List ℕ)) Global) → Option (List (List ℕ))
read labels = option_map (λ labels. read_all labels.items) labels

-- Labels were entered in a table of labels, and have these numbers there.
pub record AreEntered (before after texts : List (List ℕ)) (numbers : List ℕ) : Type 0 where
  pub table : after ≡ all_entered before texts
  pub numbers_are : AreLabelNumbers after numbers texts
  pub few : 0 < length texts → length after ≤ most_labels

-- labels with their numbers in a table of labels in which they were entered; or one of them exceeds
-- the table's limit; or out of memory
abbrev pub IsEntering : List (List ℕ) → List (List ℕ) → List (List ℕ) → Result (Vec ℕ Global) LabelFault → Type 0
IsEntering before after texts (Ok numbers) = AreEntered before after texts numbers.items
IsEntering before after texts (Err label.Full) = most_labels < length (all_entered before texts)
IsEntering before after texts (Err label.Memory) = Unit {0}

-- the error of a word that is no heading and no row label: it is not made of labels, or one of them
-- exceeds the limit of the table of labels
abbrev pub IsNoName : List (List ℕ) → Word → TableFault → Type 0
IsNoName table word fault =
    (fault.at ≡ word.at) × (((fault.error ≡ BadRow) × (labels_of_text word.text ≡ None)) ⊎ ((fault.error ≡ Labels) × (¬ (labels_of_text word.text ≡ None)) × (most_labels < length (all_entered table (labels_of_word word)))))

-- A word is made of labels, which were entered in a table of labels and have these numbers there.
pub record IsName (before after : List (List ℕ)) (word : Word) (numbers : List ℕ) : Type 0 where
  pub made : ¬ (labels_of_text word.text ≡ None)
  pub table : after ≡ all_entered before (labels_of_word word)
  pub numbers_are : AreLabelNumbers after numbers (labels_of_word word)
  pub few : length after ≤ most_labels

-- a word with the numbers of its labels, or its error, or out of memory
abbrev pub Enters : List (List ℕ) → List (List ℕ) → Word → Result (Vec ℕ Global) TableFaultOrMemory → Type 0
Enters before after word (Ok numbers) = IsName before after word numbers.items
Enters before after word (Err (Fault fault)) = IsNoName before word fault
Enters before after word (Err Memory) = Unit {0}
