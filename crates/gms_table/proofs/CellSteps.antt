-- One number of a row more.
use Rattle.std.proofs.Common.{◌≡◌, ℕ, true, false, List, [], ◌∷◌, ◌++◌, Err, refl, sym, ◌∙◌, subst}
use Rattle.std.specs.List.{Contains}
use Rattle.gq_number.specs.Number.{Number}
use Rattle.gms_table.specs.declared.entry.Entry.{Entry}
use Rattle.gms_table.specs.declared.fault.TableError.{TableError}
use Rattle.gms_table.specs.declared.fault.TableError.TheVariants.{NoColumn, TwoColumns, RepeatedEntry, BadRow, NoHeading, Labels}
use Rattle.gms_table.specs.declared.fault.TableFaultOrMemory.{TableFaultOrMemory}
use Rattle.gms_table.specs.declared.fault.TableFaultOrMemory.TheVariants.{Fault}
use Rattle.gms_table.specs.declared.heading.Heading.{Heading}
use Rattle.gms_table.specs.Words.{Word}
use Rattle.gms_table.specs.WordLabels.{labels_of_word, AreLabelNumbers}
use Rattle.gms_table.specs.CellNumbers.{IsNumberText, IsValue}
use Rattle.gms_table.specs.InnerGiven.{is_given}
use Rattle.gms_table.specs.InnerShown.{IsHeading}
use Rattle.gms_table.specs.TableEntries.{TablePart, cell, met, keys_of, key_of, AreEntries}
use Rattle.gms_table.specs.InnerProgress.{Refuses, IsRow, Keeps, Finds}
use Rattle.gms_table.proofs.GivenLemmas.{key-given, given-key}
use Rattle.gms_table.proofs.PartLemmas.{AreEntries-cell}
use Rattle.gms_table.proofs.PartFaultLemmas.{shape_fault, column_fault, columns_fault, repeated_fault, limit_fault, cell_more}

-- an answer in place of a number's entry
abbrev pub is_fault : Word → TableError → TableFaultOrMemory
is_fault word error = Fault record { error = error; at = word.at }

module _ {F : Type 0} (limit : ℕ) (value : F → Number) (labels : List (List ℕ)) (before : List TablePart) (table : List (List ℕ)) (label : Word) (names : List Word) (row : List ℕ) (headings : List Heading) (word : Word) (entries : List (Entry F)) (keeps : Keeps limit value labels before table entries) (is : IsRow table label names row headings) where
  abbrev pub IsRefused : TableFaultOrMemory → Type 0
  IsRefused answer = Refuses limit labels (before ++ cell label names word ∷ []) answer

  -- the word is no number
  pub cell_unread : (answer : TableFaultOrMemory) → answer ≡ is_fault word BadRow → ¬ IsNumberText word.text → ((x : Number) → ¬ IsValue limit word.text x) → IsRefused answer
  cell_unread answer e unread none = subst IsRefused (sym e) (shape_fault limit labels before label names word table keeps.progress (record { error = BadRow; at = word.at }) (refl, refl) unread none)

  -- it meets no heading, or two
  pub cell_unmet : (error : TableError) (answer : TableFaultOrMemory) → answer ≡ is_fault word error → IsNumberText word.text → Finds table names word (Err error) → IsRefused answer
  cell_unmet NoColumn answer e number found = subst IsRefused (sym e) (column_fault limit labels before label names word table keeps.progress (record { error = NoColumn; at = word.at }) (refl, refl) number found)
  cell_unmet TwoColumns answer e number found = subst IsRefused (sym e) (columns_fault limit labels before label names word table keeps.progress (record { error = TwoColumns; at = word.at }) (refl, refl) number found)
  cell_unmet RepeatedEntry answer e number found = absurd found
  cell_unmet BadRow answer e number found = absurd found
  cell_unmet NoHeading answer e number found = absurd found
  cell_unmet Labels answer e number found = absurd found

  module _ (found : Word) (heading : Heading) (one : met names word ≡ found ∷ []) (heads : IsHeading table found heading) where
    -- there is a number of its row and heading already
    pub cell_repeated : (answer : TableFaultOrMemory) → answer ≡ is_fault word RepeatedEntry → IsNumberText word.text → is_given entries row heading.labels.items ≡ true → IsRefused answer
    cell_repeated answer e number given =
        subst IsRefused (sym e) (repeated_fault limit labels before label names word table keeps.progress (record { error = RepeatedEntry; at = word.at }) found (refl, refl) number one (key-given limit value table row heading.labels.items label found (is.row_is, heads.numbers) before entries keeps.entries_are given))

    -- there is none
    new : is_given entries row heading.labels.items ≡ false → ¬ Contains (keys_of before) (key_of label found)
    new none has =
        let given = given-key limit value table row heading.labels.items label found (is.row_is, heads.numbers) before entries keeps.entries_are has in
        let z : true ≡ false = sym given ∙ none in
        cc

    -- it is not within the limit
    pub cell_beyond : (answer : TableFaultOrMemory) → answer ≡ is_fault word BadRow → is_given entries row heading.labels.items ≡ false → ((x : Number) → ¬ IsValue limit word.text x) → IsRefused answer
    cell_beyond answer e none unfit =
        subst IsRefused (sym e) (limit_fault limit labels before label names word table keeps.progress (record { error = BadRow; at = word.at }) found (refl, refl) one (new none) unfit)

    -- it has an entry
    pub cell_added : (after : List (Entry F)) (entry : Entry F) → is_given entries row heading.labels.items ≡ false → IsValue limit word.text (value entry.value) → after ≡ entries ++ entry ∷ [] → entry.at ≡ word.at → entry.row ≡ row → entry.column ≡ heading.labels.items → Keeps limit value labels (before ++ cell label names word ∷ []) table after
    cell_added after entry none is_value after_is at row_is column_is = record {
      progress = cell_more limit labels before label names word table keeps.progress found (value entry.value) one (new none) is_value;
      entries_are =
          subst (AreEntries limit value table (before ++ cell label names word ∷ [])) (sym after_is)
          (AreEntries-cell limit value table before label names word entries entry keeps.entries_are (record {
            heading = found;
            under_one = one;
            at = at;
            row_is = subst (λ ns. AreLabelNumbers table ns (labels_of_word label)) (sym row_is) is.row_is;
            column_is = subst (λ ns. AreLabelNumbers table ns (labels_of_word found)) (sym column_is) heads.numbers;
            value_is = is_value;
          }));
    }
