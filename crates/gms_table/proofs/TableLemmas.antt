-- The whole table, from its first line on.
use Rattle.std.proofs.Common.{◌≡◌, inr, ℕ, List, [], ◌∷◌, ◌++◌, map, refl, sym, ap, ◌∙◌, subst}
use Rattle.gq_number.specs.Number.{Number}
use Rattle.gms_table.specs.declared.entry.TableLine.{TableLine}
use Rattle.gms_table.specs.declared.entry.Entry.{Entry}
use Rattle.gms_table.specs.declared.fault.TableFaultOrMemory.{TableFaultOrMemory}
use Rattle.gms_table.specs.declared.fault.TableFaultOrMemory.TheVariants.{Memory, Fault}
use Rattle.gms_table.specs.Words.{Word}
use Rattle.gms_table.specs.TableEntries.{TablePart, name, under, table_of, table_parts, AreEntries, IsTable, IsFirstPartFault, IsTableRefusal}
use Rattle.gms_table.specs.InnerProgress.{Progress, Refuses, Keeps, IsFirstLine, words_in, lines_of}

-- before anything is read
pub nothing_read : (limit : ℕ) (labels : List (List ℕ)) → Progress limit labels [] labels
nothing_read limit labels = record { sound = tt; table_is = refl }

AreEntries-headings : {F : Type 0} (limit : ℕ) (value : F → Number) (table : List (List ℕ)) (words : List Word) (entries : List (Entry F)) → entries ≡ [] → AreEntries limit value table (map name words) entries
AreEntries-headings limit value table [] entries none = none
AreEntries-headings limit value table (word ∷ words) entries none = AreEntries-headings limit value table words entries none

-- the headings of the first line were read
pub headings_read : {F : Type 0} (limit : ℕ) (value : F → Number) (labels table : List (List ℕ)) (words : List Word) (entries : List (Entry F)) → entries ≡ [] → Progress limit labels (map name words) table → Keeps limit value labels (map name words) table entries
headings_read limit value labels table words entries none progress = record { progress = progress; entries_are = AreEntries-headings limit value table words entries none }

-- an answer in place of entries
pub table_refused : (limit : ℕ) (lines : List TableLine) (labels : List (List ℕ)) (parts : List TablePart) (error : TableFaultOrMemory) → table_parts lines ≡ parts → Refuses limit labels parts error → IsTableRefusal limit lines labels error
table_refused limit lines labels parts (Fault fault) is refused = inr (subst (λ ps. IsFirstPartFault limit labels ps fault) (sym is) refused)
table_refused limit lines labels parts Memory is refused = tt

some_parts : (words : List Word) (others : List TablePart) → ¬ (words ≡ []) → ¬ (map name words ++ others ≡ [])
some_parts [] others some none = some refl
some_parts (word ∷ words) others some none = absurd (cc)

-- the entries of the table
pub table_read : {F : Type 0} (limit : ℕ) (value : F → Number) (lines : List TableLine) (labels table : List (List ℕ)) (words : List Word) (rest : List (List Word)) (entries : List (Entry F)) → IsFirstLine (lines_of lines) words rest → Keeps limit value labels (map name words ++ under words rest) table entries → IsTable limit value lines labels table entries
table_read limit value lines labels table words rest entries first keeps =
    let all : Keeps limit value labels (table_parts lines) table entries = subst (λ ps. Keeps limit value labels ps table entries) (sym first.parts_are) keeps in
    record {
      headed = λ none. some_parts words (under words rest) first.some (sym first.parts_are ∙ none);
      sound = all.progress.sound;
      labels_are = all.progress.table_is;
      entries_are = all.entries_are;
    }

-- a line without words is passed over
pub line_passed : (lines rest others : List TableLine) (line : TableLine) (words : List Word) → table_of (lines_of lines) ≡ table_of (lines_of rest) → rest ≡ line ∷ others → words ≡ words_in line → words ≡ [] → table_of (lines_of lines) ≡ table_of (lines_of others)
line_passed lines rest others line words so_far is w none = so_far ∙ ap (λ (ls : List TableLine). table_of (lines_of ls)) is ∙ ap (λ (ws : List Word). table_of (ws ∷ lines_of others)) (sym w ∙ none)
