-- The entries that were read of a table are those that its words give.
use Rattle.std.proofs.Common.{◌≡◌, ℕ, List, [], ◌∷◌, map, Some, refl, sym, ap, ap₂, ◌∙◌}
use Rattle.gq_number.specs.Number.{Number as Rational}
use Rattle.gms_labels.specs.declared.place.Place.{Place}
use Rattle.gms_labels.specs.Labels.{place_of}
use Rattle.gms_ast.specs.StatementView.{item_in}
use Rattle.gms_table.specs.declared.entry.Entry.{Entry}
use Rattle.gms_table.specs.Words.{Word}
use Rattle.gms_table.specs.WordLabels.{AreLabelNumbers, labels_of_word}
use Rattle.gms_table.specs.CellNumbers.{unsigned, signed_number}
use Rattle.gms_table.specs.TableEntries.{TablePart, name, cell, met, IsEntry, AreEntries}
use Rattle.gms_expressions.specs.ExpressionTrees.{or_0}
use Rattle.gms_expressions.proofs.Valued.{number_in_is}
use Rattle.gms_parse.specs.Tables.{item_of_entry, numbers_of_labels, table_entry, entry_under, entries_in}

-- an entry over numbers
abbrev entry_in : {F : Type 0} → (F → Rational) → Entry F → Entry Rational
entry_in value e = record { at = e.at; row = e.row; column = e.column; value = value e.value }

-- entries of the same parts are the same
same_entry : (one other : Entry Rational) → one.at ≡ other.at → one.row ≡ other.row → one.column ≡ other.column → one.value ≡ other.value → one ≡ other
same_entry one other at row column value =
    ap₂ (λ (x : Place × List ℕ) (y : List ℕ × Rational). record { at = x.0; row = x.1; column = y.0; value = y.1 }) (ap₂ (λ (a : Place) (b : List ℕ). (a, b)) at row) (ap₂ (λ (a : List ℕ) (b : Rational). (a, b)) column value)

-- where texts keep their numbers
module _ (labels later : List (List ℕ)) (keep : (text : List ℕ) (n : ℕ) → place_of labels text ≡ Some n → place_of later text ≡ Some n) where
  numbers_only : (numbers : List ℕ) (texts : List (List ℕ)) → AreLabelNumbers labels numbers texts → numbers ≡ numbers_of_labels later texts
  numbers_only [] [] are = refl
  numbers_only [] (t ∷ ts) are = let bad : [] ≡ place_of labels t ∷ map (place_of labels) ts = are in cc
  numbers_only (n ∷ ns) [] are = let bad : Some n ∷ map Some ns ≡ [] = are in cc
  numbers_only (n ∷ ns) (t ∷ ts) are =
      let whole : Some n ∷ map Some ns ≡ place_of labels t ∷ map (place_of labels) ts = are in
      let first : Some n ≡ place_of labels t = cc in
      let others : map Some ns ≡ map (place_of labels) ts = cc in
      ap₂ (λ a b. a ∷ b) (sym (ap or_0 (keep t n (sym first)))) (numbers_only ns ts others)

  module _ {F : Type 0} (limit : ℕ) (value : F → Rational) where
    entry_only : (row : Word) (headings : List Word) (word : Word) (entry : Entry F) → IsEntry limit value labels row headings word entry → entry_in value entry ≡ entry_under later row word (met headings word)
    entry_only row headings word entry is =
        let rows = numbers_only entry.row (labels_of_word row) is.row_is in
        let columns = numbers_only entry.column (labels_of_word is.heading) is.column_is in
        let values = is.value_is.value ∙ ap (signed_number word.text) (sym (number_in_is (unsigned word.text) is.value_is.magnitude is.value_is.means)) in
        same_entry (entry_in value entry) (table_entry later row word is.heading) is.at rows columns values ∙ ap (entry_under later row word) (sym is.under_one)

    pub entries_only : (parts : List TablePart) (entries : List (Entry F)) → AreEntries limit value labels parts entries → map (entry_in value) entries ≡ entries_in later parts
    entries_only [] entries are = ap (map (entry_in value)) are
    entries_only (name word ∷ parts) entries are = entries_only parts entries are
    entries_only (cell row headings word ∷ parts) [] are = absurd are
    entries_only (cell row headings word ∷ parts) (entry ∷ entries) are =
        ap₂ (λ a b. a ∷ b) (entry_only row headings word entry are.0) (entries_only parts entries are.1)

items_shown : {F : Type 0} (value : F → Rational) (es : List (Entry F)) → map (item_in value) (map item_of_entry es) ≡ map item_of_entry (map (entry_in value) es)
items_shown value [] = refl
items_shown value (e ∷ es) = ap (λ us. item_in value (item_of_entry e) ∷ us) (items_shown value es)

-- the items of a table, over numbers, are those that its words give
pub items_only : {F : Type 0} (limit : ℕ) (value : F → Rational) (labels later : List (List ℕ)) → ((text : List ℕ) (n : ℕ) → place_of labels text ≡ Some n → place_of later text ≡ Some n) → (parts : List TablePart) (es : List (Entry F)) → AreEntries limit value labels parts es →
    map (item_in value) (map item_of_entry es) ≡ map item_of_entry (entries_in later parts)
items_only limit value labels later keep parts es are = items_shown value es ∙ ap (map item_of_entry) (entries_only labels later keep limit value parts es are)
