-- Parts of a table, in order.
use Rattle.std.proofs.Common.{◌≡◌, ℕ, List, [], ◌∷◌, ◌++◌, map, refl, sym, ap, ◌∙◌, subst, append_assoc, append-nil}
use Rattle.gq_number.specs.Number.{Number}
use Rattle.gms_table.specs.declared.entry.Entry.{Entry}
use Rattle.gms_table.specs.declared.fault.TableError.{TableError}
use Rattle.gms_table.specs.declared.fault.TableFault.{TableFault}
use Rattle.gms_table.specs.Words.{Word}
use Rattle.gms_table.specs.WordLabels.{labels_of_word}
use Rattle.gms_table.specs.TableEntries.{TablePart, name, cell, label_texts, IsEntry, AreEntries, IsPartFault, ArePartsFaultless, IsFirstPartFault}
use Rattle.gms_table.proofs.LabelLemmas.{Stay, AreNumbers-stay}

pub texts_of-append : (parts others : List TablePart) → label_texts (parts ++ others) ≡ label_texts parts ++ label_texts others
texts_of-append [] others = refl
texts_of-append (name word ∷ parts) others = ap (λ ts. labels_of_word word ++ ts) (texts_of-append parts others) ∙ sym (append_assoc (labels_of_word word) (label_texts parts) (label_texts others))
texts_of-append (cell row headings word ∷ parts) others = texts_of-append parts others

pub texts_of-cells : (row : Word) (headings words : List Word) → label_texts (map (cell row headings) words) ≡ []
texts_of-cells row headings [] = refl
texts_of-cells row headings (word ∷ words) = texts_of-cells row headings words

module _ {F : Type 0} (limit : ℕ) (value : F → Number) where
  -- entries stay those of their parts while labels keep their numbers
  pub AreEntries-stay : (before after : List (List ℕ)) → Stay before after → (parts : List TablePart) (entries : List (Entry F)) → AreEntries limit value before parts entries → AreEntries limit value after parts entries
  AreEntries-stay before after stay [] entries are = are
  AreEntries-stay before after stay (name word ∷ parts) entries are = AreEntries-stay before after stay parts entries are
  AreEntries-stay before after stay (cell row headings word ∷ parts) [] are = are
  AreEntries-stay before after stay (cell row headings word ∷ parts) (entry ∷ entries) are = (
    record {
      heading = are.0.heading;
      under_one = are.0.under_one;
      at = are.0.at;
      row_is = AreNumbers-stay before after stay entry.row (labels_of_word row) are.0.row_is;
      column_is = AreNumbers-stay before after stay entry.column (labels_of_word are.0.heading) are.0.column_is;
      value_is = are.0.value_is;
    },
    AreEntries-stay before after stay parts entries are.1,
  )

  -- a heading or a row label has no entry
  pub AreEntries-name : (labels : List (List ℕ)) (parts : List TablePart) (word : Word) (entries : List (Entry F)) → AreEntries limit value labels parts entries → AreEntries limit value labels (parts ++ name word ∷ []) entries
  AreEntries-name labels [] word entries are = are
  AreEntries-name labels (name w ∷ parts) word entries are = AreEntries-name labels parts word entries are
  AreEntries-name labels (cell row headings w ∷ parts) word [] are = are
  AreEntries-name labels (cell row headings w ∷ parts) word (entry ∷ entries) are = (are.0, AreEntries-name labels parts word entries are.1)

  -- a number has one
  pub AreEntries-cell : (labels : List (List ℕ)) (parts : List TablePart) (row : Word) (headings : List Word) (word : Word) (entries : List (Entry F)) (entry : Entry F) → AreEntries limit value labels parts entries → IsEntry limit value labels row headings word entry → AreEntries limit value labels (parts ++ cell row headings word ∷ []) (entries ++ entry ∷ [])
  AreEntries-cell labels [] row headings word [] entry are is = (is, refl)
  AreEntries-cell labels [] row headings word (e ∷ entries) entry are is = absurd (cc)
  AreEntries-cell labels (name w ∷ parts) row headings word entries entry are is = AreEntries-cell labels parts row headings word entries entry are is
  AreEntries-cell labels (cell r hs w ∷ parts) row headings word [] entry are is = absurd are
  AreEntries-cell labels (cell r hs w ∷ parts) row headings word (e ∷ entries) entry are is = (are.0, AreEntries-cell labels parts row headings word entries entry are.1 is)

module _ (limit : ℕ) (labels : List (List ℕ)) where
  -- one part more, at which there is nothing
  pub AreSound-push : (before parts : List TablePart) (part : TablePart) → ArePartsFaultless limit labels before parts → ((error : TableError) → ¬ IsPartFault limit labels (before ++ parts) part error) → ArePartsFaultless limit labels before (parts ++ part ∷ [])
  AreSound-push before [] part sound none = ((λ error h. none error (subst (λ ps. IsPartFault limit labels ps part error) (sym (append-nil before)) h)), tt)
  AreSound-push before (p ∷ parts) part sound none =
      (sound.0, AreSound-push (before ++ p ∷ []) parts part sound.1 (λ error h. none error (subst (λ ps. IsPartFault limit labels ps part error) (append_assoc before (p ∷ []) parts) h)))

  -- a first fault remains the first with more parts after it
  pub IsFirstFault-more : (parts others : List TablePart) (fault : TableFault) → IsFirstPartFault limit labels parts fault → IsFirstPartFault limit labels (parts ++ others) fault
  IsFirstFault-more parts others fault first = record {
    before = first.before;
    part = first.part;
    following = first.following ++ others;
    parts_are = ap (λ ps. ps ++ others) first.parts_are ∙ append_assoc first.before (first.part ∷ first.following) others;
    sound = first.sound;
    at = first.at;
    occurs = first.occurs;
    least = first.least;
  }
