-- A table has one list of entries or one first fault.
use Rattle.std.proofs.Common.{◌≡◌, ℕ, List, [], ◌∷◌, map, refl, sym, ap, ◌∙◌, subst, inl, inr}
use Rattle.std.specs.Prelude.{string_bytes}
use Rattle.gq_number.specs.Number.{Number}
use Rattle.gms_table.specs.declared.entry.Entry.{Entry}
use Rattle.gms_table.specs.declared.entry.TableLine.{TableLine}
use Rattle.gms_table.specs.declared.fault.TableFault.{TableFault}
use Rattle.gms_table.specs.declared.fault.TableError.TheVariants.{NoHeading}
use Rattle.gms_table.specs.Words.{words_of}
use Rattle.gms_table.specs.WordLabels.{all_entered}
use Rattle.gms_table.specs.TableEntries.{TablePart, name, cell, nowhere, table_parts, label_texts, AreEntries, ArePartsFaultless, IsTable, IsTableFault}
use Rattle.gms_grammar.proofs.Orders.{some_there}
use Rattle.gms_parse.specs.Tables.{entries_in}
use Rattle.gms_parse.proofs.Ranges.{entered_there}
use Rattle.gms_parse.proofs.TableFaults.{occurs_not, one_first}
use Rattle.gms_parse.proofs.TableItems.{entries_only}
use Rattle.gms_parse.proofs.TableSound.{sound_table, placed_table, entries_there}
use Rattle.gms_laws.specs.Tables.{meant_entry, HasEntries}

-- ---- entries over numbers

module _ {F : Type 0} (limit : ℕ) (value : F → Number) (labels : List (List ℕ)) where
  entries_seen : (parts : List TablePart) (entries : List (Entry F)) → AreEntries limit value labels parts entries → AreEntries limit (λ x. x) labels parts (map (meant_entry value) entries)
  entries_seen [] entries are = ap (map (meant_entry value)) are
  entries_seen (name word ∷ parts) entries are = entries_seen parts entries are
  entries_seen (cell row headings word ∷ parts) [] are = absurd are
  entries_seen (cell row headings word ∷ parts) (entry ∷ entries) are =
      (record { heading = are.0.heading; under_one = are.0.under_one; at = are.0.at; row_is = are.0.row_is; column_is = are.0.column_is; value_is = are.0.value_is }, entries_seen parts entries are.1)

  pub seen_so : (lines : List TableLine) (before : List (List ℕ)) (entries : List (Entry F)) → IsTable limit value lines before labels entries → HasEntries limit lines before labels (map (meant_entry value) entries)
  seen_so lines before entries t =
      record { headed = t.headed; sound = t.sound; labels_are = t.labels_are; entries_are = entries_seen (table_parts lines) entries t.entries_are }

same_entries : (entries : List (Entry Number)) → map (meant_entry (λ x. x)) entries ≡ entries
same_entries [] = refl
same_entries (entry ∷ entries) = ap (λ (rest : List (Entry Number)). entry ∷ rest) (same_entries entries)

-- ---- one and not both

module _ (limit : ℕ) (lines : List TableLine) (before : List (List ℕ)) where
  given : (after : List (List ℕ)) (entries : List (Entry Number)) → HasEntries limit lines before after entries → entries ≡ entries_in after (table_parts lines)
  given after entries t =
      sym (same_entries entries) ∙ entries_only after after (λ text n there. there) limit (λ x. x) (table_parts lines) entries t.entries_are

  pub one_list : (after last : List (List ℕ)) (one other : List (Entry Number)) → HasEntries limit lines before after one → HasEntries limit lines before last other → (one ≡ other) × (after ≡ last)
  one_list after last one other t u =
      let labels : after ≡ last = t.labels_are ∙ sym u.labels_are in
      (given after one t ∙ ap (λ (ls : List (List ℕ)). entries_in ls (table_parts lines)) labels ∙ sym (given last other u), labels)

  pub one_fault : (one other : TableFault) → IsTableFault limit lines before one → IsTableFault limit lines before other → one ≡ other
  one_fault one other (inl a) (inl b) = a.1 ∙ sym b.1
  one_fault one other (inl a) (inr b) = absurd (some_there b.before b.part b.following (sym a.0 ∙ b.parts_are))
  one_fault one other (inr a) (inl b) = absurd (some_there a.before a.part a.following (sym b.0 ∙ a.parts_are))
  one_fault one other (inr a) (inr b) = one_first limit before (table_parts lines) one other a b

  pub not_both : (after : List (List ℕ)) (entries : List (Entry Number)) (fault : TableFault) → HasEntries limit lines before after entries → IsTableFault limit lines before fault → ⊥
  not_both after entries fault t (inl none) = t.headed none.0
  not_both after entries fault t (inr f) =
      occurs_not limit before [] f.before f.part f.following fault.error (subst (λ (ps : List TablePart). ArePartsFaultless limit before [] ps) f.parts_are t.sound) f.occurs

  pub not_neither : ((fault : TableFault) → IsTableFault limit lines before fault → ⊥) → (after : List (List ℕ)) × ((entries : List (Entry Number)) × HasEntries limit lines before after entries)
  not_neither none =
      let after = all_entered before (label_texts (table_parts lines)) in
      let sound = sound_table limit before (table_parts lines) (λ fault first. none fault (inr first)) in
      let placed = placed_table after (map (λ (line : TableLine). words_of line.line (string_bytes line.text)) lines) (entered_there before (label_texts (table_parts lines))) in (
        after,
        (
          entries_in after (table_parts lines),
          record {
            headed = λ empty. none (record { error = NoHeading; at = nowhere }) (inl (empty, refl));
            sound = sound;
            labels_are = refl;
            entries_are = entries_there after limit before [] (table_parts lines) sound placed;
          },
        ),
      )
