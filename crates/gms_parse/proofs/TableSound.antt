-- Lines of a table without a fault have entries.
use Rattle.std.proofs.Common.{◌≡◌, ◌⊎◌, ℕ, zero, suc, ◌<◌, Bool, true, false, cond, List, [], ◌∷◌, ◌++◌, length, map, Option, Some, refl, sym, ap, ap₂, ◌∙◌, subst, append_assoc, arith, inl, inr}
use Rattle.std.proofs.lemmas.Bool.{cases_lt}
use Rattle.gq_number.specs.Number.{Number as Rational}
use Rattle.gms_table.specs.declared.fault.TableError.{TableError}
use Rattle.gms_table.specs.declared.fault.TableError.TheVariants.{NoColumn, TwoColumns, BadRow}
use Rattle.gms_table.specs.declared.fault.TableFault.{TableFault}
use Rattle.gms_table.specs.Faults.{table_error_code}
use Rattle.gms_table.specs.Words.{Word}
use Rattle.gms_table.specs.WordLabels.{AreLabelNumbers, labels_of_word}
use Rattle.gms_table.specs.CellNumbers.{unsigned, signed_number, IsValue}
use Rattle.gms_table.specs.TableEntries.{TablePart, name, cell, is_plus, under, table_of, label_texts, place_of_part, meet, met, IsEntry, AreEntries, IsPartFault, ArePartsFaultless, IsFirstPartFault}
use Rattle.gms_table.proofs.LabelLemmas.{Stay}
use Rattle.gms_table.proofs.PartLemmas.{texts_of-append, AreSound-push}
use Rattle.gms_expressions.specs.ExpressionTrees.{or_0}
use Rattle.gms_expressions.proofs.Valued.{number_in_is}
use Rattle.gms_parse.specs.Tables.{numbers_of_labels, entry_under, entries_in}
use Rattle.gms_parse.specs.InnerMeanings.{AreThere}
use Rattle.gms_parse.proofs.Decided.{value_told}

-- ---- a table without a fault is sound

module _ (limit : ℕ) (labels : List (List ℕ)) (parts : List TablePart) (none : (fault : TableFault) → IsFirstPartFault limit labels parts fault → ⊥) where
  valid : (before : List TablePart) (part : TablePart) (left : List TablePart) → parts ≡ before ++ (part ∷ left) → ArePartsFaultless limit labels [] before → (n : ℕ) (error : TableError) → table_error_code error < n → IsPartFault limit labels before part error → ⊥
  valid before part left e sound zero error l h = omega (arith, l)
  valid before part left e sound (suc n) error l h = none (record { error = error; at = place_of_part part }) (record {
    before = before;
    part = part;
    following = left;
    parts_are = e;
    sound = sound;
    at = refl;
    occurs = h;
    least = λ other k. elim (cases_lt (table_error_code other) (table_error_code error)) [
      | inl less ↦ absurd (valid before part left e sound n other (omega (arith, l, less)) k)
      | inr more ↦ more
    ];
  })

  sound_from : (before left : List TablePart) → parts ≡ before ++ left → ArePartsFaultless limit labels [] before → ArePartsFaultless limit labels before left
  sound_from before [] e sound = tt
  sound_from before (part ∷ left) e sound =
      let here : (error : TableError) → IsPartFault limit labels before part error → ⊥ = λ error h. valid before part left e sound (suc (table_error_code error)) error (omega arith) h in
      (here, sound_from (before ++ part ∷ []) left (e ∙ sym (append_assoc before (part ∷ []) left)) (AreSound-push limit labels [] before part sound here))

  pub sound_table : ArePartsFaultless limit labels [] parts
  sound_table = sound_from [] parts refl tt

-- ---- labels that have numbers

placed_prefix : (labels u v : List (List ℕ)) → AreThere labels (u ++ v) → AreThere labels u
placed_prefix labels [] v h = tt
placed_prefix labels (t ∷ u) v h = (h.0, placed_prefix labels u v h.1)

placed_rest : (labels u v : List (List ℕ)) → AreThere labels (u ++ v) → AreThere labels v
placed_rest labels [] v h = h
placed_rest labels (t ∷ u) v h = placed_rest labels u v h.1

pub placed_stay : (before after : List (List ℕ)) → Stay before after → (texts : List (List ℕ)) → AreThere before texts → AreThere after texts
placed_stay before after stay [] h = tt
placed_stay before after stay (t ∷ texts) h = ((h.0.0, stay.stays t h.0.0 h.0.1), placed_stay before after stay texts h.1)

-- these are the numbers of texts that have some
numbered : (labels texts : List (List ℕ)) → AreThere labels texts → AreLabelNumbers labels (numbers_of_labels labels texts) texts
numbered labels [] h = refl
numbered labels (t ∷ texts) h = ap₂ (λ (a : Option ℕ) (b : List (Option ℕ)). a ∷ b) (ap (λ (o : Option ℕ). Some (or_0 o)) h.0.1 ∙ sym h.0.1) (numbered labels texts h.1)

-- ---- the rows and headings of numbers

module _ (labels : List (List ℕ)) where
  -- the labels of each of these words have numbers
  abbrev pub HavePlaces : List Word → Type 0
  HavePlaces [] = Unit {0}
  HavePlaces (word ∷ words) = AreThere labels (labels_of_word word) × HavePlaces words

  -- the labels of a row, and those of the headings that hold there
  pub record CellPlaced (row : Word) (headings : List Word) : Type 0 where
    pub row_there : AreThere labels (labels_of_word row)
    pub headings_there : HavePlaces headings

  -- the same of each number
  abbrev pub CellsPlaced : List TablePart → Type 0
  CellsPlaced [] = Unit {0}
  CellsPlaced (name word ∷ parts) = CellsPlaced parts
  CellsPlaced (cell row headings word ∷ parts) = CellPlaced row headings × CellsPlaced parts

  names_placed : (words : List Word) → AreThere labels (label_texts (map name words)) → HavePlaces words
  names_placed [] h = tt
  names_placed (word ∷ words) h =
      (placed_prefix labels (labels_of_word word) (label_texts (map name words)) h, names_placed words (placed_rest labels (labels_of_word word) (label_texts (map name words)) h))

  after_names : (words : List Word) (rest : List TablePart) → CellsPlaced rest → CellsPlaced (map name words ++ rest)
  after_names [] rest h = h
  after_names (word ∷ words) rest h = after_names words rest h

  cells_placed : (row : Word) (headings words : List Word) (rest : List TablePart) → CellPlaced row headings → CellsPlaced rest → CellsPlaced (map (cell row headings) words ++ rest)
  cells_placed row headings [] rest h k = k
  cells_placed row headings (word ∷ words) rest h k = (h, cells_placed row headings words rest h k)

  texts_after : (row : Word) (headings words : List Word) (rest : List TablePart) → label_texts (map (cell row headings) words ++ rest) ≡ label_texts rest
  texts_after row headings [] rest = refl
  texts_after row headings (word ∷ words) rest = texts_after row headings words rest

  placed_under : (headings : List Word) (lines : List (List Word)) → HavePlaces headings → AreThere labels (label_texts (under headings lines)) → CellsPlaced (under headings lines)
  placed_under headings [] k h = tt
  placed_under headings ([] ∷ lines) k h = placed_under headings lines k h
  placed_under headings ((first ∷ words) ∷ lines) k h = go (λ others p q. placed_under others lines p q) (is_plus first) h
    where
      go : ((others : List Word) → HavePlaces others → AreThere labels (label_texts (under others lines)) → CellsPlaced (under others lines)) → (b : Bool) → AreThere labels (label_texts (cond b (map name words ++ under words lines) (name first ∷ (map (cell first headings) words ++ under headings lines)))) →
          CellsPlaced (cond b (map name words ++ under words lines) (name first ∷ (map (cell first headings) words ++ under headings lines)))
      go below true g =
          let split : AreThere labels (label_texts (map name words) ++ label_texts (under words lines)) = subst (λ (ts : List (List ℕ)). AreThere labels ts) (texts_of-append (map name words) (under words lines)) g in
          let there = names_placed words (placed_prefix labels (label_texts (map name words)) (label_texts (under words lines)) split) in
          after_names words (under words lines) (below words there (placed_rest labels (label_texts (map name words)) (label_texts (under words lines)) split))
      go below false g =
          let there : CellPlaced first headings = record { row_there = placed_prefix labels (labels_of_word first) (label_texts (map (cell first headings) words ++ under headings lines)) g; headings_there = k } in
          let others : AreThere labels (label_texts (under headings lines)) = subst (λ (ts : List (List ℕ)). AreThere labels ts) (texts_after first headings words (under headings lines)) (placed_rest labels (labels_of_word first) (label_texts (map (cell first headings) words ++ under headings lines)) g) in
          cells_placed first headings words (under headings lines) there (below headings k others)

  pub placed_table : (lines : List (List Word)) → AreThere labels (label_texts (table_of lines)) → CellsPlaced (table_of lines)
  placed_table [] h = tt
  placed_table ([] ∷ lines) h = placed_table lines h
  placed_table ((first ∷ words) ∷ lines) h =
      let split : AreThere labels (label_texts (map name (first ∷ words)) ++ label_texts (under (first ∷ words) lines)) = subst (λ (ts : List (List ℕ)). AreThere labels ts) (texts_of-append (map name (first ∷ words)) (under (first ∷ words) lines)) h in
      let there = names_placed (first ∷ words) (placed_prefix labels (label_texts (map name (first ∷ words))) (label_texts (under (first ∷ words) lines)) split) in
      after_names (first ∷ words) (under (first ∷ words) lines) (placed_under (first ∷ words) lines there (placed_rest labels (label_texts (map name (first ∷ words))) (label_texts (under (first ∷ words) lines)) split))

  met_placed : (headings : List Word) (word : Word) → HavePlaces headings → HavePlaces (met headings word)
  met_placed [] word h = tt
  met_placed (heading ∷ headings) word h = go (met_placed headings word h.1) (meet word heading)
    where
      go : HavePlaces (met headings word) → (b : Bool) → HavePlaces (cond b (heading ∷ met headings word) (met headings word))
      go others true = (h.0, others)
      go others false = others

  -- ---- entries

  module _ (limit : ℕ) (old : List (List ℕ)) where
    cell_entry : (before : List TablePart) (row : Word) (headings : List Word) (word : Word) → CellPlaced row headings → ((error : TableError) → IsPartFault limit old before (cell row headings word) error → ⊥) → IsEntry limit (λ x. x) labels row headings word (entry_under labels row word (met headings word))
    cell_entry before row headings word there none = by_value (value_told limit word.text)
      where
        by_met : (x : Rational) → IsValue limit word.text x → (found : List Word) → met headings word ≡ found → HavePlaces found → IsEntry limit (λ x. x) labels row headings word (entry_under labels row word found)
        by_met x value [] e h = absurd (none NoColumn ((value.magnitude, value.means), e))
        by_met x value (heading ∷ []) e h = record {
          heading = heading;
          under_one = e;
          at = refl;
          row_is = numbered labels (labels_of_word row) there.row_there;
          column_is = numbered labels (labels_of_word heading) h.0;
          value_is = record { magnitude = value.magnitude; means = value.means; fits = value.fits; value = ap (signed_number word.text) (number_in_is (unsigned word.text) value.magnitude value.means) };
        }
        by_met x value (heading ∷ (other ∷ others)) e h =
            let many : length (met headings word) ≡ suc (suc (length others)) = ap length e in
            absurd (none TwoColumns ((value.magnitude, value.means), omega (arith, many)))

        by_value : ((x : Rational) × IsValue limit word.text x) ⊎ ((x : Rational) → IsValue limit word.text x → ⊥) → IsEntry limit (λ x. x) labels row headings word (entry_under labels row word (met headings word))
        by_value (inl v) = by_met v.0 v.1 (met headings word) refl (met_placed headings word there.headings_there)
        by_value (inr without) = absurd (none BadRow without)

    pub entries_there : (before parts : List TablePart) → ArePartsFaultless limit old before parts → CellsPlaced parts → AreEntries limit (λ x. x) labels parts (entries_in labels parts)
    entries_there before [] sound placed = refl
    entries_there before (name word ∷ parts) sound placed = entries_there (before ++ name word ∷ []) parts sound.1 placed
    entries_there before (cell row headings word ∷ parts) sound placed = (cell_entry before row headings word placed.0 sound.0, entries_there (before ++ cell row headings word ∷ []) parts sound.1 placed.1)
