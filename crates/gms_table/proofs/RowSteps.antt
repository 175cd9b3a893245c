-- Rows, word by word and line by line.
use Rattle.std.proofs.Common.{◌≡◌, ℕ, ◌≤◌, true, false, List, [], ◌∷◌, ◌++◌, map, Err, refl, sym, ap, ◌∙◌, subst, append_assoc, append-nil, arith}
use Rattle.std.proofs.lemmas.List.{map_push, map-append}
use Rattle.gq_number.specs.Number.{Number}
use Rattle.gms_table.specs.declared.entry.Entry.{Entry}
use Rattle.gms_table.specs.declared.fault.TableFaultOrMemory.{TableFaultOrMemory}
use Rattle.gms_table.specs.declared.fault.TableFaultOrMemory.TheVariants.{Memory, Fault}
use Rattle.gms_table.specs.declared.heading.Heading.{Heading}
use Rattle.gms_table.specs.Words.{Word}
use Rattle.gms_table.specs.WordLabels.{all_entered}
use Rattle.gms_table.specs.InnerShown.{AreSpacedFrom, AreSpaced, AreHeadings}
use Rattle.gms_table.specs.InnerNames.{IsName, Enters}
use Rattle.gms_table.specs.TableEntries.{TablePart, name, cell, is_plus, under, label_texts, AreEntries}
use Rattle.gms_table.specs.InnerProgress.{Progress, Refuses, IsRow, Keeps, LinesSoFar, row_parts}
use Rattle.gms_table.proofs.LabelLemmas.{Stay, Stay-all_entered, all_entered-append}
use Rattle.gms_table.proofs.HeadingLemmas.{AreHeadings-stay}
use Rattle.gms_table.proofs.PartLemmas.{texts_of-append, AreEntries-stay, AreEntries-name, IsFirstFault-more}
use Rattle.gms_table.proofs.RowLemmas.{Stay-name}
use Rattle.gms_table.proofs.PartFaultLemmas.{name_fault, name_more}

-- what is answered in place of some parts is answered in place of more
pub Refuses-more : (limit : ℕ) (labels : List (List ℕ)) (parts others all : List TablePart) (error : TableFaultOrMemory) → all ≡ parts ++ others → Refuses limit labels parts error → Refuses limit labels all error
Refuses-more limit labels parts others all (Fault fault) is refused = subst (λ ps. Refuses limit labels ps (Fault fault)) (sym is) (IsFirstFault-more limit labels parts others fault refused)
Refuses-more limit labels parts others all Memory is refused = tt

module _ {F : Type 0} (limit : ℕ) (value : F → Number) (labels : List (List ℕ)) (before : List TablePart) where
  -- A row so far.
  pub record RowSoFar (label : Word) (names prefix : List Word) (table : List (List ℕ)) (entries : List (Entry F)) (row : List ℕ) (headings : List Heading) : Type 0 where
    pub keeps : Keeps limit value labels (before ++ row_parts label names prefix) table entries
    pub is : IsRow table label names row headings

  -- the row's label was entered
  pub row_begun : (label : Word) (names : List Word) (table after : List (List ℕ)) (entries : List (Entry F)) (row : List ℕ) (headings : List Heading) → Keeps limit value labels before table entries → AreHeadings table names headings → AreSpaced names → IsName table after label row → RowSoFar label names [] after entries row headings
  row_begun label names table after entries row headings keeps are spaced is =
      let stay = Stay-name table after label row is in
      record {
        keeps = record {
          progress = name_more limit labels before label table after keeps.progress is.made is.table is.few;
          entries_are = AreEntries-name limit value after before label entries (AreEntries-stay limit value table after stay before entries keeps.entries_are);
        };
        is = record { row_is = is.numbers_are; headings_are = AreHeadings-stay table after stay names headings are; spaced = spaced };
      }

  -- the row's label is none
  pub row_refused : (label : Word) (names words : List Word) (table after : List (List ℕ)) (entries : List (Entry F)) (error : TableFaultOrMemory) → Keeps limit value labels before table entries → Enters table after label (Err error) → Refuses limit labels (before ++ row_parts label names words) error
  row_refused label names words table after entries (Fault fault) keeps is =
      Refuses-more limit labels (before ++ name label ∷ []) (map (cell label names) words) (before ++ row_parts label names words) (Fault fault) (sym (append_assoc before (name label ∷ []) (map (cell label names) words))) (name_fault limit labels before label table fault keeps.progress is)
  row_refused label names words table after entries Memory keeps is = tt

  -- the parts of a row with one word more
  pub row_parts-push : (label : Word) (names prefix : List Word) (word : Word) → before ++ row_parts label names (prefix ++ word ∷ []) ≡ (before ++ row_parts label names prefix) ++ cell label names word ∷ []
  row_parts-push label names prefix word =
      ap (λ ps. before ++ (name label ∷ ps)) (map_push (cell label names) prefix word) ∙ sym (append_assoc before (row_parts label names prefix) (cell label names word ∷ []))

  -- a number more
  pub row_more : (label : Word) (names prefix : List Word) (word : Word) (table : List (List ℕ)) (entries after : List (Entry F)) (row : List ℕ) (headings : List Heading) → RowSoFar label names prefix table entries row headings → Keeps limit value labels ((before ++ row_parts label names prefix) ++ cell label names word ∷ []) table after → RowSoFar label names (prefix ++ word ∷ []) table after row headings
  row_more label names prefix word table entries after row headings so_far keeps = record {
    keeps = subst (λ ps. Keeps limit value labels ps table after) (sym (row_parts-push label names prefix word)) keeps;
    is = so_far.is;
  }

  -- a number that is none
  pub number_refused : (label : Word) (names prefix : List Word) (word : Word) (others all : List Word) (error : TableFaultOrMemory) → all ≡ prefix ++ word ∷ others → Refuses limit labels ((before ++ row_parts label names prefix) ++ cell label names word ∷ []) error → Refuses limit labels (before ++ row_parts label names all) error
  number_refused label names prefix word others all error split refused =
      Refuses-more limit labels ((before ++ row_parts label names prefix) ++ cell label names word ∷ []) (map (cell label names) others) (before ++ row_parts label names all) error
      (ap (λ ws. before ++ (name label ∷ map (cell label names) ws)) split
      ∙ ap (λ ps. before ++ (name label ∷ ps)) (map-append (cell label names) prefix (word ∷ others))
      ∙ sym (append_assoc (before ++ row_parts label names prefix) (cell label names word ∷ []) (map (cell label names) others) ∙ append_assoc before (row_parts label names prefix) (cell label names word ∷ map (cell label names) others)))
      refused

-- labels stay while more parts are read
pub Stay-progress : (limit : ℕ) (labels : List (List ℕ)) (parts more : List TablePart) (table after : List (List ℕ)) → Progress limit labels parts table → Progress limit labels (parts ++ more) after → Stay table after
Stay-progress limit labels parts more table after p q =
    subst (λ (t : List (List ℕ)). Stay t after) (sym p.table_is) (subst (Stay (all_entered labels (label_texts parts))) (sym (q.table_is ∙ ap (all_entered labels) (texts_of-append parts more) ∙ all_entered-append labels (label_texts parts) (label_texts more))) (Stay-all_entered (all_entered labels (label_texts parts)) (label_texts more)))

-- ---- lines

AreSpacedFrom-weaker : (low high : ℕ) (words : List Word) → low ≤ high → AreSpacedFrom high words → AreSpacedFrom low words
AreSpacedFrom-weaker low high [] le spaced = tt
AreSpacedFrom-weaker low high (word ∷ words) le spaced = (omega (arith, spaced.0), spaced.1, spaced.2)

-- the words after the first are in order too
pub AreSpaced-rest : (first : Word) (words : List Word) → AreSpaced (first ∷ words) → AreSpaced words
AreSpaced-rest first words spaced = AreSpacedFrom-weaker 0 first.end words (omega arith) spaced.2

module _ {F : Type 0} (limit : ℕ) (value : F → Number) (labels : List (List ℕ)) (before : List TablePart) (begun : List Word) (all : List (List Word)) where
  abbrev pub SoFar : List (List Word) → List (List ℕ) → List (Entry F) → List Heading → Type 0
  SoFar rest table entries headings = LinesSoFar limit value labels before begun all rest table entries headings

  pub lines_begun : (table : List (List ℕ)) (entries : List (Entry F)) (headings : List Heading) → Keeps limit value labels before table entries → AreHeadings table begun headings → AreSpaced begun → SoFar all table entries headings
  lines_begun table entries headings keeps are spaced = record {
    done = [];
    names = begun;
    keeps = subst (λ ps. Keeps limit value labels ps table entries) (sym (append-nil before)) keeps;
    are = are;
    spaced = spaced;
    parts_are = refl;
  }

  -- a line without words
  pub line_empty : (words : List Word) (rest : List (List Word)) (table : List (List ℕ)) (entries : List (Entry F)) (headings : List Heading) → words ≡ [] → SoFar (words ∷ rest) table entries headings → SoFar rest table entries headings
  line_empty words rest table entries headings none so_far = record {
    done = so_far.done;
    names = so_far.names;
    keeps = so_far.keeps;
    are = so_far.are;
    spaced = so_far.spaced;
    parts_are = so_far.parts_are ∙ ap (λ ws. so_far.done ++ under so_far.names (ws ∷ rest)) none;
  }

  module _ (words : List Word) (first : Word) (others : List Word) (rest : List (List Word)) (table : List (List ℕ)) (entries : List (Entry F)) (headings : List Heading) (words_are : words ≡ first ∷ others) (spaced : AreSpaced words) (so_far : SoFar (words ∷ rest) table entries headings) where
    -- the parts of a line of headings
    plus_parts : is_plus first ≡ true → under begun all ≡ (so_far.done ++ map name others) ++ under others rest
    plus_parts plus =
        so_far.parts_are ∙ ap (λ ws. so_far.done ++ under so_far.names (ws ∷ rest)) words_are ∙ ap (λ ps. so_far.done ++ ps) (let e : under so_far.names ((first ∷ others) ∷ rest) ≡ map name others ++ under others rest = rw plus refl in e) ∙ sym (append_assoc so_far.done (map name others) (under others rest))

    -- a line of headings
    pub line_plus : is_plus first ≡ true → (after : List (List ℕ)) (new : List Heading) → Stay table after → Progress limit labels ((before ++ so_far.done) ++ map name others) after → AreHeadings after others new → SoFar rest after entries new
    line_plus plus after new stay progress are = record {
      done = so_far.done ++ map name others;
      names = others;
      keeps = record {
        progress = subst (λ ps. Progress limit labels ps after) (append_assoc before so_far.done (map name others)) progress;
        entries_are = subst (λ ps. AreEntries limit value after ps entries) (append_assoc before so_far.done (map name others)) (AreEntries-names after (before ++ so_far.done) others (AreEntries-stay limit value table after stay (before ++ so_far.done) entries so_far.keeps.entries_are));
      };
      are = are;
      spaced = AreSpaced-rest first others (subst AreSpaced words_are spaced);
      parts_are = plus_parts plus;
    }
      where
        AreEntries-names : (after : List (List ℕ)) (parts : List TablePart) (words : List Word) → AreEntries limit value after parts entries → AreEntries limit value after (parts ++ map name words) entries
        AreEntries-names after parts [] are = subst (λ ps. AreEntries limit value after ps entries) (sym (append-nil parts)) are
        AreEntries-names after parts (word ∷ words) are = subst (λ ps. AreEntries limit value after ps entries) (append_assoc parts (name word ∷ []) (map name words)) (AreEntries-names after (parts ++ name word ∷ []) words (AreEntries-name limit value after parts word entries are))

    pub plus_refused : is_plus first ≡ true → (error : TableFaultOrMemory) → Refuses limit labels ((before ++ so_far.done) ++ map name others) error → Refuses limit labels (before ++ under begun all) error
    plus_refused plus error refused =
        Refuses-more limit labels ((before ++ so_far.done) ++ map name others) (under others rest) (before ++ under begun all) error (ap (λ ps. before ++ ps) (plus_parts plus) ∙ sym (append_assoc before (so_far.done ++ map name others) (under others rest)) ∙ ap (λ ps. ps ++ under others rest) (sym (append_assoc before so_far.done (map name others)))) refused

    -- the parts of a row
    line_parts : is_plus first ≡ false → under begun all ≡ (so_far.done ++ row_parts first so_far.names others) ++ under so_far.names rest
    line_parts plain =
        so_far.parts_are ∙ ap (λ ws. so_far.done ++ under so_far.names (ws ∷ rest)) words_are ∙ ap (λ ps. so_far.done ++ ps) (let e : under so_far.names ((first ∷ others) ∷ rest) ≡ row_parts first so_far.names others ++ under so_far.names rest = rw plain refl in e) ∙ sym (append_assoc so_far.done (row_parts first so_far.names others) (under so_far.names rest))

    -- a row
    pub line_row : is_plus first ≡ false → (after : List (List ℕ)) (more : List (Entry F)) → Stay table after → Keeps limit value labels ((before ++ so_far.done) ++ row_parts first so_far.names others) after more → SoFar rest after more headings
    line_row plain after more stay keeps = record {
      done = so_far.done ++ row_parts first so_far.names others;
      names = so_far.names;
      keeps = subst (λ ps. Keeps limit value labels ps after more) (append_assoc before so_far.done (row_parts first so_far.names others)) keeps;
      are = AreHeadings-stay table after stay so_far.names headings so_far.are;
      spaced = so_far.spaced;
      parts_are = line_parts plain;
    }

    pub line_refused : is_plus first ≡ false → (error : TableFaultOrMemory) → Refuses limit labels ((before ++ so_far.done) ++ row_parts first so_far.names others) error → Refuses limit labels (before ++ under begun all) error
    line_refused plain error refused =
        Refuses-more limit labels ((before ++ so_far.done) ++ row_parts first so_far.names others) (under so_far.names rest) (before ++ under begun all) error (ap (λ ps. before ++ ps) (line_parts plain) ∙ sym (append_assoc before (so_far.done ++ row_parts first so_far.names others) (under so_far.names rest)) ∙ ap (λ ps. ps ++ under so_far.names rest) (sym (append_assoc before so_far.done (row_parts first so_far.names others)))) refused

  -- all lines were read
  pub lines_read : (rest : List (List Word)) (table : List (List ℕ)) (entries : List (Entry F)) (headings : List Heading) → rest ≡ [] → SoFar rest table entries headings → Keeps limit value labels (before ++ under begun all) table entries
  lines_read rest table entries headings none so_far =
      subst (λ ps. Keeps limit value labels (before ++ ps) table entries) (sym (so_far.parts_are ∙ ap (λ ls. so_far.done ++ under so_far.names ls) none ∙ append-nil so_far.done)) so_far.keeps
