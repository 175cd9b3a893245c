-- Headings and rows, word by word.
use Rattle.std.proofs.Common.{◌≡◌, ℕ, suc, ◌+◌, ◌<◌, List, [], ◌∷◌, ◌++◌, length, map, get_or, take, drop, Err, take-append-drop, drop-cons, sym, ap, ◌∙◌, subst, append_assoc, append-nil}
use Rattle.std.proofs.lemmas.List.{map_push, map-append, take_more}
use Rattle.gms_table.specs.declared.fault.TableFault.{TableFault}
use Rattle.gms_table.specs.declared.fault.TableFaultOrMemory.{TableFaultOrMemory}
use Rattle.gms_table.specs.declared.fault.TableFaultOrMemory.TheVariants.{Memory, Fault}
use Rattle.gms_table.specs.declared.heading.Heading.{Heading}
use Rattle.gms_table.specs.declared.word.Word.{Word as Kept}
use Rattle.gms_table.specs.Words.{Word}
use Rattle.gms_table.specs.WordLabels.{labels_of_word}
use Rattle.gms_table.specs.InnerShown.{seen, seen_all, AreHeadings}
use Rattle.gms_table.specs.InnerNames.{IsName, IsNoName, Enters}
use Rattle.gms_table.specs.TableEntries.{TablePart, name, IsFirstPartFault}
use Rattle.gms_table.specs.InnerProgress.{Progress, Refuses}
use Rattle.gms_table.proofs.LabelLemmas.{Stay, Stay-all_entered}
use Rattle.gms_table.proofs.HeadingLemmas.{AreHeadings-stay, AreHeadings-push}
use Rattle.gms_table.proofs.PartLemmas.{IsFirstFault-more}
use Rattle.gms_table.proofs.PartFaultLemmas.{name_fault, name_more}

-- labels stay where a name was entered
pub Stay-name : (before after : List (List ℕ)) (word : Word) (numbers : List ℕ) → IsName before after word numbers → Stay before after
Stay-name before after word numbers is = subst (Stay before) (sym is.table) (Stay-all_entered before (labels_of_word word))

module _ (limit : ℕ) (labels : List (List ℕ)) (before : List TablePart) where
  -- the parts of words and of one more
  names-push : (prefix : List Word) (word : Word) → before ++ map name (prefix ++ word ∷ []) ≡ (before ++ map name prefix) ++ name word ∷ []
  names-push prefix word = ap (λ ps. before ++ ps) (map_push name prefix word) ∙ sym (append_assoc before (map name prefix) (name word ∷ []))

  -- Headings so far.
  pub record HeadingsSoFar (prefix : List Word) (table : List (List ℕ)) (headings : List Heading) : Type 0 where
    pub progress : Progress limit labels (before ++ map name prefix) table
    pub are : AreHeadings table prefix headings

  -- no headings
  pub headings_none : (table : List (List ℕ)) (headings : List Heading) → headings ≡ [] → Progress limit labels before table → HeadingsSoFar [] table headings
  headings_none table headings none progress = record { progress = subst (λ ps. Progress limit labels ps table) (sym (append-nil before)) progress; are = none }

  -- one heading more
  pub headings_more : (prefix : List Word) (word : Word) (table after : List (List ℕ)) (headings : List Heading) (heading : Heading) → HeadingsSoFar prefix table headings → heading.column ≡ word.at.column → heading.end ≡ word.end → IsName table after word heading.labels.items → HeadingsSoFar (prefix ++ word ∷ []) after (headings ++ heading ∷ [])
  headings_more prefix word table after headings heading so_far column end is = record {
    progress = subst (λ ps. Progress limit labels ps after) (sym (names-push prefix word)) (name_more limit labels (before ++ map name prefix) word table after so_far.progress is.made is.table is.few);
    are = AreHeadings-push after prefix headings word heading (AreHeadings-stay table after (Stay-name table after word heading.labels.items is) prefix headings so_far.are) (record { column = column; end = end; numbers = is.numbers_are });
  }

  -- a word that is no heading
  pub headings_fault : (prefix : List Word) (word : Word) (others : List Word) (table : List (List ℕ)) (headings : List Heading) (fault : TableFault) → HeadingsSoFar prefix table headings → IsNoName table word fault → IsFirstPartFault limit labels (before ++ map name (prefix ++ word ∷ others)) fault
  headings_fault prefix word others table headings fault so_far is =
      let here = name_fault limit labels (before ++ map name prefix) word table fault so_far.progress is in
      let more = IsFirstFault-more limit labels ((before ++ map name prefix) ++ name word ∷ []) (map name others) fault here in
      let e : ((before ++ map name prefix) ++ name word ∷ []) ++ map name others ≡ before ++ map name (prefix ++ word ∷ others) = ap (λ ps. ps ++ map name others) (append_assoc before (map name prefix) (name word ∷ [])) ∙ append_assoc before (map name prefix ++ name word ∷ []) (map name others) ∙ ap (λ ps. before ++ ps) (append_assoc (map name prefix) (name word ∷ []) (map name others) ∙ sym (map-append name prefix (word ∷ others))) in
      subst (λ ps. IsFirstPartFault limit labels ps fault) e more

  -- what is answered in place of headings
  pub headings_refused : (prefix : List Word) (word : Word) (others all : List Word) (table after : List (List ℕ)) (headings : List Heading) (error : TableFaultOrMemory) → all ≡ prefix ++ word ∷ others → HeadingsSoFar prefix table headings → Enters table after word (Err error) → Refuses limit labels (before ++ map name all) error
  headings_refused prefix word others all table after headings (Fault fault) split so_far is =
      subst (λ ws. IsFirstPartFault limit labels (before ++ map name ws) fault) (sym split) (headings_fault prefix word others table headings fault so_far is)
  headings_refused prefix word others all table after headings Memory split so_far is = tt

-- a word that is not there
abbrev pub no_word : Kept
no_word = record { at = record { line = 0; column = 0 }; end = 0; text = record { ref_ptr = (0, 0); now = [] } }

-- the words up to one and with it
pub seen_all-more : (words : List Kept) (i : ℕ) → i < length words → seen_all (take (i + 1) words) ≡ seen_all (take i words) ++ seen (get_or words i no_word) ∷ []
seen_all-more words i l = ap seen_all (take_more words i no_word l) ∙ map_push seen (take i words) (get_or words i no_word)

-- all words, as those before one, that one, and those after it
pub seen_all-split : (words : List Kept) (i : ℕ) → i < length words → seen_all words ≡ seen_all (take i words) ++ seen (get_or words i no_word) ∷ seen_all (drop (suc i) words)
seen_all-split words i l =
    ap seen_all (sym (take-append-drop i words) ∙ ap (λ ws. take i words ++ ws) (drop-cons words i no_word l)) ∙ map-append seen (take i words) (get_or words i no_word ∷ drop (suc i) words)
