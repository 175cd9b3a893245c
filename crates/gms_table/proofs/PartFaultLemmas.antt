-- The errors at a part of a table.
use Rattle.std.proofs.Common.{◌≡◌, inl, inr, ℕ, ◌<◌, ◌≤◌, List, [], ◌∷◌, ◌++◌, length, None, refl, sym, ap, ◌∙◌, subst, append-nil, arith}
use Rattle.std.specs.List.{Contains}
use Rattle.gq_number.specs.Number.{Number}
use Rattle.gms_table.specs.declared.fault.TableError.{TableError}
use Rattle.gms_table.specs.declared.fault.TableError.TheVariants.{NoColumn, TwoColumns, RepeatedEntry, BadRow, NoHeading, Labels}
use Rattle.gms_table.specs.declared.fault.TableFault.{TableFault}
use Rattle.gms_table.specs.Words.{Word}
use Rattle.gms_labels.specs.Labels.{most_labels}
use Rattle.gms_table.specs.WordLabels.{labels_of_text, labels_of_word, all_entered}
use Rattle.gms_table.specs.CellNumbers.{IsNumberText, IsValue}
use Rattle.gms_table.specs.Faults.{table_error_code}
use Rattle.gms_table.specs.InnerNames.{IsNoName}
use Rattle.gms_table.specs.InnerProgress.{Progress}
use Rattle.gms_table.specs.TableEntries.{TablePart, name, cell, place_of_part, met, label_texts, keys_of, key_of, IsPartFault, ArePartsFaultless, IsFirstPartFault}
use Rattle.gms_table.proofs.LabelLemmas.{all_entered-append}
use Rattle.gms_table.proofs.PartLemmas.{texts_of-append, AreSound-push}

-- each error has a number
some_code : (error : TableError) → 21 ≤ table_error_code error
some_code NoColumn = omega arith
some_code TwoColumns = omega arith
some_code RepeatedEntry = omega arith
some_code BadRow = omega arith
some_code NoHeading = omega arith
some_code Labels = omega arith

module _ (limit : ℕ) (labels : List (List ℕ)) where
  -- the least error at the part after sound ones is the first fault
  first_fault : (before : List TablePart) (part : TablePart) (fault : TableFault) (error : TableError) → ArePartsFaultless limit labels [] before → fault.at ≡ place_of_part part → fault.error ≡ error → IsPartFault limit labels before part error → ((other : TableError) → IsPartFault limit labels before part other → table_error_code error ≤ table_error_code other) → IsFirstPartFault limit labels (before ++ part ∷ []) fault
  first_fault before part fault error sound at is occurs least = record {
    before = before;
    part = part;
    following = [];
    parts_are = refl;
    sound = sound;
    at = at;
    occurs = subst (IsPartFault limit labels before part) (sym is) occurs;
    least = λ other h. subst (λ e. table_error_code e ≤ table_error_code other) (sym is) (least other h);
  }

  -- ---- headings and row labels

  least_at_name : (before : List TablePart) (word : Word) (other : TableError) → IsPartFault limit labels before (name word) other → 24 ≤ table_error_code other
  least_at_name before word NoColumn h = absurd h
  least_at_name before word TwoColumns h = absurd h
  least_at_name before word RepeatedEntry h = absurd h
  least_at_name before word BadRow h = omega arith
  least_at_name before word NoHeading h = absurd h
  least_at_name before word Labels h = omega arith

  least_at_labels : (before : List TablePart) (word : Word) → ¬ (labels_of_text word.text ≡ None) → (other : TableError) → IsPartFault limit labels before (name word) other → 26 ≤ table_error_code other
  least_at_labels before word made NoColumn h = absurd h
  least_at_labels before word made TwoColumns h = absurd h
  least_at_labels before word made RepeatedEntry h = absurd h
  least_at_labels before word made BadRow h = absurd (made h)
  least_at_labels before word made NoHeading h = absurd h
  least_at_labels before word made Labels h = omega arith

  -- the labels of the parts so far and of one more word
  entered_with : (before : List TablePart) (word : Word) (table : List (List ℕ)) → Progress limit labels before table → all_entered table (labels_of_word word) ≡ all_entered labels (label_texts before ++ labels_of_word word)
  entered_with before word table progress = ap (λ t. all_entered t (labels_of_word word)) progress.table_is ∙ sym (all_entered-append labels (label_texts before) (labels_of_word word))

  -- a heading or a row label that is none
  pub name_fault : (before : List TablePart) (word : Word) (table : List (List ℕ)) (fault : TableFault) → Progress limit labels before table → IsNoName table word fault → IsFirstPartFault limit labels (before ++ name word ∷ []) fault
  name_fault before word table fault progress is = elim is.1 [
    | inl bad ↦ first_fault before (name word) fault BadRow progress.sound is.0 bad.0 bad.1 (least_at_name before word)
    | inr full ↦ first_fault before (name word) fault Labels progress.sound is.0 full.0 (subst (λ t. most_labels < length t) (entered_with before word table progress) full.2) (least_at_labels before word full.1)
  ]

  none_at_name : (before : List TablePart) (word : Word) → ¬ (labels_of_text word.text ≡ None) → length (all_entered labels (label_texts before ++ labels_of_word word)) ≤ most_labels → (error : TableError) → ¬ IsPartFault limit labels before (name word) error
  none_at_name before word made few NoColumn h = h
  none_at_name before word made few TwoColumns h = h
  none_at_name before word made few RepeatedEntry h = h
  none_at_name before word made few BadRow h = made h
  none_at_name before word made few NoHeading h = h
  none_at_name before word made few Labels h = omega arith

  -- a heading or a row label more
  pub name_more : (before : List TablePart) (word : Word) (table after : List (List ℕ)) → Progress limit labels before table → ¬ (labels_of_text word.text ≡ None) → after ≡ all_entered table (labels_of_word word) → length after ≤ most_labels → Progress limit labels (before ++ name word ∷ []) after
  name_more before word table after progress made entered few =
      let e = entered ∙ entered_with before word table progress in
      record {
        sound = AreSound-push limit labels [] before (name word) progress.sound (none_at_name before word made (subst (λ t. length t ≤ most_labels) e few));
        table_is = e ∙ ap (all_entered labels) (sym (texts_of-append before (name word ∷ []) ∙ ap (λ ts. label_texts before ++ ts) (append-nil (labels_of_word word))));
      }

  -- ---- numbers

  module _ (before : List TablePart) (row : Word) (headings : List Word) (word : Word) (table : List (List ℕ)) (progress : Progress limit labels before table) where
    -- the place of a fault at the number
    abbrev pub IsHere : TableFault → TableError → Type 0
    IsHere fault error = (fault.at ≡ word.at) × (fault.error ≡ error)

    pub shape_fault : (fault : TableFault) → IsHere fault BadRow → ¬ IsNumberText word.text → ((x : Number) → ¬ IsValue limit word.text x) → IsFirstPartFault limit labels (before ++ cell row headings word ∷ []) fault
    shape_fault fault here unread none = first_fault before (cell row headings word) fault BadRow progress.sound here.0 here.1 none least
      where
        least : (other : TableError) → IsPartFault limit labels before (cell row headings word) other → 24 ≤ table_error_code other
        least NoColumn h = absurd (unread h.0)
        least TwoColumns h = absurd (unread h.0)
        least RepeatedEntry h = absurd (unread h.0)
        least BadRow h = omega arith
        least NoHeading h = absurd h
        least Labels h = absurd h

    pub column_fault : (fault : TableFault) → IsHere fault NoColumn → IsNumberText word.text → met headings word ≡ [] → IsFirstPartFault limit labels (before ++ cell row headings word ∷ []) fault
    column_fault fault here is none = first_fault before (cell row headings word) fault NoColumn progress.sound here.0 here.1 (is, none) (λ other h. some_code other)

    pub columns_fault : (fault : TableFault) → IsHere fault TwoColumns → IsNumberText word.text → 1 < length (met headings word) → IsFirstPartFault limit labels (before ++ cell row headings word ∷ []) fault
    columns_fault fault here is two = first_fault before (cell row headings word) fault TwoColumns progress.sound here.0 here.1 (is, two) least
      where
        least : (other : TableError) → IsPartFault limit labels before (cell row headings word) other → 22 ≤ table_error_code other
        least NoColumn h = absurd (omega (arith, ap length h.1))
        least TwoColumns h = omega arith
        least RepeatedEntry h = omega arith
        least BadRow h = omega arith
        least NoHeading h = omega arith
        least Labels h = omega arith

    pub repeated_fault : (fault : TableFault) (heading : Word) → IsHere fault RepeatedEntry → IsNumberText word.text → met headings word ≡ heading ∷ [] → Contains (keys_of before) (key_of row heading) → IsFirstPartFault limit labels (before ++ cell row headings word ∷ []) fault
    repeated_fault fault heading here is one given = first_fault before (cell row headings word) fault RepeatedEntry progress.sound here.0 here.1 (is, (heading, one, given)) least
      where
        least : (other : TableError) → IsPartFault limit labels before (cell row headings word) other → 23 ≤ table_error_code other
        least NoColumn h = absurd (omega (arith, ap length one, ap length h.1))
        least TwoColumns h = absurd (omega (arith, ap length one, h.1))
        least RepeatedEntry h = omega arith
        least BadRow h = omega arith
        least NoHeading h = omega arith
        least Labels h = omega arith

    -- another heading that the number meets is the same one
    same_heading : (heading other : Word) → met headings word ≡ heading ∷ [] → met headings word ≡ other ∷ [] → heading ≡ other
    same_heading heading other one two = let e : heading ∷ [] ≡ other ∷ [] = sym one ∙ two in cc

    pub limit_fault : (fault : TableFault) (heading : Word) → IsHere fault BadRow → met headings word ≡ heading ∷ [] → ¬ Contains (keys_of before) (key_of row heading) → ((x : Number) → ¬ IsValue limit word.text x) → IsFirstPartFault limit labels (before ++ cell row headings word ∷ []) fault
    limit_fault fault heading here one new none = first_fault before (cell row headings word) fault BadRow progress.sound here.0 here.1 none least
      where
        least : (other : TableError) → IsPartFault limit labels before (cell row headings word) other → 24 ≤ table_error_code other
        least NoColumn h = absurd (omega (arith, ap length one, ap length h.1))
        least TwoColumns h = absurd (omega (arith, ap length one, h.1))
        least RepeatedEntry h = absurd (new (subst (λ k. Contains (keys_of before) (key_of row k)) (sym (same_heading heading h.1.0 one h.1.1)) h.1.2))
        least BadRow h = omega arith
        least NoHeading h = absurd h
        least Labels h = absurd h

    -- a number more
    pub cell_more : (heading : Word) (x : Number) → met headings word ≡ heading ∷ [] → ¬ Contains (keys_of before) (key_of row heading) → IsValue limit word.text x → Progress limit labels (before ++ cell row headings word ∷ []) table
    cell_more heading x one new is = record {
      sound = AreSound-push limit labels [] before (cell row headings word) progress.sound none;
      table_is = progress.table_is ∙ ap (all_entered labels) (sym (texts_of-append before (cell row headings word ∷ []) ∙ append-nil (label_texts before)));
    }
      where
        none : (error : TableError) → ¬ IsPartFault limit labels before (cell row headings word) error
        none NoColumn h = omega (arith, ap length one, ap length h.1)
        none TwoColumns h = omega (arith, ap length one, h.1)
        none RepeatedEntry h = new (subst (λ k. Contains (keys_of before) (key_of row k)) (sym (same_heading heading h.1.0 one h.1.1)) h.1.2)
        none BadRow h = h x is
        none NoHeading h = h
        none Labels h = h
