-- The words of a line, in order.
use Rattle.std.proofs.Common.{◌≡◌, ℕ, ◌+◌, ◌-◌, ◌*◌, ◌<◌, ◌≤◌, List, [], ◌∷◌, ◌++◌, length, get_or, take, drop, fold, refl, sym, ap, ◌∙◌, subst, append_assoc, append-nil, add-one, arith, drop-cons}
use Rattle.std.proofs.lemmas.List.Sums.{fold-append, fold_more}
use Rattle.std.proofs.Math.Seq.{take-add}
use Rattle.std.proofs.lemmas.List.{length-drop, length-take-le, drop-drop, drop_all, take_rest}
use Rattle.gms_grammar.specs.Lines.{is_blank}
use Rattle.gms_grammar.specs.Columns.{column_after}
use Rattle.gms_table.specs.Words.{Word, parted, column_of_byte, word_of, word_at, words_among, words_of}
use Rattle.gms_table.specs.InnerShown.{AreSpacedFrom}
use Rattle.gms_grammar.specs.SplitFields.{field_bytes}
use Rattle.gms_grammar.proofs.ColumnLemmas.{column_after-bounds}
use Rattle.gms_table.proofs.FieldLemmas.{field_bytes-le, fields_after, parted-field}

-- the column of a byte further on
pub column_of-add : (line : List ℕ) (n k : ℕ) → fold column_after (column_of_byte line n) (take k (drop n line)) ≡ column_of_byte line (n + k)
column_of-add line n k = sym (fold-append column_after 1 (take n line) (take k (drop n line))) ∙ ap (fold column_after 1) (sym (take-add n k line))

-- the words of a line from a byte on, at which a field begins
abbrev pub words_from : ℕ → List ℕ → ℕ → List Word
words_from number line start = words_among number line start (parted is_blank (drop start line))

-- how many bytes the field takes that begins there
abbrev pub length_from : List ℕ → ℕ → ℕ
length_from line start = field_bytes is_blank (drop start line)

words_from-field : (number : ℕ) (line : List ℕ) (start : ℕ) → words_from number line start ≡ word_at number line start (take (length_from line start) (drop start line)) ++ words_among number line (start + length (take (length_from line start) (drop start line)) + 1) (fields_after is_blank (drop (length_from line start) (drop start line)))
words_from-field number line start = ap (words_among number line start) (parted-field is_blank (drop start line))

-- the column after the last of some words, or the given column without words
abbrev pub last_end : ℕ → List Word → ℕ
last_end column [] = column
last_end column (word ∷ words) = last_end word.end words

-- one word more
pub AreSpacedFrom-push : (column : ℕ) (words : List Word) (word : Word) → AreSpacedFrom column words → last_end column words ≤ word.at.column → word.at.column < word.end → AreSpacedFrom column (words ++ word ∷ [])
AreSpacedFrom-push column [] word spaced following some = (following, some, tt)
AreSpacedFrom-push column (w ∷ words) word spaced following some = (spaced.0, spaced.1, AreSpacedFrom-push w.end words word spaced.2 following some)

pub last_end-push : (column : ℕ) (words : List Word) (word : Word) → last_end column (words ++ word ∷ []) ≡ word.end
last_end-push column [] word = refl
last_end-push column (w ∷ words) word = last_end-push w.end words word

-- ---- one field more

-- What was found of a line before a byte at which a field begins.
pub record WordsSoFar (number : ℕ) (line : List ℕ) (words : List Word) (start column : ℕ) : Type 0 where
  pub within : start ≤ length line
  pub column_is : column ≡ column_of_byte line start
  pub within_bound : column ≤ 8 * start + 1
  pub words_are : words ++ words_from number line start ≡ words_of number line
  pub spaced : AreSpacedFrom 0 words
  pub following : last_end 0 words ≤ column

-- The field that begins there, with the words after it.
pub record NextField (number : ℕ) (line : List ℕ) (words : List Word) (start column : ℕ) (text : List ℕ) (end : ℕ) (after : List Word) : Type 0 where
  pub text_is : text ≡ take (length_from line start) (drop start line)
  pub end_is : end ≡ fold column_after column text
  pub grows : column + length text ≤ end
  pub near : end ≤ column + 8 * length text
  pub after_is : after ≡ words ++ word_of record { line = number; column = column } end text

module _ (number : ℕ) (line : List ℕ) (words : List Word) (start column : ℕ) (text : List ℕ) (end : ℕ) (after : List Word) (so_far : WordsSoFar number line words start column) (next : NextField number line words start column text end after) where
  long : length text ≡ length_from line start
  long = ap length next.text_is ∙ length-take-le (length_from line start) (drop start line) (field_bytes-le is_blank (drop start line))

  -- the field ends within the line
  pub field_within : start + length text ≤ length line
  field_within = omega (arith, long, so_far.within, field_bytes-le is_blank (drop start line), length-drop start line)

  -- the column after the field
  end_column : end ≡ column_of_byte line (start + length text)
  end_column =
      next.end_is ∙ ap (fold column_after column) (next.text_is ∙ ap (λ n. take n (drop start line)) (sym long)) ∙ ap (λ c. fold column_after c (take (length text) (drop start line))) so_far.column_is ∙ column_of-add line start (length text)

  -- the word of the field
  word_here : word_of record { line = number; column = column } end text ≡ word_at number line start text
  word_here = ap (λ c. word_of record { line = number; column = c } end text) so_far.column_is ∙ ap (λ e. word_of record { line = number; column = column_of_byte line start } e text) end_column

  -- what follows the field
  rest_is : drop (length_from line start) (drop start line) ≡ drop (start + length text) line
  rest_is = drop-drop (length_from line start) start line ∙ ap (λ n. drop n line) (omega (arith, long))

  all_words : after ++ words_among number line (start + length text + 1) (fields_after is_blank (drop (start + length text) line)) ≡ words_of number line
  all_words =
      ap (λ ws. ws ++ words_among number line (start + length text + 1) (fields_after is_blank (drop (start + length text) line))) (next.after_is ∙ ap (λ ws. words ++ ws) word_here)
      ∙ append_assoc words (word_at number line start text) _
      ∙ ap (λ ws. words ++ ws) (ap (λ t. word_at number line start t ++ words_among number line (start + length t + 1) (fields_after is_blank (drop (start + length text) line))) next.text_is ∙ ap (λ t. word_at number line start (take (length_from line start) (drop start line)) ++ words_among number line (start + length (take (length_from line start) (drop start line)) + 1) (fields_after is_blank t)) (sym rest_is) ∙ sym (words_from-field number line start))
      ∙ so_far.words_are

  spaced_after : (text : List ℕ) → column + length text ≤ end → AreSpacedFrom 0 (words ++ word_of record { line = number; column = column } end text)
  spaced_after [] grows = subst (AreSpacedFrom 0) (sym (append-nil words)) so_far.spaced
  spaced_after (b ∷ text) grows = AreSpacedFrom-push 0 words (record { at = record { line = number; column = column }; end = end; text = b ∷ text }) so_far.spaced so_far.following (omega arith)

  last_after : (text : List ℕ) → column + length text ≤ end → last_end 0 (words ++ word_of record { line = number; column = column } end text) ≤ end
  last_after [] grows = rw append-nil (omega (arith, so_far.following))
  last_after (b ∷ text) grows = omega (arith, last_end-push 0 words (record { at = record { line = number; column = column }; end = end; text = b ∷ text }))

  pub words_spaced : AreSpacedFrom 0 after
  words_spaced = subst (AreSpacedFrom 0) (sym next.after_is) (spaced_after text next.grows)

  -- the line ends after the field
  pub words_last : start + length text ≡ length line → after ≡ words_of number line
  words_last ends =
      sym (append-nil after) ∙ ap (λ t. after ++ words_among number line (start + length text + 1) (fields_after is_blank t)) (sym (drop_all (start + length text) line (omega arith))) ∙ all_words

  -- a blank follows the field
  pub words_more : (following : ℕ) → ¬ (start + length text ≡ length line) → following ≡ column_after end (get_or line (start + length text) 0) → WordsSoFar number line after (start + length text + 1) following
  words_more following extended is =
      let within = field_within in
      let below : start + length text < length line = omega arith in
      let bounds = column_after-bounds end (get_or line (start + length text) 0) in
      record {
        within = omega arith;
        column_is = is ∙ ap (λ c. column_after c (get_or line (start + length text) 0)) end_column ∙ sym (fold_more column_after 1 line (start + length text) 0 below);
        within_bound = omega (arith, next.near, so_far.within_bound, bounds.1);
        words_are = ap (λ t. after ++ words_among number line (start + length text + 1) (fields_after is_blank t)) (ap (λ n. get_or line (start + length text) 0 ∷ drop n line) (add-one (start + length text)) ∙ sym (drop-cons line (start + length text) 0 below)) ∙ all_words;
        spaced = words_spaced;
        following = omega (arith, ap (last_end 0) next.after_is, last_after text next.grows, bounds.0);
      }

-- the next field, as it is read
pub next_field : (number : ℕ) (line : List ℕ) (words : List Word) (start column n end : ℕ) (after : List Word) → n ≡ field_bytes is_blank (take (length line - start) (drop start line)) → end ≡ fold column_after column (take n (take (length line - start) (drop start line))) → column + length (take n (take (length line - start) (drop start line))) ≤ end → end ≤ column + 8 * length (take n (take (length line - start) (drop start line))) → after ≡ words ++ word_of record { line = number; column = column } end (take n (take (length line - start) (drop start line))) → NextField number line words start column (take n (take (length line - start) (drop start line))) end after
next_field number line words start column n end after n_is end_is grows near after_is = record {
  text_is = ap (take n) (take_rest line start) ∙ ap (λ k. take k (drop start line)) (n_is ∙ ap (field_bytes is_blank) (take_rest line start));
  end_is = end_is;
  grows = grows;
  near = near;
  after_is = after_is;
}
