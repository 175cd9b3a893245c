-- The labels of a heading or a row label: labels joined by dots, each unquoted or in quotation
-- marks (GAMS User's Guide, "Set Definition" and "Data Entry: Parameters, Scalars and Tables").
use Rattle.std.specs.Prelude.{◌≡◌, ℕ, ◌+◌, not, ◌&&◌, ◌==◌, nat_le, if◌then◌else◌, List, [], ◌∷◌, ◌++◌, length, take, Option, Some, None, unwrap_or, fold, map}
use Rattle.std.specs.List.{list_all, prefix_len}
use Rattle.std.specs.Char.{is_ascii_alphanumeric}
use Rattle.gms_grammar.specs.Lines.{begins}
use Rattle.gms_labels.specs.Labels.{entered, place_of}
use Rattle.gms_grammar.specs.Bytes.{is_label_byte, is_quote, is_ascii}
use Rattle.gms_grammar.specs.Shapes.{longest_label}
use Rattle.gms_grammar.specs.SplitFields.{is_dot}
use Rattle.gms_table.specs.Words.{Word, parted}

-- the label in quotation marks of which `mark` is the opening mark and `rest` is the text after it:
-- the text before the closing mark, with which `rest` ends; None if `rest` has another form, or the
-- label is longer than `longest_label` or not ASCII
abbrev pub quoted_label : ℕ → List ℕ → Option (List ℕ)
quoted_label mark rest =
    let inner = prefix_len (λ b. not (b == mark)) rest in
    if inner + 1 == length rest && (nat_le inner longest_label && list_all is_ascii (take inner rest)) then Some (take inner rest) else None

-- the label that a text without quotation marks is: a letter or a digit, and then letters, digits,
-- `+`, `-` and `_`; None if it has another form or is longer than `longest_label`
abbrev pub plain_label : List ℕ → Option (List ℕ)
plain_label text =
    if begins is_ascii_alphanumeric text && (prefix_len is_label_byte text == length text && nat_le (length text) longest_label) then Some text else None

-- the label that a text is, without the quotation marks if the text has some; None if the text is
-- no label
abbrev pub label_of_text : List ℕ → Option (List ℕ)
label_of_text [] = None
label_of_text (b ∷ rest) = if is_quote b then quoted_label b rest else plain_label (b ∷ rest)

-- the label followed by the others; None if the label or the others are None
abbrev pub with_label : Option (List ℕ) → Option (List (List ℕ)) → Option (List (List ℕ))
with_label (Some label) (Some others) = Some (label ∷ others)
with_label (Some label) None = None
with_label None others = None

-- the labels that texts are, in order; None if one of them is no label
abbrev pub labels_among : List (List ℕ) → Option (List (List ℕ))
labels_among [] = Some []
labels_among (text ∷ others) = with_label (label_of_text text) (labels_among others)

-- the labels that a text joins by dots; None if it is not made of labels
abbrev pub labels_of_text : List ℕ → Option (List (List ℕ))
labels_of_text text = labels_among (parted is_dot text)

-- the labels that a word joins by dots; no labels if the word is not made of labels
abbrev pub labels_of_word : Word → List (List ℕ)
labels_of_word word = unwrap_or (labels_of_text word.text) []

-- the table of labels `labels` after these texts were entered in it, in order: each is appended,
-- unless the table has it, letter case ignored
abbrev pub all_entered : List (List ℕ) → List (List ℕ) → List (List ℕ)
all_entered labels texts = fold entered labels texts

-- the numbers are those that the labels `texts` have in the table `labels`
abbrev pub AreLabelNumbers : List (List ℕ) → List ℕ → List (List ℕ) → Type 0
AreLabelNumbers labels numbers texts = map Some numbers ≡ map (place_of labels) texts

-- the second list begins with the first
abbrev pub IsPrefix : List (List ℕ) → List (List ℕ) → Type 0
IsPrefix before after = (more : List (List ℕ)) × (after ≡ before ++ more)
