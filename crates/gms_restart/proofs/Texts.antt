-- The texts that a source can write as labels: its parts, and the members of ranges from one part
-- to another.
use Rattle.std.proofs.Common.{◌≡◌, ◌⊎◌, ℕ, zero, suc, ◌+◌, ◌-◌, Bool, true, false, cond, List, [], ◌∷◌, ◌++◌, length, map, filter, take, drop, Option, Some, None, unwrap_or, if◌then◌else◌, refl, sym, ap, ◌∙◌, subst, inl, inr, append_assoc}
use Rattle.std.specs.Prelude.{flat_map}
use Rattle.std.proofs.lemmas.List.{append-nil, take-append-drop}
use Rattle.std.proofs.Math.Seq.{drop-append_seam, take-append_seam}
use Rattle.gms_labels.specs.declared.place.Place.{Place}
use Rattle.gms_grammar.specs.Lines.{is_blank}
use Rattle.gms_grammar.specs.Bytes.{is_quote}
use Rattle.gms_lex.specs.declared.token.Token.{Token}
use Rattle.gms_lex.specs.TokenTexts.{token_text, unquoted}
use Rattle.gms_grammar.specs.declared.terminal.Terminal.{Terminal}
use Rattle.gms_set.specs.Ranges.{members}
use Rattle.gms_table.specs.TableEntries.{TablePart, name, cell, is_plus, under, table_of, met, meet}
use Rattle.gms_grammar.specs.SplitFields.{is_dot, field_bytes}
use Rattle.gms_table.specs.WordLabels.{label_of_text, labels_among, labels_of_text, labels_of_word, quoted_label, plain_label, with_label}
use Rattle.gms_table.specs.Words.{Word, column_of_byte, first_fields, others_by, parted, word_of, words_among}
use Rattle.gms_parse.specs.Tables.{parts_of_tokens}
use Rattle.gms_restart.proofs.ProgramNames.{Has, has-left, has-right, parts, parts-have}
use Rattle.gms_run_laws.proofs.FormKeys.{EachHas}

-- ---- parts of a text

-- A text is a part of another.
pub record IsPart (source text : List ℕ) : Type 0 where
  pub before : List ℕ
  pub following : List ℕ
  pub is : source ≡ before ++ (text ++ following)

whole-part : (source : List ℕ) → IsPart source source
whole-part source = record { before = []; following = []; is = sym (append-nil source) }

part-prefix : (source text : List ℕ) (k : ℕ) → IsPart source text → IsPart source (take k text)
part-prefix source text k part = record {
  before = part.before;
  following = drop k text ++ part.following;
  is = part.is ∙ ap (λ (t : List ℕ). part.before ++ t) (ap (λ (t : List ℕ). t ++ part.following) (sym (take-append-drop k text)) ∙ append_assoc (take k text) (drop k text) part.following);
}

part-rest : (source text : List ℕ) (k : ℕ) → IsPart source text → IsPart source (drop k text)
part-rest source text k part = record {
  before = part.before ++ take k text;
  following = part.following;
  is = part.is ∙ ap (λ (t : List ℕ). part.before ++ t) (ap (λ (t : List ℕ). t ++ part.following) (sym (take-append-drop k text)) ∙ append_assoc (take k text) (drop k text) part.following) ∙ sym (append_assoc part.before (take k text) (drop k text ++ part.following));
}

-- the text of a token
pub token-part : (source : List ℕ) (token : Token) → IsPart source (token_text source token)
token-part source token =
    part-prefix source (drop token.start source) (token.end - token.start) (part-rest source source token.start (whole-part source))

-- a text without its marks
unquoted-part : (source text : List ℕ) → IsPart source text → IsPart source (unquoted text)
unquoted-part source [] part = part
unquoted-part source (b ∷ text) part = by (is_quote b)
  where
    rest : IsPart source text
    rest = part-rest source (b ∷ text) 1 part

    by : (c : Bool) → IsPart source (if c then take (length text - 1) text else b ∷ text)
    by true = part-prefix source text (length text - 1) rest
    by false = part

-- A text is a member of a range between two parts.
pub record IsInRange (source text : List ℕ) : Type 0 where
  pub from : List ℕ
  pub to : List ℕ
  pub first : IsPart source from
  pub last : IsPart source to
  pub among : Has (members from to) text

-- a text that a source can write as a label
abbrev pub IsWritten : List ℕ → List ℕ → Type 0
IsWritten source text = IsPart source text ⊎ IsInRange source text

-- the label that a token writes
pub label-written : (source : List ℕ) (token : Token) → IsWritten source (unquoted (token_text source token))
label-written source token = inl (unquoted-part source (token_text source token) (token-part source token))

-- each member of a list is in it
each-there : (texts all : List (List ℕ)) → ((text : List ℕ) → Has texts text → Has all text) → EachHas (Has all) texts
each-there [] all within = tt
each-there (text ∷ texts) all within = (within text (inl refl), each-there texts all (λ other there. within other (inr there)))

-- the members of a range
pub range-written : (source : List ℕ) (one other : Token) → EachHas (IsWritten source) (members (unquoted (token_text source one)) (unquoted (token_text source other)))
range-written source one other =
    let from = unquoted (token_text source one) in
    let to = unquoted (token_text source other) in
    by from to (unquoted-part source (token_text source one) (token-part source one)) (unquoted-part source (token_text source other) (token-part source other)) (members from to) (each-there (members from to) (members from to) (λ text there. there))
  where
    by : (from to : List ℕ) → IsPart source from → IsPart source to → (texts : List (List ℕ)) → EachHas (Has (members from to)) texts → EachHas (IsWritten source) texts
    by from to first last [] all = tt
    by from to first last (text ∷ texts) all = (inr (record { from = from; to = to; first = first; last = last; among = all.0 }), by from to first last texts all.1)

-- ---- the words of a table

both-have : {A : Type 0} (P : A → Type 0) (xs ys : List A) → EachHas P xs → EachHas P ys → EachHas P (xs ++ ys)
both-have P [] ys one other = other
both-have P (x ∷ xs) ys one other = (one.0, both-have P xs ys one.1 other)

module _ (source : List ℕ) where
  abbrev Parts : List (List ℕ) → Type 0
  Parts = EachHas (IsPart source)

  -- the text of a word is a part
  abbrev pub WordIs : Word → Type 0
  WordIs word = IsPart source word.text

  fields-are : (test : ℕ → Bool) (most : ℕ) (text : List ℕ) → IsPart source text → Parts (first_fields test most text)
  fields-are test zero text part = tt
  fields-are test (suc most) text part =
      (part-prefix source text (field_bytes test text) part, others (drop (field_bytes test text) text) (λ rest part. fields-are test most rest part) (part-rest source text (field_bytes test text) part))
    where
      others : (rest : List ℕ) → ((text : List ℕ) → IsPart source text → Parts (first_fields test most text)) → IsPart source rest → Parts (others_by (first_fields test most) rest)
      others [] further part = tt
      others (b ∷ rest) further part = further rest (part-rest source (b ∷ rest) 1 part)

  word-is : (at : Place) (end : ℕ) (text : List ℕ) → IsPart source text → EachHas WordIs (word_of at end text)
  word-is at end [] part = tt
  word-is at end (b ∷ text) part = (part, tt)

  words-are : (number : ℕ) (line : List ℕ) (start : ℕ) (texts : List (List ℕ)) → Parts texts → EachHas WordIs (words_among number line start texts)
  words-are number line start [] all = tt
  words-are number line start (text ∷ others) all =
      let at : Place = record { line = number; column = column_of_byte line start } in
      let end = column_of_byte line (start + length text) in
      both-have WordIs (word_of at end text) (words_among number line (start + length text + 1) others) (word-is at end text all.0) (words-are number line (start + length text + 1) others all.1)

  -- labels
  abbrev MayBePart : Option (List ℕ) → Type 0
  MayBePart None = Unit {0}
  MayBePart (Some text) = IsPart source text

  abbrev MayBeParts : Option (List (List ℕ)) → Type 0
  MayBeParts None = Unit {0}
  MayBeParts (Some texts) = Parts texts

  label-is : (text : List ℕ) → IsPart source text → MayBePart (label_of_text text)
  label-is [] part = tt
  label-is (b ∷ rest) part = by (is_quote b)
    where
      may : (c : Bool) (text : List ℕ) → IsPart source text → MayBePart (if c then Some text else None)
      may true text part = part
      may false text part = tt

      by : (c : Bool) → MayBePart (if c then quoted_label b rest else plain_label (b ∷ rest))
      by true = may _ _ (part-prefix source rest _ (part-rest source (b ∷ rest) 1 part))
      by false = may _ _ part

  with-is : (label : Option (List ℕ)) (others : Option (List (List ℕ))) → MayBePart label → MayBeParts others → MayBeParts (with_label label others)
  with-is (Some label) (Some others) one more = (one, more)
  with-is (Some label) None one more = tt
  with-is None others one more = tt

  among-are : (texts : List (List ℕ)) → Parts texts → MayBeParts (labels_among texts)
  among-are [] all = tt
  among-are (text ∷ others) all = with-is (label_of_text text) (labels_among others) (label-is text all.0) (among-are others all.1)

  -- the labels of a word are parts
  pub names-are : (word : Word) → WordIs word → Parts (labels_of_word word)
  names-are word part = by (labels_of_text word.text) (among-are (parted is_dot word.text) (fields-are is_dot (suc (length word.text)) word.text part))
    where
      by : (o : Option (List (List ℕ))) → MayBeParts o → Parts (unwrap_or o [])
      by None all = tt
      by (Some texts) all = all

  -- the row label and the headings of a number have parts for texts
  abbrev pub PartIs : TablePart → Type 0
  PartIs (name word) = Unit {0}
  PartIs (cell row headings word) = WordIs row × EachHas WordIs headings

  named-are : (words : List Word) → EachHas PartIs (map name words)
  named-are [] = tt
  named-are (word ∷ words) = (tt, named-are words)

  cells-are : (first : Word) (headings words : List Word) → WordIs first → EachHas WordIs headings → EachHas PartIs (map (cell first headings) words)
  cells-are first headings [] one all = tt
  cells-are first headings (word ∷ words) one all = ((one, all), cells-are first headings words one all)

  under-are : (headings : List Word) (lines : List (List Word)) → EachHas WordIs headings → EachHas (EachHas WordIs) lines → EachHas PartIs (under headings lines)
  under-are headings [] heads all = tt
  under-are headings ([] ∷ lines) heads all = under-are headings lines heads all.1
  under-are headings ((first ∷ words) ∷ lines) heads all =
      by (is_plus first) (under-are words lines all.0.1 all.1) (under-are headings lines heads all.1)
    where
      by : (c : Bool) → EachHas PartIs (under words lines) → EachHas PartIs (under headings lines) → EachHas PartIs (if c then map name words ++ under words lines else name first ∷ (map (cell first headings) words ++ under headings lines))
      by true anew further = both-have PartIs (map name words) (under words lines) (named-are words) anew
      by false anew further =
          (tt, both-have PartIs (map (cell first headings) words) (under headings lines) (cells-are first headings words all.0.0 heads) further)

  table-is : (lines : List (List Word)) → EachHas (EachHas WordIs) lines → EachHas PartIs (table_of lines)
  table-is [] all = tt
  table-is ([] ∷ lines) all = table-is lines all.1
  table-is ((first ∷ words) ∷ lines) all =
      both-have PartIs (map name (first ∷ words)) (under (first ∷ words) lines) (named-are (first ∷ words)) (under-are (first ∷ words) lines all.0 all.1)

  lines-are : (lines : List (Terminal × Token)) → EachHas (EachHas WordIs) (map (λ line. words_among line.1.at.line (token_text source line.1) 0 (parted is_blank (token_text source line.1))) lines)
  lines-are [] = tt
  lines-are (line ∷ lines) =
      let text = token_text source line.1 in
      (words-are line.1.at.line text 0 (parted is_blank text) (fields-are is_blank (suc (length text)) text (token-part source line.1)), lines-are lines)

  -- those of a table among tokens
  pub table-parts : (lines : List (Terminal × Token)) → EachHas PartIs (parts_of_tokens source lines)
  table-parts lines = table-is _ (lines-are lines)

  filtered-are : (test : Word → Bool) (words : List Word) → EachHas WordIs words → EachHas WordIs (filter test words)
  filtered-are test [] all = tt
  filtered-are test (word ∷ words) all = by (test word) (filtered-are test words all.1)
    where
      by : (c : Bool) → EachHas WordIs (filter test words) → EachHas WordIs (cond c (word ∷ filter test words) (filter test words))
      by true rest = (all.0, rest)
      by false rest = rest

  -- the headings that a number meets
  pub met-are : (headings : List Word) (word : Word) → EachHas WordIs headings → EachHas WordIs (met headings word)
  met-are headings word all = filtered-are (meet word) headings all

-- ---- a table of all of them

-- each text that a source can write as a label
abbrev pub all_texts : List ℕ → List (List ℕ)
all_texts source = parts source ++ flat_map (λ from. flat_map (λ to. members from to) (parts source)) (parts source)

part-there : (source text : List ℕ) → IsPart source text → Has (parts source) text
part-there source text part =
    let same : take (length text) (drop (length part.before) source) ≡ text = ap (λ (s : List ℕ). take (length text) (drop (length part.before) s)) part.is ∙ ap (take (length text)) (drop-append_seam part.before (text ++ part.following)) ∙ take-append_seam text part.following in
    subst (Has (parts source)) same (parts-have source (length part.before) (length text))

has-flat : (f : List ℕ → List (List ℕ)) (texts : List (List ℕ)) (from text : List ℕ) → Has texts from → Has (f from) text → Has (flat_map f texts) text
has-flat f [] from text there has = absurd there
has-flat f (other ∷ texts) from text (inl same) has = has-left (f other) (flat_map f texts) text (subst (λ (t : List ℕ). Has (f t) text) (sym same) has)
has-flat f (other ∷ texts) from text (inr there) has = has-right (f other) (flat_map f texts) text (has-flat f texts from text there has)

pub written-there : (source text : List ℕ) → IsWritten source text → Has (all_texts source) text
written-there source text (inl part) =
    has-left (parts source) (flat_map (λ from. flat_map (λ to. members from to) (parts source)) (parts source)) text (part-there source text part)
written-there source text (inr range) =
    has-right (parts source) (flat_map (λ from. flat_map (λ to. members from to) (parts source)) (parts source)) text (has-flat (λ from. flat_map (λ to. members from to) (parts source)) (parts source) range.from text (part-there source range.from range.first) (has-flat (λ to. members range.from to) (parts source) range.to text (part-there source range.to range.last) range.among))
