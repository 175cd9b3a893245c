-- The first piece of a text is the longest token, or text, that the mode allows there.
use Rattle.std.proofs.lemmas.Bool.{and_from, and_parts, not-true}
use Rattle.std.proofs.Common.{◌≡◌, ◌⊎◌, inl, inr, ℕ, zero, suc, ◌+◌, ◌==◌, ◌<◌, ◌≤◌, ◌&&◌, ◌||◌, Bool, true, false, not, nat_lt, nat_le, if◌then◌else◌, List, [], ◌∷◌, ◌++◌, length, take, drop, Ok, Err, refl, sym, ap, ◌∙◌, subst, arith, length-append, length-take}
use Rattle.std.proofs.lemmas.Bool.Decides.{nat_tests}
use Rattle.std.proofs.lemmas.List.{length-take-le}
use Rattle.std.proofs.lemmas.List.Sums.{prefix_len-le-length}
use Rattle.std.specs.List.{prefix_len, list_all}
use Rattle.std.specs.Char.{is_ascii_alphabetic, is_ascii_alphanumeric, is_ascii_digit}
use Rattle.gms_grammar.specs.Lines.{begins, before, is_blank, is_line_end, content}
use Rattle.gms_grammar.proofs.LineLemmas.{true_or_false}
use Rattle.gms_grammar.specs.declared.kind.Kind.{Kind}
use Rattle.gms_grammar.specs.declared.kind.Kind.TheVariants.{Word, Label, Number, Text, Symbol, Break, TableLine, End}
use Rattle.gms_grammar.specs.declared.kind.Sym.{Sym}
use Rattle.gms_grammar.specs.declared.lexeme.Piece.{Piece}
use Rattle.gms_grammar.specs.declared.lexeme.Piece.TheVariants.{Gap, LineEnd, Remark, Token}
use Rattle.gms_grammar.specs.declared.lexeme.Lexeme.{Lexeme}
use Rattle.gms_grammar.specs.declared.lexeme.Misread.{Misread}
use Rattle.gms_grammar.specs.Bytes.{is_name_byte, is_label_byte, is_quote, is_ascii}
use Rattle.gms_grammar.specs.Numbers.{begins_dot, begins_number, number_length}
use Rattle.gms_grammar.specs.Shapes.{Read, longest_label, bounded, symbol, code_token, label_token, remark}
use Rattle.gms_grammar.specs.TableLines.{table_bytes, table_line}
use Rattle.gms_grammar.proofs.WithinLemmas.{run_within, table_bytes_le}
use Rattle.gms_lex.specs.declared.keyword.Shape.{Shape}
use Rattle.gms_lex.specs.declared.keyword.Shape.TheVariants.{Set, Parameter, Scalar, Model}
use Rattle.gms_lex.specs.declared.mode.Stage.{Stage}
use Rattle.gms_lex.specs.declared.mode.Stage.TheVariants.{Fresh, Expected, After, Spaced}
use Rattle.gms_lex.specs.declared.mode.Mode.{Mode}
use Rattle.gms_lex.specs.declared.mode.Mode.TheVariants.{Named, Bare, Element, Value, Tail, TableNamed, TableBare, TableLines}
use Rattle.gms_lex.specs.declared.mode.LineEnds.{LineEnds}
use Rattle.gms_lex.specs.declared.mode.LineEnds.TheVariants.{Skipped, EndItem, EndElement}
use Rattle.gms_lex.specs.Keywords.{begins_statement}
use Rattle.gms_lex.specs.Pieces.{passes, ends_or_begins, begins_other, space_length, line_end_length, line_ends, line_end, is_item_mark, is_element_mark, element_tail, piece_after_label, in_list, token_read, table_piece, plain_piece, piece_at}
use Rattle.gms_lex.specs.Spellings.{IsWord, IsLabel, IsQuoted, IsText, IsSymbol, IsNumberSpelling}
use Rattle.gms_lex.specs.Longest.{IsCode, IsElementPiece, IsMarkOrText, IsValuePiece, IsAfterElementPiece, IsInList, IsOfTable, IsAllowedPiece, has_text, IsLongest, IsRefusedPiece}
use Rattle.gms_lex.specs.Apart.{is_space, IsOneLineEnd}
use Rattle.gms_lex.proofs.PrefixLemmas.{not_both, prefix_most, prefix_all, begins_take, begins_prefix, begins_apart}
use Rattle.gms_lex.proofs.NumberLemmas.{number_most, number_begins, number_positive, number_spelled}
use Rattle.gms_lex.specs.TokenTexts.{unquoted}
use Rattle.gms_lex.proofs.UnquotedLemmas.{unquoted_same}
use Rattle.gms_lex.proofs.SymbolLemmas.{is_outside, symbol_outside, point_symbol}
use Rattle.gms_lex.proofs.LongestTexts.{Allowing, IsMost, IsRefusedBy, IsLongestRead, if_longest, quoted_begins, bad_byte, quoted_longest, symbol_longest, symbol_prefix, remark_longest}

-- ---- bytes of two kinds

letter_quote : (b : ℕ) → is_ascii_alphabetic b ≡ true → is_quote b ≡ true → ⊥
letter_quote b h g = grind (arith, nat_tests, h, g)

letter_outside : (b : ℕ) → is_ascii_alphabetic b ≡ true → is_outside b ≡ true → ⊥
letter_outside b h g = grind (arith, nat_tests, h, g)

label_quote : (b : ℕ) → is_ascii_alphanumeric b ≡ true → is_quote b ≡ true → ⊥
label_quote b h g = grind (arith, nat_tests, h, g)

label_outside : (b : ℕ) → is_ascii_alphanumeric b ≡ true → is_outside b ≡ true → ⊥
label_outside b h g = grind (arith, nat_tests, h, g)

digit_outside : (b : ℕ) → is_ascii_digit b ≡ true → is_outside b ≡ true → ⊥
digit_outside b h g = grind (arith, nat_tests, h, g)

digit_quote : (b : ℕ) → is_ascii_digit b ≡ true → is_quote b ≡ true → ⊥
digit_quote b h g = grind (arith, nat_tests, h, g)

quote_outside : (b : ℕ) → is_quote b ≡ true → is_outside b ≡ true → ⊥
quote_outside b h g = grind (arith, nat_tests, h, g)

dot_quote : (b : ℕ) → (b == 46) ≡ true → is_quote b ≡ true → ⊥
dot_quote b h g = grind (arith, nat_tests, h, g)

letter_digit : (b : ℕ) → is_ascii_alphabetic b ≡ true → is_ascii_digit b ≡ true → ⊥
letter_digit b h g = grind (arith, nat_tests, h, g)

letter_dot : (b : ℕ) → is_ascii_alphabetic b ≡ true → (b == 46) ≡ true → ⊥
letter_dot b h g = grind (arith, nat_tests, h, g)

mark_quote : (b : ℕ) → is_element_mark b ≡ true → is_quote b ≡ true → ⊥
mark_quote b h g = grind (arith, nat_tests, h, g)

mark_label : (b : ℕ) → is_element_mark b ≡ true → is_ascii_alphanumeric b ≡ true → ⊥
mark_label b h g = grind (arith, nat_tests, h, g)

mark_letter : (b : ℕ) → is_element_mark b ≡ true → is_ascii_alphabetic b ≡ true → ⊥
mark_letter b h g = grind (arith, nat_tests, h, g)

mark_digit : (b : ℕ) → is_element_mark b ≡ true → is_ascii_digit b ≡ true → ⊥
mark_digit b h g = grind (arith, nat_tests, h, g)

-- how a number begins
number_prefix : (text : List ℕ) → begins_number text ≡ true → (begins is_ascii_digit text ≡ true) ⊎ ((begins is_ascii_digit text ≡ false) × (begins_dot text ≡ true) × (begins is_ascii_digit (drop 1 text) ≡ true))
number_prefix text h = elim (true_or_false (begins is_ascii_digit text)) [
  | inl d ↦ inl d
  | inr d ↦
      let dot : (begins_dot text && begins is_ascii_digit (drop 1 text)) ≡ true = subst (λ v. (v || (begins_dot text && begins is_ascii_digit (drop 1 text))) ≡ true) d h in
      let both = and_parts (begins_dot text) (begins is_ascii_digit (drop 1 text)) dot in
      inr (d, both.0, both.1)
]

-- a text that begins with a byte of a kind that begins no number
number_apart : {A : Type 0} (test : ℕ → Bool) (text : List ℕ) → ((b : ℕ) → test b ≡ true → is_ascii_digit b ≡ true → ⊥) → ((b : ℕ) → test b ≡ true → (b == 46) ≡ true → ⊥) → begins test text ≡ true → begins_number text ≡ true → A
number_apart test text digit dot h number = elim (number_prefix text number) [
  | inl d ↦ begins_apart test is_ascii_digit text digit h d
  | inr both ↦ begins_apart test (λ b. b == 46) text dot h both.1
]

-- ---- tokens of code

-- the spelling of a token of code
abbrev IsSpelledCode : List ℕ → List ℕ → Type 0
IsSpelledCode text following = IsWord text ⊎ (IsNumberSpelling text following ⊎ (IsQuoted text ⊎ ((s : Sym) × IsSymbol s text)))

code_spelled : (kind : Kind) (piece : Piece) (text following : List ℕ) → IsCode kind piece text following → IsSpelledCode text following
code_spelled kind (Token Word) text following h = inl h
code_spelled kind (Token Number) text following h = inr (inl h)
code_spelled kind (Token (Symbol s)) text following h = inr (inr (inr (s, h)))
code_spelled kind (Token Text) text following h = inr (inr (inl h.1))
code_spelled kind (Token Label) text following h = inr (inr (inl h.1))
code_spelled kind (Token Break) text following h = absurd h
code_spelled kind (Token TableLine) text following h = absurd h
code_spelled kind (Token End) text following h = absurd h
code_spelled kind Gap text following h = absurd h
code_spelled kind LineEnd text following h = absurd h
code_spelled kind Remark text following h = absurd h

bounded_longest : (allowed : Allowing) (kind : Kind) (n : ℕ) (text : List ℕ) → n ≤ length text → begins is_quote text ≡ false → allowed (Token kind) n → ((other : Piece) (k : ℕ) → k ≤ length text → allowed other k → k ≤ n) → IsLongestRead allowed text (bounded kind n)
bounded_longest allowed kind n text le plain may most =
    if_longest allowed text (nat_lt longest_label n) _ _
    (λ over.
    let many : longest_label < n = grind (arith, nat_tests, over) in
    let bare : length (unquoted (take n text)) ≡ n = ap length (unquoted_same (take n text) (begins_take is_quote n text (omega (arith, many)) ∙ plain)) ∙ length-take-le n text le in
    inr (record { piece = Token kind; length = n }, (may, most), inl (refl, subst (λ k. longest_label < k) (sym bare) many)))
    (λ _. (may, most))

-- a text that begins with a byte of another kind begins with no quotation mark
no_quote : (test : ℕ → Bool) (text : List ℕ) → ((b : ℕ) → test b ≡ true → is_quote b ≡ true → ⊥) → begins test text ≡ true → begins is_quote text ≡ false
no_quote test text apart h = elim (true_or_false (begins is_quote text)) [
  | inl q ↦ begins_apart test is_quote text apart h q
  | inr f ↦ f
]

letter_in_name : (b : ℕ) → is_ascii_alphabetic b ≡ true → is_name_byte b ≡ true
letter_in_name b h = grind (arith, nat_tests, h)

alphanumeric_in_label : (b : ℕ) → is_ascii_alphanumeric b ≡ true → is_label_byte b ≡ true
alphanumeric_in_label b h = ap (λ v. v || (b == 43 || (b == 45 || b == 95))) h

-- where a letter begins the text
word_most : (text : List ℕ) → begins is_ascii_alphabetic text ≡ true → (n : ℕ) → n ≤ length text → IsSpelledCode (take n text) (drop n text) → n ≤ prefix_len is_name_byte text
word_most text letter n le (inl word) = prefix_most is_name_byte n text le word.1
word_most text letter n le (inr (inl number)) = number_apart is_ascii_alphabetic text letter_digit letter_dot letter (number_begins n text number)
word_most text letter n le (inr (inr (inl quote))) = begins_apart is_ascii_alphabetic is_quote text letter_quote letter (quoted_begins n text quote)
word_most text letter n le (inr (inr (inr s))) = begins_apart is_ascii_alphabetic is_outside text letter_outside letter (symbol_prefix s.0 n text s.1)

-- where a number begins the text
symbol_before_number : (text : List ℕ) → begins_number text ≡ true → (s : Sym) (n : ℕ) → n ≤ length text → IsSymbol s (take n text) → n ≤ number_length text
symbol_before_number text number s n le h = elim (number_prefix text number) [
  | inl d ↦ begins_apart is_ascii_digit is_outside text digit_outside d (symbol_prefix s n text h)
  | inr both ↦ omega (arith, point_symbol s n text le both.1 both.2 h, number_positive text number)
]

number_is_most : (text : List ℕ) → begins is_ascii_alphabetic text ≡ false → begins_number text ≡ true → (n : ℕ) → n ≤ length text → IsSpelledCode (take n text) (drop n text) → n ≤ number_length text
number_is_most text letter number n le (inl word) = not_both (begins is_ascii_alphabetic text) (begins_prefix is_ascii_alphabetic n text word.0) letter
number_is_most text letter number n le (inr (inl other)) = number_most n text le other
number_is_most text letter number n le (inr (inr (inl quote))) = number_apart is_quote text (λ b g h. digit_quote b h g) (λ b g h. dot_quote b h g) (quoted_begins n text quote) number
number_is_most text letter number n le (inr (inr (inr s))) = symbol_before_number text number s.0 n le s.1

-- where a quotation mark begins the text
quote_only : (text : List ℕ) → begins is_ascii_alphabetic text ≡ false → begins_number text ≡ false → begins is_quote text ≡ true → (n : ℕ) → IsSpelledCode (take n text) (drop n text) → IsQuoted (take n text)
quote_only text letter number quote n (inl word) = not_both (begins is_ascii_alphabetic text) (begins_prefix is_ascii_alphabetic n text word.0) letter
quote_only text letter number quote n (inr (inl other)) = not_both (begins_number text) (number_begins n text other) number
quote_only text letter number quote n (inr (inr (inl q))) = q
quote_only text letter number quote n (inr (inr (inr s))) = begins_apart is_quote is_outside text quote_outside quote (symbol_prefix s.0 n text s.1)

-- where none of these does
symbol_only : (text : List ℕ) → begins is_ascii_alphabetic text ≡ false → begins_number text ≡ false → begins is_quote text ≡ false → (n : ℕ) → IsSpelledCode (take n text) (drop n text) → (s : Sym) × IsSymbol s (take n text)
symbol_only text letter number quote n (inl word) = not_both (begins is_ascii_alphabetic text) (begins_prefix is_ascii_alphabetic n text word.0) letter
symbol_only text letter number quote n (inr (inl other)) = not_both (begins_number text) (number_begins n text other) number
symbol_only text letter number quote n (inr (inr (inl q))) = not_both (begins is_quote text) (quoted_begins n text q) quote
symbol_only text letter number quote n (inr (inr (inr s))) = s

-- a token of code is the longest, where what is allowed is spelled as a token of code
code_longest : (allowed : Allowing) (kind : Kind) (text : List ℕ) → ((t b : List ℕ) → IsQuoted t → IsCode kind (Token kind) t b) → ((piece : Piece) (n : ℕ) → IsCode kind piece (take n text) (drop n text) → allowed piece n) → ((other : Piece) (n : ℕ) → n ≤ length text → allowed other n → IsSpelledCode (take n text) (drop n text)) → IsLongestRead allowed text (code_token kind text)
code_longest allowed kind text quotes may others =
    let run : ℕ = prefix_len is_name_byte text in
    if_longest allowed text (begins is_ascii_alphabetic text) _ _
    (λ letter.
    let some : 0 < run = run_within is_ascii_alphabetic is_name_byte letter_in_name text letter in
    let word : IsWord (take run text) = (begins_take is_ascii_alphabetic run text some ∙ letter, prefix_all is_name_byte text) in
    bounded_longest allowed Word run text (prefix_len-le-length is_name_byte text) (no_quote is_ascii_alphabetic text letter_quote letter) (may (Token Word) run word) (λ other n le h. word_most text letter n le (others other n le h)))
    (λ letter. if_longest allowed text (begins_number text) _ _
    (λ number. (may (Token Number) (number_length text) (number_spelled text number), λ other n le h. number_is_most text letter number n le (others other n le h)))
    (λ number. if_longest allowed text (begins is_quote text) _ _
    (λ quote. quoted_longest allowed (Token kind) text quote (λ n h. may (Token kind) n (quotes (take n text) (drop n text) h)) (λ other n le h. quote_only text letter number quote n (others other n le h)))
    (λ quote. symbol_longest allowed text (λ s n h. may (Token (Symbol s)) n h) (λ other n le h. symbol_only text letter number quote n (others other n le h)))))

-- ---- tokens of lists

-- the spelling of a token where an element is expected
abbrev IsSpelledElement : List ℕ → Type 0
IsSpelledElement text = IsLabel text ⊎ (IsQuoted text ⊎ ((s : Sym) × IsSymbol s text))

element_spelled : (piece : Piece) (text : List ℕ) → IsElementPiece piece text → IsSpelledElement text
element_spelled (Token Label) text (inl label) = inl label
element_spelled (Token Label) text (inr quote) = inr (inl quote)
element_spelled (Token (Symbol s)) text h = inr (inr (s, h))
element_spelled (Token Word) text h = absurd h
element_spelled (Token Number) text h = absurd h
element_spelled (Token Text) text h = absurd h
element_spelled (Token Break) text h = absurd h
element_spelled (Token TableLine) text h = absurd h
element_spelled (Token End) text h = absurd h
element_spelled Gap text h = absurd h
element_spelled LineEnd text h = absurd h
element_spelled Remark text h = absurd h

label_most : (text : List ℕ) → begins is_ascii_alphanumeric text ≡ true → (n : ℕ) → n ≤ length text → IsSpelledElement (take n text) → n ≤ prefix_len is_label_byte text
label_most text label n le (inl other) = prefix_most is_label_byte n text le other.1
label_most text label n le (inr (inl quote)) = begins_apart is_ascii_alphanumeric is_quote text label_quote label (quoted_begins n text quote)
label_most text label n le (inr (inr s)) = begins_apart is_ascii_alphanumeric is_outside text label_outside label (symbol_prefix s.0 n text s.1)

element_quote_only : (text : List ℕ) → begins is_ascii_alphanumeric text ≡ false → begins is_quote text ≡ true → (n : ℕ) → IsSpelledElement (take n text) → IsQuoted (take n text)
element_quote_only text label quote n (inl other) = not_both (begins is_ascii_alphanumeric text) (begins_prefix is_ascii_alphanumeric n text other.0) label
element_quote_only text label quote n (inr (inl q)) = q
element_quote_only text label quote n (inr (inr s)) = begins_apart is_quote is_outside text quote_outside quote (symbol_prefix s.0 n text s.1)

element_symbol_only : (text : List ℕ) → begins is_ascii_alphanumeric text ≡ false → begins is_quote text ≡ false → (n : ℕ) → IsSpelledElement (take n text) → (s : Sym) × IsSymbol s (take n text)
element_symbol_only text label quote n (inl other) = not_both (begins is_ascii_alphanumeric text) (begins_prefix is_ascii_alphanumeric n text other.0) label
element_symbol_only text label quote n (inr (inl q)) = not_both (begins is_quote text) (quoted_begins n text q) quote
element_symbol_only text label quote n (inr (inr s)) = s

-- the first token where an element is expected is the longest
element_longest : (allowed : Allowing) (text : List ℕ) → ((piece : Piece) (n : ℕ) → IsElementPiece piece (take n text) → allowed piece n) → ((other : Piece) (n : ℕ) → n ≤ length text → allowed other n → IsSpelledElement (take n text)) → IsLongestRead allowed text (label_token text)
element_longest allowed text may others =
    let run : ℕ = prefix_len is_label_byte text in
    if_longest allowed text (begins is_ascii_alphanumeric text) _ _
    (λ label.
    let some : 0 < run = run_within is_ascii_alphanumeric is_label_byte alphanumeric_in_label text label in
    let here : IsLabel (take run text) = (begins_take is_ascii_alphanumeric run text some ∙ label, prefix_all is_label_byte text) in
    bounded_longest allowed Label run text (prefix_len-le-length is_label_byte text) (no_quote is_ascii_alphanumeric text label_quote label) (may (Token Label) run (inl here)) (λ other n le h. label_most text label n le (others other n le h)))
    (λ label. if_longest allowed text (begins is_quote text) _ _
    (λ quote. quoted_longest allowed (Token Label) text quote (λ n h. may (Token Label) n (inr h)) (λ other n le h. element_quote_only text label quote n (others other n le h)))
    (λ quote. symbol_longest allowed text (λ s n h. may (Token (Symbol s)) n h) (λ other n le h. element_symbol_only text label quote n (others other n le h))))

-- ---- marks and texts

mark_or_text : (marks : ℕ → Bool) (piece : Piece) (text : List ℕ) → IsMarkOrText marks piece text → ((begins marks text ≡ true) × ((s : Sym) × IsSymbol s text)) ⊎ ((begins marks text ≡ false) × IsText text)
mark_or_text marks (Token (Symbol s)) text h = inl (h.0, (s, h.1))
mark_or_text marks Remark text h = inr h
mark_or_text marks (Token Word) text h = absurd h
mark_or_text marks (Token Number) text h = absurd h
mark_or_text marks (Token Text) text h = absurd h
mark_or_text marks (Token Label) text h = absurd h
mark_or_text marks (Token Break) text h = absurd h
mark_or_text marks (Token TableLine) text h = absurd h
mark_or_text marks (Token End) text h = absurd h
mark_or_text marks Gap text h = absurd h
mark_or_text marks LineEnd text h = absurd h

text_some : (n : ℕ) (text : List ℕ) → IsText (take n text) → 0 < n
text_some zero text (inl q) = absurd (omega (arith, ap length q.spelled))
text_some zero text (inr u) = absurd (omega (arith, u.0))
text_some (suc n) text h = omega arith

symbol_some : (s : Sym) (n : ℕ) (text : List ℕ) → IsSymbol s (take n text) → 0 < n
symbol_some s zero text h = not_both false (symbol_outside s [] h) refl
symbol_some s (suc n) text h = omega arith

-- a mark as a symbol
mark_longest : (marks : ℕ → Bool) (text : List ℕ) → begins marks text ≡ true → IsLongestRead (λ piece n. IsMarkOrText marks piece (take n text)) text (symbol text)
mark_longest marks text mark =
    symbol_longest (λ piece n. IsMarkOrText marks piece (take n text)) text
    (λ s n h. (begins_take marks n text (symbol_some s n text h) ∙ mark, h))
    (λ other n le h. elim (mark_or_text marks other (take n text) h) [
      | inl is ↦ is.1
      | inr t ↦ not_both (begins marks text) mark (sym (begins_take marks n text (text_some n text t.1)) ∙ t.0)
    ])

-- a text that begins with no mark
text_longest : (marks : ℕ → Bool) (text : List ℕ) → begins marks text ≡ false → IsLongestRead (λ piece n. IsMarkOrText marks piece (take n text)) text (remark text)
text_longest marks text none =
    remark_longest (λ piece n. IsMarkOrText marks piece (take n text)) text
    (λ n h. (begins_take marks n text (text_some n text h) ∙ none, h))
    (λ other n le h. elim (mark_or_text marks other (take n text) h) [
      | inl is ↦ not_both (begins marks text) (begins_prefix marks n text is.0) none
      | inr t ↦ t.1
    ])

mark_or_text_longest : (marks : ℕ → Bool) (text : List ℕ) → IsLongestRead (λ piece n. IsMarkOrText marks piece (take n text)) text (if begins marks text then symbol text else remark text)
mark_or_text_longest marks text = if_longest (λ piece n. IsMarkOrText marks piece (take n text)) text (begins marks text) _ _ (mark_longest marks text) (text_longest marks text)

-- ---- after an element of a list

is_label_quoted : (t b : List ℕ) → IsQuoted t → IsCode Label (Token Label) t b
is_label_quoted t b h = (refl, h)

is_text_quoted : (t b : List ℕ) → IsQuoted t → IsCode Text (Token Text) t b
is_text_quoted t b h = (refl, h)

value_spelled : (stage : Stage) (piece : Piece) (text following : List ℕ) → IsValuePiece stage piece text following → IsSpelledCode text following
value_spelled After (Token Number) text following h = inr (inl h.0)
value_spelled After (Token Word) text following h = inl h
value_spelled After (Token (Symbol s)) text following h = inr (inr (inr (s, h)))
value_spelled After (Token Text) text following h = inr (inr (inl h.1))
value_spelled After (Token Label) text following h = inr (inr (inl h.1))
value_spelled After (Token Break) text following h = absurd h
value_spelled After (Token TableLine) text following h = absurd h
value_spelled After (Token End) text following h = absurd h
value_spelled After Gap text following h = absurd h
value_spelled After LineEnd text following h = absurd h
value_spelled After Remark text following h = absurd h
value_spelled Spaced piece text following h = code_spelled Label piece text following h
value_spelled Fresh piece text following h = code_spelled Label piece text following h
value_spelled Expected piece text following h = code_spelled Label piece text following h

-- what a value is after an element: not a number that begins with a dot, if it directly follows the
-- element
code_value : (piece : Piece) (text following : List ℕ) → begins_dot text ≡ false → IsCode Label piece text following → IsValuePiece After piece text following
code_value (Token Number) text following dot h = (h, dot)
code_value (Token Word) text following dot h = h
code_value (Token (Symbol s)) text following dot h = h
code_value (Token Text) text following dot h = h
code_value (Token Label) text following dot h = h
code_value (Token Break) text following dot h = absurd h
code_value (Token TableLine) text following dot h = absurd h
code_value (Token End) text following dot h = absurd h
code_value Gap text following dot h = absurd h
code_value LineEnd text following dot h = absurd h
code_value Remark text following dot h = absurd h

dot_is_mark : (b : ℕ) → (b == 46) ≡ true → is_element_mark b ≡ true
dot_is_mark b h = grind (arith, nat_tests, h)

no_mark_no_dot : (text : List ℕ) → begins is_element_mark text ≡ false → begins_dot text ≡ false
no_mark_no_dot [] h = refl
no_mark_no_dot (b ∷ text) h = elim (true_or_false (b == 46)) [
  | inl dot ↦ not_both (is_element_mark b) (dot_is_mark b dot) h
  | inr other ↦ other
]

-- a prefix of a text that begins with no dot begins with none
prefix_no_dot : (n : ℕ) (text : List ℕ) → begins_dot text ≡ false → begins_dot (take n text) ≡ false
prefix_no_dot zero text h = refl
prefix_no_dot (suc n) [] h = refl
prefix_no_dot (suc n) (b ∷ text) h = h

-- what begins with a mark and is spelled as a token of code, but is no number with a dot, is a
-- symbol
mark_only : (text : List ℕ) → begins is_element_mark text ≡ true → (n : ℕ) → (IsNumberSpelling (take n text) (drop n text) → begins_dot text ≡ false) → IsSpelledCode (take n text) (drop n text) → (s : Sym) × IsSymbol s (take n text)
mark_only text mark n dot (inl word) = begins_apart is_element_mark is_ascii_alphabetic text mark_letter mark (begins_prefix is_ascii_alphabetic n text word.0)
mark_only text mark n dot (inr (inl number)) = elim (number_prefix text (number_begins n text number)) [
  | inl d ↦ begins_apart is_element_mark is_ascii_digit text mark_digit mark d
  | inr both ↦ not_both (begins_dot text) both.1 (dot number)
]
mark_only text mark n dot (inr (inr (inl quote))) = begins_apart is_element_mark is_quote text mark_quote mark (quoted_begins n text quote)
mark_only text mark n dot (inr (inr (inr s))) = s

-- a number begins with a dot only if its text does
dot_of_prefix : (n : ℕ) (text : List ℕ) → IsNumberSpelling (take n text) (drop n text) → begins_dot (take n text) ≡ false → begins_dot text ≡ false
dot_of_prefix zero text number h =
    let long : 0 ≡ length number.whole + (length number.point + length number.exponent) = omega (arith, ap length number.spelled, length-append number.whole (number.point ++ number.exponent), length-append number.point number.exponent) in
    elim number.some [ inl w ↦ absurd (omega (arith, w, long)) | inr p ↦ absurd (omega (arith, p, long)) ]
dot_of_prefix (suc n) [] number h = refl
dot_of_prefix (suc n) (b ∷ text) number h = h

-- directly after an element a number may not begin with a dot
after_number : (piece : Piece) (n : ℕ) (text : List ℕ) → IsValuePiece After piece (take n text) (drop n text) → begins is_element_mark text ≡ true → (s : Sym) × IsSymbol s (take n text)
after_number (Token Number) n text h mark = elim (number_prefix text (number_begins n text h.0)) [
  | inl d ↦ begins_apart is_element_mark is_ascii_digit text mark_digit mark d
  | inr both ↦ not_both (begins_dot text) both.1 (dot_of_prefix n text h.0 h.1)
]
after_number (Token Word) n text h mark = begins_apart is_element_mark is_ascii_alphabetic text mark_letter mark (begins_prefix is_ascii_alphabetic n text h.0)
after_number (Token (Symbol s)) n text h mark = (s, h)
after_number (Token Text) n text h mark = begins_apart is_element_mark is_quote text mark_quote mark (quoted_begins n text h.1)
after_number (Token Label) n text h mark = begins_apart is_element_mark is_quote text mark_quote mark (quoted_begins n text h.1)
after_number (Token Break) n text h mark = absurd h
after_number (Token TableLine) n text h mark = absurd h
after_number (Token End) n text h mark = absurd h
after_number Gap n text h mark = absurd h
after_number LineEnd n text h mark = absurd h
after_number Remark n text h mark = absurd h

digit_no_dot : (b : ℕ) → is_ascii_digit b ≡ true → (b == 46) ≡ false
digit_no_dot b h = grind (arith, nat_tests, h)

digit_first : (text : List ℕ) → begins is_ascii_digit text ≡ true → begins_dot text ≡ false
digit_first [] h = refl
digit_first (b ∷ text) h = digit_no_dot b h

-- where a dot begins no value, a number at the text begins with none
no_value_dot : (text : List ℕ) (n : ℕ) → (begins_dot text && begins is_ascii_digit (drop 1 text)) ≡ false → IsNumberSpelling (take n text) (drop n text) → begins_dot text ≡ false
no_value_dot text n none number = elim (number_prefix text (number_begins n text number)) [
  | inl d ↦ digit_first text d
  | inr both ↦ not_both (begins_dot text && begins is_ascii_digit (drop 1 text)) (and_from (begins_dot text) (begins is_ascii_digit (drop 1 text)) both.1 both.2) none
]

and_false : (b : Bool) → (b && true) ≡ false → b ≡ false
and_false true h = h
and_false false h = refl

-- in a parameter's list outside parentheses, directly after an element
parameter_after : (text : List ℕ) → IsLongestRead (λ piece n. IsValuePiece After piece (take n text) (drop n text)) text (piece_after_label Parameter 0 After text)
parameter_after text =
    let allowed : Allowing = λ piece n. IsValuePiece After piece (take n text) (drop n text) in
    if_longest allowed text (begins is_element_mark text && true) _ _
    (λ mark. symbol_longest allowed text (λ s n h. h) (λ other n le h. after_number other n text h (and_parts (begins is_element_mark text) true mark).0))
    (λ mark.
    let none : begins_dot text ≡ false = no_mark_no_dot text (and_false (begins is_element_mark text) mark) in
    code_longest allowed Label text is_label_quoted (λ piece n h. code_value piece (take n text) (drop n text) (prefix_no_dot n text none) h) (λ other n le h. value_spelled After other (take n text) (drop n text) h))

-- in a parameter's list outside parentheses, after a blank
parameter_spaced : (text : List ℕ) → IsLongestRead (λ piece n. IsValuePiece Spaced piece (take n text) (drop n text)) text (piece_after_label Parameter 0 Spaced text)
parameter_spaced text =
    let allowed : Allowing = λ piece n. IsValuePiece Spaced piece (take n text) (drop n text) in
    let value : Bool = begins_dot text && begins is_ascii_digit (drop 1 text) in
    if_longest allowed text (begins is_element_mark text && not value) _ _
    (λ mark.
    let both = and_parts (begins is_element_mark text) (not value) mark in
    symbol_longest allowed text (λ s n h. h) (λ other n le h. mark_only text both.0 n (no_value_dot text n (not-true value both.1)) (code_spelled Label other (take n text) (drop n text) h)))
    (λ _. code_longest allowed Label text is_label_quoted (λ piece n h. h) (λ other n le h. code_spelled Label other (take n text) (drop n text) h))

-- in a list of another shape outside parentheses
other_after : (text : List ℕ) → IsLongestRead (λ piece n. IsMarkOrText is_element_mark piece (take n text)) text (if begins is_element_mark text && true then symbol text else remark text)
other_after text =
    if_longest (λ piece n. IsMarkOrText is_element_mark piece (take n text)) text (begins is_element_mark text && true) _ _
    (λ mark. mark_longest is_element_mark text (and_parts (begins is_element_mark text) true mark).0)
    (λ mark. text_longest is_element_mark text (and_false (begins is_element_mark text) mark))

-- what begins with a mark, and is spelled as a token of a list, is a symbol
element_mark_only : (text : List ℕ) → begins is_element_mark text ≡ true → (n : ℕ) → IsSpelledElement (take n text) → (s : Sym) × IsSymbol s (take n text)
element_mark_only text mark n (inl label) = begins_apart is_element_mark is_ascii_alphanumeric text mark_label mark (begins_prefix is_ascii_alphanumeric n text label.0)
element_mark_only text mark n (inr (inl quote)) = begins_apart is_element_mark is_quote text mark_quote mark (quoted_begins n text quote)
element_mark_only text mark n (inr (inr s)) = s

-- in parentheses of a list, after an element
inside_longest : (text : List ℕ) → IsLongestRead (λ piece n. IsElementPiece piece (take n text)) text (if begins is_element_mark text && true then symbol text else label_token text)
inside_longest text =
    let allowed : Allowing = λ piece n. IsElementPiece piece (take n text) in
    if_longest allowed text (begins is_element_mark text && true) _ _
    (λ mark. symbol_longest allowed text (λ s n h. h) (λ other n le h. element_mark_only text (and_parts (begins is_element_mark text) true mark).0 n (element_spelled other (take n text) h)))
    (λ _. element_longest allowed text (λ piece n h. h) (λ other n le h. element_spelled other (take n text) h))

expected_longest : (text : List ℕ) → IsLongestRead (λ piece n. IsElementPiece piece (take n text)) text (label_token text)
expected_longest text = element_longest (λ piece n. IsElementPiece piece (take n text)) text (λ piece n h. h) (λ other n le h. element_spelled other (take n text) h)

-- after an element, with blanks between or without
abbrev IsAfter : Stage → Type 0
IsAfter Fresh = ⊥
IsAfter Expected = ⊥
IsAfter After = Unit {0}
IsAfter Spaced = Unit {0}

outside_longest : (shape : Shape) (stage : Stage) (text : List ℕ) → IsAfter stage → IsLongestRead (λ piece n. IsAfterElementPiece shape stage piece (take n text) (drop n text)) text (piece_after_label shape 0 stage text)
outside_longest Parameter After text h = parameter_after text
outside_longest Parameter Spaced text h = parameter_spaced text
outside_longest Set After text h = other_after text
outside_longest Set Spaced text h = other_after text
outside_longest Scalar After text h = other_after text
outside_longest Scalar Spaced text h = other_after text
outside_longest Model After text h = other_after text
outside_longest Model Spaced text h = other_after text
outside_longest shape Fresh text h = absurd h
outside_longest shape Expected text h = absurd h

positive : (depth : ℕ) → (suc depth == 0) ≡ false
positive depth = grind (arith, nat_tests)

-- what follows an element within parentheses
nested_is : (shape : Shape) (depth : ℕ) (stage : Stage) (text : List ℕ) → piece_after_label shape (suc depth) stage text ≡ (if begins is_element_mark text && true then symbol text else label_token text)
nested_is Set depth stage text = ap (λ v. if begins is_element_mark text && true then symbol text else (if v then element_tail Set text else label_token text)) (positive depth)
nested_is Scalar depth stage text = ap (λ v. if begins is_element_mark text && true then symbol text else (if v then element_tail Scalar text else label_token text)) (positive depth)
nested_is Model depth stage text = ap (λ v. if begins is_element_mark text && true then symbol text else (if v then element_tail Model text else label_token text)) (positive depth)
nested_is Parameter depth Fresh text = ap (λ v. if begins is_element_mark text && true then symbol text else (if v then element_tail Parameter text else label_token text)) (positive depth)
nested_is Parameter depth Expected text = ap (λ v. if begins is_element_mark text && true then symbol text else (if v then element_tail Parameter text else label_token text)) (positive depth)
nested_is Parameter depth After text = ap (λ v. if begins is_element_mark text && true then symbol text else (if v then element_tail Parameter text else label_token text)) (positive depth)
nested_is Parameter depth Spaced text =
    ap (λ v. if begins is_element_mark text && not (v && (begins_dot text && begins is_ascii_digit (drop 1 text))) then symbol text else (if v then element_tail Parameter text else label_token text)) (positive depth)

nested_longest : (shape : Shape) (depth : ℕ) (stage : Stage) (text : List ℕ) → IsLongestRead (λ piece n. IsElementPiece piece (take n text)) text (piece_after_label shape (suc depth) stage text)
nested_longest shape depth stage text =
    subst (IsLongestRead (λ piece n. IsElementPiece piece (take n text)) text) (sym (nested_is shape depth stage text)) (inside_longest text)

list_longest : (shape : Shape) (depth : ℕ) (stage : Stage) (text : List ℕ) → IsLongestRead (λ piece n. IsInList shape depth stage piece (take n text) (drop n text)) text (in_list shape depth stage text)
list_longest shape depth Fresh text = expected_longest text
list_longest shape depth Expected text = expected_longest text
list_longest shape zero After text = outside_longest shape After text tt
list_longest shape zero Spaced text = outside_longest shape Spaced text tt
list_longest shape (suc depth) After text = nested_longest shape depth After text
list_longest shape (suc depth) Spaced text = nested_longest shape depth Spaced text

-- ---- all modes

code_read : (kind : Kind) (text : List ℕ) → ((t b : List ℕ) → IsQuoted t → IsCode kind (Token kind) t b) → IsLongestRead (λ piece n. IsCode kind piece (take n text) (drop n text)) text (code_token kind text)
code_read kind text quotes = code_longest (λ piece n. IsCode kind piece (take n text) (drop n text)) kind text quotes (λ piece n h. h) (λ other n le h. code_spelled kind other (take n text) (drop n text) h)

-- what is read outside the lines of a table
abbrev IsPlainRead : Mode → List ℕ → Type 0
IsPlainRead TableLines text = Unit {0}
IsPlainRead current text = IsLongestRead (IsAllowedPiece current text) text (token_read current text)

plain_read : (current : Mode) (text : List ℕ) → IsPlainRead current text
plain_read TableLines text = tt
plain_read (Named shape) text = mark_or_text_longest (λ b. b == 40 || is_item_mark b) text
plain_read TableNamed text = mark_or_text_longest (λ b. b == 40 || is_item_mark b) text
plain_read (Bare shape) text = mark_or_text_longest is_item_mark text
plain_read TableBare text = mark_or_text_longest is_item_mark text
plain_read (Element shape depth stage) text = list_longest shape depth stage text
plain_read (Value shape) text = code_read Label text is_label_quoted
plain_read (Tail shape) text = code_read Label text is_label_quoted
plain_read current text = code_read Text text is_text_quoted

-- ---- what is allowed, as a piece

-- a piece that is a descriptive text is spelled as one
abbrev pub IsTextIfRemark : Piece → List ℕ → Type 0
IsTextIfRemark Remark text = IsText text
IsTextIfRemark piece text = Unit {0}

-- a piece has a text, and a descriptive text is spelled as one
abbrev pub Tells : Piece → List ℕ → Type 0
Tells piece text = (has_text piece ≡ true) × IsTextIfRemark piece text

code_tells : (kind : Kind) (piece : Piece) (text following : List ℕ) → IsCode kind piece text following → Tells piece text
code_tells kind (Token Break) text following h = absurd h
code_tells kind Gap text following h = absurd h
code_tells kind LineEnd text following h = absurd h
code_tells kind Remark text following h = absurd h
code_tells kind piece text following h = (refl, tt)

element_tells : (piece : Piece) (text : List ℕ) → IsElementPiece piece text → Tells piece text
element_tells (Token Break) text h = absurd h
element_tells Gap text h = absurd h
element_tells LineEnd text h = absurd h
element_tells Remark text h = absurd h
element_tells piece text h = (refl, tt)

mark_tells : (marks : ℕ → Bool) (piece : Piece) (text : List ℕ) → IsMarkOrText marks piece text → Tells piece text
mark_tells marks (Token Break) text h = absurd h
mark_tells marks Gap text h = absurd h
mark_tells marks LineEnd text h = absurd h
mark_tells marks Remark text h = (refl, h.1)
mark_tells marks piece text h = (refl, tt)

value_tells : (stage : Stage) (piece : Piece) (text following : List ℕ) → IsValuePiece stage piece text following → Tells piece text
value_tells After (Token Break) text following h = absurd h
value_tells After Gap text following h = absurd h
value_tells After LineEnd text following h = absurd h
value_tells After Remark text following h = absurd h
value_tells After piece text following h = (refl, tt)
value_tells Spaced piece text following h = code_tells Label piece text following h
value_tells Fresh piece text following h = code_tells Label piece text following h
value_tells Expected piece text following h = code_tells Label piece text following h

after_tells : (shape : Shape) (stage : Stage) (piece : Piece) (text following : List ℕ) → IsAfterElementPiece shape stage piece text following → Tells piece text
after_tells Parameter stage piece text following h = value_tells stage piece text following h
after_tells Set stage piece text following h = mark_tells is_element_mark piece text h
after_tells Scalar stage piece text following h = mark_tells is_element_mark piece text h
after_tells Model stage piece text following h = mark_tells is_element_mark piece text h

listed_tells : (shape : Shape) (depth : ℕ) (stage : Stage) (piece : Piece) (text following : List ℕ) → IsInList shape depth stage piece text following → Tells piece text
listed_tells shape depth Fresh piece text following h = element_tells piece text h
listed_tells shape depth Expected piece text following h = element_tells piece text h
listed_tells shape zero After piece text following h = after_tells shape After piece text following h
listed_tells shape zero Spaced piece text following h = after_tells shape Spaced piece text following h
listed_tells shape (suc depth) After piece text following h = element_tells piece text h
listed_tells shape (suc depth) Spaced piece text following h = element_tells piece text h

table_tells : (text : List ℕ) (piece : Piece) (n : ℕ) → IsOfTable text piece n → Tells piece (take n text)
table_tells text (Token TableLine) n h = (refl, tt)
table_tells text piece n h = code_tells Text piece (take n text) (drop n text) h.1

-- what a mode allows has a text
pub allowed_tells : (current : Mode) (text : List ℕ) (piece : Piece) (n : ℕ) → IsAllowedPiece current text piece n → Tells piece (take n text)
allowed_tells (Named shape) text piece n h = mark_tells (λ b. b == 40 || is_item_mark b) piece (take n text) h
allowed_tells TableNamed text piece n h = mark_tells (λ b. b == 40 || is_item_mark b) piece (take n text) h
allowed_tells (Bare shape) text piece n h = mark_tells is_item_mark piece (take n text) h
allowed_tells TableBare text piece n h = mark_tells is_item_mark piece (take n text) h
allowed_tells (Element shape depth stage) text piece n h = listed_tells shape depth stage piece (take n text) (drop n text) h
allowed_tells (Value shape) text piece n h = code_tells Label piece (take n text) (drop n text) h
allowed_tells (Tail shape) text piece n h = code_tells Label piece (take n text) (drop n text) h
allowed_tells TableLines text piece n h = table_tells text piece n h
allowed_tells current text piece n h = code_tells Text piece (take n text) (drop n text) h

-- ---- the lines of a table

code_of_table : (text : List ℕ) (piece : Piece) (n : ℕ) → (table_bytes (content text) == 0 || begins_statement text) ≡ true → IsCode Text piece (take n text) (drop n text) → IsOfTable text piece n
code_of_table text (Token TableLine) n ends h = absurd h
code_of_table text piece n ends h = (ends, h)

no_line : (bytes n : ℕ) (statement : Bool) → (bytes == 0 || statement) ≡ true → statement ≡ false → 0 < n → n ≡ bytes → ⊥
no_line bytes n statement ends none some long = grind (arith, nat_tests, ends, none, some, long)

of_table_code : (text : List ℕ) (piece : Piece) (n : ℕ) → (table_bytes (content text) == 0 || begins_statement text) ≡ true → IsOfTable text piece n → IsSpelledCode (take n text) (drop n text)
of_table_code text (Token TableLine) n ends h = absurd (no_line (table_bytes (content text)) n (begins_statement text) ends h.0 h.1 h.2)
of_table_code text piece n ends h = code_spelled Text piece (take n text) (drop n text) h.1

of_table_line : (text : List ℕ) (piece : Piece) (n : ℕ) → (table_bytes (content text) == 0 || begins_statement text) ≡ false → IsOfTable text piece n → n ≤ table_bytes (content text)
of_table_line text (Token TableLine) n goes h = omega (arith, h.2)
of_table_line text piece n goes h = not_both (table_bytes (content text) == 0 || begins_statement text) h.0 goes

line_some : (bytes : ℕ) (statement : Bool) → (bytes == 0 || statement) ≡ false → (statement ≡ false) × (0 < bytes)
line_some bytes statement h = (grind (arith, nat_tests, h), grind (arith, nat_tests, h))

table_code_longest : (text : List ℕ) → (table_bytes (content text) == 0 || begins_statement text) ≡ true → IsLongestRead (IsOfTable text) text (code_token Text text)
table_code_longest text ends =
    code_longest (IsOfTable text) Text text is_text_quoted (λ piece n h. code_of_table text piece n ends h) (λ other n le h. of_table_code text other n ends h)

-- the bytes of a line that belong to the table are bytes of the text
line_within : (text : List ℕ) → table_bytes (content text) ≤ length text
line_within text = omega (arith, table_bytes_le (content text), length-take (before is_line_end text) text)

table_line_longest : (text : List ℕ) → (table_bytes (content text) == 0 || begins_statement text) ≡ false → IsLongestRead (IsOfTable text) text (table_line (table_bytes (content text)) text)
table_line_longest text goes =
    let bytes : ℕ = table_bytes (content text) in
    let some = line_some bytes (begins_statement text) goes in
    let most : IsMost (IsOfTable text) text (record { piece = Token TableLine; length = bytes }) = ((some.0, some.1, refl), λ other n le h. of_table_line text other n goes h) in
    if_longest (IsOfTable text) text (nat_lt (prefix_len is_ascii (take bytes text)) bytes) _ _
    (λ h.
    let early : prefix_len is_ascii (take bytes text) < bytes = grind (arith, nat_tests, h) in
    inr (record { piece = Token TableLine; length = bytes }, most, inr (refl, early, bad_byte text bytes (line_within text) early)))
    (λ _. most)

-- ---- what is read has a text

abbrev pub TellsRead : List ℕ → Read → Type 0
TellsRead text (Ok p) = has_text p.piece ≡ true
TellsRead text (Err m) = Unit {0}

read_tells : (allowed : Allowing) (text : List ℕ) (read : Read) → ((piece : Piece) (n : ℕ) → allowed piece n → Tells piece (take n text)) → IsLongestRead allowed text read → TellsRead text read
read_tells allowed text (Ok p) tells h = (tells p.piece p.length h.0).0
read_tells allowed text (Err m) tells h = tt

pub table_code_tells : (text : List ℕ) → (table_bytes (content text) == 0 || begins_statement text) ≡ true → TellsRead text (code_token Text text)
table_code_tells text ends = read_tells (IsOfTable text) text (code_token Text text) (table_tells text) (table_code_longest text ends)

pub table_line_tells : (text : List ℕ) → (table_bytes (content text) == 0 || begins_statement text) ≡ false → TellsRead text (table_line (table_bytes (content text)) text)
table_line_tells text goes = read_tells (IsOfTable text) text (table_line (table_bytes (content text)) text) (table_tells text) (table_line_longest text goes)

-- what is read outside the lines of a table
abbrev pub TellsPlain : Mode → List ℕ → Type 0
TellsPlain TableLines text = Unit {0}
TellsPlain current text = TellsRead text (token_read current text)

pub plain_tells : (current : Mode) (text : List ℕ) → TellsPlain current text
plain_tells TableLines text = tt
plain_tells current text = read_tells (IsAllowedPiece current text) text (token_read current text) (allowed_tells current text) (plain_read current text)

-- ---- blanks and line ends

all_more : (one other : ℕ → Bool) → ((b : ℕ) → one b ≡ true → other b ≡ true) → (text : List ℕ) → list_all one text ≡ true → list_all other text ≡ true
all_more one other grows [] h = refl
all_more one other grows (b ∷ text) h =
    let both = and_parts (one b) (list_all one text) h in
    and_from (other b) (list_all other text) (grows b both.0) (all_more one other grows text both.1)

blank_space : (b : ℕ) → is_blank b ≡ true → is_space b ≡ true
blank_space b h = ap (λ v. v || (b == 10 || b == 13)) h

blanks_space : (text : List ℕ) → list_all is_space (take (prefix_len is_blank text) text) ≡ true
blanks_space text = all_more is_blank is_space blank_space (take (prefix_len is_blank text) text) (prefix_all is_blank text)

feed_space : (b : ℕ) → (b == 10) ≡ true → is_space b ≡ true
feed_space b h = grind (arith, nat_tests, h)

return_space : (b : ℕ) → (b == 13) ≡ true → is_space b ≡ true
return_space b h = grind (arith, nat_tests, h)

no_more : (b : Bool) → (b || false) ≡ true → b ≡ true
no_more true h = refl
no_more false h = h

feed_only : (b : ℕ) → (b == 10 || false) ≡ true → b ∷ [] ≡ 10 ∷ []
feed_only b h = let is : b ≡ 10 = grind (arith, nat_tests, h) in ap (λ c. c ∷ []) is

two_feeds : (b : ℕ) → (b == 13) ≡ true → (b == 10) ≡ true → ⊥
two_feeds b h g = grind (arith, nat_tests, h, g)

return_feed : (b : ℕ) (text : List ℕ) → (b == 13) ≡ true → (b == 10 || begins (λ c. c == 10) text) ≡ true → take 2 (b ∷ text) ≡ 13 ∷ 10 ∷ []
return_feed b [] r h = absurd (two_feeds b r (no_more (b == 10) h))
return_feed b (c ∷ text) r h = elim (true_or_false (b == 10)) [
  | inl t ↦ absurd (two_feeds b r t)
  | inr f ↦
      let feed : (c == 10) ≡ true = subst (λ v. (v || c == 10) ≡ true) f h in
      let one : b ≡ 13 = grind (arith, nat_tests, r) in
      let two : c ≡ 10 = grind (arith, nat_tests, feed) in
      ap (λ x. x ∷ c ∷ []) one ∙ ap (λ x. 13 ∷ x ∷ []) two
]

-- one line end
pub one_line_end : (text : List ℕ) → is_line_end text ≡ true → IsOneLineEnd (take (line_end_length text) text)
one_line_end [] h = not_both false h refl
one_line_end (b ∷ text) h = elim (true_or_false (b == 13)) [
  | inl r ↦ subst (λ v. IsOneLineEnd (take (if v then 2 else 1) (b ∷ text))) (sym r) (inr (return_feed b text r (subst (λ v. (b == 10 || (v && begins (λ c. c == 10) text)) ≡ true) r h)))
  | inr r ↦ subst (λ v. IsOneLineEnd (take (if v then 2 else 1) (b ∷ text))) (sym r) (inl (feed_only b (subst (λ v. (b == 10 || (v && begins (λ c. c == 10) text)) ≡ true) r h)))
]

line_end_space : (text : List ℕ) → is_line_end text ≡ true → list_all is_space (take (line_end_length text) text) ≡ true
line_end_space text h = elim (one_line_end text h) [
  | inl feed ↦ ap (list_all is_space) feed
  | inr both ↦ ap (list_all is_space) both
]

other_space : (b : ℕ) (rest : Bool) → not (is_blank b || (b == 10 || (b == 13 && rest))) ≡ false → is_space b ≡ true
other_space b rest h = grind (arith, nat_tests, h)

space_space : (text : List ℕ) → list_all is_space (take (space_length text) text) ≡ true
space_space [] = refl
space_space (b ∷ text) = elim (true_or_false (begins_other (b ∷ text))) [
  | inl t ↦ subst (λ v. list_all is_space (take (if v then 0 else 1 + before begins_other text) (b ∷ text)) ≡ true) (sym t) refl
  | inr f ↦
      let long : suc (before begins_other text) ≡ 1 + before begins_other text = omega arith in
      let here : list_all is_space (take (1 + before begins_other text) (b ∷ text)) ≡ true = subst (λ k. list_all is_space (take k (b ∷ text)) ≡ true) long (and_from (is_space b) (list_all is_space (take (before begins_other text) text)) (other_space b (begins (λ c. c == 10) text) f) (space_space text)) in
      subst (λ v. list_all is_space (take (if v then 0 else 1 + before begins_other text) (b ∷ text)) ≡ true) (sym f) here
]

-- ---- the first piece

-- a piece with a text is the longest that is allowed; any other is blank
abbrev pub IsExpectedMode : Allowing → List ℕ → Lexeme → Type 0
IsExpectedMode allowed text p =
    (has_text p.piece ≡ true → IsMost allowed text p) × (has_text p.piece ≡ false → list_all is_space (take p.length text) ≡ true)

abbrev IsExpectedRead : Allowing → List ℕ → Read → Type 0
IsExpectedRead allowed text (Ok p) = IsExpectedMode allowed text p
IsExpectedRead allowed text (Err m) = IsRefusedBy allowed text m

if_expected : (allowed : Allowing) (text : List ℕ) (b : Bool) (x y : Read) → (b ≡ true → IsExpectedRead allowed text x) → (b ≡ false → IsExpectedRead allowed text y) → IsExpectedRead allowed text (if b then x else y)
if_expected allowed text true x y p q = p refl
if_expected allowed text false x y p q = q refl

-- what is the longest has a text
longest_expected : (allowed : Allowing) (text : List ℕ) (read : Read) → ((piece : Piece) (n : ℕ) → allowed piece n → Tells piece (take n text)) → IsLongestRead allowed text read → IsExpectedRead allowed text read
longest_expected allowed text (Ok p) tells h = (λ _. h, λ none. not_both (has_text p.piece) (tells p.piece p.length h.0).0 none)
longest_expected allowed text (Err m) tells h = h

-- blanks and line ends have none
no_text : (allowed : Allowing) (piece : Piece) (n : ℕ) (text : List ℕ) → has_text piece ≡ false → list_all is_space (take n text) ≡ true → IsExpectedRead allowed text (Ok record { piece = piece; length = n })
no_text allowed piece n text none space = (λ some. not_both (has_text piece) some none, λ _. space)

table_expected : (text : List ℕ) → IsExpectedRead (IsOfTable text) text (table_piece text)
table_expected text =
    let blanks : ℕ = prefix_len is_blank text in
    let bytes : ℕ = table_bytes (content text) in
    if_expected (IsOfTable text) text (is_line_end text) _ _
    (λ h. no_text (IsOfTable text) LineEnd (line_end_length text) text refl (line_end_space text h))
    (λ _. if_expected (IsOfTable text) text (nat_lt 0 blanks && (nat_le bytes blanks || begins_statement (drop blanks text))) _ _
    (λ _. no_text (IsOfTable text) Gap blanks text refl (blanks_space text))
    (λ _. if_expected (IsOfTable text) text (bytes == 0 || begins_statement text) _ _
    (λ ends. longest_expected (IsOfTable text) text (code_token Text text) (table_tells text) (table_code_longest text ends))
    (λ goes. longest_expected (IsOfTable text) text (table_line bytes text) (table_tells text) (table_line_longest text goes))))

line_end_expected : (allowed : Allowing) (ends : LineEnds) (text : List ℕ) → is_line_end text ≡ true → IsExpectedRead allowed text (line_end ends text)
line_end_expected allowed Skipped text h = no_text allowed LineEnd (line_end_length text) text refl (line_end_space text h)
line_end_expected allowed EndItem text h = if_expected allowed text (ends_or_begins (passes EndItem) (drop (space_length text) text)) _ _ (λ _. no_text allowed LineEnd (space_length text) text refl (space_space text)) (λ _. no_text allowed (Token Break) (line_end_length text) text refl (line_end_space text h))
line_end_expected allowed EndElement text h = if_expected allowed text (ends_or_begins (passes EndElement) (drop (space_length text) text)) _ _ (λ _. no_text allowed LineEnd (space_length text) text refl (space_space text)) (λ _. no_text allowed (Token Break) (line_end_length text) text refl (line_end_space text h))

plain_expected : (allowed : Allowing) (current : Mode) (text : List ℕ) → IsExpectedRead allowed text (token_read current text) → IsExpectedRead allowed text (plain_piece current text)
plain_expected allowed current text h =
    if_expected allowed text (begins is_blank text) _ _
    (λ _. no_text allowed Gap (prefix_len is_blank text) text refl (blanks_space text))
    (λ _. if_expected allowed text (is_line_end text) _ _ (λ e. line_end_expected allowed (line_ends current) text e) (λ _. h))

piece_expected : (current : Mode) (text : List ℕ) → IsExpectedRead (IsAllowedPiece current text) text (piece_at current text)
piece_expected TableLines text = table_expected text
piece_expected current text = plain_expected (IsAllowedPiece current text) current text (longest_expected (IsAllowedPiece current text) text (token_read current text) (allowed_tells current text) (plain_read current text))

-- the first piece of a text
pub expected : (current : Mode) (text : List ℕ) (p : Lexeme) → piece_at current text ≡ Ok p → IsExpectedMode (IsAllowedPiece current text) text p
expected current text p e = subst (IsExpectedRead (IsAllowedPiece current text) text) e (piece_expected current text)

-- the first piece of a text is the longest that the mode allows there
pub longest : (current : Mode) (text : List ℕ) (p : Lexeme) → piece_at current text ≡ Ok p → has_text p.piece ≡ true → IsLongest current text p
longest current text p e h = let most = (expected current text p e).0 h in record { allowed = most.0; longest = most.1 }

-- an error means that nothing is allowed there, or the longest that is allowed is no token
pub refused : (current : Mode) (text : List ℕ) (m : Misread) → piece_at current text ≡ Err m → IsRefusedPiece current text m
refused current text m e = elim (subst (IsExpectedRead (IsAllowedPiece current text) text) e (piece_expected current text)) [
  | inl none ↦ inl none
  | inr found ↦ inr (found.0, record { allowed = found.1.0; longest = found.1.1 }, found.2)
]
