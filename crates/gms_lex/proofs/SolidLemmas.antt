-- Words, labels and quoted texts are on one line, and are spelled as their kinds.
use Rattle.std.proofs.lemmas.Bool.{not-false}
use Rattle.std.proofs.Common.{◌≡◌, inl, inr, ℕ, zero, suc, ◌+◌, ◌-◌, ◌==◌, ◌&&◌, ◌||◌, ◌<◌, ◌≤◌, Bool, true, false, not, nat_lt, nat_le, if◌then◌else◌, List, [], ◌∷◌, length, take, drop, get_or, Option, Some, None, Ok, Err, refl, sym, ap, ◌∙◌, subst, arith}
use Rattle.std.proofs.lemmas.Bool.Decides.{nat_tests}
use Rattle.std.proofs.lemmas.List.{get_or-take, length-take-le, drop_more}
use Rattle.std.proofs.lemmas.List.Sums.{prefix_len-le-length, prefix_len_passes, prefix_len_stops}
use Rattle.std.specs.List.{prefix_len}
use Rattle.std.specs.Str.{IsAscii}
use Rattle.std.specs.Char.{is_ascii_alphabetic, is_ascii_alphanumeric}
use Rattle.gms_grammar.specs.Lines.{begins, before, is_blank, is_line_end, content}
use Rattle.gms_grammar.proofs.LineLemmas.{below_or, before-le-length}
use Rattle.gms_grammar.specs.declared.kind.Kind.{Kind}
use Rattle.gms_grammar.specs.declared.kind.Kind.TheVariants.{Word, Label, Text, TableLine}
use Rattle.gms_grammar.specs.declared.kind.Sym.{Sym}
use Rattle.gms_grammar.specs.declared.lexeme.Piece.{Piece}
use Rattle.gms_grammar.specs.declared.lexeme.Piece.TheVariants.{Remark, Token}
use Rattle.gms_grammar.specs.Bytes.{is_name_byte, is_label_byte, is_quote, is_text_byte, is_ascii}
use Rattle.gms_grammar.specs.Numbers.{begins_number}
use Rattle.gms_grammar.specs.Symbols.{longest_symbol}
use Rattle.gms_grammar.specs.Shapes.{Read, longest_label, bounded, symbol_read, symbol, quoted_length, is_closed, quoted, code_token, label_token, remark}
use Rattle.gms_grammar.specs.TableLines.{table_bytes}
use Rattle.gms_grammar.proofs.WithinLemmas.{run_within, closed_more, table_bytes_le}
use Rattle.gms_lex.specs.declared.keyword.Shape.{Shape}
use Rattle.gms_lex.specs.declared.keyword.Shape.TheVariants.{Set, Parameter, Scalar, Model}
use Rattle.gms_lex.specs.declared.mode.Stage.{Stage}
use Rattle.gms_lex.specs.declared.mode.Stage.TheVariants.{Fresh, Expected, After, Spaced}
use Rattle.gms_lex.specs.declared.mode.Mode.{Mode}
use Rattle.gms_lex.specs.declared.mode.Mode.TheVariants.{Named, Bare, Element, Value, Tail, TableNamed, TableBare, TableLines}
use Rattle.gms_lex.specs.declared.mode.LineEnds.{LineEnds}
use Rattle.gms_lex.specs.declared.mode.LineEnds.TheVariants.{Skipped, EndItem, EndElement}
use Rattle.gms_lex.specs.Keywords.{begins_statement}
use Rattle.gms_lex.specs.Pieces.{passes, ends_or_begins, space_length, line_ends, line_end, is_item_mark, is_element_mark, piece_after_name, piece_after_domain, begins_value_dot, element_tail, piece_after_label, in_list, token_read, table_piece, plain_piece, piece_at}
use Rattle.gms_lex.specs.TokenTexts.{unquoted, IsSpelled}
use Rattle.gms_lex.proofs.LineTextLemmas.{IsSolidByte, IsSolid, length-take_most}
use Rattle.gms_lex.proofs.TableLemmas.{IsTableText}
use Rattle.gms_lex.proofs.UnquotedLemmas.{unquoted-le}

-- a token of n bytes whose text names something is on one line and spelled as its kind; other
-- tokens have no condition
abbrev pub IsNamed : Piece → ℕ → List ℕ → Type 0
IsNamed (Token Word) n text = IsSolid (take n text) × IsSpelled Word (take n text)
IsNamed (Token Label) n text = IsSolid (take n text) × IsSpelled Label (take n text)
IsNamed (Token Text) n text = IsSolid (take n text) × IsSpelled Text (take n text)
IsNamed (Token TableLine) n text = IsTableText n text
IsNamed piece n text = Unit {0}

-- what is read is so named
abbrev pub IsNamedRead : List ℕ → Read → Type 0
IsNamedRead text (Ok p) = IsNamed p.piece p.length text
IsNamedRead text (Err m) = Unit {0}

if_named : (text : List ℕ) (b : Bool) (x y : Read) → (b ≡ true → IsNamedRead text x) → (b ≡ false → IsNamedRead text y) → IsNamedRead text (if b then x else y)
if_named text true x y p q = p refl
if_named text false x y p q = q refl

-- a byte that passes the test, and is none of four, is solid
differs : (test : ℕ → Bool) (b c : ℕ) → test b ≡ true → test c ≡ false → b ≡ c → ⊥
differs test b c h g e = let z : true ≡ false = sym h ∙ ap test e ∙ g in let no : ⊥ = cc in no

-- a byte of a name or of a label is of ASCII and not blank
name_byte : (b : ℕ) → is_name_byte b ≡ true → (b < 128) × IsSolidByte b
name_byte b h = (grind (arith, nat_tests, h), (differs is_name_byte b 9 h refl, differs is_name_byte b 10 h refl, differs is_name_byte b 13 h refl, differs is_name_byte b 32 h refl))

label_byte : (b : ℕ) → is_label_byte b ≡ true → (b < 128) × IsSolidByte b
label_byte b h = (grind (arith, nat_tests, h), (differs is_label_byte b 9 h refl, differs is_label_byte b 10 h refl, differs is_label_byte b 13 h refl, differs is_label_byte b 32 h refl))

quote_byte : (b : ℕ) → is_quote b ≡ true → (b < 128) × IsSolidByte b
quote_byte b h = (grind (arith, nat_tests, h), (differs is_quote b 9 h refl, differs is_quote b 10 h refl, differs is_quote b 13 h refl, differs is_quote b 32 h refl))

-- a byte past the end of a text reads as 0
byte_after : (text : List ℕ) (k : ℕ) → length text ≤ k → get_or text k 0 ≡ 0
byte_after [] k le = refl
byte_after (b ∷ text) zero le = absurd (omega arith)
byte_after (b ∷ text) (suc k) le = byte_after text k (omega arith)

-- a text of which each byte is of ASCII
ascii_of : (text : List ℕ) → ((k : ℕ) → k < length text → get_or text k 0 < 128) → IsAscii text
ascii_of text each k = elim (below_or k (length text)) [
  | inl lt ↦ each k lt
  | inr ge ↦ subst (λ b. b < 128) (sym (byte_after text k ge)) (omega arith)
]

plain_byte : (b : ℕ) → is_ascii b ≡ true → b < 128
plain_byte b h = grind (arith, nat_tests, h)

-- a text of which no byte is a line feed
no_feed_of : (text : List ℕ) → ((k : ℕ) → k < length text → get_or text k 0 ≡ 10 → ⊥) → (k : ℕ) → get_or text k 0 ≡ 10 → ⊥
no_feed_of text each k h = elim (below_or k (length text)) [
  | inl lt ↦ each k lt h
  | inr ge ↦ let z : ◌≡◌ {A = ℕ} 0 10 = sym (byte_after text k ge) ∙ h in let no : ⊥ = omega (arith, z) in no
]

-- a run of such bytes is solid
run_solid : (test : ℕ → Bool) → ((b : ℕ) → test b ≡ true → (b < 128) × IsSolidByte b) → (text : List ℕ) → 0 < prefix_len test text → IsSolid (take (prefix_len test text) text)
run_solid test each text some =
    let n = prefix_len test text in
    let long : length (take n text) ≡ n = length-take-le n text (prefix_len-le-length test text) in
    let passes : (k : ℕ) → k < length (take n text) → test (get_or (take n text) k 0) ≡ true = λ k lt. let below : k < n = omega arith in ap test (get_or-take n text k 0 below) ∙ prefix_len_passes test text k 0 below in
    record {
      ascii = ascii_of (take n text) (λ k lt. (each (get_or (take n text) k 0) (passes k lt)).0);
      no_feed = no_feed_of (take n text) (λ k lt h. (each (get_or (take n text) k 0) (passes k lt)).1.1 h);
      anchor = 0;
      inside = omega arith;
      solid = (each (get_or (take n text) 0 0) (passes 0 (omega arith))).1;
    }

-- a word
word_named : (text : List ℕ) → 0 < prefix_len is_name_byte text → IsNamedRead text (bounded Word (prefix_len is_name_byte text))
word_named text some =
    let n = prefix_len is_name_byte text in
    let solid = run_solid is_name_byte name_byte text some in
    if_named text (nat_lt longest_label n) _ _ (λ _. tt) (λ h. let le : n ≤ longest_label = grind (arith, nat_tests, h) in (solid, (solid.ascii, omega (arith, length-take_most n text))))

-- an unquoted label
label_named : (text : List ℕ) → 0 < prefix_len is_label_byte text → IsNamedRead text (bounded Label (prefix_len is_label_byte text))
label_named text some =
    let n = prefix_len is_label_byte text in
    let solid = run_solid is_label_byte label_byte text some in
    if_named text (nat_lt longest_label n) _ _ (λ _. tt) (λ h. let le : n ≤ longest_label = grind (arith, nat_tests, h) in (solid, (solid.ascii, omega (arith, length-take_most n text, unquoted-le (take n text)))))

plain_small : (b : ℕ) → is_ascii b ≡ true → b < 128
plain_small b h = grind (arith, nat_tests, h)

not_feed : (mark b : ℕ) → not (b == mark || b == 10) ≡ true → b ≡ 10 → ⊥
not_feed mark b h e = grind (arith, nat_tests, h, e)

-- the first byte of a text that begins with a mark
closed_mark : (mark : ℕ) (rest : List ℕ) {b : ℕ} {more : List ℕ} → begins (λ c. c == mark) rest ≡ true → rest ≡ b ∷ more → b ≡ mark
closed_mark mark rest {b} {more} h e = let first : (b == mark) ≡ true = sym (ap (begins (λ c. c == mark)) e) ∙ h in grind (arith, nat_tests, first)

ascii_prefix : (b : ℕ) (text : List ℕ) → b < 128 → ((k : ℕ) → k < length text → get_or text k 0 < 128) → (k : ℕ) → k < length (b ∷ text) → get_or (b ∷ text) k 0 < 128
ascii_prefix b text h each zero lt = h
ascii_prefix b text h each (suc k) lt = each k (omega arith)

feed_prefix : (b : ℕ) (text : List ℕ) → (b ≡ 10 → ⊥) → ((k : ℕ) → k < length text → get_or text k 0 ≡ 10 → ⊥) → (k : ℕ) → k < length (b ∷ text) → get_or (b ∷ text) k 0 ≡ 10 → ⊥
feed_prefix b text h each zero lt = h
feed_prefix b text h each (suc k) lt = each k (omega arith)

-- a quoted text of `quoted_length` bytes between its marks
quoted_solid : (mark : ℕ) (text : List ℕ) → is_quote mark ≡ true → is_closed mark text ≡ true → quoted_length mark text ≤ prefix_len is_ascii (take (quoted_length mark text) text) → IsSolid (mark ∷ take (quoted_length mark text + 1) text)
quoted_solid mark text quote closed plain =
    let inner = quoted_length mark text in
    let is_mark = quote_byte mark quote in
    let test : ℕ → Bool = λ b. not (b == mark || b == 10) in
    let below : inner < length text = closed_more mark text closed in
    let last : get_or text inner 0 ≡ mark = closed_mark mark (drop inner text) closed (drop_more text inner 0 below) in
    let each : (k : ℕ) → k < length (take (inner + 1) text) → (get_or (take (inner + 1) text) k 0 < 128) × (get_or (take (inner + 1) text) k 0 ≡ 10 → ⊥) = λ k lt.
    let le : k < inner + 1 = omega (arith, length-take_most (inner + 1) text) in
    let byte : get_or (take (inner + 1) text) k 0 ≡ get_or text k 0 = get_or-take (inner + 1) text k 0 le in
    elim (below_or k inner) [
      | inl values_first ↦
          let passed : test (get_or text k 0) ≡ true = prefix_len_passes test text k 0 values_first in
          let ascii : is_ascii (get_or (take inner text) k 0) ≡ true = prefix_len_passes is_ascii (take inner text) k 0 (omega arith) in
          let same : get_or (take inner text) k 0 ≡ get_or text k 0 = get_or-take inner text k 0 values_first in
          let small : is_ascii (get_or text k 0) ≡ true = ap is_ascii (sym same) ∙ ascii in
          (subst (λ b. b < 128) (sym byte) (plain_small (get_or text k 0) small), λ h. not_feed mark (get_or text k 0) passed (sym byte ∙ h))
      | inr at_end ↦
          let here : k ≡ inner = omega arith in
          let is : get_or (take (inner + 1) text) k 0 ≡ mark = byte ∙ ap (λ j. get_or text j 0) here ∙ last in
          (subst (λ b. b < 128) (sym is) is_mark.0, λ h. is_mark.1.1 (sym is ∙ h))
    ] in
    record {
      ascii = ascii_of (mark ∷ take (inner + 1) text) (ascii_prefix mark (take (inner + 1) text) is_mark.0 (λ k lt. (each k lt).0));
      no_feed = no_feed_of (mark ∷ take (inner + 1) text) (feed_prefix mark (take (inner + 1) text) is_mark.1.1 (λ k lt. (each k lt).1));
      anchor = 0;
      inside = omega arith;
      solid = is_mark.1;
    }

-- the start of a quoted text with both marks
quoted_prefix : (mark : ℕ) (text : List ℕ) (inner : ℕ) → take (inner + 2) (mark ∷ text) ≡ mark ∷ take (inner + 1) text
quoted_prefix mark text inner = ap (λ n. take n (mark ∷ text)) (let e : inner + 2 ≡ suc (inner + 1) = omega arith in e)

no_more : (plain inner : ℕ) → nat_lt plain inner ≡ false → inner ≤ plain
no_more plain inner h = grind (arith, nat_tests, h)

quoted_text_named : (text : List ℕ) → begins is_quote text ≡ true → IsNamedRead text (quoted (Token Text) text)
quoted_text_named [] quote = tt
quoted_text_named (mark ∷ text) quote =
    let inner = quoted_length mark text in
    let plain = prefix_len is_ascii (take inner text) in
    if_named (mark ∷ text) (not (is_closed mark text)) _ _
    (λ _. tt)
    (λ closed. if_named (mark ∷ text) (nat_lt plain inner) _ _
    (λ _. tt)
    (λ h. let solid = quoted_solid mark text quote (not-false _ closed) (no_more plain inner h) in subst (λ t. IsSolid t × (IsAscii t × (begins is_quote t ≡ true))) (sym (quoted_prefix mark text inner)) (solid, (solid.ascii, quote))))

-- a quoted label
quoted_label_named : (text : List ℕ) → begins is_quote text ≡ true → IsNamedRead text (quoted (Token Label) text)
quoted_label_named [] quote = tt
quoted_label_named (mark ∷ text) quote =
    let inner = quoted_length mark text in
    let plain = prefix_len is_ascii (take inner text) in
    if_named (mark ∷ text) (not (is_closed mark text)) _ _
    (λ _. tt)
    (λ closed. if_named (mark ∷ text) (nat_lt longest_label inner) _ _
    (λ _. tt)
    (λ short. if_named (mark ∷ text) (nat_lt plain inner) _ _
    (λ _. tt)
    (λ h.
    let solid = quoted_solid mark text quote (not-false _ closed) (no_more plain inner h) in
    let small : inner ≤ longest_label = no_more longest_label inner short in
    let following = take (inner + 1) text in
    let marks : unquoted (mark ∷ following) ≡ take (length following - 1) following = ap (λ v. if v then take (length following - 1) following else mark ∷ following) quote in
    let few : length (unquoted (mark ∷ following)) ≤ longest_label = omega (arith, ap length marks, length-take_most (length following - 1) following, length-take_most (inner + 1) text) in
    subst (λ t. IsSolid t × (IsAscii t × (length (unquoted t) ≤ longest_label))) (sym (quoted_prefix mark text inner)) (solid, (solid.ascii, few)))))

-- a quoted descriptive text is no token
quoted_remark_named : (text : List ℕ) → IsNamedRead text (quoted Remark text)
quoted_remark_named [] = tt
quoted_remark_named (mark ∷ text) =
    let inner = quoted_length mark text in
    if_named (mark ∷ text) (not (is_closed mark text)) _ _ (λ _. tt) (λ _. if_named (mark ∷ text) (nat_lt (prefix_len is_ascii (take inner text)) inner) _ _ (λ _. tt) (λ _. tt))

symbol_of_named : (text : List ℕ) (found : Option (ℕ × Sym)) → IsNamedRead text (symbol_read found)
symbol_of_named text None = tt
symbol_of_named text (Some s) = tt

symbol_named : (text : List ℕ) → IsNamedRead text (symbol text)
symbol_named text = symbol_of_named text (longest_symbol text)

letter_in_name : (b : ℕ) → is_ascii_alphabetic b ≡ true → is_name_byte b ≡ true
letter_in_name b h = grind (arith, nat_tests, h)

alphanumeric_in_label : (b : ℕ) → is_ascii_alphanumeric b ≡ true → is_label_byte b ≡ true
alphanumeric_in_label b h = ap (λ v. v || (b == 43 || (b == 45 || b == 95))) h

code_named : (kind : Kind) (text : List ℕ) → (begins is_quote text ≡ true → IsNamedRead text (quoted (Token kind) text)) → IsNamedRead text (code_token kind text)
code_named kind text quotes =
    if_named text (begins is_ascii_alphabetic text) _ _
    (λ h. word_named text (run_within is_ascii_alphabetic is_name_byte letter_in_name text h))
    (λ _. if_named text (begins_number text) _ _ (λ _. tt) (λ _. if_named text (begins is_quote text) _ _ quotes (λ _. symbol_named text)))

label_token_named : (text : List ℕ) → IsNamedRead text (label_token text)
label_token_named text =
    if_named text (begins is_ascii_alphanumeric text) _ _
    (λ h. label_named text (run_within is_ascii_alphanumeric is_label_byte alphanumeric_in_label text h))
    (λ _. if_named text (begins is_quote text) _ _ (quoted_label_named text) (λ _. symbol_named text))

remark_named : (text : List ℕ) → IsNamedRead text (remark text)
remark_named text =
    if_named text (begins is_quote text) _ _ (λ _. quoted_remark_named text) (λ _. if_named text (prefix_len is_text_byte text == 0) _ _ (λ _. tt) (λ _. tt))

line_end_named : (ends : LineEnds) (text : List ℕ) → IsNamedRead text (line_end ends text)
line_end_named Skipped text = tt
line_end_named EndItem text = if_named text (ends_or_begins (passes EndItem) (drop (space_length text) text)) _ _ (λ _. tt) (λ _. tt)
line_end_named EndElement text = if_named text (ends_or_begins (passes EndElement) (drop (space_length text) text)) _ _ (λ _. tt) (λ _. tt)

element_tail_named : (s : Shape) (text : List ℕ) → IsNamedRead text (element_tail s text)
element_tail_named Parameter text = code_named Label text (quoted_label_named text)
element_tail_named Set text = remark_named text
element_tail_named Scalar text = remark_named text
element_tail_named Model text = remark_named text

after_label_named : (s : Shape) (d : ℕ) (stage : Stage) (text : List ℕ) → IsNamedRead text (piece_after_label s d stage text)
after_label_named s d stage text =
    if_named text (begins is_element_mark text && not (begins_value_dot s d stage text)) _ _ (λ _. symbol_named text) (λ _. if_named text (d == 0) _ _ (λ _. element_tail_named s text) (λ _. label_token_named text))

in_list_named : (s : Shape) (d : ℕ) (stage : Stage) (text : List ℕ) → IsNamedRead text (in_list s d stage text)
in_list_named s d Fresh text = label_token_named text
in_list_named s d Expected text = label_token_named text
in_list_named s d After text = after_label_named s d After text
in_list_named s d Spaced text = after_label_named s d Spaced text

after_name_named : (text : List ℕ) → IsNamedRead text (piece_after_name text)
after_name_named text = if_named text (begins (λ b. b == 40 || is_item_mark b) text) _ _ (λ _. symbol_named text) (λ _. remark_named text)

after_domain_named : (text : List ℕ) → IsNamedRead text (piece_after_domain text)
after_domain_named text = if_named text (begins is_item_mark text) _ _ (λ _. symbol_named text) (λ _. remark_named text)

token_at_named : (current : Mode) (text : List ℕ) → IsNamedRead text (token_read current text)
token_at_named (Named s) text = after_name_named text
token_at_named TableNamed text = after_name_named text
token_at_named (Bare s) text = after_domain_named text
token_at_named TableBare text = after_domain_named text
token_at_named (Element s d stage) text = in_list_named s d stage text
token_at_named (Value s) text = code_named Label text (quoted_label_named text)
token_at_named (Tail s) text = code_named Label text (quoted_label_named text)
token_at_named current text = code_named Text text (quoted_text_named text)

plain_named : (current : Mode) (text : List ℕ) → IsNamedRead text (plain_piece current text)
plain_named current text =
    if_named text (begins is_blank text) _ _ (λ _. tt) (λ _. if_named text (is_line_end text) _ _ (λ _. line_end_named (line_ends current) text) (λ _. token_at_named current text))

blanks_inside : (blanks bytes : ℕ) (x y : Bool) → (nat_lt 0 blanks && (nat_le bytes blanks || x)) ≡ false → (bytes == 0 || y) ≡ false → blanks < bytes
blanks_inside blanks bytes x y gap some = grind (arith, nat_tests, gap, some)

-- what is read as a line of a table
table_text : (text : List ℕ) (x y : Bool) → (nat_lt 0 (prefix_len is_blank text) && (nat_le (table_bytes (content text)) (prefix_len is_blank text) || x)) ≡ false → (table_bytes (content text) == 0 || y) ≡ false → nat_lt (prefix_len is_ascii (take (table_bytes (content text)) text)) (table_bytes (content text)) ≡ false → IsTableText (table_bytes (content text)) text
table_text text x y gap some plain =
    let n = table_bytes (content text) in
    let blanks = prefix_len is_blank text in
    let inside : blanks < n = blanks_inside blanks n x y gap some in
    let within : n ≤ before is_line_end text = omega (arith, table_bytes_le (content text), length-take_most (before is_line_end text) text) in
    let all : n ≤ prefix_len is_ascii (take n text) = grind (arith, nat_tests, plain) in
    record {
      ascii = ascii_of (take n text) (λ k lt. plain_byte (get_or (take n text) k 0) (prefix_len_passes is_ascii (take n text) k 0 (omega (arith, lt, all, length-take_most n text))));
      within = within;
      anchor = blanks;
      inside = inside;
      solid = prefix_len_stops is_blank text 0 (omega (arith, inside, within, before-le-length is_line_end text));
    }

table_named : (text : List ℕ) → IsNamedRead text (table_piece text)
table_named text =
    let blanks = prefix_len is_blank text in
    let bytes = table_bytes (content text) in
    if_named text (is_line_end text) _ _
    (λ _. tt)
    (λ _. if_named text (nat_lt 0 blanks && (nat_le bytes blanks || begins_statement (drop blanks text))) _ _
    (λ _. tt)
    (λ gap. if_named text (bytes == 0 || begins_statement text) _ _
    (λ _. code_named Text text (quoted_text_named text))
    (λ h. if_named text (nat_lt (prefix_len is_ascii (take bytes text)) bytes) _ _ (λ _. tt) (λ plain. table_text text (begins_statement (drop blanks text)) (begins_statement text) gap h plain))))

-- the first piece is named, if its text names something
pub piece_named : (current : Mode) (text : List ℕ) → IsNamedRead text (piece_at current text)
piece_named TableLines text = table_named text
piece_named current text = plain_named current text
