-- The piece with which a text begins has at least one byte and at most all of them; the place of an
-- error is no further on.
use Rattle.std.proofs.lemmas.Bool.{and_parts, not-false}
use Rattle.std.proofs.Common.{◌≡◌, ◌⊎◌, inl, inr, ℕ, suc, ◌+◌, ◌==◌, ◌&&◌, ◌||◌, ◌<◌, ◌≤◌, Bool, true, false, not, nat_lt, nat_le, cond, if◌then◌else◌, List, [], ◌∷◌, length, take, drop, Option, Some, None, option_map, find, refl, sym, ap, ◌∙◌, subst, arith}
use Rattle.std.proofs.lemmas.Bool.Decides.{nat_tests}
use Rattle.std.proofs.lemmas.List.{length-drop, length-take-le}
use Rattle.std.proofs.lemmas.List.Sums.{prefix_len-le-length}
use Rattle.std.specs.List.{prefix_len}
use Rattle.std.specs.Char.{is_ascii_alphabetic, is_ascii_alphanumeric, is_ascii_digit}
use Rattle.gms_grammar.specs.declared.fault.LexError.TheVariants.{LongLabel}
use Rattle.gms_grammar.specs.Lines.{begins}
use Rattle.gms_grammar.proofs.LineLemmas.{true_or_false}
use Rattle.gms_grammar.specs.declared.kind.Sym.{Sym}
use Rattle.gms_grammar.specs.declared.kind.Sym.TheVariants.{EqE, EqL, EqG, EqN, Power, DotDot, LessEq, GreaterEq, NotEq, PlusPlus, MinusMinus, Plus, Minus, Star, Slash, Equals, Less, Greater, LeftParen, RightParen, Comma, Semicolon, Dot, Dollar}
use Rattle.gms_grammar.specs.declared.kind.Kind.{Kind}
use Rattle.gms_grammar.specs.declared.kind.Kind.TheVariants.{Word, Label}
use Rattle.gms_grammar.specs.declared.lexeme.Piece.{Piece}
use Rattle.gms_grammar.specs.declared.lexeme.Piece.TheVariants.{Remark, Token}
use Rattle.gms_grammar.specs.Bytes.{is_name_byte, is_label_byte, is_quote, is_text_byte, is_ascii}
use Rattle.gms_grammar.specs.Numbers.{begins_number, begins_dot, digit_count, point_length, sign_length, exponent_length, decimal_length, number_length}
use Rattle.gms_grammar.specs.Symbols.{written_symbol, symbols, begins_with_word, longest_symbol}
use Rattle.gms_grammar.specs.Shapes.{Read, lexeme, misread, longest_label, bounded, symbol_read, symbol, quoted_length, is_closed, is_label, quoted, code_token, label_token, remark, IsWithinText}
use Rattle.gms_grammar.specs.declared.split_fields.Separator.TheVariants.{Semicolon}
use Rattle.gms_grammar.specs.declared.split_fields.SplitState.TheVariants.{First}
use Rattle.gms_grammar.specs.SplitFields.{is_separator}
use Rattle.gms_grammar.specs.TableLines.{table_bytes, table_line}
use Rattle.gms_grammar.proofs.FieldLemmas.{field_length-le}

-- a choice is within the text where both sides are
pub if_within : (text : List ℕ) (b : Bool) (x y : Read) → (b ≡ true → IsWithinText text x) → (b ≡ false → IsWithinText text y) → IsWithinText text (if b then x else y)
if_within text true x y p q = p refl
if_within text false x y p q = q refl

-- a text that begins with a byte of a kind has a run of at least one such byte
pub run_within : (test more : ℕ → Bool) → ((b : ℕ) → test b ≡ true → more b ≡ true) → (text : List ℕ) → begins test text ≡ true → 0 < prefix_len more text
run_within test more grows [] h = absurd (cc)
run_within test more grows (b ∷ text) h = subst (λ v. 0 < cond v (1 + prefix_len more text) 0) (sym (grows b h)) (omega arith)

bounded_within : (text : List ℕ) (kind : Kind) (n : ℕ) → 0 < n → n ≤ length text → IsWithinText text (bounded kind n)
bounded_within text kind n some le = if_within text (nat_lt longest_label n) (misread LongLabel 0) (lexeme (Token kind) n) (λ h. omega arith) (λ h. (some, le))

written_some : (s : Sym) → 0 < length (written_symbol s)
written_some EqE = omega arith
written_some EqL = omega arith
written_some EqG = omega arith
written_some EqN = omega arith
written_some Power = omega arith
written_some DotDot = omega arith
written_some LessEq = omega arith
written_some GreaterEq = omega arith
written_some NotEq = omega arith
written_some PlusPlus = omega arith
written_some MinusMinus = omega arith
written_some Plus = omega arith
written_some Minus = omega arith
written_some Star = omega arith
written_some Slash = omega arith
written_some Equals = omega arith
written_some Less = omega arith
written_some Greater = omega arith
written_some LeftParen = omega arith
written_some RightParen = omega arith
written_some Comma = omega arith
written_some Semicolon = omega arith
written_some Dot = omega arith
written_some Dollar = omega arith

found_passes : (test : Sym → Bool) (xs : List Sym) (x : Sym) → find test xs ≡ Some x → test x ≡ true
found_passes test [] x h = cc
found_passes test (y ∷ xs) x h = elim (true_or_false (test y)) [
  | inl t ↦ let found : Some y ≡ Some x = ap (λ v. cond v (Some y) (find test xs)) (sym t) ∙ h in let same : y ≡ x = cc in subst (λ z. test z ≡ true) same t
  | inr t ↦ found_passes test xs x (ap (λ v. cond v (Some y) (find test xs)) (sym t) ∙ h)
]

found_within : (text : List ℕ) (found : Option Sym) → found ≡ find (λ s. begins_with_word text (written_symbol s)) symbols → IsWithinText text (symbol_read (option_map (λ s. (length (written_symbol s), s)) found))
found_within text None e = omega arith
found_within text (Some s) e =
    let fits : begins_with_word text (written_symbol s) ≡ true = found_passes (λ s. begins_with_word text (written_symbol s)) symbols s (sym e) in
    let le : nat_le (length (written_symbol s)) (length text) ≡ true = (and_parts _ _ fits).0 in
    (written_some s, grind (arith, nat_tests, le))

-- the symbol with which a text begins
pub symbol_within : (text : List ℕ) → IsWithinText text (symbol text)
unfolding longest_symbol
symbol_within text = found_within text (find (λ s. begins_with_word text (written_symbol s)) symbols) refl

pub begins_some : (test : ℕ → Bool) (text : List ℕ) → begins test text ≡ true → 0 < length text
begins_some test [] h = absurd (cc)
begins_some test (b ∷ text) h = omega arith

-- a closing mark comes after the quoted bytes
pub closed_more : (mark : ℕ) (text : List ℕ) → is_closed mark text ≡ true → quoted_length mark text < length text
closed_more mark text h = omega (arith, begins_some (λ b. b == mark) (drop (quoted_length mark text) text) h, length-drop (quoted_length mark text) text)

-- a quoted piece
quoted_within : (piece : Piece) (text : List ℕ) → IsWithinText text (quoted piece text)
quoted_within piece [] = omega arith
quoted_within piece (mark ∷ text) =
    let inner = quoted_length mark text in
    let plain = prefix_len is_ascii (take inner text) in
    let le : inner ≤ length text = prefix_len-le-length (λ b. not (b == mark || b == 10)) text in
    if_within (mark ∷ text) (not (is_closed mark text)) _ _
    (λ _. omega arith)
    (λ closed. if_within (mark ∷ text) (is_label piece && nat_lt longest_label inner) _ _
    (λ _. omega arith)
    (λ _. if_within (mark ∷ text) (nat_lt plain inner) _ _
    (λ h. let below : plain < inner = grind (arith, nat_tests, h) in let ahead : 1 + plain ≤ suc (length text) = omega arith in ahead)
    (λ _. let more : inner < length text = closed_more mark text (not-false _ closed) in let all : inner + 2 ≤ suc (length text) = omega arith in (omega arith, all))))

if_at_most : (b : Bool) (x y n : ℕ) → x ≤ n → y ≤ n → (if b then x else y) ≤ n
if_at_most true x y n p q = p
if_at_most false x y n p q = q

digits_le : (text : List ℕ) → digit_count text ≤ length text
digits_le text = prefix_len-le-length is_ascii_digit text

point_le : (rest : List ℕ) → point_length rest ≤ length rest
point_le [] = omega arith
point_le (c ∷ rest) = if_at_most (begins_dot (c ∷ rest) && not (begins_dot rest)) (1 + digit_count rest) 0 (suc (length rest)) (omega (arith, digits_le rest)) (omega arith)

sign_le : (rest : List ℕ) → sign_length rest ≤ length rest
sign_le [] = omega arith
sign_le (c ∷ rest) = if_at_most _ 1 0 (suc (length rest)) (omega arith) (omega arith)

exponent_le : (rest : List ℕ) → exponent_length rest ≤ length rest
exponent_le [] = omega arith
exponent_le (c ∷ rest) =
    let digits = drop (1 + sign_length rest) (c ∷ rest) in
    if_at_most ((c == 101 || c == 69) && begins is_ascii_digit digits) (1 + sign_length rest + digit_count digits) 0 (suc (length rest)) (omega (arith, sign_le rest, digits_le digits, length-drop (1 + sign_length rest) (c ∷ rest))) (omega arith)

decimal_le : (text : List ℕ) → decimal_length text ≤ length text
decimal_le text = omega (arith, digits_le text, point_le (drop (digit_count text) text), length-drop (digit_count text) text)

no_digits : (text : List ℕ) → begins is_ascii_digit text ≡ false → digit_count text ≡ 0
no_digits [] h = refl
no_digits (b ∷ text) h = ap (λ v. cond v (1 + prefix_len is_ascii_digit text) 0) h

digit_no_dot : (text : List ℕ) → begins is_ascii_digit text ≡ true → begins_dot text ≡ false
digit_no_dot [] h = refl
digit_no_dot (b ∷ text) h = grind (arith, nat_tests)

dot_some : (text : List ℕ) → begins_dot text ≡ true → begins is_ascii_digit (drop 1 text) ≡ true → 0 < point_length text
dot_some text dot digit =
    let both : (begins_dot text && not (begins_dot (drop 1 text))) ≡ true = subst (λ v. (v && not (begins_dot (drop 1 text))) ≡ true) (sym dot) (ap not (digit_no_dot (drop 1 text) digit)) in
    subst (λ v. 0 < (if v then 1 + digit_count (drop 1 text) else 0)) (sym both) (omega arith)

decimal_some : (text : List ℕ) → (begins is_ascii_digit text ≡ true) ⊎ (begins is_ascii_digit text ≡ false) → begins_number text ≡ true → 0 < decimal_length text
decimal_some text (inl d) h = omega (arith, run_within is_ascii_digit is_ascii_digit (λ b g. g) text d)
decimal_some text (inr d) h =
    let dot : (begins_dot text && begins is_ascii_digit (drop 1 text)) ≡ true = subst (λ v. (v || (begins_dot text && begins is_ascii_digit (drop 1 text))) ≡ true) d h in
    let both = and_parts _ _ dot in
    subst (λ n. 0 < n + point_length (drop n text)) (sym (no_digits text d)) (omega (arith, dot_some text both.0 both.1))

number_within : (text : List ℕ) → begins_number text ≡ true → (0 < number_length text) × (number_length text ≤ length text)
number_within text h =
    let whole = drop (digit_count text) text in
    let le = decimal_le text in (
      omega (arith, decimal_some text (true_or_false (begins is_ascii_digit text)) h),
      omega (arith, le, exponent_le (drop (decimal_length text) text), length-drop (decimal_length text) text),
    )

letter_in_name : (b : ℕ) → is_ascii_alphabetic b ≡ true → is_name_byte b ≡ true
letter_in_name b h = grind (arith, nat_tests, h)

alphanumeric_in_label : (b : ℕ) → is_ascii_alphanumeric b ≡ true → is_label_byte b ≡ true
alphanumeric_in_label b h = ap (λ v. v || (b == 43 || (b == 45 || b == 95))) h

-- a token of code
pub code_token_within : (kind : Kind) (text : List ℕ) → IsWithinText text (code_token kind text)
code_token_within kind text =
    if_within text (begins is_ascii_alphabetic text) _ _
    (λ h. bounded_within text Word (prefix_len is_name_byte text) (run_within is_ascii_alphabetic is_name_byte letter_in_name text h) (prefix_len-le-length is_name_byte text))
    (λ _. if_within text (begins_number text) _ _
    (λ h. number_within text h)
    (λ _. if_within text (begins is_quote text) _ _ (λ _. quoted_within (Token kind) text) (λ _. symbol_within text)))

-- a token of a list
pub label_token_within : (text : List ℕ) → IsWithinText text (label_token text)
label_token_within text =
    if_within text (begins is_ascii_alphanumeric text) _ _
    (λ h. bounded_within text Label (prefix_len is_label_byte text) (run_within is_ascii_alphanumeric is_label_byte alphanumeric_in_label text h) (prefix_len-le-length is_label_byte text))
    (λ _. if_within text (begins is_quote text) _ _ (λ _. quoted_within (Token Label) text) (λ _. symbol_within text))

some_from_test : (n : ℕ) → (n == 0) ≡ false → 0 < n
some_from_test n h = grind (arith, nat_tests, h)

-- a descriptive text
pub remark_within : (text : List ℕ) → IsWithinText text (remark text)
remark_within text =
    if_within text (begins is_quote text) _ _
    (λ _. quoted_within Remark text)
    (λ _. if_within text (prefix_len is_text_byte text == 0) _ _ (λ _. omega arith) (λ h. (some_from_test _ h, prefix_len-le-length is_text_byte text)))

-- a line of a table
pub table_line_within : (n : ℕ) (text : List ℕ) → 0 < n → n ≤ length text → IsWithinText text (table_line n text)
table_line_within n text some le = if_within text (nat_lt (prefix_len is_ascii (take n text)) n) _ _
    (λ h. omega (arith, prefix_len-le-length is_ascii (take n text), length-take-le n text le)) (λ _. (some, le))

-- a line of a table is a part of the line
pub table_bytes_le : (line : List ℕ) → table_bytes line ≤ length line
table_bytes_le line = field_length-le (is_separator Semicolon) First line
