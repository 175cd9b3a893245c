-- The first piece of a text is also its first piece with a line feed and more after it.
use Rattle.std.proofs.lemmas.Bool.{and_parts}
use mathlib.Core.Bool.{and-false, or-true}
use Rattle.std.proofs.Common.{◌≡◌, ℕ, suc, ◌+◌, ◌==◌, ◌&&◌, ◌||◌, ◌<◌, ◌≤◌, Bool, true, false, not, nat_lt, nat_le, if◌then◌else◌, List, [], ◌∷◌, length, take, drop, find, is_some, option_map, refl, sym, ap, ap₂, ◌∙◌, arith, inl, inr}
use Rattle.std.proofs.lemmas.Bool.Decides.{nat_tests}
use Rattle.std.proofs.lemmas.List.{take-append-le, drop-append-le, length-drop}
use Rattle.std.proofs.lemmas.List.Sums.{prefix_len-le-length}
use Rattle.std.specs.List.{prefix_len}
use Rattle.std.specs.Char.{is_ascii_alphabetic, is_ascii_alphanumeric, is_ascii_digit, to_ascii_lowercase}
use Rattle.std.specs.Str.{str_eq_ignore_ascii_case}
use Rattle.gms_grammar.specs.Lines.{begins, is_blank, is_line_end, before, content}
use Rattle.gms_grammar.proofs.LineLemmas.{true_or_false}
use Rattle.gms_grammar.specs.declared.kind.Sym.{Sym}
use Rattle.gms_grammar.specs.declared.kind.Sym.TheVariants.{EqE}
use Rattle.gms_grammar.specs.declared.kind.Kind.{Kind}
use Rattle.gms_grammar.specs.declared.kind.Kind.TheVariants.{Word, Label, Number, Text}
use Rattle.gms_grammar.specs.declared.lexeme.Piece.{Piece}
use Rattle.gms_grammar.specs.declared.lexeme.Piece.TheVariants.{Gap, LineEnd, Remark, Token}
use Rattle.gms_grammar.specs.Bytes.{is_name_byte, is_label_byte, is_quote, is_text_byte, is_ascii}
use Rattle.gms_grammar.specs.Numbers.{begins_number, begins_dot, digit_count, point_length, is_sign, sign_length, exponent_length, decimal_length, number_length}
use Rattle.gms_grammar.specs.Symbols.{written_symbol, symbols, begins_with_word, longest_symbol}
use Rattle.gms_grammar.specs.Shapes.{Read, lexeme, bounded, symbol_read, symbol, quoted_length, quoted_of, quoted, code_token, label_token, remark_of, remark}
use Rattle.gms_grammar.specs.TableLines.{table_bytes, table_line_of, table_line}
use Rattle.gms_grammar.proofs.WithinLemmas.{table_bytes_le}
use Rattle.gms_lex.specs.declared.keyword.Shape.{Shape}
use Rattle.gms_lex.specs.declared.keyword.Shape.TheVariants.{Set, Parameter, Scalar, Model}
use Rattle.gms_lex.specs.declared.mode.Stage.{Stage}
use Rattle.gms_lex.specs.declared.mode.Stage.TheVariants.{Fresh, Expected, After, Spaced}
use Rattle.gms_lex.specs.declared.mode.Mode.{Mode}
use Rattle.gms_lex.specs.declared.mode.Mode.TheVariants.{Named, Bare, Element, Value, Tail, TableNamed, TableBare, TableLines}
use Rattle.gms_lex.specs.declared.mode.LineEnds.{LineEnds}
use Rattle.gms_lex.specs.declared.mode.LineEnds.TheVariants.{Skipped, EndItem, EndElement}
use Rattle.gms_lex.specs.Keywords.{keyword_of, begins_statement}
use Rattle.gms_lex.specs.Pieces.{passes, ends_or_begins, space_length, line_ends, line_end, is_item_mark, piece_after_name, piece_after_domain, is_element_mark, begins_value_dot, element_tail, piece_after_label, in_list, token_read, table_piece_of, table_piece, plain_piece, piece_at}
use Rattle.gms_lex.proofs.LineTextLemmas.{length-take_all}
use Rattle.gms_joint_source.proofs.Feeds.{fed, ends_in_return, run_fed, begins_fed, line_end_fed, content_fed, space_fed}

-- ---- choices

pub if_alike : {A : Type 0} (c : Bool) (x y u v : A) → (c ≡ true → x ≡ u) → (c ≡ false → y ≡ v) → (if c then x else y) ≡ (if c then u else v)
if_alike true x y u v p q = p refl
if_alike false x y u v p q = q refl

pub if_same : {A : Type 0} (c d : Bool) (x y u v : A) → c ≡ d → (c ≡ true → x ≡ u) → (c ≡ false → y ≡ v) → (if c then x else y) ≡ (if d then u else v)
if_same c d x y u v e p q = if_alike c x y u v p q ∙ ap (λ w. if w then u else v) e

swapped : (a e s : Bool) → (a && (e && s)) ≡ (e && (a && s))
swapped true e s = refl
swapped false true s = refl
swapped false false s = refl

-- ---- numbers

at_most : (b : Bool) (x y n : ℕ) → x ≤ n → y ≤ n → (if b then x else y) ≤ n
at_most true x y n p q = p
at_most false x y n p q = q

digits_le : (text : List ℕ) → digit_count text ≤ length text
digits_le text = prefix_len-le-length is_ascii_digit text

point_le : (rest : List ℕ) → point_length rest ≤ length rest
point_le [] = omega arith
point_le (c ∷ rest) = at_most (begins_dot (c ∷ rest) && not (begins_dot rest)) (1 + digit_count rest) 0 (suc (length rest)) (omega (arith, digits_le rest)) (omega arith)

sign_le : (rest : List ℕ) → sign_length rest ≤ length rest
sign_le [] = omega arith
sign_le (c ∷ rest) = at_most _ 1 0 (suc (length rest)) (omega arith) (omega arith)

decimal_le : (text : List ℕ) → decimal_length text ≤ length text
decimal_le text = omega (arith, digits_le text, point_le (drop (digit_count text) text), length-drop (digit_count text) text)

point_fed : (text rest : List ℕ) → point_length (fed text rest) ≡ point_length text
point_fed [] rest = refl
point_fed (b ∷ text) rest =
    ap₂ (λ v n. if b == 46 && not v then 1 + n else 0) (begins_fed (λ c. c == 46) text rest refl) (run_fed is_ascii_digit text rest refl)

sign_fed : (text rest : List ℕ) → sign_length (fed text rest) ≡ sign_length text
sign_fed text rest = ap (λ v. if v then 1 else 0) (begins_fed is_sign text rest refl)

-- the length of an exponent, by whether a text begins with `e`, how many bytes its sign takes, and
-- what follows that
abbrev exponent_by : Bool → ℕ → List ℕ → ℕ
exponent_by marked sign digits = if marked && begins is_ascii_digit digits then 1 + sign + digit_count digits else 0

exponent_fed : (text rest : List ℕ) → exponent_length (fed text rest) ≡ exponent_length text
exponent_fed [] rest = refl
exponent_fed (b ∷ text) rest =
    let marked : Bool = b == 101 || b == 69 in
    let sign : ℕ = sign_length text in
    let digits : List ℕ = drop (1 + sign) (b ∷ text) in
    ap (λ n. exponent_by marked n (drop (1 + n) (b ∷ fed text rest))) (sign_fed text rest)
    ∙ ap (exponent_by marked sign) (drop-append-le (1 + sign) (b ∷ text) (10 ∷ rest) (omega (arith, sign_le text)))
    ∙ ap₂ (λ v n. if marked && v then 1 + sign + n else 0) (begins_fed is_ascii_digit digits rest refl) (run_fed is_ascii_digit digits rest refl)

decimal_fed : (text rest : List ℕ) → decimal_length (fed text rest) ≡ decimal_length text
decimal_fed text rest =
    let digits : ℕ = digit_count text in
    ap (λ n. n + point_length (drop n (fed text rest))) (run_fed is_ascii_digit text rest refl)
    ∙ ap (λ t. digits + point_length t) (drop-append-le digits text (10 ∷ rest) (digits_le text))
    ∙ ap (λ n. digits + n) (point_fed (drop digits text) rest)

number_fed : (text rest : List ℕ) → number_length (fed text rest) ≡ number_length text
number_fed text rest =
    let prefix : ℕ = decimal_length text in
    ap (λ n. n + exponent_length (drop n (fed text rest))) (decimal_fed text rest)
    ∙ ap (λ t. prefix + exponent_length t) (drop-append-le prefix text (10 ∷ rest) (decimal_le text))
    ∙ ap (λ n. prefix + n) (exponent_fed (drop prefix text) rest)

-- ---- symbols

-- a text begins with these bytes, letter case ignored, byte by byte
abbrev pub starts : List ℕ → List ℕ → Bool
starts [] text = true
starts (c ∷ prefix) [] = false
starts (c ∷ prefix) (b ∷ text) = (to_ascii_lowercase b == to_ascii_lowercase c) && starts prefix text

le_both : (m n : ℕ) → nat_le (suc m) (suc n) ≡ nat_le m n
le_both m n = elim (true_or_false (nat_le m n)) [
  | inl t ↦ elim (true_or_false (nat_le (suc m) (suc n))) [ inl u ↦ u ∙ sym t | inr f ↦ absurd (grind (arith, nat_tests, t, f)) ]
  | inr f ↦ elim (true_or_false (nat_le (suc m) (suc n))) [ inl u ↦ absurd (grind (arith, nat_tests, u, f)) | inr g ↦ g ∙ sym f ]
]

pub starts_is : (prefix text : List ℕ) → begins_with_word text prefix ≡ starts prefix text
starts_is [] text = grind (arith, nat_tests)
starts_is (c ∷ prefix) [] = and-false (nat_le (suc (length prefix)) 0)
starts_is (c ∷ prefix) (b ∷ text) =
    let e : Bool = to_ascii_lowercase b == to_ascii_lowercase c in
    let s : Bool = str_eq_ignore_ascii_case (take (length prefix) text) prefix in
    ap (λ v. v && (e && s)) (le_both (length prefix) (length text)) ∙ swapped (nat_le (length prefix) (length text)) e s ∙ ap (λ v. e && v) (starts_is prefix text)

-- no byte is a line feed
abbrev pub no_feed : List ℕ → Bool
no_feed [] = true
no_feed (c ∷ prefix) = not (10 == to_ascii_lowercase c) && no_feed prefix

pub first_false : (a b c : Bool) → (not a && b) ≡ true → (a && c) ≡ false
first_false true b c h = cc
first_false false b c h = refl

pub starts_fed : (prefix text rest : List ℕ) → no_feed prefix ≡ true → starts prefix (fed text rest) ≡ starts prefix text
starts_fed [] text rest h = refl
starts_fed (c ∷ prefix) [] rest h = first_false (10 == to_ascii_lowercase c) (no_feed prefix) (starts prefix rest) h
starts_fed (c ∷ prefix) (b ∷ text) rest h =
    ap (λ v. (to_ascii_lowercase b == to_ascii_lowercase c) && v) (starts_fed prefix text rest ((and_parts (not (10 == to_ascii_lowercase c)) (no_feed prefix) h).1))

no_feed_written : (s : Sym) → no_feed (written_symbol s) ≡ true
no_feed_written EqE = refl
no_feed_written _ = refl

begins_with_fed : (s : Sym) (text rest : List ℕ) → begins_with_word (fed text rest) (written_symbol s) ≡ begins_with_word text (written_symbol s)
begins_with_fed s text rest =
    starts_is (written_symbol s) (fed text rest) ∙ starts_fed (written_symbol s) text rest (no_feed_written s) ∙ sym (starts_is (written_symbol s) text)

pub find_alike : {X : Type 0} (f g : X → Bool) → ((x : X) → f x ≡ g x) → (xs : List X) → find f xs ≡ find g xs
find_alike f g h [] = refl
find_alike f g h (x ∷ xs) = if_same (f x) (g x) _ _ _ _ (h x) (λ _. refl) (λ _. find_alike f g h xs)

symbol_at_fed : (text rest : List ℕ) → longest_symbol (fed text rest) ≡ longest_symbol text
unfolding longest_symbol
symbol_at_fed text rest =
    ap (option_map (λ s. (length (written_symbol s), s))) (find_alike (λ s. begins_with_word (fed text rest) (written_symbol s)) (λ s. begins_with_word text (written_symbol s)) (λ s. begins_with_fed s text rest) symbols)

symbol_fed : (text rest : List ℕ) → symbol (fed text rest) ≡ symbol text
symbol_fed text rest = ap symbol_read (symbol_at_fed text rest)

-- ---- what is in quotation marks

abbrev quoted_by : Piece → ℕ → ℕ → List ℕ → Read
quoted_by piece mark inner text = quoted_of piece (begins (λ b. b == mark) (drop inner text)) inner (prefix_len is_ascii (take inner text))

mark_no_feed : (mark : ℕ) → is_quote mark ≡ true → (10 == mark) ≡ false
mark_no_feed mark h = grind (arith, nat_tests, h)

quoted_fed : (piece : Piece) (mark : ℕ) (text rest : List ℕ) → is_quote mark ≡ true → quoted piece (mark ∷ fed text rest) ≡ quoted piece (mark ∷ text)
quoted_fed piece mark text rest h =
    let inner : ℕ = quoted_length mark text in
    let within : inner ≤ length text = prefix_len-le-length (λ b. not (b == mark || b == 10)) text in
    ap (λ n. quoted_by piece mark n (fed text rest)) (run_fed (λ b. not (b == mark || b == 10)) text rest (ap not (or-true (10 == mark))))
    ∙ ap₂ (λ v t. quoted_of piece v inner (prefix_len is_ascii t))
    (ap (begins (λ b. b == mark)) (drop-append-le inner text (10 ∷ rest) within) ∙ begins_fed (λ b. b == mark) (drop inner text) rest (mark_no_feed mark h))
    (take-append-le inner text (10 ∷ rest) within)

-- ---- tokens and texts

begins_number_fed : (b : ℕ) (text rest : List ℕ) → begins_number (b ∷ fed text rest) ≡ begins_number (b ∷ text)
begins_number_fed b text rest = ap (λ v. is_ascii_digit b || (b == 46 && v)) (begins_fed is_ascii_digit text rest refl)

code_token_fed : (kind : Kind) (b : ℕ) (text rest : List ℕ) → code_token kind (b ∷ fed text rest) ≡ code_token kind (b ∷ text)
code_token_fed kind b text rest =
    if_alike (is_ascii_alphabetic b) _ _ _ _ (λ _. ap (bounded Word) (run_fed is_name_byte (b ∷ text) rest refl))
    (λ _. if_same (begins_number (b ∷ fed text rest)) (begins_number (b ∷ text)) _ _ _ _ (begins_number_fed b text rest) (λ _. ap (lexeme (Token Number)) (number_fed (b ∷ text) rest))
    (λ _. if_alike (is_quote b) _ _ _ _ (quoted_fed (Token kind) b text rest) (λ _. symbol_fed (b ∷ text) rest)))

label_token_fed : (b : ℕ) (text rest : List ℕ) → label_token (b ∷ fed text rest) ≡ label_token (b ∷ text)
label_token_fed b text rest =
    if_alike (is_ascii_alphanumeric b) _ _ _ _ (λ _. ap (bounded Label) (run_fed is_label_byte (b ∷ text) rest refl))
    (λ _. if_alike (is_quote b) _ _ _ _ (quoted_fed (Token Label) b text rest) (λ _. symbol_fed (b ∷ text) rest))

remark_fed : (b : ℕ) (text rest : List ℕ) → remark (b ∷ fed text rest) ≡ remark (b ∷ text)
remark_fed b text rest =
    if_alike (is_quote b) _ _ _ _ (quoted_fed Remark b text rest) (λ _. ap remark_of (run_fed is_text_byte (b ∷ text) rest refl))

after_name_fed : (b : ℕ) (text rest : List ℕ) → piece_after_name (b ∷ fed text rest) ≡ piece_after_name (b ∷ text)
after_name_fed b text rest = if_alike (b == 40 || is_item_mark b) _ _ _ _ (λ _. symbol_fed (b ∷ text) rest) (λ _. remark_fed b text rest)

after_domain_fed : (b : ℕ) (text rest : List ℕ) → piece_after_domain (b ∷ fed text rest) ≡ piece_after_domain (b ∷ text)
after_domain_fed b text rest = if_alike (is_item_mark b) _ _ _ _ (λ _. symbol_fed (b ∷ text) rest) (λ _. remark_fed b text rest)

value_dot_fed : (shape : Shape) (depth : ℕ) (stage : Stage) (b : ℕ) (text rest : List ℕ) → begins_value_dot shape depth stage (b ∷ fed text rest) ≡ begins_value_dot shape depth stage (b ∷ text)
value_dot_fed Parameter depth Spaced b text rest = ap (λ v. depth == 0 && (b == 46 && v)) (begins_fed is_ascii_digit text rest refl)
value_dot_fed shape depth stage b text rest = refl

element_tail_fed : (shape : Shape) (b : ℕ) (text rest : List ℕ) → element_tail shape (b ∷ fed text rest) ≡ element_tail shape (b ∷ text)
element_tail_fed Parameter b text rest = code_token_fed Label b text rest
element_tail_fed Set b text rest = remark_fed b text rest
element_tail_fed Scalar b text rest = remark_fed b text rest
element_tail_fed Model b text rest = remark_fed b text rest

after_label_fed : (shape : Shape) (depth : ℕ) (stage : Stage) (b : ℕ) (text rest : List ℕ) → piece_after_label shape depth stage (b ∷ fed text rest) ≡ piece_after_label shape depth stage (b ∷ text)
after_label_fed shape depth stage b text rest =
    if_same _ _ _ _ _ _ (ap (λ v. is_element_mark b && not v) (value_dot_fed shape depth stage b text rest)) (λ _. symbol_fed (b ∷ text) rest)
    (λ _. if_alike (depth == 0) _ _ _ _ (λ _. element_tail_fed shape b text rest) (λ _. label_token_fed b text rest))

in_list_fed : (shape : Shape) (depth : ℕ) (stage : Stage) (b : ℕ) (text rest : List ℕ) → in_list shape depth stage (b ∷ fed text rest) ≡ in_list shape depth stage (b ∷ text)
in_list_fed shape depth Fresh b text rest = label_token_fed b text rest
in_list_fed shape depth Expected b text rest = label_token_fed b text rest
in_list_fed shape depth After b text rest = after_label_fed shape depth After b text rest
in_list_fed shape depth Spaced b text rest = after_label_fed shape depth Spaced b text rest

token_at_fed : (current : Mode) (b : ℕ) (text rest : List ℕ) → token_read current (b ∷ fed text rest) ≡ token_read current (b ∷ text)
token_at_fed (Named shape) b text rest = after_name_fed b text rest
token_at_fed TableNamed b text rest = after_name_fed b text rest
token_at_fed (Bare shape) b text rest = after_domain_fed b text rest
token_at_fed TableBare b text rest = after_domain_fed b text rest
token_at_fed (Element shape depth stage) b text rest = in_list_fed shape depth stage b text rest
token_at_fed (Value shape) b text rest = code_token_fed Label b text rest
token_at_fed (Tail shape) b text rest = code_token_fed Label b text rest
token_at_fed current b text rest = code_token_fed Text b text rest

-- ---- line ends

ends_fed : (test : ℕ → Bool) (text rest : List ℕ) → 0 < length text → ends_or_begins test (fed text rest) ≡ ends_or_begins test text
ends_fed test [] rest some = absurd (omega arith)
ends_fed test (b ∷ text) rest some = refl

-- what follows the blanks and line ends of a text that has more
after_space_fed : (test : ℕ → Bool) (text rest : List ℕ) → ends_in_return text ≡ false → space_length text < length text → ends_or_begins test (drop (space_length (fed text rest)) (fed text rest)) ≡ ends_or_begins test (drop (space_length text) text)
after_space_fed test text rest h some =
    let space : ℕ = space_length text in
    ap (λ n. ends_or_begins test (drop n (fed text rest))) (space_fed text rest h some)
    ∙ ap (ends_or_begins test) (drop-append-le space text (10 ∷ rest) (omega (arith, some)))
    ∙ ends_fed test (drop space text) rest (omega (arith, some, length-drop space text))

ended_fed : (ends : LineEnds) (b : ℕ) (text rest : List ℕ) → ends_in_return (b ∷ text) ≡ false → space_length (b ∷ text) < length (b ∷ text) → line_end ends (b ∷ fed text rest) ≡ line_end ends (b ∷ text)
ended_fed Skipped b text rest h some = refl
ended_fed EndItem b text rest h some =
    if_same _ _ _ _ _ _ (after_space_fed (passes EndItem) (b ∷ text) rest h some) (λ _. ap (lexeme LineEnd) (space_fed (b ∷ text) rest h some)) (λ _. refl)
ended_fed EndElement b text rest h some =
    if_same _ _ _ _ _ _ (after_space_fed (passes EndElement) (b ∷ text) rest h some) (λ _. ap (lexeme LineEnd) (space_fed (b ∷ text) rest h some)) (λ _. refl)

-- ---- lines of tables

abbrev statement_by : ℕ → List ℕ → Bool
statement_by n text = is_some (keyword_of (take n text)) && not (begins_dot (drop n text))

statement_fed : (text rest : List ℕ) → begins_statement (fed text rest) ≡ begins_statement text
statement_fed text rest =
    let n : ℕ = prefix_len is_label_byte text in
    let within : n ≤ length text = prefix_len-le-length is_label_byte text in
    ap (λ k. statement_by k (fed text rest)) (run_fed is_label_byte text rest refl)
    ∙ ap₂ (λ t v. is_some (keyword_of t) && not v) (take-append-le n text (10 ∷ rest) within)
    (ap begins_dot (drop-append-le n text (10 ∷ rest) within) ∙ begins_fed (λ b. b == 46) (drop n text) rest refl)

table_line_fed : (n : ℕ) (text rest : List ℕ) → n ≤ length text → table_line n (fed text rest) ≡ table_line n text
table_line_fed n text rest within = ap (λ t. table_line_of n (prefix_len is_ascii t)) (take-append-le n text (10 ∷ rest) within)

table_of_fed : (blanks bytes : ℕ) (b : ℕ) (text rest : List ℕ) → blanks ≤ length (b ∷ text) → bytes ≤ length (b ∷ text) → table_piece_of blanks bytes (b ∷ fed text rest) ≡ table_piece_of blanks bytes (b ∷ text)
table_of_fed blanks bytes b text rest l m =
    if_same _ _ _ _ _ _
    (ap (λ t. nat_lt 0 blanks && (nat_le bytes blanks || begins_statement t)) (drop-append-le blanks (b ∷ text) (10 ∷ rest) l) ∙ ap (λ v. nat_lt 0 blanks && (nat_le bytes blanks || v)) (statement_fed (drop blanks (b ∷ text)) rest))
    (λ _. refl)
    (λ _. if_same _ _ _ _ _ _ (ap (λ v. bytes == 0 || v) (statement_fed (b ∷ text) rest)) (λ _. code_token_fed Text b text rest) (λ _. table_line_fed bytes (b ∷ text) rest m))

table_fed : (b : ℕ) (text rest : List ℕ) → ends_in_return (b ∷ text) ≡ false → table_piece (b ∷ fed text rest) ≡ table_piece (b ∷ text)
table_fed b text rest h =
    let blanks : ℕ = prefix_len is_blank (b ∷ text) in
    let bytes : ℕ = table_bytes (content (b ∷ text)) in
    if_same _ _ _ _ _ _ (line_end_fed b text rest h) (λ _. refl)
    (λ _.
    ap (λ n. table_piece_of n (table_bytes (content (b ∷ fed text rest))) (b ∷ fed text rest)) (run_fed is_blank (b ∷ text) rest refl)
    ∙ ap (λ t. table_piece_of blanks (table_bytes t) (b ∷ fed text rest)) (content_fed (b ∷ text) rest h)
    ∙ table_of_fed blanks bytes b text rest (prefix_len-le-length is_blank (b ∷ text))
    (omega (arith, table_bytes_le (content (b ∷ text)), length-take_all (before is_line_end (b ∷ text)) (b ∷ text))))

plain_fed : (current : Mode) (b : ℕ) (text rest : List ℕ) → ends_in_return (b ∷ text) ≡ false → space_length (b ∷ text) < length (b ∷ text) → plain_piece current (b ∷ fed text rest) ≡ plain_piece current (b ∷ text)
plain_fed current b text rest h some =
    if_alike (is_blank b) _ _ _ _ (λ _. ap (lexeme Gap) (run_fed is_blank (b ∷ text) rest refl))
    (λ _. if_same _ _ _ _ _ _ (line_end_fed b text rest h) (λ _. ended_fed (line_ends current) b text rest h some) (λ _. token_at_fed current b text rest))

-- the first piece of a text that has more than blanks and line ends
pub piece_fed : (current : Mode) (b : ℕ) (text rest : List ℕ) → ends_in_return (b ∷ text) ≡ false → space_length (b ∷ text) < length (b ∷ text) → piece_at current (b ∷ fed text rest) ≡ piece_at current (b ∷ text)
piece_fed TableLines b text rest h some = table_fed b text rest h
piece_fed current b text rest h some = plain_fed current b text rest h some
