-- The longest quoted text, symbol or descriptive text with which a text may begin, or why it begins
-- with none.
use Rattle.std.proofs.lemmas.Bool.{and_parts, not-false, not-true}
use Rattle.std.proofs.Common.{◌≡◌, ◌⊎◌, inl, inr, ℕ, zero, suc, ◌+◌, ◌==◌, ◌<◌, ◌≤◌, ◌&&◌, ◌||◌, Bool, true, false, not, nat_lt, if◌then◌else◌, List, [], ◌∷◌, ◌++◌, length, take, drop, Option, Some, None, option_map, find, Ok, Err, refl, sym, ap, ◌∙◌, subst, arith, append_assoc, length-append, get_or}
use Rattle.std.proofs.lemmas.Bool.Decides.{nat_tests}
use Rattle.std.proofs.lemmas.List.{get_or-take, length-take-le, take-append-drop}
use Rattle.std.proofs.lemmas.List.Sums.{prefix_len_stops}
use Rattle.std.proofs.lemmas.List.Folds.{length-prefix_len}
use Rattle.std.proofs.Math.Seq.{take-add, drop-append_seam}
use Rattle.std.specs.List.{prefix_len, list_all}
use Rattle.gms_grammar.specs.Lines.{begins}
use Rattle.gms_grammar.specs.declared.kind.Kind.TheVariants.{Symbol}
use Rattle.gms_grammar.specs.declared.kind.Sym.{Sym}
use Rattle.gms_grammar.specs.declared.lexeme.Piece.{Piece}
use Rattle.gms_grammar.specs.declared.lexeme.Piece.TheVariants.{Remark, Token}
use Rattle.gms_grammar.specs.declared.lexeme.Lexeme.{Lexeme}
use Rattle.gms_grammar.specs.declared.lexeme.Misread.{Misread}
use Rattle.gms_grammar.specs.Bytes.{is_quote, is_text_byte, is_ascii}
use Rattle.gms_grammar.specs.Symbols.{written_symbol, symbols, begins_with_word, longest_symbol}
use Rattle.gms_grammar.specs.Shapes.{Read, longest_label, symbol_read, symbol, quoted_length, is_closed, is_label, quoted, remark}
use Rattle.gms_grammar.proofs.WithinLemmas.{closed_more}
use Rattle.gms_lex.specs.Spellings.{IsQuoted, IsUnquotedText, IsText, IsSymbol}
use Rattle.gms_lex.specs.Longest.{IsUnlawful}
use Rattle.gms_lex.proofs.PrefixLemmas.{not_both, prefix_most, prefix_all, run_over, run_stops, begins_take, begins_prefix}
use Rattle.gms_lex.proofs.UnquotedLemmas.{unquoted_inner}
use Rattle.gms_lex.proofs.SymbolLemmas.{is_outside, symbol_length, symbol_outside, IsFirstSymbol, found_first, none_first}

-- what is allowed at the start of a text: a piece of n bytes
abbrev pub Allowing : Type 1
Allowing = Piece → ℕ → Type 0

-- a piece is allowed, and none that is allowed is longer
abbrev pub IsMost : Allowing → List ℕ → Lexeme → Type 0
IsMost allowed text p = allowed p.piece p.length × ((other : Piece) (n : ℕ) → n ≤ length text → allowed other n → n ≤ p.length)

-- none is allowed, or the longest that is allowed is no token
abbrev pub IsRefusedBy : Allowing → List ℕ → Misread → Type 0
IsRefusedBy allowed text m = ((other : Piece) (n : ℕ) → n ≤ length text → allowed other n → ⊥) ⊎ ((p : Lexeme) × IsMost allowed text p × IsUnlawful p text m)

-- a piece that is read is so
abbrev pub IsLongestRead : Allowing → List ℕ → Read → Type 0
IsLongestRead allowed text (Ok p) = IsMost allowed text p
IsLongestRead allowed text (Err m) = IsRefusedBy allowed text m

pub if_longest : (allowed : Allowing) (text : List ℕ) (b : Bool) (x y : Read) → (b ≡ true → IsLongestRead allowed text x) → (b ≡ false → IsLongestRead allowed text y) → IsLongestRead allowed text (if b then x else y)
if_longest allowed text true x y p q = p refl
if_longest allowed text false x y p q = q refl

-- ---- quoted tokens and texts

pub quoted_begins : (n : ℕ) (text : List ℕ) → IsQuoted (take n text) → begins is_quote text ≡ true
quoted_begins n text h = begins_prefix is_quote n text (ap (begins is_quote) h.spelled ∙ h.quotes)

same_prefix : (a b : ℕ) (xs ys : List ℕ) → a ∷ xs ≡ b ∷ ys → (a ≡ b) × (xs ≡ ys)
same_prefix a b xs ys e = (cc, cc)

-- what is quoted between a mark and its next
inner_most : (mark n : ℕ) (text inner : List ℕ) → n ≤ length text → list_all (λ b. not (b == mark || b == 10)) inner ≡ true → take n text ≡ inner ++ mark ∷ [] → n ≤ quoted_length mark text + 1
inner_most mark n text inner le free spelled =
    let long : n ≡ length inner + 1 = omega (arith, ap length spelled, length-append inner (mark ∷ []), length-take-le n text le) in
    let same : inner ++ ((mark ∷ []) ++ drop n text) ≡ text = sym (append_assoc inner (mark ∷ []) (drop n text)) ∙ ap (λ t. t ++ drop n text) (sym spelled) ∙ take-append-drop n text in
    let run : quoted_length mark (inner ++ ((mark ∷ []) ++ drop n text)) ≡ length inner + quoted_length mark ((mark ∷ []) ++ drop n text) = run_over (λ b. not (b == mark || b == 10)) inner ((mark ∷ []) ++ drop n text) free in
    omega (arith, long, run, ap (quoted_length mark) same)

quoted_most : (mark n : ℕ) (text : List ℕ) → n ≤ length (mark ∷ text) → IsQuoted (take n (mark ∷ text)) → n ≤ quoted_length mark text + 2
quoted_most mark zero text le h = omega arith
quoted_most mark (suc n) text le h =
    let same = same_prefix mark h.mark (take n text) (h.inner ++ h.mark ∷ []) h.spelled in
    let free : list_all (λ b. not (b == mark || b == 10)) h.inner ≡ true = subst (λ m. list_all (λ b. not (b == m || b == 10)) h.inner ≡ true) (sym same.0) h.free in
    let spelled : take n text ≡ h.inner ++ mark ∷ [] = same.1 ∙ ap (λ m. h.inner ++ m ∷ []) (sym same.0) in
    omega (arith, inner_most mark n text h.inner (omega arith) free spelled)

one_prefix : (mark : ℕ) (text : List ℕ) → begins (λ b. b == mark) text ≡ true → take 1 text ≡ mark ∷ []
one_prefix mark [] h = not_both false h refl
one_prefix mark (b ∷ text) h = let same : b ≡ mark = grind (arith, nat_tests, h) in ap (λ c. c ∷ []) same

quoted_spelled : (mark : ℕ) (text : List ℕ) → is_quote mark ≡ true → is_closed mark text ≡ true → IsQuoted (take (quoted_length mark text + 2) (mark ∷ text))
quoted_spelled mark text quote closed =
    let inner : ℕ = quoted_length mark text in
    let long : suc (inner + 1) ≡ inner + 2 = omega arith in
    let prefix : take (inner + 1) text ≡ take inner text ++ mark ∷ [] = take-add inner 1 text ∙ ap (λ t. take inner text ++ t) (one_prefix mark (drop inner text) closed) in
    subst (λ k. IsQuoted (take k (mark ∷ text))) long record {
      mark = mark;
      inner = take inner text;
      quotes = quote;
      free = prefix_all (λ b. not (b == mark || b == 10)) text;
      spelled = ap (λ t. mark ∷ t) prefix;
    }

marks_same : (mark : ℕ) → (mark == mark) ≡ true
marks_same mark = grind (arith, nat_tests)

-- what is quoted ends with its mark
closed_by : (mark n : ℕ) (text : List ℕ) → IsQuoted (take n (mark ∷ text)) → is_closed mark text ≡ true
closed_by mark zero text h = absurd (omega (arith, ap length h.spelled))
closed_by mark (suc n) text h =
    let same = same_prefix mark h.mark (take n text) (h.inner ++ h.mark ∷ []) h.spelled in
    let free : list_all (λ b. not (b == mark || b == 10)) h.inner ≡ true = subst (λ m. list_all (λ b. not (b == m || b == 10)) h.inner ≡ true) (sym same.0) h.free in
    let spelled : take n text ≡ h.inner ++ mark ∷ [] = same.1 ∙ ap (λ m. h.inner ++ m ∷ []) (sym same.0) in
    let following : List ℕ = drop n text in
    let parts : h.inner ++ (mark ∷ following) ≡ text = sym (append_assoc h.inner (mark ∷ []) following) ∙ ap (λ t. t ++ following) (sym spelled) ∙ take-append-drop n text in
    let stops : quoted_length mark (mark ∷ following) ≡ 0 = run_stops (λ b. not (b == mark || b == 10)) mark following (ap (λ v. not (v || mark == 10)) (marks_same mark)) in
    let long : quoted_length mark (h.inner ++ (mark ∷ following)) ≡ length h.inner + quoted_length mark (mark ∷ following) = run_over (λ b. not (b == mark || b == 10)) h.inner (mark ∷ following) free in
    let run : quoted_length mark (h.inner ++ (mark ∷ following)) ≡ length h.inner = omega (arith, long, stops) in
    subst (λ t. is_closed mark t ≡ true) parts
    (ap (λ k. begins (λ b. b == mark) (drop k (h.inner ++ (mark ∷ following)))) run ∙ ap (begins (λ b. b == mark)) (drop-append_seam h.inner (mark ∷ following)) ∙ marks_same mark)

-- the first byte that is not of ASCII among the first of a text
pub bad_byte : (text : List ℕ) (n : ℕ) → n ≤ length text → prefix_len is_ascii (take n text) < n → 127 < get_or text (prefix_len is_ascii (take n text)) 0
bad_byte text n le early =
    let k : ℕ = prefix_len is_ascii (take n text) in
    let inside : k < length (take n text) = omega (arith, early, length-take-le n text le) in
    let stops : is_ascii (get_or (take n text) k 0) ≡ false = prefix_len_stops is_ascii (take n text) 0 inside in
    above (get_or text k 0) (ap is_ascii (sym (get_or-take n text k 0 early)) ∙ stops)
  where
    above : (b : ℕ) → is_ascii b ≡ false → 127 < b
    above b h = grind (arith, nat_tests, h)

pub quoted_longest : (allowed : Allowing) (piece : Piece) (text : List ℕ) → begins is_quote text ≡ true → ((n : ℕ) → IsQuoted (take n text) → allowed piece n) → ((other : Piece) (n : ℕ) → n ≤ length text → allowed other n → IsQuoted (take n text)) → IsLongestRead allowed text (quoted piece text)
quoted_longest allowed piece [] quote may others = not_both false quote refl
quoted_longest allowed piece (mark ∷ text) quote may others =
    let inner : ℕ = quoted_length mark text in
    let plain : ℕ = prefix_len is_ascii (take inner text) in
    if_longest allowed (mark ∷ text) (not (is_closed mark text)) _ _
    (λ unclosed. inl (λ other n le h. not_both (is_closed mark text) (closed_by mark n text (others other n le h)) (not-true _ unclosed)))
    (λ closed.
    let shut : is_closed mark text ≡ true = not-false _ closed in
    let below : inner < length text = closed_more mark text shut in
    let whole : Lexeme = record { piece = piece; length = inner + 2 } in
    let most : IsMost allowed (mark ∷ text) whole = (may (inner + 2) (quoted_spelled mark text quote shut), λ other n le h. quoted_most mark n text le (others other n le h)) in
    if_longest allowed (mark ∷ text) (is_label piece && nat_lt longest_label inner) _ _
    (λ long.
    let over : nat_lt longest_label inner ≡ true = (and_parts (is_label piece) (nat_lt longest_label inner) long).1 in
    let many : longest_label < inner = grind (arith, nat_tests, over) in
    inr (whole, most, inl (refl, subst (λ n. longest_label < n) (sym (unquoted_inner mark text inner quote below)) many)))
    (λ _. if_longest allowed (mark ∷ text) (nat_lt plain inner) _ _
    (λ h.
    let early : plain < inner = grind (arith, nat_tests, h) in
    let same : suc plain ≡ 1 + plain = omega arith in
    inr (whole, most, inr (refl, omega (arith, early), subst (λ k. 127 < get_or (mark ∷ text) k 0) same (bad_byte text inner (omega (arith, below)) early))))
    (λ _. most)))

-- ---- symbols

symbol_of_longest : (allowed : Allowing) (text : List ℕ) (found : Option Sym) → found ≡ find (λ s. begins_with_word text (written_symbol s)) symbols → ((s : Sym) (n : ℕ) → IsSymbol s (take n text) → allowed (Token (Symbol s)) n) → ((other : Piece) (n : ℕ) → n ≤ length text → allowed other n → (s : Sym) × IsSymbol s (take n text)) → IsLongestRead allowed text (symbol_read (option_map (λ s. (length (written_symbol s), s)) found))
symbol_of_longest allowed text None e may others = inl (λ other n le h. let is = others other n le h in none_first text (sym e) is.0 n le is.1)
symbol_of_longest allowed text (Some s) e may others =
    let first : IsFirstSymbol text s = found_first text s (sym e) in
    (may s (symbol_length s) first.spelled, λ other n le h. let is = others other n le h in first.longest is.0 n le is.1)

pub symbol_longest : (allowed : Allowing) (text : List ℕ) → ((s : Sym) (n : ℕ) → IsSymbol s (take n text) → allowed (Token (Symbol s)) n) → ((other : Piece) (n : ℕ) → n ≤ length text → allowed other n → (s : Sym) × IsSymbol s (take n text)) → IsLongestRead allowed text (symbol text)
unfolding longest_symbol
symbol_longest allowed text may others = symbol_of_longest allowed text (find (λ s. begins_with_word text (written_symbol s)) symbols) refl may others

pub symbol_prefix : (s : Sym) (n : ℕ) (text : List ℕ) → IsSymbol s (take n text) → begins is_outside text ≡ true
symbol_prefix s n text h = begins_prefix is_outside n text (symbol_outside s (take n text) h)

-- ---- descriptive texts

unquoted_begins : (n : ℕ) (text : List ℕ) → IsUnquotedText (take n text) → begins is_quote text ≡ false
unquoted_begins zero text h = absurd (omega (arith, h.0))
unquoted_begins (suc n) text h = sym (begins_take is_quote (suc n) text (omega arith)) ∙ h.1

some_from_test : (n : ℕ) → (n == 0) ≡ false → 0 < n
some_from_test n h = grind (arith, nat_tests, h)

-- if a text begins with neither a quotation mark nor a byte of an unquoted text, it begins with no
-- descriptive text
no_text_run : (text : List ℕ) → begins is_quote text ≡ false → (prefix_len is_text_byte text == 0) ≡ true → (n : ℕ) → n ≤ length text → IsText (take n text) → ⊥
no_text_run text plain none n le (inl q) = not_both (begins is_quote text) (quoted_begins n text q) plain
no_text_run text plain none n le (inr u) =
    let run : prefix_len is_text_byte text ≡ 0 = grind (arith, nat_tests, none) in
    let long : 0 < n = omega (arith, u.0, length-take-le n text le) in
    absurd (omega (arith, run, long, prefix_most is_text_byte n text le u.2))

pub remark_longest : (allowed : Allowing) (text : List ℕ) → ((n : ℕ) → IsText (take n text) → allowed Remark n) → ((other : Piece) (n : ℕ) → n ≤ length text → allowed other n → IsText (take n text)) → IsLongestRead allowed text (remark text)
remark_longest allowed text may others =
    let run : ℕ = prefix_len is_text_byte text in
    if_longest allowed text (begins is_quote text) _ _
    (λ quote. quoted_longest allowed Remark text quote (λ n h. may n (inl h)) (λ other n le h. elim (others other n le h) [
      | inl q ↦ q
      | inr u ↦ not_both (begins is_quote text) quote (unquoted_begins n text u)
    ]))
    (λ plain. if_longest allowed text (run == 0) _ _
    (λ none. inl (λ other n le h. no_text_run text plain none n le (others other n le h)))
    (λ some.
    let long : 0 < run = some_from_test run some in
    let here : IsUnquotedText (take run text) = (omega (arith, long, length-prefix_len is_text_byte text), begins_take is_quote run text long ∙ plain, prefix_all is_text_byte text) in (
      may run (inr here),
      λ other n le h. elim (others other n le h) [
        | inl q ↦ not_both (begins is_quote text) (quoted_begins n text q) plain
        | inr u ↦ prefix_most is_text_byte n text le u.2
      ],
    )))
