-- Blanks and line ends before a `;`: they contain no tokens but line ends, and the `;` is a token
-- in each mode.
use mathlib.Core.Bool.{and-false}
use Rattle.std.proofs.Common.{◌≡◌, ℕ, zero, suc, ◌+◌, ◌==◌, ◌&&◌, ◌||◌, ◌<◌, ◌≤◌, Bool, true, false, not, nat_lt, nat_le, cond, if◌then◌else◌, List, [], ◌∷◌, ◌++◌, length, take, drop, All, Ok, Err, option_map, refl, sym, ap, ◌∙◌, subst, arith, inl, inr}
use Rattle.std.proofs.lemmas.Bool.Decides.{nat_tests}
use Rattle.std.proofs.lemmas.List.{drop-append-le, drop_all, length-drop}
use Rattle.std.proofs.lemmas.List.Elements.{All-nil, All-cons, All-append}
use Rattle.std.proofs.Math.Seq.{drop-append-add}
use Rattle.std.specs.List.{prefix_len}
use Rattle.gms_labels.specs.declared.place.Place.{Place}
use Rattle.gms_grammar.specs.Lines.{begins, is_blank, is_line_end, before, content}
use Rattle.gms_grammar.proofs.LineLemmas.{true_or_false, below_or}
use Rattle.gms_grammar.specs.declared.kind.Sym.TheVariants.{Semicolon}
use Rattle.gms_grammar.specs.declared.kind.Kind.TheVariants.{Symbol, Break}
use Rattle.gms_grammar.specs.declared.lexeme.Piece.{Piece}
use Rattle.gms_grammar.specs.declared.lexeme.Piece.TheVariants.{Gap, LineEnd, Remark, Token}
use Rattle.gms_grammar.specs.declared.lexeme.Lexeme.{Lexeme}
use Rattle.gms_grammar.specs.Symbols.{written_symbol, symbols, begins_with_word, longest_symbol}
use Rattle.gms_grammar.specs.Shapes.{Read, symbol_read, symbol, label_token}
use Rattle.gms_grammar.specs.TableLines.{table_bytes}
use Rattle.gms_grammar.proofs.WithinLemmas.{table_bytes_le}
use Rattle.gms_lex.specs.declared.keyword.Shape.{Shape}
use Rattle.gms_lex.specs.declared.keyword.Shape.TheVariants.{Parameter}
use Rattle.gms_lex.specs.declared.mode.Stage.{Stage}
use Rattle.gms_lex.specs.declared.mode.Stage.TheVariants.{Fresh, Expected, After, Spaced}
use Rattle.gms_lex.specs.declared.mode.Mode.{Mode}
use Rattle.gms_lex.specs.declared.mode.Mode.TheVariants.{Code, Named, Bare, Rest, Element, Value, Tail, TableLines}
use Rattle.gms_lex.specs.declared.mode.LineEnds.{LineEnds}
use Rattle.gms_lex.specs.declared.mode.LineEnds.TheVariants.{Skipped, EndItem, EndElement}
use Rattle.gms_lex.specs.declared.token.Token.{Token as CodeToken}
use Rattle.gms_lex.specs.Apart.{IsEnding, break_of}
use Rattle.gms_lex.specs.Keywords.{begins_statement}
use Rattle.gms_lex.specs.Modes.{after_gap, after_line, mode_after}
use Rattle.gms_lex.specs.Pieces.{passes, ends_or_begins, begins_other, space_length, line_end_length, line_ends, line_end, begins_value_dot, element_tail, piece_after_label, in_list, token_read, table_piece_of, table_piece, plain_piece, piece_at}
use Rattle.gms_lex.specs.Places.{place_of_byte}
use Rattle.gms_lex.specs.Tokens.{IsMadeOf, token_at as token_of, tokens_of}
use Rattle.gms_lex.proofs.ApartLemmas.{breaks}
use Rattle.gms_lex.proofs.LineTextLemmas.{length-take_most}
use Rattle.gms_lex.proofs.ReadingLemmas.{lexeme_within}
use Rattle.gms_joint_source.proofs.Feeds.{fed, ends_in_return, no_return_after, no_return_drop, line_end_fed, other_fed, space_all_fed}
use Rattle.gms_joint_source.proofs.FedTokens.{starts, starts_is, find_alike}

-- ---- lists

-- the next token is in a list
abbrev pub in_list_now : Mode → Bool
in_list_now (Element shape depth stage) = true
in_list_now (Value shape) = true
in_list_now (Tail shape) = true
in_list_now current = false

gap_stays : (current : Mode) → in_list_now (after_gap current) ≡ in_list_now current
gap_stays (Element shape depth After) = refl
gap_stays (Element shape depth Fresh) = refl
gap_stays (Element shape depth Expected) = refl
gap_stays (Element shape depth Spaced) = refl
gap_stays (Value shape) = refl
gap_stays _ = refl

line_stays : (current : Mode) → in_list_now (after_line current) ≡ in_list_now current
line_stays (Value shape) = refl
line_stays _ = refl

-- outside lists a line end before `;` is no token
not_ending : (current : Mode) (text : List ℕ) → in_list_now current ≡ false → IsEnding (line_ends current) (59 ∷ text) → ⊥
not_ending (Named shape) text h e = let z : false ≡ true = e in cc
not_ending (Bare shape) text h e = let z : false ≡ true = e in cc
not_ending (Rest shape) text h e = let z : false ≡ true = e in cc
not_ending (Element shape depth stage) text h e = cc
not_ending (Tail shape) text h e = cc
not_ending (Value shape) text h e = cc
not_ending current text h e = e

-- ---- the semicolon

-- the token that a `;` is
abbrev semicolon_piece : Lexeme
semicolon_piece = record { piece = Token (Symbol Semicolon); length = 1 }

symbol_semicolon : (text : List ℕ) → symbol (59 ∷ text) ≡ Ok semicolon_piece
unfolding longest_symbol
symbol_semicolon text =
    ap (λ found. symbol_read (option_map (λ s. (length (written_symbol s), s)) found)) (find_alike (λ s. begins_with_word (59 ∷ text) (written_symbol s)) (λ s. starts (written_symbol s) (59 ∷ text)) (λ s. starts_is (written_symbol s) (59 ∷ text)) symbols)

no_value_dot : (shape : Shape) (depth : ℕ) (stage : Stage) (text : List ℕ) → begins_value_dot shape depth stage (59 ∷ text) ≡ false
no_value_dot Parameter depth Spaced text = and-false (depth == 0)
no_value_dot shape depth stage text = refl

after_label_semicolon : (shape : Shape) (depth : ℕ) (stage : Stage) (text : List ℕ) → piece_after_label shape depth stage (59 ∷ text) ≡ Ok semicolon_piece
after_label_semicolon shape depth stage text =
    ap (λ v. if not v then symbol (59 ∷ text) else (if depth == 0 then element_tail shape (59 ∷ text) else label_token (59 ∷ text))) (no_value_dot shape depth stage text) ∙ symbol_semicolon text

in_list_semicolon : (shape : Shape) (depth : ℕ) (stage : Stage) (text : List ℕ) → in_list shape depth stage (59 ∷ text) ≡ Ok semicolon_piece
in_list_semicolon shape depth Fresh text = symbol_semicolon text
in_list_semicolon shape depth Expected text = symbol_semicolon text
in_list_semicolon shape depth After text = after_label_semicolon shape depth After text
in_list_semicolon shape depth Spaced text = after_label_semicolon shape depth Spaced text

token_semicolon : (current : Mode) (text : List ℕ) → token_read current (59 ∷ text) ≡ Ok semicolon_piece
token_semicolon (Element shape depth stage) text = in_list_semicolon shape depth stage text
token_semicolon current text = symbol_semicolon text

table_none : (text : List ℕ) → table_bytes (content (59 ∷ text)) ≡ 0
table_none text =
    let more : 1 + before is_line_end text ≡ suc (before is_line_end text) = omega arith in
    ap (λ n. table_bytes (take n (59 ∷ text))) more

-- a `;` is a token in each mode
semicolon_there : (current : Mode) (text : List ℕ) → piece_at current (59 ∷ text) ≡ Ok semicolon_piece
semicolon_there TableLines text = ap (λ n. table_piece_of 0 n (59 ∷ text)) (table_none text) ∙ symbol_semicolon text
semicolon_there current text = token_semicolon current text

-- ---- blanks and line ends

-- blanks, or a line end
abbrev IsSpacePiece : Piece → Type 0
IsSpacePiece Gap = Unit {0}
IsSpacePiece LineEnd = Unit {0}
IsSpacePiece (Token Break) = Unit {0}
IsSpacePiece piece = ⊥

abbrev IsSpaceRead : List ℕ → Read → Type 0
IsSpaceRead text (Ok p) = IsSpacePiece p.piece × (p.length ≤ space_length text)
IsSpaceRead text (Err m) = Unit {0}

if_space : (text : List ℕ) (b : Bool) (x y : Read) → (b ≡ true → IsSpaceRead text x) → (b ≡ false → IsSpaceRead text y) → IsSpaceRead text (if b then x else y)
if_space text true x y p q = p refl
if_space text false x y p q = q refl

space_more : (b : ℕ) (text : List ℕ) → begins_other (b ∷ text) ≡ false → space_length (b ∷ text) ≡ 1 + space_length text
space_more b text h = ap (λ v. if v then 0 else 1 + space_length text) h

blank_no_other : (b : ℕ) (text : List ℕ) → is_blank b ≡ true → begins_other (b ∷ text) ≡ false
blank_no_other b text h = ap (λ v. not (v || is_line_end (b ∷ text))) h

end_no_other : (b : ℕ) (text : List ℕ) → is_line_end (b ∷ text) ≡ true → begins_other (b ∷ text) ≡ false
end_no_other b text h = elim (true_or_false (is_blank b)) [
  | inl t ↦ blank_no_other b text t
  | inr f ↦ ap (λ v. not (v || is_line_end (b ∷ text))) f ∙ ap not h
]

blank_le_space : (text : List ℕ) → prefix_len is_blank text ≤ space_length text
blank_le_space [] = omega arith
blank_le_space (b ∷ text) = elim (true_or_false (is_blank b)) [
  | inl t ↦
      let run : prefix_len is_blank (b ∷ text) ≡ 1 + prefix_len is_blank text = ap (λ v. cond v (1 + prefix_len is_blank text) 0) t in
      omega (arith, run, space_more b text (blank_no_other b text t), blank_le_space text)
  | inr f ↦ let run : prefix_len is_blank (b ∷ text) ≡ 0 = ap (λ v. cond v (1 + prefix_len is_blank text) 0) f in omega (arith, run)
]

two_feed : (b : ℕ) (text : List ℕ) → is_line_end (b ∷ text) ≡ true → (b == 13) ≡ true → begins (λ c. c == 10) text ≡ true
two_feed b text h t =
    let not_feed : (b == 10) ≡ false = grind (arith, nat_tests, t) in
    sym (ap (λ v. v || (b == 13 && begins (λ c. c == 10) text)) not_feed ∙ ap (λ v. v && begins (λ c. c == 10) text) t) ∙ h

feed_end : (c : ℕ) (text : List ℕ) → (c == 10) ≡ true → is_line_end (c ∷ text) ≡ true
feed_end c text h = ap (λ v. v || (c == 13 && begins (λ d. d == 10) text)) h

feed_space : (text : List ℕ) → begins (λ c. c == 10) text ≡ true → 1 ≤ space_length text
feed_space [] h = cc
feed_space (c ∷ text) h = omega (arith, space_more c text (end_no_other c text (feed_end c text h)))

end_le_space : (b : ℕ) (text : List ℕ) → is_line_end (b ∷ text) ≡ true → line_end_length (b ∷ text) ≤ space_length (b ∷ text)
end_le_space b text h =
    let more = space_more b text (end_no_other b text h) in
    elim (true_or_false (b == 13)) [
      | inl t ↦
          let two : line_end_length (b ∷ text) ≡ 2 = ap (λ v. if v then 2 else 1) t in
          omega (arith, two, more, feed_space text (two_feed b text h t))
      | inr f ↦ let one : line_end_length (b ∷ text) ≡ 1 = ap (λ v. if v then 2 else 1) f in omega (arith, one, more)
    ]

line_end_space : (ends : LineEnds) (b : ℕ) (text : List ℕ) → is_line_end (b ∷ text) ≡ true → IsSpaceRead (b ∷ text) (line_end ends (b ∷ text))
line_end_space Skipped b text h = (tt, end_le_space b text h)
line_end_space EndItem b text h = if_space (b ∷ text) (ends_or_begins (passes EndItem) (drop (space_length (b ∷ text)) (b ∷ text))) _ _ (λ _. (tt, omega arith)) (λ _. (tt, end_le_space b text h))
line_end_space EndElement b text h = if_space (b ∷ text) (ends_or_begins (passes EndElement) (drop (space_length (b ∷ text)) (b ∷ text))) _ _ (λ _. (tt, omega arith)) (λ _. (tt, end_le_space b text h))

neither : (blank end : Bool) → not (blank || end) ≡ false → blank ≡ false → end ≡ false → ⊥
neither true end h f g = cc
neither false true h f g = cc
neither false false h f g = cc

plain_space : (current : Mode) (b : ℕ) (text : List ℕ) → begins_other (b ∷ text) ≡ false → IsSpaceRead (b ∷ text) (plain_piece current (b ∷ text))
plain_space current b text h =
    if_space (b ∷ text) (is_blank b) _ _ (λ _. (tt, blank_le_space (b ∷ text)))
    (λ f. if_space (b ∷ text) (is_line_end (b ∷ text)) _ _ (λ e. line_end_space (line_ends current) b text e) (λ g. absurd (neither (is_blank b) (is_line_end (b ∷ text)) h f g)))

not_false_both : (m n : ℕ) (x : Bool) → 0 < n → m ≤ n → (nat_lt 0 n && (nat_le m n || x)) ≡ false → ⊥
not_false_both m n x some le h = grind (arith, nat_tests, h)

table_space : (b : ℕ) (text : List ℕ) → begins_other (b ∷ text) ≡ false → before is_line_end (b ∷ text) ≤ prefix_len is_blank (b ∷ text) → IsSpaceRead (b ∷ text) (table_piece (b ∷ text))
table_space b text h le =
    let blanks : ℕ = prefix_len is_blank (b ∷ text) in
    let bytes : ℕ = table_bytes (content (b ∷ text)) in
    if_space (b ∷ text) (is_line_end (b ∷ text)) _ _ (λ e. (tt, end_le_space b text e))
    (λ g.
    let some : 0 < blanks = elim (true_or_false (is_blank b)) [
      | inl t ↦ let run : blanks ≡ 1 + prefix_len is_blank text = ap (λ v. cond v (1 + prefix_len is_blank text) 0) t in omega (arith, run)
      | inr f ↦ absurd (neither (is_blank b) (is_line_end (b ∷ text)) h f g)
    ] in
    let within : bytes ≤ blanks = omega (arith, le, table_bytes_le (content (b ∷ text)), length-take_most (before is_line_end (b ∷ text)) (b ∷ text)) in
    if_space (b ∷ text) (nat_lt 0 blanks && (nat_le bytes blanks || begins_statement (drop blanks (b ∷ text)))) _ _ (λ _. (tt, blank_le_space (b ∷ text)))
    (λ f. absurd (not_false_both bytes blanks (begins_statement (drop blanks (b ∷ text))) some within f)))

-- a text that begins with a blank or a line end has blanks or a line end as its first piece
space_piece : (current : Mode) (b : ℕ) (text : List ℕ) → begins_other (b ∷ text) ≡ false → before is_line_end (b ∷ text) ≤ prefix_len is_blank (b ∷ text) → IsSpaceRead (b ∷ text) (piece_at current (b ∷ text))
space_piece TableLines b text h le = table_space b text h le
space_piece current b text h le = plain_space current b text h

-- ---- texts of blanks and line ends

-- the first byte of such a text is blank or a line end, and the bytes after it are such a text
all_space : (b : ℕ) (text : List ℕ) → space_length (b ∷ text) ≡ length (b ∷ text) → (begins_other (b ∷ text) ≡ false) × (space_length text ≡ length text)
all_space b text all = elim (true_or_false (begins_other (b ∷ text))) [
  | inl t ↦ let none : space_length (b ∷ text) ≡ 0 = ap (λ v. if v then 0 else 1 + space_length text) t in absurd (omega (arith, none, all))
  | inr f ↦ (f, omega (arith, all, space_more b text f))
]

space_drop : (n : ℕ) (text : List ℕ) → space_length text ≡ length text → space_length (drop n text) ≡ length (drop n text)
space_drop zero text all = all
space_drop (suc n) [] all = all
space_drop (suc n) (b ∷ text) all = space_drop n text (all_space b text all).1

-- a step towards the line end is one over a blank
step_blank : (b : ℕ) (text following : List ℕ) → begins_other (b ∷ text) ≡ false → before is_line_end following ≤ prefix_len is_blank following → is_line_end (b ∷ following) ≡ is_line_end (b ∷ text) → before is_line_end (b ∷ following) ≤ prefix_len is_blank (b ∷ following)
step_blank b text following h le same = elim (true_or_false (is_line_end (b ∷ following))) [
  | inl t ↦ let none : before is_line_end (b ∷ following) ≡ 0 = ap (λ v. if v then 0 else 1 + before is_line_end following) t in omega (arith, none)
  | inr f ↦ elim (true_or_false (is_blank b)) [
    | inl t ↦
        let more : before is_line_end (b ∷ following) ≡ 1 + before is_line_end following = ap (λ v. if v then 0 else 1 + before is_line_end following) f in
        let run : prefix_len is_blank (b ∷ following) ≡ 1 + prefix_len is_blank following = ap (λ v. cond v (1 + prefix_len is_blank following) 0) t in
        omega (arith, more, run, le)
    | inr g ↦ absurd (neither (is_blank b) (is_line_end (b ∷ text)) h g (sym same ∙ f))
  ]
]

to_end_blank : (text : List ℕ) → space_length text ≡ length text → before is_line_end text ≤ prefix_len is_blank text
to_end_blank [] all = omega arith
to_end_blank (b ∷ text) all = let first = all_space b text all in step_blank b text text first.0 (to_end_blank text first.1) refl

to_end_blank_fed : (text rest : List ℕ) → ends_in_return text ≡ false → space_length text ≡ length text → before is_line_end (fed text rest) ≤ prefix_len is_blank (fed text rest)
to_end_blank_fed [] rest h all = omega arith
to_end_blank_fed (b ∷ text) rest h all =
    let first = all_space b text all in
    step_blank b text (fed text rest) first.0 (to_end_blank_fed text rest (no_return_after b text h) first.1) (line_end_fed b text rest h)

-- ---- at the end of a text

no_ending : (ends : LineEnds) → IsEnding ends [] → ⊥
no_ending Skipped h = h
no_ending EndItem h = cc
no_ending EndElement h = cc

-- blanks and line ends that nothing follows are no tokens
no_token : (at : Place) (piece : Piece) (start end : ℕ) → IsSpacePiece piece → (piece ≡ Token Break → ⊥) → token_of at piece start end ≡ []
no_token at Gap start end h k = refl
no_token at LineEnd start end h k = refl
no_token at (Token Break) start end h k = absurd (k refl)
no_token at piece start end h k = absurd h

no_break : (current : Mode) (b : ℕ) (text : List ℕ) (p : Lexeme) → space_length (b ∷ text) ≡ length (b ∷ text) → piece_at current (b ∷ text) ≡ Ok p → p.piece ≡ Token Break → ⊥
no_break current b text p all there e =
    let nothing : drop (space_length (b ∷ text)) (b ∷ text) ≡ [] = drop_all (space_length (b ∷ text)) (b ∷ text) (omega (arith, all)) in
    let is : piece_at current (b ∷ text) ≡ Ok (break_of p.length) = there ∙ ap (λ (k : Piece). (let q : Lexeme = record { piece = k; length = p.length } in Ok q)) e in
    no_ending (line_ends current) (subst (IsEnding (line_ends current)) nothing (breaks current (b ∷ text) p.length is).0.1)

pub blank_tokens : (source : List ℕ) (start : ℕ) (current : Mode) (text : List ℕ) (pieces : List Lexeme) (last : Mode) → space_length text ≡ length text → IsMadeOf current text pieces last [] → tokens_of source start pieces ≡ []
blank_tokens source start current text [] last all made = refl
blank_tokens source start current [] (p ∷ pieces) last all made = let w = lexeme_within current [] p made.0 in absurd (omega (arith, w.0, w.1))
blank_tokens source start current (b ∷ text) (p ∷ pieces) last all made =
    let is : IsSpaceRead (b ∷ text) (Ok p) = subst (IsSpaceRead (b ∷ text)) made.0 (space_piece current b text (all_space b text all).0 (to_end_blank (b ∷ text) all)) in
    let others = blank_tokens source (start + p.length) (mode_after current p.piece (take p.length (b ∷ text))) (drop p.length (b ∷ text)) pieces last (space_drop p.length (b ∷ text) all) made.1 in
    ap (λ ts. ts ++ tokens_of source (start + p.length) pieces) (no_token (place_of_byte source start) p.piece start (start + p.length) is.0 (no_break current b text p all made.0)) ∙ others

-- and they keep whether the next token is in a list
keeps_list : (current : Mode) (piece : Piece) (text : List ℕ) → IsSpacePiece piece → (piece ≡ Token Break → ⊥) → in_list_now (mode_after current piece text) ≡ in_list_now current
keeps_list current Gap text h k = gap_stays current
keeps_list current LineEnd text h k = line_stays current
keeps_list current (Token Break) text h k = absurd (k refl)
keeps_list current piece text h k = absurd h

pub blank_list : (current : Mode) (text : List ℕ) (pieces : List Lexeme) (last : Mode) → space_length text ≡ length text → IsMadeOf current text pieces last [] → in_list_now last ≡ in_list_now current
blank_list current text [] last all made = ap in_list_now made.0
blank_list current [] (p ∷ pieces) last all made = let w = lexeme_within current [] p made.0 in absurd (omega (arith, w.0, w.1))
blank_list current (b ∷ text) (p ∷ pieces) last all made =
    let is : IsSpaceRead (b ∷ text) (Ok p) = subst (IsSpaceRead (b ∷ text)) made.0 (space_piece current b text (all_space b text all).0 (to_end_blank (b ∷ text) all)) in
    let following : Mode = mode_after current p.piece (take p.length (b ∷ text)) in
    blank_list following (drop p.length (b ∷ text)) pieces last (space_drop p.length (b ∷ text) all) made.1
    ∙ keeps_list current p.piece (take p.length (b ∷ text)) is.0 (no_break current b text p all made.0)

-- ---- before a semicolon

-- a token begins at this byte, or after it
abbrev pub StartsFrom : ℕ → CodeToken → Type 0
StartsFrom least token = least ≤ token.start

-- the token of a piece, if any, begins where the piece does
one_from : (least start end : ℕ) (at : Place) (piece : Piece) → least ≤ start → All (StartsFrom least) (token_of at piece start end)
one_from least start end at Gap le = All-nil (StartsFrom least)
one_from least start end at LineEnd le = All-nil (StartsFrom least)
one_from least start end at Remark le = All-nil (StartsFrom least)
one_from least start end at (Token kind) le = All-cons (StartsFrom least) (record { kind = kind; start = start; end = end; at = at }) [] le (All-nil (StartsFrom least))

-- tokens begin where their pieces do
pub all_from : (source : List ℕ) (least start : ℕ) (pieces : List Lexeme) → least ≤ start → All (StartsFrom least) (tokens_of source start pieces)
all_from source least start [] le = All-nil (StartsFrom least)
all_from source least start (p ∷ pieces) le =
    All-append (StartsFrom least) (token_of (place_of_byte source start) p.piece start (start + p.length)) (tokens_of source (start + p.length) pieces)
    (one_from least start (start + p.length) (place_of_byte source start) p.piece le) (all_from source least (start + p.length) pieces (omega (arith, le)))

-- outside lists a line feed is no token, so the tokens after it begin after it
after_feed : (source : List ℕ) (start : ℕ) (text : List ℕ) (pieces : List Lexeme) (last : Mode) → IsMadeOf Code (10 ∷ text) pieces last [] → All (StartsFrom (start + 1)) (tokens_of source start pieces)
after_feed source start text [] last made = absurd (let e : [] ≡ 10 ∷ text = made.1 in cc)
after_feed source start text (p ∷ pieces) last made =
    let is : IsSpaceRead (10 ∷ text) (Ok p) = subst (IsSpaceRead (10 ∷ text)) made.0 (space_piece Code 10 text refl (omega arith)) in
    let quiet : p.piece ≡ Token Break → ⊥ = λ e. (breaks Code (10 ∷ text) p.length (made.0 ∙ ap (λ (k : Piece). (let q : Lexeme = record { piece = k; length = p.length } in Ok q)) e)).0.1 in
    let w = lexeme_within Code (10 ∷ text) p made.0 in
    subst (λ ts. All (StartsFrom (start + 1)) (ts ++ tokens_of source (start + p.length) pieces)) (sym (no_token (place_of_byte source start) p.piece start (start + p.length) is.0 quiet))
    (all_from source (start + 1) (start + p.length) pieces (omega (arith, w.0)))

-- Line ends that are tokens, a `;` at this byte, and others after it; if `Clean` holds there are no
-- such line ends. If a line feed is the first byte after the `;`, the others begin after it.
pub record Joint (Clean : Type 0) (place : ℕ) (rest : List ℕ) (tokens : List CodeToken) : Type 0 where
  pub ends : List CodeToken
  pub semicolon : CodeToken
  pub others : List CodeToken
  pub is : tokens ≡ ends ++ semicolon ∷ others
  pub are_ends : All (λ (token : CodeToken). token.kind ≡ Break) ends
  pub is_semicolon : semicolon.kind ≡ Symbol Semicolon
  pub none : Clean → ends ≡ []
  pub later : (text : List ℕ) → rest ≡ 10 ∷ text → All (StartsFrom (place + 2)) others

joint_here : (Clean : Type 0) (source : List ℕ) (start : ℕ) (current : Mode) (text : List ℕ) (pieces : List Lexeme) (last : Mode) → IsMadeOf current (59 ∷ text) pieces last [] → Joint Clean start text (tokens_of source start pieces)
joint_here Clean source start current text [] last made = absurd (let e : [] ≡ 59 ∷ text = made.1 in cc)
joint_here Clean source start current text (p ∷ pieces) last made =
    let e : Ok p ≡ Ok semicolon_piece = sym made.0 ∙ semicolon_there current text in
    let same : p ≡ semicolon_piece = cc in
    record {
      ends = [];
      semicolon = record { kind = Symbol Semicolon; start = start; end = start + 1; at = place_of_byte source start };
      others = tokens_of source (start + 1) pieces;
      is = ap (λ (q : Lexeme). tokens_of source start (q ∷ pieces)) same;
      are_ends = All-nil (λ (token : CodeToken). token.kind ≡ Break);
      is_semicolon = refl;
      none = λ c. refl;
      later = λ more feed.
          let following : IsMadeOf Code text pieces last [] = subst (λ (q : Lexeme). IsMadeOf (mode_after current q.piece (take q.length (59 ∷ text))) (drop q.length (59 ∷ text)) pieces last []) same made.1 in
          let two : start + 1 + 1 ≡ start + 2 = omega arith in
          subst (λ n. All (StartsFrom n) (tokens_of source (start + 1) pieces)) two (after_feed source (start + 1) more pieces last (subst (λ t. IsMadeOf Code t pieces last []) feed following));
    }

joint_more : (Clean : Type 0) (place : ℕ) (rest : List ℕ) (at : Place) (piece : Piece) (start end : ℕ) (tokens : List CodeToken) → IsSpacePiece piece → (Clean → piece ≡ Token Break → ⊥) → Joint Clean place rest tokens → Joint Clean place rest (token_of at piece start end ++ tokens)
joint_more Clean place rest at Gap start end tokens h k s = s
joint_more Clean place rest at LineEnd start end tokens h k s = s
joint_more Clean place rest at (Token Break) start end tokens h k s =
    let token : CodeToken = record { kind = Break; start = start; end = end; at = at } in
    record {
      ends = token ∷ s.ends;
      semicolon = s.semicolon;
      others = s.others;
      is = ap (λ ts. token ∷ ts) s.is;
      are_ends = All-cons (λ (token : CodeToken). token.kind ≡ Break) token s.ends refl s.are_ends;
      is_semicolon = s.is_semicolon;
      none = λ c. absurd (k c refl);
      later = s.later;
    }
joint_more Clean place rest at piece start end tokens h k s = absurd h

-- the first piece of blanks and line ends, a line feed and a `;`
joint_piece : (current : Mode) (text rest : List ℕ) → ends_in_return text ≡ false → space_length text ≡ length text → IsSpaceRead (fed text (59 ∷ rest)) (piece_at current (fed text (59 ∷ rest)))
joint_piece current [] rest h all = space_piece current 10 (59 ∷ rest) refl (omega arith)
joint_piece current (b ∷ text) rest h all =
    space_piece current b (fed text (59 ∷ rest)) (other_fed b text (59 ∷ rest) h ∙ (all_space b text all).0) (to_end_blank_fed (b ∷ text) (59 ∷ rest) h all)

no_made : (text rest : List ℕ) → [] ≡ fed text rest → ⊥
no_made [] rest e = cc
no_made (b ∷ text) rest e = cc

-- outside lists the first piece is no token
no_end : (current : Mode) (text rest : List ℕ) (p : Lexeme) → ends_in_return text ≡ false → space_length text ≡ length text → piece_at current (fed text (59 ∷ rest)) ≡ Ok p → in_list_now current ≡ false → p.piece ≡ Token Break → ⊥
no_end current text rest p h all there outside e =
    let is : piece_at current (fed text (59 ∷ rest)) ≡ Ok (break_of p.length) = there ∙ ap (λ (k : Piece). (let q : Lexeme = record { piece = k; length = p.length } in Ok q)) e in
    let following : drop (space_length (fed text (59 ∷ rest))) (fed text (59 ∷ rest)) ≡ 59 ∷ rest =
    ap (λ n. drop n (fed text (59 ∷ rest))) (space_all_fed text (59 ∷ rest) h all) ∙ drop-append-add text (10 ∷ 59 ∷ rest) 1 in
    not_ending current rest outside (subst (IsEnding (line_ends current)) following (breaks current (fed text (59 ∷ rest)) p.length is).0.1)

pub joining : (Clean : Type 0) (source : List ℕ) (start : ℕ) (current : Mode) (text rest : List ℕ) (pieces : List Lexeme) (last : Mode) → ends_in_return text ≡ false → space_length text ≡ length text → (Clean → in_list_now current ≡ false) → IsMadeOf current (fed text (59 ∷ rest)) pieces last [] → Joint Clean (start + length text + 1) rest (tokens_of source start pieces)
joining Clean source start current text rest [] last h all clean made = absurd (no_made text (59 ∷ rest) made.1)
joining Clean source start current text rest (p ∷ pieces) last h all clean made =
    let is : IsSpaceRead (fed text (59 ∷ rest)) (Ok p) = subst (IsSpaceRead (fed text (59 ∷ rest))) made.0 (joint_piece current text rest h all) in
    let long : space_length (fed text (59 ∷ rest)) ≡ length text + 1 = space_all_fed text (59 ∷ rest) h all in
    let most : p.length ≤ length text + 1 = omega (arith, is.1, long) in
    let following : Mode = mode_after current p.piece (take p.length (fed text (59 ∷ rest))) in
    let quiet : Clean → p.piece ≡ Token Break → ⊥ = λ c. no_end current text rest p h all made.0 (clean c) in
    let still : Clean → in_list_now following ≡ false = λ c. keeps_list current p.piece (take p.length (fed text (59 ∷ rest))) is.0 (quiet c) ∙ clean c in
    joint_more Clean (start + length text + 1) rest (place_of_byte source start) p.piece start (start + p.length) (tokens_of source (start + p.length) pieces) is.0 quiet
    (elim (below_or (length text) p.length) [
      | inl past ↦
          let exact : p.length ≡ length text + 1 = omega (arith, past, most) in
          let there : drop p.length (fed text (59 ∷ rest)) ≡ 59 ∷ rest = ap (λ k. drop k (fed text (59 ∷ rest))) exact ∙ drop-append-add text (10 ∷ 59 ∷ rest) 1 in
          let here : start + p.length ≡ start + length text + 1 = omega (arith, exact) in
          subst (λ n. Joint Clean n rest (tokens_of source (start + p.length) pieces)) here (joint_here Clean source (start + p.length) following rest pieces last (subst (λ t. IsMadeOf following t pieces last []) there made.1))
      | inr within ↦
          let here : start + p.length + length (drop p.length text) + 1 ≡ start + length text + 1 = omega (arith, within, length-drop p.length text) in
          subst (λ n. Joint Clean n rest (tokens_of source (start + p.length) pieces)) here
          (joining Clean source (start + p.length) following (drop p.length text) rest pieces last (no_return_drop p.length text h) (space_drop p.length text all) still
          (subst (λ t. IsMadeOf following t pieces last []) (drop-append-le p.length text (10 ∷ 59 ∷ rest) within) made.1))
    ])
