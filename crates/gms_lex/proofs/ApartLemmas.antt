-- Between the tokens of a source there are blanks, line ends and descriptive texts, and a line end
-- is a token if it ends something.
use Rattle.std.proofs.lemmas.Bool.{not-true}
use Rattle.std.proofs.Common.{◌≡◌, inl, inr, ℕ, ◌+◌, ◌-◌, ◌==◌, ◌≤◌, ◌&&◌, ◌||◌, Bool, true, false, not, nat_lt, nat_le, if◌then◌else◌, List, [], ◌∷◌, ◌++◌, length, take, drop, Ok, Err, refl, sym, ap, ◌∙◌, subst, arith, append_assoc, append-nil}
use Rattle.std.proofs.lemmas.Bool.Decides.{nat_tests}
use Rattle.std.proofs.lemmas.List.{length-drop, drop-drop}
use Rattle.std.proofs.lemmas.List.Folds.{concat-append}
use Rattle.std.proofs.Math.Seq.{take-add}
use Rattle.std.specs.List.{prefix_len, list_all, concat, AllByRecursion}
use Rattle.gms_grammar.specs.Lines.{begins, is_blank, is_line_end, content, code_text}
use Rattle.gms_grammar.specs.declared.kind.Kind.TheVariants.{Word, Label, Number, Text, Symbol, Break, TableLine, End}
use Rattle.gms_grammar.specs.declared.lexeme.Piece.{Piece}
use Rattle.gms_grammar.specs.declared.lexeme.Piece.TheVariants.{Gap, LineEnd, Remark, Token}
use Rattle.gms_grammar.specs.declared.lexeme.Lexeme.{Lexeme}
use Rattle.gms_grammar.specs.Shapes.{Read, lexeme, code_token}
use Rattle.gms_grammar.specs.TableLines.{table_bytes, table_line}
use Rattle.gms_lex.specs.declared.mode.Mode.{Mode}
use Rattle.gms_lex.specs.declared.mode.Mode.TheVariants.{Code, TableLines}
use Rattle.gms_lex.specs.declared.mode.LineEnds.{LineEnds}
use Rattle.gms_lex.specs.declared.mode.LineEnds.TheVariants.{Skipped, EndItem, EndElement}
use Rattle.gms_lex.specs.declared.token.Token.{Token as CodeToken}
use Rattle.gms_lex.specs.Keywords.{begins_statement}
use Rattle.gms_lex.specs.Modes.{mode_after}
use Rattle.gms_lex.specs.Places.{place_of_byte}
use Rattle.gms_lex.specs.Pieces.{passes, ends_or_begins, space_length, line_end_length, line_ends, line_end, token_read as piece_of, table_piece, plain_piece, piece_at}
use Rattle.gms_lex.specs.Tokens.{IsMadeOf, token_at, tokens_of, end_token, IsTokens}
use Rattle.gms_lex.specs.Apart.{is_space, IsSkipped, AreSkipped, AreApart, IsOneLineEnd, IsEnding, IsBreak, break_of}
use Rattle.gms_lex.proofs.PrefixLemmas.{not_both}
use Rattle.gms_lex.proofs.LineTextLemmas.{length-code_text}
use Rattle.gms_lex.specs.Longest.{has_text}
use Rattle.gms_lex.proofs.LongestLemmas.{IsTextIfRemark, TellsRead, allowed_tells, plain_tells, table_code_tells, table_line_tells, one_line_end, expected}
use Rattle.gms_lex.proofs.ReadingLemmas.{lexeme_within}

-- ---- between tokens

-- a piece that is no token is skipped
abbrev IsSkippedPiece : Piece → List ℕ → Type 0
IsSkippedPiece (Token kind) text = Unit {0}
IsSkippedPiece piece text = IsSkipped text

skipped_by : (piece : Piece) (text : List ℕ) → (has_text piece ≡ true → IsTextIfRemark piece text) → (has_text piece ≡ false → list_all is_space text ≡ true) → IsSkippedPiece piece text
skipped_by (Token kind) text told space = tt
skipped_by Gap text told space = inl (space refl)
skipped_by LineEnd text told space = inl (space refl)
skipped_by Remark text told space = inr (told refl)

skipped_piece : (current : Mode) (text : List ℕ) (p : Lexeme) → piece_at current text ≡ Ok p → IsSkippedPiece p.piece (take p.length text)
skipped_piece current text p e =
    let is = expected current text p e in
    skipped_by p.piece (take p.length text) (λ some. (allowed_tells current text p.piece p.length (is.0 some).0).1) is.1

each_append : (xs ys : List (List ℕ)) → AllByRecursion IsSkipped xs → AllByRecursion IsSkipped ys → AllByRecursion IsSkipped (xs ++ ys)
each_append [] ys p q = q
each_append (x ∷ xs) ys p q = (p.0, each_append xs ys p.1 q)

AreSkipped-append : (one other : List ℕ) → AreSkipped one → AreSkipped other → AreSkipped (one ++ other)
AreSkipped-append one other p q = (
  p.0 ++ q.0,
  ap (λ t. t ++ other) p.1 ∙ ap (λ t. concat p.0 ++ t) q.1 ∙ sym (concat-append p.0 q.0),
  each_append p.0 q.0 p.2 q.2,
)

AreSkipped-one : (text : List ℕ) → IsSkipped text → AreSkipped text
AreSkipped-one text h = (text ∷ [], sym (append-nil text), (h, tt))

AreSkipped-none : AreSkipped []
AreSkipped-none = ([], refl, tt)

-- what is skipped so far, and a piece more
skipped_more : (text : List ℕ) (from start bytes : ℕ) → from ≤ start → AreSkipped (take (start - from) (drop from text)) → IsSkipped (take bytes (drop start text)) → AreSkipped (take (start + bytes - from) (drop from text))
skipped_more text from start bytes le so_far piece =
    let rest : List ℕ = drop from text in
    let long : start - from + bytes ≡ start + bytes - from = omega arith in
    let here : from + (start - from) ≡ start = omega arith in
    let following : drop (start - from) rest ≡ drop start text = drop-drop (start - from) from text ∙ ap (λ k. drop k text) here in
    let prefix : take (start - from + bytes) rest ≡ take (start - from) rest ++ take bytes (drop start text) = take-add (start - from) bytes rest ∙ ap (λ t. take (start - from) rest ++ take bytes t) following in
    subst (λ k. AreSkipped (take k rest)) long (subst AreSkipped (sym prefix) (AreSkipped-append (take (start - from) rest) (take bytes (drop start text)) so_far (AreSkipped-one (take bytes (drop start text)) piece)))

skipped_none : (text : List ℕ) (at : ℕ) → AreSkipped (take (at - at) (drop at text))
skipped_none text at = let none : 0 ≡ at - at = omega arith in subst (λ k. AreSkipped (take k (drop at text))) none AreSkipped-none

-- a piece, and the tokens after it
piece_apart : (source text : List ℕ) (from start bytes : ℕ) (piece : Piece) (tokens : List CodeToken) → from ≤ start → AreSkipped (take (start - from) (drop from text)) → IsSkippedPiece piece (take bytes (drop start text)) → ((next : ℕ) → next ≤ start + bytes → AreSkipped (take (start + bytes - next) (drop next text)) → AreApart text next tokens) → AreApart text from (token_at (place_of_byte source start) piece start (start + bytes) ++ tokens)
piece_apart source text from start bytes (Token kind) tokens le so_far piece others = (le, so_far, others (start + bytes) (omega arith) (skipped_none text (start + bytes)))
piece_apart source text from start bytes Gap tokens le so_far piece others = others from (omega arith) (skipped_more text from start bytes le so_far piece)
piece_apart source text from start bytes LineEnd tokens le so_far piece others = others from (omega arith) (skipped_more text from start bytes le so_far piece)
piece_apart source text from start bytes Remark tokens le so_far piece others = others from (omega arith) (skipped_more text from start bytes le so_far piece)

pieces_apart : (source : List ℕ) (from start : ℕ) (current : Mode) (pieces : List Lexeme) (last : Mode) → from ≤ start → start ≤ length source → AreSkipped (take (start - from) (drop from (code_text source))) → IsMadeOf current (drop start (code_text source)) pieces last [] → AreApart (code_text source) from (tokens_of source start pieces ++ end_token source ∷ [])
pieces_apart source from start current [] last le within so_far made =
    let none : length (drop start (code_text source)) ≡ 0 = ap length (sym made.1) in
    let at_end : start ≡ length source = omega (arith, none, length-drop start (code_text source), length-code_text source) in
    (omega (arith, at_end), subst (λ k. AreSkipped (take (k - from) (drop from (code_text source)))) at_end so_far, tt)
pieces_apart source from start current (p ∷ pieces) last le within so_far made =
    let text : List ℕ = drop start (code_text source) in
    let w = lexeme_within current text p made.0 in
    let fits : start + p.length ≤ length source = omega (arith, w.1, length-drop start (code_text source), length-code_text source) in
    let others : IsMadeOf (mode_after current p.piece (take p.length text)) (drop (start + p.length) (code_text source)) pieces last [] = subst (λ t. IsMadeOf (mode_after current p.piece (take p.length text)) t pieces last []) (drop-drop p.length start (code_text source)) made.1 in
    let first : List CodeToken = token_at (place_of_byte source start) p.piece start (start + p.length) in
    let rest : List CodeToken = tokens_of source (start + p.length) pieces in
    subst (AreApart (code_text source) from) (sym (append_assoc first rest (end_token source ∷ []))) (piece_apart source (code_text source) from start p.length p.piece (rest ++ end_token source ∷ []) le so_far (skipped_piece current text p made.0) (λ next below skipped. pieces_apart source next (start + p.length) (mode_after current p.piece (take p.length text)) pieces last below fits skipped others))

-- between the tokens of a source are only blanks, line ends and descriptive texts
pub apart : (source : List ℕ) (tokens : List CodeToken) → IsTokens source tokens → AreApart (code_text source) 0 tokens
apart source tokens h =
    subst (AreApart (code_text source) 0) (sym h.has.tokens_are) (pieces_apart source 0 0 Code h.has.pieces h.has.last (omega arith) (omega arith) (skipped_none (code_text source) 0) h.has.made)

-- ---- line ends that are tokens

abbrev is_break : Piece → Bool
is_break (Token Break) = true
is_break piece = false

-- a line end that is read as a token ends something
abbrev IsBreakRead : LineEnds → List ℕ → Read → Type 0
IsBreakRead ends text (Ok p) = is_break p.piece ≡ true → ((is_line_end text ≡ true) × IsEnding ends (drop (space_length text) text)) × IsOneLineEnd (take p.length text)
IsBreakRead ends text (Err m) = Unit {0}

if_break : (ends : LineEnds) (text : List ℕ) (b : Bool) (x y : Read) → (b ≡ true → IsBreakRead ends text x) → (b ≡ false → IsBreakRead ends text y) → IsBreakRead ends text (if b then x else y)
if_break ends text true x y p q = p refl
if_break ends text false x y p q = q refl

no_break : (ends : LineEnds) (text : List ℕ) (piece : Piece) (n : ℕ) → is_break piece ≡ false → IsBreakRead ends text (Ok record { piece = piece; length = n })
no_break ends text piece n none some = not_both (is_break piece) some none

item_ends : (text : List ℕ) → ends_or_begins (passes EndItem) text ≡ false → IsEnding EndItem text
item_ends [] h = not_both true refl h
item_ends (b ∷ text) h = ap not h

element_ends : (text : List ℕ) → ends_or_begins (passes EndElement) text ≡ false → IsEnding EndElement text
element_ends [] h = not_both true refl h
element_ends (b ∷ text) h = ap not h

line_end_break : (ends : LineEnds) (text : List ℕ) → is_line_end text ≡ true → IsBreakRead ends text (line_end ends text)
line_end_break Skipped text h = no_break Skipped text LineEnd (line_end_length text) refl
line_end_break EndItem text h =
    if_break EndItem text (ends_or_begins (passes EndItem) (drop (space_length text) text)) _ _ (λ _. no_break EndItem text LineEnd (space_length text) refl) (λ goes _. ((h, item_ends (drop (space_length text) text) goes), one_line_end text h))
line_end_break EndElement text h =
    if_break EndElement text (ends_or_begins (passes EndElement) (drop (space_length text) text)) _ _ (λ _. no_break EndElement text LineEnd (space_length text) refl) (λ goes _. ((h, element_ends (drop (space_length text) text) goes), one_line_end text h))

-- a line end has no text
break_no_text : (piece : Piece) → is_break piece ≡ true → has_text piece ≡ false
break_no_text (Token Break) h = refl
break_no_text (Token Word) h = not_both false h refl
break_no_text (Token Label) h = not_both false h refl
break_no_text (Token Number) h = not_both false h refl
break_no_text (Token Text) h = not_both false h refl
break_no_text (Token (Symbol s)) h = not_both false h refl
break_no_text (Token TableLine) h = not_both false h refl
break_no_text (Token End) h = not_both false h refl
break_no_text Gap h = not_both false h refl
break_no_text LineEnd h = not_both false h refl
break_no_text Remark h = not_both false h refl

-- a token that begins with neither a blank nor a line end is no line end
read_no_break : (ends : LineEnds) (text : List ℕ) (read : Read) → TellsRead text read → IsBreakRead ends text read
read_no_break ends text (Ok p) h = λ some. not_both (has_text p.piece) h (break_no_text p.piece some)
read_no_break ends text (Err m) h = tt

plain_break : (current : Mode) (text : List ℕ) → TellsRead text (piece_of current text) → IsBreakRead (line_ends current) text (plain_piece current text)
plain_break current text h =
    if_break (line_ends current) text (begins is_blank text) _ _
    (λ _. no_break (line_ends current) text Gap (prefix_len is_blank text) refl)
    (λ _. if_break (line_ends current) text (is_line_end text) _ _ (λ e. line_end_break (line_ends current) text e) (λ _. read_no_break (line_ends current) text (piece_of current text) h))

table_break : (text : List ℕ) → IsBreakRead Skipped text (table_piece text)
table_break text =
    let blanks : ℕ = prefix_len is_blank text in
    let bytes : ℕ = table_bytes (content text) in
    if_break Skipped text (is_line_end text) _ _
    (λ _. no_break Skipped text LineEnd (line_end_length text) refl)
    (λ _. if_break Skipped text (nat_lt 0 blanks && (nat_le bytes blanks || begins_statement (drop blanks text))) _ _
    (λ _. no_break Skipped text Gap blanks refl)
    (λ _. if_break Skipped text (bytes == 0 || begins_statement text) _ _
    (λ ends. read_no_break Skipped text (code_token Text text) (table_code_tells text ends))
    (λ goes. read_no_break Skipped text (table_line bytes text) (table_line_tells text goes))))

piece_break : (current : Mode) (text : List ℕ) → IsBreakRead (line_ends current) text (piece_at current text)
piece_break TableLines text = table_break text
piece_break current text = plain_break current text (plain_tells current text)

-- a line end that is a token ends an item or an element
pub breaks : (current : Mode) (text : List ℕ) (n : ℕ) → piece_at current text ≡ Ok (break_of n) → IsBreak current text × IsOneLineEnd (take n text)
breaks current text n e =
    let read : IsBreakRead (line_ends current) text (Ok (break_of n)) = subst (IsBreakRead (line_ends current) text) e (piece_break current text) in
    read refl

-- ---- no other is one

item_goes : (text : List ℕ) → IsEnding EndItem text → ends_or_begins (passes EndItem) text ≡ false
item_goes [] h = not_both false h refl
item_goes (b ∷ text) h = not-true (passes EndItem b) h

element_goes : (text : List ℕ) → IsEnding EndElement text → ends_or_begins (passes EndElement) text ≡ false
element_goes [] h = not_both false h refl
element_goes (b ∷ text) h = not-true (passes EndElement b) h

line_end_is : (ends : LineEnds) (text : List ℕ) → IsEnding ends (drop (space_length text) text) → line_end ends text ≡ Ok (break_of (line_end_length text))
line_end_is Skipped text h = absurd h
line_end_is EndItem text h = ap (λ v. if v then lexeme LineEnd (space_length text) else lexeme (Token Break) (line_end_length text)) (item_goes (drop (space_length text) text) h)
line_end_is EndElement text h = ap (λ v. if v then lexeme LineEnd (space_length text) else lexeme (Token Break) (line_end_length text)) (element_goes (drop (space_length text) text) h)

no_blank : (b : ℕ) (rest : Bool) → (b == 10 || (b == 13 && rest)) ≡ true → is_blank b ≡ false
no_blank b rest h = grind (arith, nat_tests, h)

line_end_no_blank : (text : List ℕ) → is_line_end text ≡ true → begins is_blank text ≡ false
line_end_no_blank [] h = refl
line_end_no_blank (b ∷ text) h = no_blank b (begins (λ c. c == 10) text) h

plain_is : (current : Mode) (text : List ℕ) → IsBreak current text → plain_piece current text ≡ Ok (break_of (line_end_length text))
plain_is current text h =
    ap (λ v. if v then lexeme Gap (prefix_len is_blank text) else (if is_line_end text then line_end (line_ends current) text else piece_of current text)) (line_end_no_blank text h.0)
    ∙ ap (λ v. if v then line_end (line_ends current) text else piece_of current text) h.0
    ∙ line_end_is (line_ends current) text h.1

-- a line end that ends something is a token
pub break_there : (current : Mode) (text : List ℕ) → IsBreak current text → (n : ℕ) × (piece_at current text ≡ Ok (break_of n))
break_there TableLines text h = absurd h.1
break_there current text h = (line_end_length text, plain_is current text h)
