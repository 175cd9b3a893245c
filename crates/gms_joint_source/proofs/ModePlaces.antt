-- The modes that the tokens of a source lead through, place by place.
use Rattle.std.proofs.Common.{◌≡◌, ℕ, ◌+◌, ◌-◌, ◌≤◌, ◌==◌, ◌&&◌, ◌||◌, Bool, true, false, not, nat_lt, if◌then◌else◌, List, [], ◌∷◌, ◌++◌, length, take, drop, Option, Some, None, Ok, Err, refl, sym, ap, ◌∙◌, subst, arith, inl}
use Rattle.std.proofs.lemmas.List.{length-drop, drop-drop}
use Rattle.std.specs.List.{prefix_len}
use Rattle.std.specs.Char.{is_ascii_alphabetic}
use Rattle.gms_grammar.specs.Lines.{begins, is_blank, is_line_end, code_text}
use Rattle.gms_grammar.specs.declared.kind.Sym.{Sym}
use Rattle.gms_grammar.specs.declared.kind.Kind.{Kind}
use Rattle.gms_grammar.specs.declared.kind.Kind.TheVariants as kind
use Rattle.gms_grammar.specs.declared.lexeme.Piece.{Piece}
use Rattle.gms_grammar.specs.declared.lexeme.Piece.TheVariants as piece
use Rattle.gms_grammar.specs.declared.lexeme.Lexeme.{Lexeme}
use Rattle.gms_grammar.specs.Bytes.{is_name_byte, is_quote, is_text_byte, is_ascii}
use Rattle.gms_grammar.specs.Numbers.{begins_number}
use Rattle.gms_grammar.specs.Symbols.{longest_symbol}
use Rattle.gms_grammar.specs.Shapes.{Read, longest_label, symbol_read, symbol, quoted_length, is_closed, is_label, quoted, code_token, remark}
use Rattle.gms_lex.specs.declared.mode.Mode.{Mode}
use Rattle.gms_lex.specs.declared.mode.Mode.TheVariants as mode
use Rattle.gms_lex.specs.declared.mode.LineEnds.{LineEnds}
use Rattle.gms_lex.specs.declared.mode.LineEnds.TheVariants.{Skipped, EndItem, EndElement}
use Rattle.gms_lex.specs.declared.token.Token.{Token}
use Rattle.gms_lex.specs.Modes.{after_token, mode_after}
use Rattle.gms_lex.specs.Pieces.{passes, ends_or_begins, space_length, line_ends, line_end, is_item_mark, piece_after_name, piece_after_domain, token_read, plain_piece, piece_at}
use Rattle.gms_lex.specs.Places.{place_of_byte}
use Rattle.gms_lex.specs.Tokens.{IsMadeOf, token_at as token_of, tokens_of}
use Rattle.gms_lex.proofs.LineTextLemmas.{solid_same, length-code_text}
use Rattle.gms_lex.proofs.ReadingLemmas.{lexeme_within}
use Rattle.gms_lex.proofs.SolidLemmas.{IsNamed, IsNamedRead, piece_named}
use Rattle.gms_grammar.specs.declared.terminal.Terminal.{Terminal}
use Rattle.gms_expressions.specs.Words.{terminal_of}
use Rattle.gms_expressions.specs.Outcomes.{kinded_tokens}
use Rattle.gms_joint_source.proofs.Flows.{has}
use Rattle.gms_joint_source.proofs.Spots.{Spot, same, same_is, spot_of, sort_of, step, CanOccur, token_leads, OccursFor, occurs_leads, occurs_gap, occurs_line, occurs_remark}

-- ---- which tokens occur in a mode

-- what is read is no such piece
abbrev IsFree : (Piece → Bool) → Read → Type 0
IsFree test (Ok p) = test p.piece ≡ false
IsFree test (Err m) = Unit {0}

if_free : (test : Piece → Bool) (b : Bool) (x y : Read) → IsFree test x → IsFree test y → IsFree test (if b then x else y)
if_free test true x y p q = p
if_free test false x y p q = q

-- a word is no label, and a name is followed by no word
abbrev is_a_word : Piece → Bool
is_a_word (piece.Token kind.Word) = true
is_a_word other = false

symbol_free : (test : Piece → Bool) (text : List ℕ) → ((s : Sym) → test (piece.Token (kind.Symbol s)) ≡ false) → IsFree test (symbol text)
symbol_free test text h = by (longest_symbol text)
  where
    by : (found : Option (ℕ × Sym)) → IsFree test (symbol_read found)
    by None = tt
    by (Some found) = h found.1

quoted_free : (test : Piece → Bool) (p : Piece) (text : List ℕ) → test p ≡ false → IsFree test (quoted p text)
quoted_free test p [] h = tt
quoted_free test p (mark ∷ text) h =
    if_free test (not (is_closed mark text)) _ _ tt
    (if_free test (is_label p && nat_lt longest_label (quoted_length mark text)) _ _ tt
    (if_free test (nat_lt (prefix_len is_ascii (take (quoted_length mark text) text)) (quoted_length mark text)) _ _ tt h))

remark_free : (test : Piece → Bool) (text : List ℕ) → test piece.Remark ≡ false → IsFree test (remark text)
remark_free test text h =
    if_free test (begins is_quote text) _ _ (quoted_free test piece.Remark text h) (if_free test (prefix_len is_text_byte text == 0) _ _ tt h)

name_free : (text : List ℕ) → IsFree is_a_word (piece_after_name text)
name_free text = if_free is_a_word (begins (λ b. b == 40 || is_item_mark b) text) _ _ (symbol_free is_a_word text (λ s. refl)) (remark_free is_a_word text refl)

domain_free : (text : List ℕ) → IsFree is_a_word (piece_after_domain text)
domain_free text = if_free is_a_word (begins is_item_mark text) _ _ (symbol_free is_a_word text (λ s. refl)) (remark_free is_a_word text refl)

code_free : (text : List ℕ) → IsFree is_label (code_token kind.Text text)
code_free text =
    if_free is_label (begins is_ascii_alphabetic text) _ _ (if_free is_label (nat_lt longest_label (prefix_len is_name_byte text)) _ _ tt refl)
    (if_free is_label (begins_number text) _ _ refl
    (if_free is_label (begins is_quote text) _ _ (quoted_free is_label (piece.Token kind.Text) text refl) (symbol_free is_label text (λ s. refl))))

line_free : (test : Piece → Bool) (ends : LineEnds) (text : List ℕ) → test piece.LineEnd ≡ false → test (piece.Token kind.Break) ≡ false → IsFree test (line_end ends text)
line_free test Skipped text h k = h
line_free test EndItem text h k = if_free test (ends_or_begins (passes EndItem) (drop (space_length text) text)) _ _ h k
line_free test EndElement text h k = if_free test (ends_or_begins (passes EndElement) (drop (space_length text) text)) _ _ h k

plain_free : (test : Piece → Bool) (current : Mode) (text : List ℕ) → test piece.Gap ≡ false → test piece.LineEnd ≡ false → test (piece.Token kind.Break) ≡ false → IsFree test (token_read current text) → IsFree test (plain_piece current text)
plain_free test current text g l b h =
    if_free test (begins is_blank text) _ _ g (if_free test (is_line_end text) _ _ (line_free test (line_ends current) text l b) h)

can_occur : (current : Mode) (k : Kind) (text : List ℕ) (n : ℕ) → piece_at current text ≡ Ok (record { piece = piece.Token k; length = n }) → CanOccur current k
can_occur (mode.Item s) kind.Label text n e =
    let free : IsFree is_label (Ok (record { piece = piece.Token kind.Label; length = n })) = subst (IsFree is_label) e (plain_free is_label (mode.Item s) text refl refl refl (code_free text)) in
    absurd (let z : true ≡ false = free in cc)
can_occur (mode.Named s) kind.Word text n e =
    let free : IsFree is_a_word (Ok (record { piece = piece.Token kind.Word; length = n })) = subst (IsFree is_a_word) e (plain_free is_a_word (mode.Named s) text refl refl refl (name_free text)) in
    absurd (let z : true ≡ false = free in cc)
can_occur (mode.Bare s) kind.Word text n e =
    let free : IsFree is_a_word (Ok (record { piece = piece.Token kind.Word; length = n })) = subst (IsFree is_a_word) e (plain_free is_a_word (mode.Bare s) text refl refl refl (domain_free text)) in
    absurd (let z : true ≡ false = free in cc)
can_occur (mode.Item s) _ text n e = tt
can_occur (mode.Named s) _ text n e = tt
can_occur (mode.Bare s) _ text n e = tt
can_occur mode.Code k text n e = tt
can_occur _ k text n e = tt

-- ---- positions after tokens

-- tokens as the grammar sees them lead from a place to another
abbrev pub LeadTo : Spot → List (Terminal × Token) → Spot → Type 0
LeadTo s [] last = last ≡ s
LeadTo s (token ∷ tokens) last = (t : Spot) × (has same same_is (step s (sort_of token.0)) t ≡ true) × LeadTo t tokens last

-- Tokens lead from a place to one that stands for the last mode.
abbrev LeadOn : List ℕ → Mode → Spot → List Token → Type 0
LeadOn source last spot tokens = (t : Spot) × LeadTo spot (kinded_tokens source tokens) t × OccursFor t last

-- a word of the code is the same in the source
word_same : (source : List ℕ) (start : ℕ) (k : Kind) (n : ℕ) → start + n ≤ length source → IsNamed (piece.Token k) n (drop start (code_text source)) → k ≡ kind.Word → take n (drop start (code_text source)) ≡ take (start + n - start) (drop start source)
word_same source start kind.Word n le named e =
    solid_same source start n le named.0 ∙ ap (λ m. take m (drop start source)) (let d : n ≡ start + n - start = omega arith in d)
word_same source start kind.Label n le named e = cc
word_same source start kind.Number n le named e = cc
word_same source start kind.Text n le named e = cc
word_same source start (kind.Symbol s) n le named e = cc
word_same source start kind.Break n le named e = cc
word_same source start kind.TableLine n le named e = cc
word_same source start kind.End n le named e = cc

lead_piece : (source : List ℕ) (start : ℕ) (current last : Mode) (p : Piece) (n : ℕ) (spot : Spot) (others : List Token) → start + n ≤ length source → piece_at current (drop start (code_text source)) ≡ Ok (record { piece = p; length = n }) → IsNamed p n (drop start (code_text source)) → OccursFor spot current → ((s : Spot) → OccursFor s (mode_after current p (take n (drop start (code_text source)))) → LeadOn source last s others) → LeadOn source last spot (token_of (place_of_byte source start) p start (start + n) ++ others)
lead_piece source start current last piece.Gap n spot others le there named occurs on = on spot (occurs_gap spot current occurs)
lead_piece source start current last piece.LineEnd n spot others le there named occurs on = on spot (occurs_line spot current occurs)
lead_piece source start current last piece.Remark n spot others le there named occurs on = on spot (occurs_remark spot current occurs)
lead_piece source start current last (piece.Token k) n spot others le there named occurs on =
    let text : List ℕ = take n (drop start (code_text source)) in
    let bytes : List ℕ = take (start + n - start) (drop start source) in
    let following : Mode = after_token current k text in
    let later = on (spot_of following) (inl refl) in
    let leads = occurs_leads spot current following (sort_of (terminal_of k bytes)) occurs (token_leads current k text bytes (can_occur current k (drop start (code_text source)) n there) (word_same source start k n le named)) in
    (later.0, (spot_of following, leads, later.1), later.2)

-- the tokens of pieces lead to the place of the last mode
pub pieces_lead : (source : List ℕ) (start : ℕ) (current : Mode) (pieces : List Lexeme) (last : Mode) (spot : Spot) → start ≤ length source → IsMadeOf current (drop start (code_text source)) pieces last [] → OccursFor spot current → LeadOn source last spot (tokens_of source start pieces)
pieces_lead source start current [] last spot within made occurs = (spot, refl, subst (OccursFor spot) (sym made.0) occurs)
pieces_lead source start current (p ∷ pieces) last spot within made occurs =
    let text : List ℕ = drop start (code_text source) in
    let w = lexeme_within current text p made.0 in
    let le : start + p.length ≤ length source = omega (arith, w.1, length-drop start (code_text source), length-code_text source) in
    let named : IsNamed p.piece p.length text = subst (IsNamedRead text) made.0 (piece_named current text) in
    let following : Mode = mode_after current p.piece (take p.length text) in
    let others : IsMadeOf following (drop (start + p.length) (code_text source)) pieces last [] = subst (λ t. IsMadeOf following t pieces last []) (drop-drop p.length start (code_text source)) made.1 in
    lead_piece source start current last p.piece p.length spot (tokens_of source (start + p.length) pieces) le made.0 named occurs
    (λ s h. pieces_lead source (start + p.length) following pieces last s le others h)
