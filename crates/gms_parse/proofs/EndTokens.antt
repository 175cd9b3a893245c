-- The end of a source is its last token, and no other token is an end; nor is any token of a
-- program.
use Rattle.gms_grammar.proofs.Basics.{not_true}
use Rattle.std.proofs.Common.{◌≡◌, ℕ, ◌+◌, ◌==◌, ◌&&◌, ◌||◌, Bool, true, false, not, nat_lt, nat_le, if◌then◌else◌, List, [], ◌∷◌, ◌++◌, take, drop, Option, Some, None, Ok, Err, refl, sym, ap, ◌∙◌, subst}
use Rattle.std.proofs.lemmas.List.{map_push}
use Rattle.std.specs.List.{prefix_len}
use Rattle.std.specs.Char.{is_ascii_alphabetic, is_ascii_alphanumeric}
use Rattle.gms_labels.specs.declared.place.Place.{Place}
use Rattle.gms_grammar.specs.Lines.{begins, is_blank, is_line_end, content}
use Rattle.gms_grammar.specs.declared.kind.Kind.{Kind}
use Rattle.gms_grammar.specs.declared.kind.Kind.TheVariants as kind
use Rattle.gms_grammar.specs.declared.kind.Sym.{Sym}
use Rattle.gms_grammar.specs.declared.lexeme.Piece.{Piece}
use Rattle.gms_grammar.specs.declared.lexeme.Piece.TheVariants as piece
use Rattle.gms_grammar.specs.declared.lexeme.Lexeme.{Lexeme}
use Rattle.gms_grammar.specs.Bytes.{is_quote, is_ascii, is_name_byte, is_label_byte, is_text_byte}
use Rattle.gms_grammar.specs.Numbers.{begins_number}
use Rattle.gms_grammar.specs.Symbols.{longest_symbol}
use Rattle.gms_grammar.specs.Shapes.{Read, longest_label, symbol_read, symbol, quoted_length, is_closed, is_label, quoted, code_token, label_token, remark}
use Rattle.gms_grammar.specs.TableLines.{table_bytes}
use Rattle.gms_lex.specs.declared.keyword.Shape.{Shape}
use Rattle.gms_lex.specs.declared.keyword.Shape.TheVariants.{Set, Parameter, Scalar, Model}
use Rattle.gms_lex.specs.declared.mode.Stage.{Stage}
use Rattle.gms_lex.specs.declared.mode.Stage.TheVariants.{Fresh, Expected, After, Spaced}
use Rattle.gms_lex.specs.declared.mode.Mode.{Mode}
use Rattle.gms_lex.specs.declared.mode.Mode.TheVariants.{Code, Named, Bare, Element, Value, Tail, TableNamed, TableBare, TableLines}
use Rattle.gms_lex.specs.declared.mode.LineEnds.{LineEnds}
use Rattle.gms_lex.specs.declared.mode.LineEnds.TheVariants.{Skipped, EndItem, EndElement}
use Rattle.gms_lex.specs.declared.token.Token.{Token}
use Rattle.gms_lex.specs.Keywords.{begins_statement}
use Rattle.gms_lex.specs.Modes.{mode_after}
use Rattle.gms_lex.specs.Places.{place_of_byte}
use Rattle.gms_lex.specs.Pieces.{passes, ends_or_begins, space_length, line_ends, line_end, is_item_mark, is_element_mark, piece_after_name, piece_after_domain, begins_value_dot, element_tail, piece_after_label, in_list, token_read, table_piece, plain_piece, piece_at}
use Rattle.gms_lex.specs.TokenTexts.{token_text}
use Rattle.gms_lex.specs.Tokens.{IsMadeOf, tokens_of, end_token, IsTokens, token_at as token_of_piece}
use Rattle.gms_grammar.specs.declared.terminal.Terminal.{Terminal}
use Rattle.gms_grammar.specs.declared.terminal.Terminal.TheVariants.{End}
use Rattle.gms_grammar.specs.Grammar.{the, yield, IsTree, Begins}
use Rattle.gms_grammar.specs.Terminals.{is}
use Rattle.gms_grammar.specs.GamsGrammar.{Nonterminal, Expression, Program, productions}
use Rattle.gms_expressions.specs.Words.{terminal_of}
use Rattle.gms_expressions.specs.Outcomes.{kinded_tokens}
use Rattle.gms_parse.specs.ReadStates.{KindedToken}
use Rattle.gms_parse.specs.InnerReadings.{Derivation, kind_of}
use Rattle.gms_parse.proofs.Alphabet.{AllPass, pass_prefix, only, all_pass}
use Rattle.gms_parse.proofs.Spelled.{lone_as}
use Rattle.gms_parse.proofs.TokenKinds.{same_kind}

-- ---- pieces

abbrev is_end_piece : Piece → Bool
is_end_piece (piece.Token kind.End) = true
is_end_piece other = false

-- what is read is no end
abbrev Goes : Read → Type 0
Goes (Ok p) = is_end_piece p.piece ≡ false
Goes (Err m) = Unit {0}

either_goes : (b : Bool) (x y : Read) → Goes x → Goes y → Goes (if b then x else y)
either_goes true x y h k = h
either_goes false x y h k = k

quoted_goes : (p : Piece) (text : List ℕ) → is_end_piece p ≡ false → Goes (quoted p text)
quoted_goes p [] h = tt
quoted_goes p (mark ∷ text) h =
    let inner = quoted_length mark text in
    let plain = prefix_len is_ascii (take inner text) in
    either_goes (not (is_closed mark text)) _ _ tt (either_goes (is_label p && nat_lt longest_label inner) _ _ tt (either_goes (nat_lt plain inner) _ _ tt h))

symbol_of_goes : (found : Option (ℕ × Sym)) → Goes (symbol_read found)
symbol_of_goes None = tt
symbol_of_goes (Some s) = refl

symbol_goes : (text : List ℕ) → Goes (symbol text)
symbol_goes text = symbol_of_goes (longest_symbol text)

code_goes : (k : Kind) (text : List ℕ) → is_end_piece (piece.Token k) ≡ false → Goes (code_token k text)
code_goes k text h =
    either_goes (begins is_ascii_alphabetic text) _ _ (either_goes (nat_lt longest_label (prefix_len is_name_byte text)) _ _ tt refl)
    (either_goes (begins_number text) _ _ refl (either_goes (begins is_quote text) _ _ (quoted_goes (piece.Token k) text h) (symbol_goes text)))

label_goes : (text : List ℕ) → Goes (label_token text)
label_goes text =
    either_goes (begins is_ascii_alphanumeric text) _ _ (either_goes (nat_lt longest_label (prefix_len is_label_byte text)) _ _ tt refl)
    (either_goes (begins is_quote text) _ _ (quoted_goes (piece.Token kind.Label) text refl) (symbol_goes text))

remark_goes : (text : List ℕ) → Goes (remark text)
remark_goes text = either_goes (begins is_quote text) _ _ (quoted_goes piece.Remark text refl) (either_goes (prefix_len is_text_byte text == 0) _ _ tt refl)

line_end_goes : (ends : LineEnds) (text : List ℕ) → Goes (line_end ends text)
line_end_goes Skipped text = refl
line_end_goes EndItem text = either_goes (ends_or_begins (passes EndItem) (drop (space_length text) text)) _ _ refl refl
line_end_goes EndElement text = either_goes (ends_or_begins (passes EndElement) (drop (space_length text) text)) _ _ refl refl

element_tail_goes : (s : Shape) (text : List ℕ) → Goes (element_tail s text)
element_tail_goes Parameter text = code_goes kind.Label text refl
element_tail_goes Set text = remark_goes text
element_tail_goes Scalar text = remark_goes text
element_tail_goes Model text = remark_goes text

after_label_goes : (s : Shape) (d : ℕ) (stage : Stage) (text : List ℕ) → Goes (piece_after_label s d stage text)
after_label_goes s d stage text =
    either_goes (begins is_element_mark text && not (begins_value_dot s d stage text)) _ _ (symbol_goes text) (either_goes (d == 0) _ _ (element_tail_goes s text) (label_goes text))

in_list_goes : (s : Shape) (d : ℕ) (stage : Stage) (text : List ℕ) → Goes (in_list s d stage text)
in_list_goes s d Fresh text = label_goes text
in_list_goes s d Expected text = label_goes text
in_list_goes s d After text = after_label_goes s d After text
in_list_goes s d Spaced text = after_label_goes s d Spaced text

after_name_goes : (text : List ℕ) → Goes (piece_after_name text)
after_name_goes text = either_goes (begins (λ b. b == 40 || is_item_mark b) text) _ _ (symbol_goes text) (remark_goes text)

after_domain_goes : (text : List ℕ) → Goes (piece_after_domain text)
after_domain_goes text = either_goes (begins is_item_mark text) _ _ (symbol_goes text) (remark_goes text)

token_goes : (current : Mode) (text : List ℕ) → Goes (token_read current text)
token_goes (Named s) text = after_name_goes text
token_goes TableNamed text = after_name_goes text
token_goes (Bare s) text = after_domain_goes text
token_goes TableBare text = after_domain_goes text
token_goes (Element s d stage) text = in_list_goes s d stage text
token_goes (Value s) text = code_goes kind.Label text refl
token_goes (Tail s) text = code_goes kind.Label text refl
token_goes current text = code_goes kind.Text text refl

plain_goes : (current : Mode) (text : List ℕ) → Goes (plain_piece current text)
plain_goes current text = either_goes (begins is_blank text) _ _ refl (either_goes (is_line_end text) _ _ (line_end_goes (line_ends current) text) (token_goes current text))

table_goes : (text : List ℕ) → Goes (table_piece text)
table_goes text =
    let blanks = prefix_len is_blank text in
    let bytes = table_bytes (content text) in
    either_goes (is_line_end text) _ _ refl
    (either_goes (nat_lt 0 blanks && (nat_le bytes blanks || begins_statement (drop blanks text))) _ _ refl
    (either_goes (bytes == 0 || begins_statement text) _ _ (code_goes kind.Text text refl) (either_goes (nat_lt (prefix_len is_ascii (take bytes text)) bytes) _ _ tt refl)))

-- no piece of a text is an end
piece_goes : (current : Mode) (text : List ℕ) → Goes (piece_at current text)
piece_goes TableLines text = table_goes text
piece_goes current text = plain_goes current text

-- ---- tokens

-- the kind is another than the end
abbrev pub is_other : Terminal → Bool
is_other kind = not (is End kind)

kind_other : (k : Kind) (text : List ℕ) → is_end_piece (piece.Token k) ≡ false → is_other (terminal_of k text) ≡ true
kind_other k text h = ap not (not_true (is End (terminal_of k text)) (λ e.
    let end : k ≡ kind.End = lone_as End refl k text (sym (same_kind End (terminal_of k text) e)) in
    let not_end : is_end_piece (piece.Token kind.End) ≡ false = sym (ap (λ (x : Kind). is_end_piece (piece.Token x)) end) ∙ h in
    cc))

prefix_other : (source : List ℕ) (at : Place) (p : Piece) (from to : ℕ) (others : List Token) → is_end_piece p ≡ false → AllPass is_other (kinded_tokens source others) → AllPass is_other (kinded_tokens source (token_of_piece at p from to ++ others))
prefix_other source at (piece.Token k) from to others h rest = (kind_other k (token_text source (record { kind = k; start = from; end = to; at = at })) h, rest)
prefix_other source at piece.Gap from to others h rest = rest
prefix_other source at piece.LineEnd from to others h rest = rest
prefix_other source at piece.Remark from to others h rest = rest

tokens_other : (source : List ℕ) (from : ℕ) (current : Mode) (text : List ℕ) (pieces : List Lexeme) (last : Mode) → IsMadeOf current text pieces last [] → AllPass is_other (kinded_tokens source (tokens_of source from pieces))
tokens_other source from current text [] last made = tt
tokens_other source from current text (p ∷ pieces) last made =
    prefix_other source (place_of_byte source from) p.piece from (from + p.length) (tokens_of source (from + p.length) pieces) (subst (λ (x : Read). Goes x) made.0 (piece_goes current text))
    (tokens_other source (from + p.length) (mode_after current p.piece (take p.length text)) (drop p.length text) pieces last made.1)

-- the last of the tokens is the end, and no other is
pub record HasEnd (ts : List KindedToken) : Type 0 where
  pub before : List KindedToken
  pub end : Token
  pub parts : ts ≡ before ++ (End, end) ∷ []
  pub others : AllPass is_other before

pub has_end : (source : List ℕ) (tokens : List Token) → IsTokens source tokens → HasEnd (kinded_tokens source tokens)
has_end source tokens h = record {
  before = kinded_tokens source (tokens_of source 0 h.has.pieces);
  end = end_token source;
  parts = ap (kinded_tokens source) h.has.tokens_are ∙ map_push (λ (token : Token). (terminal_of token.kind (token_text source token), token)) (tokens_of source 0 h.has.pieces) (end_token source);
  others = tokens_other source 0 Code _ h.has.pieces h.has.last h.has.made;
}

-- ---- trees

each_known : (n : Nonterminal) → only (λ m. true) is_other (productions n) ≡ true
each_known Expression = refl
each_known _ = refl

-- no token of a program is an end
tree_other : (tree : Derivation) → IsTree productions (the Program) tree → AllPass is_other (yield tree)
tree_other tree k = all_pass (λ n. true) is_other each_known (the Program) tree k refl

pub begins_other : (prefix : List KindedToken) → Begins productions (the Program) prefix → AllPass is_other prefix
begins_other prefix b = pass_prefix is_other prefix b.further (subst (λ (u : List KindedToken). AllPass is_other u) b.derives.yields (tree_other b.derives.tree b.derives.is_tree))

ends_at_once : (u v rest : List KindedToken) (end : Token) → u ++ (End, end) ∷ [] ≡ v ++ rest → AllPass is_other u → AllPass is_other v → kind_of rest ≡ End → rest ≡ (End, end) ∷ []
ends_at_once [] [] rest end e h k is_end = sym e
ends_at_once [] (y ∷ v) rest end e h k is_end =
    let same : y ≡ (End, end) = cc in
    let no : is_other End ≡ true = sym (ap (λ (x : KindedToken). is_other x.0) same) ∙ k.0 in
    cc
ends_at_once (x ∷ u) [] rest end e h k is_end =
    let same : x.0 ≡ End = ap kind_of e ∙ is_end in
    let no : is_other End ≡ true = sym (ap is_other same) ∙ h.0 in
    cc
ends_at_once (x ∷ u) (y ∷ v) rest end e h k is_end =
    let tails : u ++ (End, end) ∷ [] ≡ v ++ rest = cc in
    ends_at_once u v rest end tails h.1 k.1 is_end

-- after the tokens of a program, there is only the end
pub end_alone : {ts : List KindedToken} → (h : HasEnd ts) (tree : Derivation) (rest : List KindedToken) → IsTree productions (the Program) tree → ts ≡ yield tree ++ rest → kind_of rest ≡ End → rest ≡ (End, h.end) ∷ []
end_alone h tree rest k e is_end = ends_at_once h.before (yield tree) rest h.end (sym h.parts ∙ e) h.others (tree_other tree k) is_end
