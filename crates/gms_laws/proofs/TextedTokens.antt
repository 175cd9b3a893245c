-- Tokens beside their texts: what tokens leave, and that they have no fault, computed without
-- looking into the source.
use Rattle.std.proofs.lemmas.Bool.{and_from, and_parts}
use Rattle.std.proofs.Common.{◌≡◌, ℕ, ◌+◌, ◌-◌, ◌&&◌, ◌||◌, Bool, true, not, nat_lt, List, [], ◌∷◌, ◌++◌, length, map, take, drop, Option, Some, None, refl, sym, ap, ap₂, ◌∙◌, subst, arith}
use Rattle.std.specs.Prelude.{if◌then◌else◌}
use Rattle.std.proofs.lemmas.List.{drop-drop}
use Rattle.gms_labels.specs.Labels.{entered, most_labels}
use Rattle.gms_grammar.specs.declared.lexeme.Lexeme.{Lexeme}
use Rattle.gms_grammar.specs.declared.lexeme.Piece.{Piece}
use Rattle.gms_grammar.specs.declared.lexeme.Piece.TheVariants as piece
use Rattle.gms_lex.specs.declared.token.Token.{Token}
use Rattle.gms_lex.specs.Places.{place_of_byte}
use Rattle.gms_lex.specs.TokenTexts.{token_text, unquoted}
use Rattle.gms_lex.specs.Tokens.{tokens_of, token_at}
use Rattle.gms_table.specs.WordLabels.{all_entered}
use Rattle.gms_grammar.specs.declared.terminal.Terminal.{Terminal}
use Rattle.gms_grammar.specs.declared.terminal.Terminal.TheVariants as terminal
use Rattle.gms_grammar.specs.Rules.{kind_ahead}
use Rattle.gms_grammar.specs.Terminals.{is}
use Rattle.gms_expressions.specs.Outcomes.{kinded_tokens, open_after}
use Rattle.gms_expressions.specs.Words.{terminal_of}
use Rattle.gms_parse.specs.Tables.{labels_of_lines}
use Rattle.gms_parse.specs.ReadStates.{KindedToken, ReaderState, is_keyword, is_name, is_index, range_start, list_labels, range_texts, lines_with, new_labels, reader_after, reader_after_all}
use Rattle.gms_laws.proofs.ShortNumerals.{is_short, right}
use Rattle.gms_laws.proofs.SoundTokens.{is_no, all_sound}

-- ---- tokens with their texts

-- a token beside its text
abbrev pub Texted : Type 0
Texted = Token × List ℕ

abbrev before_texted : List ℕ → Piece → ℕ → ℕ → List ℕ → List Texted → List Texted
before_texted source (piece.Token kind) start end text others = (record { kind = kind; start = start; end = end; at = place_of_byte source start }, text) ∷ others
before_texted source piece.Gap start end text others = others
before_texted source piece.LineEnd start end text others = others
before_texted source piece.Remark start end text others = others

-- the tokens among the pieces of a text that begins at this byte of the source
abbrev pub texted : List ℕ → ℕ → List ℕ → List Lexeme → List Texted
texted source start text [] = []
texted source start text (p ∷ pieces) =
    before_texted source p.piece start (start + p.length) (take p.length text) (texted source (start + p.length) (drop p.length text) pieces)

-- each text is that of its token
abbrev pub AreTexts : List ℕ → List Texted → Type 0
AreTexts source [] = Unit {0}
AreTexts source (t ∷ ts) = (token_text source t.0 ≡ t.1) × AreTexts source ts

tokens_before : (source : List ℕ) (p : Piece) (start end : ℕ) (text : List ℕ) (others : List Texted) (tokens : List Token) → map (λ (t : Texted). t.0) others ≡ tokens → map (λ (t : Texted). t.0) (before_texted source p start end text others) ≡ token_at (place_of_byte source start) p start end ++ tokens
tokens_before source (piece.Token kind) start end text others tokens e = ap (λ (ts : List Token). record { kind = kind; start = start; end = end; at = place_of_byte source start } ∷ ts) e
tokens_before source piece.Gap start end text others tokens e = e
tokens_before source piece.LineEnd start end text others tokens e = e
tokens_before source piece.Remark start end text others tokens e = e

pub tokens_texted : (source : List ℕ) (start : ℕ) (text : List ℕ) (pieces : List Lexeme) → map (λ (t : Texted). t.0) (texted source start text pieces) ≡ tokens_of source start pieces
tokens_texted source start text [] = refl
tokens_texted source start text (p ∷ pieces) =
    tokens_before source p.piece start (start + p.length) (take p.length text) (texted source (start + p.length) (drop p.length text) pieces) (tokens_of source (start + p.length) pieces)
    (tokens_texted source (start + p.length) (drop p.length text) pieces)

texts_before : (source : List ℕ) (p : Piece) (start length : ℕ) (text : List ℕ) (others : List Texted) → text ≡ drop start source → AreTexts source others → AreTexts source (before_texted source p start (start + length) (take length text) others)
texts_before source (piece.Token kind) start length text others e h =
    (ap₂ (λ (n : ℕ) (t : List ℕ). take n t) (let same : start + length - start ≡ length = omega arith in same) (sym e), h)
texts_before source piece.Gap start length text others e h = h
texts_before source piece.LineEnd start length text others e h = h
texts_before source piece.Remark start length text others e h = h

pub texts_right : (source : List ℕ) (start : ℕ) (text : List ℕ) (pieces : List Lexeme) → text ≡ drop start source → AreTexts source (texted source start text pieces)
texts_right source start text [] e = tt
texts_right source start text (p ∷ pieces) e =
    texts_before source p.piece start p.length text (texted source (start + p.length) (drop p.length text) pieces) e
    (texts_right source (start + p.length) (drop p.length text) pieces (ap (drop p.length) e ∙ drop-drop p.length start source))

-- ---- as the grammar sees them

abbrev pub seen_one : Texted → KindedToken
seen_one t = (terminal_of t.0.kind t.1, t.0)

pub seen_texted : (source : List ℕ) (ts : List Texted) → AreTexts source ts → kinded_tokens source (map (λ (t : Texted). t.0) ts) ≡ map seen_one ts
seen_texted source [] h = refl
seen_texted source (t ∷ ts) h =
    ap₂ (λ (x : List ℕ) (us : List KindedToken). (terminal_of t.0.kind x, t.0) ∷ us) h.0 (seen_texted source ts h.1)

-- ---- what a token leaves, by its text

abbrev listed_by : List ℕ → Option Token → Terminal → List ℕ → List (List ℕ)
listed_by source (Some first) ahead text = range_texts source (unquoted (token_text source first)) (unquoted text)
listed_by source None ahead text = if is terminal.Star ahead then [] else unquoted text ∷ []

listed_is : (source : List ℕ) (first : Option Token) (ahead : Terminal) (token : Token) → listed_by source first ahead (token_text source token) ≡ list_labels source first ahead token
listed_is source (Some first) ahead token = refl
listed_is source None ahead token = refl

abbrev labels_by : List ℕ → List ℕ → ReaderState → KindedToken → Terminal → List (List ℕ)
labels_by source text read_state token ahead =
    if is_index read_state token.0 then unquoted text ∷ [] else (if is terminal.Label token.0 then listed_by source (range_start read_state.before) ahead text else (if is terminal.TableLine token.0 && not (is terminal.TableLine ahead) then labels_of_lines source (lines_with source read_state.before token) else []))

labels_is : (source : List ℕ) (read_state : ReaderState) (token : KindedToken) (ahead : Terminal) → labels_by source (token_text source token.1) read_state token ahead ≡ new_labels source read_state token ahead
labels_is source read_state token ahead =
    ap (λ (ls : List (List ℕ)). if is_index read_state token.0 then unquoted (token_text source token.1) ∷ [] else (if is terminal.Label token.0 then ls else (if is terminal.TableLine token.0 && not (is terminal.TableLine ahead) then labels_of_lines source (lines_with source read_state.before token) else [])))
    (listed_is source (range_start read_state.before) ahead token.1)

abbrev read_state_with : List ℕ → List (List ℕ) → ReaderState → KindedToken → ReaderState
read_state_with text labels read_state token =
    let begins = is_keyword token.0 || is terminal.Semicolon token.0 in
    record {
      open_count = open_after read_state.open_count token.0;
      names = if is_name read_state token.0 then entered read_state.names text else read_state.names;
      labels = all_entered read_state.labels labels;
      before = token ∷ read_state.before;
      keyword = if begins then token.0 else read_state.keyword;
      level = if begins then read_state.open_count else read_state.level;
    }

abbrev pub traversal_by : List ℕ → List ℕ → ReaderState → KindedToken → Terminal → ReaderState
traversal_by source text read_state token ahead = read_state_with text (labels_by source text read_state token ahead) read_state token

read_state_is : (source text : List ℕ) (read_state : ReaderState) (token : KindedToken) (ahead : Terminal) → token_text source token.1 ≡ text → traversal_by source text read_state token ahead ≡ reader_after source read_state token ahead
read_state_is source text read_state token ahead e =
    ap (λ (x : List ℕ). traversal_by source x read_state token ahead) (sym e)
    ∙ ap (λ (ls : List (List ℕ)). read_state_with (token_text source token.1) ls read_state token) (labels_is source read_state token ahead)

-- the kind of the first of the tokens, or else this one
abbrev ahead_by : List Texted → Terminal → Terminal
ahead_by [] ahead = ahead
ahead_by (t ∷ ts) ahead = terminal_of t.0.kind t.1

ahead_is : (ts : List Texted) (ahead : Terminal) → ahead_by ts ahead ≡ kind_ahead (map seen_one ts) ahead
ahead_is [] ahead = refl
ahead_is (t ∷ ts) ahead = refl

-- what tokens leave
abbrev pub left_by_texts : List ℕ → ReaderState → List Texted → Terminal → ReaderState
left_by_texts source read_state [] ahead = read_state
left_by_texts source read_state (t ∷ ts) ahead =
    left_by_texts source (traversal_by source t.1 read_state (seen_one t) (ahead_by ts ahead)) ts ahead

pub left_is : (source : List ℕ) (read_state : ReaderState) (ts : List Texted) (ahead : Terminal) → AreTexts source ts → left_by_texts source read_state ts ahead ≡ reader_after_all source read_state (map seen_one ts) ahead
left_is source read_state [] ahead h = refl
left_is source read_state (t ∷ ts) ahead h =
    let next = kind_ahead (map seen_one ts) ahead in
    ap (λ (k : Terminal). left_by_texts source (traversal_by source t.1 read_state (seen_one t) k) ts ahead) (ahead_is ts ahead)
    ∙ left_is source (traversal_by source t.1 read_state (seen_one t) next) ts ahead h.1
    ∙ ap (λ (w : ReaderState). reader_after_all source w (map seen_one ts) ahead) (read_state_is source t.1 read_state (seen_one t) next h.0)

-- ---- that no token has a fault

abbrev sound_with : List ℕ → List (List ℕ) → ReaderState → KindedToken → Bool
sound_with text labels read_state token =
    (is_no terminal.LeftParen token || nat_lt read_state.open_count 100)
    && ((is_no terminal.Number token || is_short text)
    && (nat_lt (length read_state.names) most_labels
    && (nat_lt (length read_state.labels + length labels) most_labels
    && (is_no terminal.TableLine token && (is_no terminal.RightParen token || not (is terminal.Table read_state.keyword))))))

abbrev pub sound_by : List ℕ → ReaderState → List Texted → Terminal → Bool
sound_by source read_state [] ahead = true
sound_by source read_state (t ∷ ts) ahead =
    let next = ahead_by ts ahead in
    sound_with t.1 (labels_by source t.1 read_state (seen_one t) next) read_state (seen_one t) && sound_by source (traversal_by source t.1 read_state (seen_one t) next) ts ahead

pub sound_is : (source : List ℕ) (read_state : ReaderState) (ts : List Texted) (ahead : Terminal) → AreTexts source ts → sound_by source read_state ts ahead ≡ true → all_sound source read_state (map seen_one ts) ahead ≡ true
sound_is source read_state [] ahead h s = refl
sound_is source read_state (t ∷ ts) ahead h s =
    let next = kind_ahead (map seen_one ts) ahead in
    let token = seen_one t in
    let test = sound_with t.1 (labels_by source t.1 read_state token next) read_state token in
    let both = subst (λ (k : Terminal). (sound_with t.1 (labels_by source t.1 read_state token k) read_state token && sound_by source (traversal_by source t.1 read_state token k) ts ahead) ≡ true) (ahead_is ts ahead) s in
    let here : test ≡ true = (and_parts test _ both).0 in
    let others = right test _ both in
    let plain : sound_with (token_text source t.0) (labels_by source (token_text source t.0) read_state token next) read_state token ≡ true =
    subst (λ (x : List ℕ). sound_with x (labels_by source x read_state token next) read_state token ≡ true) (sym h.0) here in
    let sound = subst (λ (ls : List (List ℕ)). sound_with (token_text source t.0) ls read_state token ≡ true) (labels_is source read_state token next) plain in
    let rest : all_sound source (traversal_by source t.1 read_state token next) (map seen_one ts) ahead ≡ true = sound_is source (traversal_by source t.1 read_state token next) ts ahead h.1 others in
    and_from _ _ sound (subst (λ (w : ReaderState). all_sound source w (map seen_one ts) ahead ≡ true) (read_state_is source t.1 read_state token next h.0) rest)
