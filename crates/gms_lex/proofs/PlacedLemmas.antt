-- Each token of a source takes bytes of it, has the place of the first, and is spelled as its kind.
use Rattle.std.proofs.Common.{◌≡◌, inl, ℕ, zero, suc, ◌+◌, ◌-◌, ◌≤◌, List, [], ◌∷◌, length, take, drop, All, refl, sym, ap, ◌∙◌, subst, arith}
use Rattle.std.proofs.lemmas.List.{length-drop, drop-drop}
use Rattle.std.proofs.lemmas.List.Elements.{All-append}
use Rattle.std.specs.Str.{IsAscii}
use Rattle.gms_grammar.specs.declared.fault.ByteFault.{ByteFault}
use Rattle.gms_grammar.specs.Lines.{code_text}
use Rattle.gms_grammar.specs.LineFaults.{IsLineFault}
use Rattle.gms_grammar.specs.declared.kind.Kind.{Kind}
use Rattle.gms_grammar.specs.declared.kind.Kind.TheVariants.{Word, Label, Number, Text, Symbol, Break, TableLine, End}
use Rattle.gms_grammar.specs.declared.lexeme.Piece.{Piece}
use Rattle.gms_grammar.specs.declared.lexeme.Piece.TheVariants.{Gap, LineEnd, Remark, Token}
use Rattle.gms_grammar.specs.declared.lexeme.Lexeme.{Lexeme}
use Rattle.gms_lex.specs.declared.mode.Mode.{Mode}
use Rattle.gms_lex.specs.declared.mode.Mode.TheVariants.{Code}
use Rattle.gms_lex.specs.declared.token.Token.{Token as CodeToken}
use Rattle.gms_lex.specs.Modes.{mode_after}
use Rattle.gms_lex.specs.Places.{place_of_byte}
use Rattle.gms_lex.specs.Tokens.{IsMadeOf, token_at, tokens_of, end_token, IsTokens}
use Rattle.gms_lex.specs.TokenTexts.{IsSpelled, IsPlaced}
use Rattle.gms_lex.proofs.ReadingLemmas.{lexeme_within}
use Rattle.gms_lex.proofs.LineTextLemmas.{IsSolid, solid_same, length-take_most, length-code_text}
use Rattle.gms_lex.proofs.TableLemmas.{table_same}
use Rattle.gms_lex.proofs.SolidLemmas.{IsNamed, IsNamedRead, piece_named}

-- one token alone
All-one : (P : CodeToken → Type 0) (t : CodeToken) → P t → All P (t ∷ [])
All-one P t h zero d lt = h
All-one P t h (suc k) d lt = absurd (omega arith)

All-none : (P : CodeToken → Type 0) → All P []
All-none P k d lt = absurd (omega arith)

spelled_same : (source : List ℕ) (start bytes : ℕ) → start + bytes ≤ length source → IsSolid (take bytes (drop start (code_text source))) → take bytes (drop start (code_text source)) ≡ take (start + bytes - start) (drop start source)
spelled_same source start bytes le solid = solid_same source start bytes le solid ∙ ap (λ n. take n (drop start source)) (let e : bytes ≡ start + bytes - start = omega arith in e)

-- no line of the source has a fault
abbrev IsSound : List ℕ → Type 0
IsSound source = (fault : ByteFault) → IsLineFault source fault → ⊥

-- a named token is spelled so in the source
spelled : (source : List ℕ) (start bytes : ℕ) (kind : Kind) → IsSound source → start + bytes ≤ length source → IsNamed (Token kind) bytes (drop start (code_text source)) → IsSpelled kind (take (start + bytes - start) (drop start source))
spelled source start bytes Word sound le named = subst (IsSpelled Word) (spelled_same source start bytes le named.0) named.1
spelled source start bytes Label sound le named = subst (IsSpelled Label) (spelled_same source start bytes le named.0) named.1
spelled source start bytes Text sound le named = subst (IsSpelled Text) (spelled_same source start bytes le named.0) named.1
spelled source start bytes Number sound le named = tt
spelled source start bytes (Symbol symbol) sound le named = tt
spelled source start bytes Break sound le named = tt
spelled source start bytes TableLine sound le named =
    let same = table_same source start bytes sound named in
    let e : bytes ≡ start + bytes - start = omega arith in
    subst (λ n. IsSpelled TableLine (take n (drop start source))) e (subst IsAscii same.0 named.ascii, omega (arith, length-take_most bytes (drop start source), same.1))
spelled source start bytes End sound le named = tt

-- a piece of `bytes` bytes gives a token that is placed
token_placed : (source : List ℕ) (start bytes : ℕ) (piece : Piece) → IsSound source → start + bytes ≤ length source → IsNamed piece bytes (drop start (code_text source)) → All (IsPlaced source) (token_at (place_of_byte source start) piece start (start + bytes))
token_placed source start bytes Gap sound le named = All-none (IsPlaced source)
token_placed source start bytes LineEnd sound le named = All-none (IsPlaced source)
token_placed source start bytes Remark sound le named = All-none (IsPlaced source)
token_placed source start bytes (Token kind) sound le named = All-one (IsPlaced source) _ (record { starts = omega arith; ends = le; at = refl; spelled = spelled source start bytes kind sound le named })

-- the tokens among pieces are placed
pieces_placed : (source : List ℕ) (start : ℕ) (current : Mode) (pieces : List Lexeme) (last : Mode) → IsSound source → start ≤ length source → IsMadeOf current (drop start (code_text source)) pieces last [] → All (IsPlaced source) (tokens_of source start pieces)
pieces_placed source start current [] last sound within made = All-none (IsPlaced source)
pieces_placed source start current (p ∷ pieces) last sound within made =
    let text = drop start (code_text source) in
    let w = lexeme_within current text p made.0 in
    let le : start + p.length ≤ length source = omega (arith, w.1, length-drop start (code_text source), length-code_text source) in
    let named : IsNamed p.piece p.length text = subst (IsNamedRead text) made.0 (piece_named current text) in
    let others : IsMadeOf (mode_after current p.piece (take p.length text)) (drop (start + p.length) (code_text source)) pieces last [] = subst (λ t. IsMadeOf (mode_after current p.piece (take p.length text)) t pieces last []) (drop-drop p.length start (code_text source)) made.1 in
    All-append (IsPlaced source) (token_at (place_of_byte source start) p.piece start (start + p.length)) (tokens_of source (start + p.length) pieces) (token_placed source start p.length p.piece sound le named) (pieces_placed source (start + p.length) _ pieces last sound le others)

-- each token of a source is placed
pub tokens_placed : (source : List ℕ) (tokens : List CodeToken) → IsTokens source tokens → All (IsPlaced source) tokens
tokens_placed source tokens h =
    let end : IsPlaced source (end_token source) = record { starts = omega arith; ends = omega arith; at = refl; spelled = tt } in
    subst (All (IsPlaced source)) (sym h.has.tokens_are) (All-append (IsPlaced source) (tokens_of source 0 h.has.pieces) (end_token source ∷ []) (pieces_placed source 0 Code h.has.pieces h.has.last (λ fault line. h.sound fault (inl line)) (omega arith) h.has.made) (All-one (IsPlaced source) (end_token source) end))
