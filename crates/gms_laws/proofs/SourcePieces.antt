-- The tokens of a source, computed piece by piece.
use Rattle.std.proofs.Common.{◌≡◌, ℕ, zero, suc, Bool, true, false, List, [], ◌∷◌, ◌++◌, take, drop, Option, Some, None, Ok, Err, refl, ap, subst}
use Rattle.std.specs.Prelude.{is_none}
use Rattle.gms_grammar.specs.declared.fault.ByteFault.{ByteFault}
use Rattle.gms_grammar.specs.Lines.{lines, code_text}
use Rattle.gms_grammar.specs.InnerLineSearch.{first_in_lines}
use Rattle.gms_grammar.proofs.FirstLemmas.{source-first}
use Rattle.gms_grammar.specs.declared.lexeme.Lexeme.{Lexeme}
use Rattle.gms_grammar.specs.Shapes.{Read}
use Rattle.gms_lex.specs.declared.mode.Mode.{Mode}
use Rattle.gms_lex.specs.declared.mode.Mode.TheVariants.{Code}
use Rattle.gms_lex.specs.declared.token.Token.{Token}
use Rattle.gms_lex.specs.Modes.{mode_after}
use Rattle.gms_lex.specs.Pieces.{piece_at}
use Rattle.gms_lex.specs.InnerReadings.{earlier}
use Rattle.gms_lex.specs.Tokens.{IsMadeOf, IsTokens, tokens_of, end_token}
use Rattle.gms_lex.proofs.AnswerLemmas.{answers_tokens}

-- one piece before others
abbrev pub before_others : Lexeme → Option (List Lexeme) → Option (List Lexeme)
before_others piece None = None
before_others piece (Some others) = Some (piece ∷ others)

-- the pieces of what begins with what was read, by those of the rest
abbrev pub read_on : (Mode → List ℕ → Option (List Lexeme)) → Mode → List ℕ → Read → Option (List Lexeme)
read_on next current text (Ok p) = before_others p (next (mode_after current p.piece (take p.length text)) (drop p.length text))
read_on next current text (Err m) = None

-- the pieces of a text to its end, as far as the fuel lasts
abbrev pub pieces_in : ℕ → Mode → List ℕ → Option (List Lexeme)
pieces_in fuel current [] = Some []
pieces_in zero current (b ∷ text) = None
pieces_in (suc fuel) current (b ∷ text) = read_on (pieces_in fuel) current (b ∷ text) (piece_at current (b ∷ text))

-- Pieces make a text, to its end.
abbrev pub Make : Mode → List ℕ → List Lexeme → Type 0
Make current text pieces = (last : Mode) × IsMadeOf current text pieces last []

made_on : (current : Mode) (text : List ℕ) (p : Lexeme) → piece_at current text ≡ Ok p → (rest : Option (List Lexeme)) → ((others : List Lexeme) → rest ≡ Some others → Make (mode_after current p.piece (take p.length text)) (drop p.length text) others) → (pieces : List Lexeme) → before_others p rest ≡ Some pieces → Make current text pieces
made_on current text p e None made pieces h = absurd (cc)
made_on current text p e (Some others) made pieces h =
    let m = made others refl in
    let same : p ∷ others ≡ pieces = cc in
    subst (Make current text) same (m.0, (e, m.1))

made_read : (next : Mode → List ℕ → Option (List Lexeme)) → ((m : Mode) (t : List ℕ) (ps : List Lexeme) → next m t ≡ Some ps → Make m t ps) → (current : Mode) (text : List ℕ) (r : Read) → piece_at current text ≡ r → (pieces : List Lexeme) → read_on next current text r ≡ Some pieces → Make current text pieces
made_read next made current text (Ok p) e pieces h =
    made_on current text p e (next (mode_after current p.piece (take p.length text)) (drop p.length text)) (made (mode_after current p.piece (take p.length text)) (drop p.length text)) pieces h
made_read next made current text (Err m) e pieces h = absurd (cc)

pub made : (fuel : ℕ) (current : Mode) (text : List ℕ) (pieces : List Lexeme) → pieces_in fuel current text ≡ Some pieces → Make current text pieces
made zero current [] pieces h = let same : [] ≡ pieces = cc in subst (Make current []) same (current, (refl, refl))
made (suc fuel) current [] pieces h = let same : [] ≡ pieces = cc in subst (Make current []) same (current, (refl, refl))
made zero current (b ∷ text) pieces h = absurd (cc)
made (suc fuel) current (b ∷ text) pieces h =
    made_read (pieces_in fuel) (made fuel) current (b ∷ text) (piece_at current (b ∷ text)) refl pieces h

-- the tokens of a source of these pieces
abbrev pub tokens_by : List ℕ → List Lexeme → List Token
tokens_by source pieces = tokens_of source 0 pieces ++ end_token source ∷ []

-- no line of the source has an error
abbrev pub has_sound_lines : List ℕ → Bool
has_sound_lines source = is_none (first_in_lines 0 false (lines source))

none_by : (fault : Option ByteFault) → is_none fault ≡ true → fault ≡ None
none_by None h = refl
none_by (Some f) h = absurd (cc)

pub are_tokens : (source : List ℕ) (pieces : List Lexeme) → has_sound_lines source ≡ true → Make Code (code_text source) pieces → IsTokens source (tokens_by source pieces)
are_tokens source pieces sound make =
    let first = first_in_lines 0 false (lines source) in
    answers_tokens source first (tokens_by source pieces) None (source-first source) (record { pieces = pieces; last = make.0; made = make.1; tokens_are = refl }) (ap (λ (f : Option ByteFault). earlier f None) (none_by first sound))
