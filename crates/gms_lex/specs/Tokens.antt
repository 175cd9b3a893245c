-- The tokens of a source, or its first lexical fault (GAMS User's Guide, "Language Items" and "GAMS
-- Programs").
use Rattle.std.specs.Prelude.{◌≡◌, ◌⊎◌, ℕ, ◌+◌, ◌<◌, List, [], ◌∷◌, ◌++◌, length, take, drop, Result, Ok, Err}
use Rattle.gms_labels.specs.declared.place.Place.{Place}
use Rattle.gms_grammar.specs.declared.fault.ByteFault.{ByteFault}
use Rattle.gms_grammar.specs.Errors.{IsBefore}
use Rattle.gms_grammar.specs.Lines.{code_text}
use Rattle.gms_grammar.specs.LineFaults.{IsLineFault}
use Rattle.gms_grammar.specs.declared.kind.Kind.TheVariants.{End}
use Rattle.gms_grammar.specs.declared.lexeme.Piece.{Piece}
use Rattle.gms_grammar.specs.declared.lexeme.Piece.TheVariants as piece
use Rattle.gms_grammar.specs.declared.lexeme.Lexeme.{Lexeme}
use Rattle.gms_grammar.specs.declared.lexeme.Misread.{Misread}
use Rattle.gms_lex.specs.declared.mode.Mode.{Mode}
use Rattle.gms_lex.specs.declared.mode.Mode.TheVariants.{Code}
use Rattle.gms_lex.specs.declared.token.Token.{Token}
use Rattle.gms_lex.specs.declared.fault.LexFault.{LexFault}
use Rattle.gms_lex.specs.declared.fault.LexFaultOrMemory.{LexFaultOrMemory}
use Rattle.gms_lex.specs.declared.fault.LexFaultOrMemory.TheVariants.{Fault, Memory}
use Rattle.gms_lex.specs.Modes.{mode_after}
use Rattle.gms_lex.specs.Pieces.{piece_at}
use Rattle.gms_lex.specs.Places.{place_of_byte}

-- the greatest number of bytes of a source
abbrev pub most_source_bytes : ℕ
most_source_bytes = 1048576

-- The text, read from `mode` on, begins with these pieces, each the one that `piece_at` reads in
-- its mode; the pieces before a piece determine its mode. After them the mode is `last`, and `rest`
-- remains.
abbrev pub IsMadeOf : Mode → List ℕ → List Lexeme → Mode → List ℕ → Type 0
IsMadeOf mode text [] last rest = (last ≡ mode) × (rest ≡ text)
IsMadeOf mode text (p ∷ pieces) last rest =
    (piece_at mode text ≡ Ok p) × IsMadeOf (mode_after mode p.piece (take p.length text)) (drop p.length text) pieces last rest

-- how many bytes pieces take together
abbrev pub bytes_of_pieces : List Lexeme → ℕ
bytes_of_pieces [] = 0
bytes_of_pieces (p ∷ pieces) = p.length + bytes_of_pieces pieces

-- the token of a piece, if it is one, with the place `at`; it takes the bytes of the source from
-- `start` to before `end`
abbrev pub token_at : Place → Piece → ℕ → ℕ → List Token
token_at at (piece.Token kind) start end = record { kind = kind; start = start; end = end; at = at } ∷ []
token_at at piece.Gap start end = []
token_at at piece.LineEnd start end = []
token_at at piece.Remark start end = []

-- the tokens among the pieces, of which the first begins at byte `start` of the source
abbrev pub tokens_of : List ℕ → ℕ → List Lexeme → List Token
tokens_of source start [] = []
tokens_of source start (p ∷ pieces) = token_at (place_of_byte source start) p.piece start (start + p.length) ++ tokens_of source (start + p.length) pieces

-- the token at the end of a source
abbrev pub end_token : List ℕ → Token
end_token source = record { kind = End; start = length source; end = length source; at = place_of_byte source (length source) }

-- The tokens of the source. `text` is meant to be `code_text source`, where comments and control
-- lines are blank, so that each byte keeps its position. The text, read from the mode `Code` on, is
-- made of pieces; the tokens are those among the pieces, and last the token of the source's end.
pub record HasTokens (source text : List ℕ) (tokens : List Token) : Type 0 where
  pub pieces : List Lexeme
  pub last : Mode
  pub made : IsMadeOf Code text pieces last []
  pub tokens_are : tokens ≡ tokens_of source 0 pieces ++ end_token source ∷ []

-- The text is read piece by piece up to a rest that is not empty and begins with no piece. The
-- fault is the error of that rest, `misread.ahead` bytes after its start.
pub record StopsAt (text : List ℕ) (fault : ByteFault) : Type 0 where
  pub pieces : List Lexeme
  pub last : Mode
  pub rest : List ℕ
  pub misread : Misread
  pub made : IsMadeOf Code text pieces last rest
  pub some : 0 < length rest
  pub stops : piece_at last rest ≡ Err misread
  pub at : fault.at ≡ bytes_of_pieces pieces + misread.ahead
  pub error : fault.error ≡ misread.error

-- The source has this lexical error at this byte. It is an error of a line, such as a line that is
-- too long (`IsLineFault`), or occurs in place of a piece when `code_text source`, the source with
-- blanks in place of comments and control lines, is read piece by piece (`StopsAt`).
abbrev pub IsByteFault : List ℕ → ByteFault → Type 0
IsByteFault source fault = IsLineFault source fault ⊎ StopsAt (code_text source) fault

-- These are the tokens of the source, which has no lexical error.
pub record IsTokens (source : List ℕ) (tokens : List Token) : Type 0 where
  pub sound : (fault : ByteFault) → IsByteFault source fault → ⊥
  pub has : HasTokens source (code_text source) tokens

-- This is the first lexical error of the source: the one at the least byte, and of those at one
-- byte the one with the least error number. Its place `at` is the line and column of that byte.
pub record IsLexFault (source : List ℕ) (fault : LexFault) : Type 0 where
  pub byte : ℕ
  pub at : fault.at ≡ place_of_byte source byte
  pub occurs : IsByteFault source record { at = byte; error = fault.error }
  pub first : (other : ByteFault) → IsByteFault source other → IsBefore record { at = byte; error = fault.error } other

-- the meaning of a source as tokens: its tokens, or its first lexical error
abbrev pub Means : List ℕ → Result (List Token) LexFault → Type 0
Means source (Ok tokens) = IsTokens source tokens
Means source (Err fault) = IsLexFault source fault

-- the result in place of tokens is right: the first fault of the source, or out of memory
abbrev pub IsLexRefusal : List ℕ → LexFaultOrMemory → Type 0
IsLexRefusal source (Fault fault) = IsLexFault source fault
IsLexRefusal source Memory = Unit {0}
