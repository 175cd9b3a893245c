-- What separates tokens, and where a line end is a token (GAMS User's Guide, "Language Items",
-- "GAMS Programs", data declarations and lists).
use Rattle.std.specs.Prelude.{◌≡◌, ◌⊎◌, ℕ, ◌-◌, ◌≤◌, Bool, true, not, ◌||◌, ◌==◌, List, [], ◌∷◌, take, drop}
use Rattle.std.specs.List.{list_all, concat, AllByRecursion}
use Rattle.gms_grammar.specs.Lines.{begins, is_blank, is_line_end}
use Rattle.gms_grammar.specs.declared.kind.Kind.TheVariants.{Break}
use Rattle.gms_grammar.specs.declared.lexeme.Piece.TheVariants as piece
use Rattle.gms_grammar.specs.declared.lexeme.Lexeme.{Lexeme}
use Rattle.gms_lex.specs.declared.mode.Mode.{Mode}
use Rattle.gms_lex.specs.declared.mode.LineEnds.{LineEnds}
use Rattle.gms_lex.specs.declared.mode.LineEnds.TheVariants.{Skipped, EndItem, EndElement}
use Rattle.gms_lex.specs.declared.token.Token.{Token}
use Rattle.gms_lex.specs.Pieces.{space_length, line_ends}
use Rattle.gms_lex.specs.Spellings.{IsText}

-- a space, a tab, a line feed or a carriage return
abbrev pub is_space : ℕ → Bool
is_space b = is_blank b || (b == 10 || b == 13)

-- the text is only blanks and line ends, or it is one descriptive text
abbrev pub IsSkipped : List ℕ → Type 0
IsSkipped text = (list_all is_space text ≡ true) ⊎ IsText text

-- the text is made only of blanks, line ends and descriptive texts, in any order
abbrev pub AreSkipped : List ℕ → Type 0
AreSkipped text = (parts : List (List ℕ)) × (text ≡ concat parts) × AllByRecursion IsSkipped parts

-- The tokens follow each other in the text, the first at byte `from` or after it. Only blanks, line
-- ends and descriptive texts come between `from` and the first token, and between two tokens.
abbrev pub AreApart : List ℕ → ℕ → List Token → Type 0
AreApart text from [] = Unit {0}
AreApart text from (token ∷ tokens) =
    (from ≤ token.start) × AreSkipped (take (token.start - from) (drop from text)) × AreApart text token.end tokens

-- the lexeme of a line end of `bytes` bytes that is a token
abbrev pub break_of : ℕ → Lexeme
break_of bytes = record { piece = piece.Token Break; length = bytes }

-- the text is one line end: a line feed, or a carriage return and a line feed
abbrev pub IsOneLineEnd : List ℕ → Type 0
IsOneLineEnd text = (text ≡ 10 ∷ []) ⊎ (text ≡ 13 ∷ 10 ∷ [])

-- a line end of this meaning ends an item, or an element, before the text `following`, which comes
-- after all blanks and line ends: this text begins with a byte, but not with `/` or `,`, and not
-- with `;` after an item; a line end without meaning (`Skipped`) ends nothing
abbrev pub IsEnding : LineEnds → List ℕ → Type 0
IsEnding Skipped following = ⊥
IsEnding EndItem following = begins (λ b. not (b == 47 || (b == 44 || b == 59))) following ≡ true
IsEnding EndElement following = begins (λ b. not (b == 47 || b == 44)) following ≡ true

-- A line end with which a text begins is a token in this mode: it may end an item or an element
-- here (`line_ends`), and after all blanks and line ends a byte follows that does not itself end
-- the item or the element, or begin the item's list.
abbrev pub IsBreak : Mode → List ℕ → Type 0
IsBreak mode text = (is_line_end text ≡ true) × IsEnding (line_ends mode) (drop (space_length text) text)
