-- The kind of a token for the grammar (GAMS User's Guide, "Language Items", reserved words).
use Rattle.std.specs.Prelude.{ℕ, nat_lt, if◌then◌else◌, List, [], ◌∷◌, length, Option, Some, None, codes}
use Rattle.gms_grammar.specs.declared.kind.Sym.{Sym}
use Rattle.gms_grammar.specs.declared.kind.Sym.TheVariants as sym
use Rattle.gms_grammar.specs.declared.kind.Kind.{Kind}
use Rattle.gms_grammar.specs.declared.kind.Kind.TheVariants as kind
use Rattle.gms_grammar.specs.declared.terminal.Terminal.{Terminal}
use Rattle.gms_grammar.specs.declared.terminal.Terminal.TheVariants.{Suffix, Function, OrdCard, FoldOp, Infinity, NotAvailable, YesNo, Not, And, Or, RelationWord, All, Using, Direction, Reserved, NotInProfile, Name, Sense, Power, DotDot, Relation, Circular, Sign, Star, Slash, Equals, LeftParen, RightParen, Comma, Semicolon, Dot, Dollar, Label, Number, Text, LongText, Break, TableLine, End}
use Rattle.gms_grammar.specs.Keywords.{Words, statement_words, kind_among}

-- the reserved words of expressions, and the suffixes, which may be names too, by their terminals
abbrev pub expression_words : List Words
expression_words =
    (Suffix, codes "lo" ∷ codes "up" ∷ codes "l" ∷ codes "m" ∷ codes "fx" ∷ codes "modelstat" ∷ codes "solvestat" ∷ []) ∷
    (Function, codes "abs" ∷ codes "max" ∷ codes "min" ∷ codes "mod" ∷ codes "sqr" ∷ codes "power" ∷ codes "round" ∷ codes "floor" ∷ codes "ceil" ∷ codes "trunc" ∷ codes "sign" ∷ codes "exp" ∷ codes "log" ∷ codes "log10" ∷ codes "sqrt" ∷ codes "sin" ∷ codes "cos" ∷ codes "arctan" ∷ codes "uniform" ∷ codes "normal" ∷ codes "errorf" ∷ []) ∷
    (OrdCard, codes "ord" ∷ codes "card" ∷ []) ∷
    (FoldOp, codes "sum" ∷ codes "prod" ∷ codes "smin" ∷ codes "smax" ∷ []) ∷
    (Infinity, codes "inf" ∷ []) ∷
    (NotAvailable, codes "na" ∷ []) ∷
    (YesNo, codes "yes" ∷ codes "no" ∷ []) ∷
    (Not, codes "not" ∷ []) ∷
    (And, codes "and" ∷ []) ∷
    (Or, codes "or" ∷ codes "xor" ∷ []) ∷
    (RelationWord, codes "lt" ∷ codes "le" ∷ codes "eq" ∷ codes "ne" ∷ codes "ge" ∷ codes "gt" ∷ []) ∷
    []

-- the reserved words that neither begin a statement nor occur in expressions, and the words that
-- the language leaves out, each list with its terminal
abbrev pub other_words : List Words
other_words =
    (All, codes "all" ∷ []) ∷
    (Using, codes "using" ∷ []) ∷
    (Direction, codes "minimizing" ∷ codes "maximizing" ∷ []) ∷
    (Reserved, codes "lp" ∷ []) ∷
    (NotInProfile, codes "if" ∷ codes "while" ∷ codes "for" ∷ codes "put" ∷ codes "file" ∷ codes "acronym" ∷ codes "eps" ∷ codes "undf" ∷ []) ∷
    []

-- the terminal that a word has in the lists of words, or `Name` for None, a word that is in none of
-- them
abbrev pub or_name : Option Terminal → Terminal
or_name None = Name
or_name (Some terminal) = terminal

-- the first terminal if it is not None, else the second
abbrev pub or_else : Option Terminal → Option Terminal → Option Terminal
or_else None other = other
or_else (Some terminal) other = Some terminal

-- the kind of a word for the grammar; a word that is not reserved is a name
unfoldable pub terminal_of_word : List ℕ → Terminal
terminal_of_word word =
    or_name (or_else (kind_among word statement_words) (or_else (kind_among word expression_words) (kind_among word other_words)))

-- the terminal of the grammar for a symbol
abbrev pub terminal_of_symbol : Sym → Terminal
terminal_of_symbol sym.EqE = Sense
terminal_of_symbol sym.EqL = Sense
terminal_of_symbol sym.EqG = Sense
terminal_of_symbol sym.EqN = Sense
terminal_of_symbol sym.Power = Power
terminal_of_symbol sym.DotDot = DotDot
terminal_of_symbol sym.LessEq = Relation
terminal_of_symbol sym.GreaterEq = Relation
terminal_of_symbol sym.NotEq = Relation
terminal_of_symbol sym.PlusPlus = Circular
terminal_of_symbol sym.MinusMinus = Circular
terminal_of_symbol sym.Plus = Sign
terminal_of_symbol sym.Minus = Sign
terminal_of_symbol sym.Star = Star
terminal_of_symbol sym.Slash = Slash
terminal_of_symbol sym.Equals = Equals
terminal_of_symbol sym.Less = Relation
terminal_of_symbol sym.Greater = Relation
terminal_of_symbol sym.LeftParen = LeftParen
terminal_of_symbol sym.RightParen = RightParen
terminal_of_symbol sym.Comma = Comma
terminal_of_symbol sym.Semicolon = Semicolon
terminal_of_symbol sym.Dot = Dot
terminal_of_symbol sym.Dollar = Dollar

-- the terminal for a quoted text: `LongText` if it has over 63 bytes between its quotation marks,
-- which no label has, else `Text`
abbrev pub terminal_of_text : List ℕ → Terminal
terminal_of_text text = if nat_lt 65 (length text) then LongText else Text

-- the terminal of the grammar for a token of this kind with these bytes
abbrev pub terminal_of : Kind → List ℕ → Terminal
terminal_of kind.Word text = terminal_of_word text
terminal_of kind.Label text = Label
terminal_of kind.Number text = Number
terminal_of kind.Text text = terminal_of_text text
terminal_of (kind.Symbol symbol) text = terminal_of_symbol symbol
terminal_of kind.Break text = Break
terminal_of kind.TableLine text = TableLine
terminal_of kind.End text = End
