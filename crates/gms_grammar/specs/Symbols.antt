-- The symbols of the language (GAMS User's Guide, "Language Items", delimiters, and the operators
-- of expressions and equations).
use Rattle.std.specs.Prelude.{ℕ, Bool, ◌&&◌, nat_le, List, [], ◌∷◌, length, take, Option, option_map, codes, find}
use Rattle.std.specs.Str.{str_eq_ignore_ascii_case}
use Rattle.gms_grammar.specs.declared.kind.Sym.{Sym}
use Rattle.gms_grammar.specs.declared.kind.Sym.TheVariants.{EqE, EqL, EqG, EqN, Power, DotDot, LessEq, GreaterEq, NotEq, PlusPlus, MinusMinus, Plus, Minus, Star, Slash, Equals, Less, Greater, LeftParen, RightParen, Comma, Semicolon, Dot, Dollar}

-- how a symbol is written
abbrev pub written_symbol : Sym → List ℕ
written_symbol EqE = codes "=e="
written_symbol EqL = codes "=l="
written_symbol EqG = codes "=g="
written_symbol EqN = codes "=n="
written_symbol Power = codes "**"
written_symbol DotDot = codes ".."
written_symbol LessEq = codes "<="
written_symbol GreaterEq = codes ">="
written_symbol NotEq = codes "<>"
written_symbol PlusPlus = codes "++"
written_symbol MinusMinus = codes "--"
written_symbol Plus = codes "+"
written_symbol Minus = codes "-"
written_symbol Star = codes "*"
written_symbol Slash = codes "/"
written_symbol Equals = codes "="
written_symbol Less = codes "<"
written_symbol Greater = codes ">"
written_symbol LeftParen = codes "("
written_symbol RightParen = codes ")"
written_symbol Comma = codes ","
written_symbol Semicolon = codes ";"
written_symbol Dot = codes "."
written_symbol Dollar = codes "$"

-- the symbols, the longer ones first
abbrev pub symbols : List Sym
symbols =
    EqE ∷ EqL ∷ EqG ∷ EqN ∷
    Power ∷ DotDot ∷ LessEq ∷ GreaterEq ∷ NotEq ∷ PlusPlus ∷ MinusMinus ∷
    Plus ∷ Minus ∷ Star ∷ Slash ∷ Equals ∷ Less ∷ Greater ∷ LeftParen ∷ RightParen ∷ Comma ∷ Semicolon ∷ Dot ∷ Dollar ∷ []

-- whether a text begins with the bytes `prefix`, letter case ignored
abbrev pub begins_with_word : List ℕ → List ℕ → Bool
begins_with_word text prefix = nat_le (length prefix) (length text) && str_eq_ignore_ascii_case (take (length prefix) text) prefix

-- the longest symbol with which a text begins, and how many bytes it takes; None if it begins with
-- no symbol
unfoldable pub longest_symbol : List ℕ → Option (ℕ × Sym)
longest_symbol text = option_map (λ symbol. (length (written_symbol symbol), symbol)) (find (λ symbol. begins_with_word text (written_symbol symbol)) symbols)
