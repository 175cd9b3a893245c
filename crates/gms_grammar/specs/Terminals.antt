-- The kinds of tokens, numbered, so that they can be told apart and listed.
use Rattle.std.specs.Prelude.{ℕ, Bool, ◌==◌, List, [], ◌∷◌}
use Rattle.std.specs.List.{list_any}
use Rattle.gms_grammar.specs.declared.terminal.Terminal.{Terminal}
use Rattle.gms_grammar.specs.declared.terminal.Terminal.TheVariants.{Abort, Alias, Display, Equation, Loop, Model, Option, Parameter, Scalar, Set, Solve, Table, Variable, VariableType, Name, Suffix, Function, OrdCard, FoldOp, Infinity, NotAvailable, YesNo, Not, And, Or, RelationWord, All, Using, Direction, Reserved, Label, Number, Text, LongText, Sense, Power, DotDot, Relation, Circular, Sign, Star, Slash, Equals, LeftParen, RightParen, Comma, Semicolon, Dot, Dollar, Break, TableLine, End, NotInProfile, FaultyNumber, DeepParen}

-- the number of a kind of tokens
abbrev pub terminal_number : Terminal → ℕ
terminal_number Abort = 0
terminal_number Alias = 1
terminal_number Display = 2
terminal_number Equation = 3
terminal_number Loop = 4
terminal_number Model = 5
terminal_number Option = 6
terminal_number Parameter = 7
terminal_number Scalar = 8
terminal_number Set = 9
terminal_number Solve = 10
terminal_number Table = 11
terminal_number Variable = 12
terminal_number VariableType = 13
terminal_number Name = 14
terminal_number Suffix = 15
terminal_number Function = 16
terminal_number OrdCard = 17
terminal_number FoldOp = 18
terminal_number Infinity = 19
terminal_number NotAvailable = 20
terminal_number YesNo = 21
terminal_number Not = 22
terminal_number And = 23
terminal_number Or = 24
terminal_number RelationWord = 25
terminal_number All = 26
terminal_number Using = 27
terminal_number Direction = 28
terminal_number Reserved = 29
terminal_number Label = 30
terminal_number Number = 31
terminal_number Text = 32
terminal_number LongText = 33
terminal_number Sense = 34
terminal_number Power = 35
terminal_number DotDot = 36
terminal_number Relation = 37
terminal_number Circular = 38
terminal_number Sign = 39
terminal_number Star = 40
terminal_number Slash = 41
terminal_number Equals = 42
terminal_number LeftParen = 43
terminal_number RightParen = 44
terminal_number Comma = 45
terminal_number Semicolon = 46
terminal_number Dot = 47
terminal_number Dollar = 48
terminal_number Break = 49
terminal_number TableLine = 50
terminal_number End = 51
terminal_number NotInProfile = 52
terminal_number FaultyNumber = 53
terminal_number DeepParen = 54

-- all kinds of tokens, in the order of their numbers
abbrev pub terminals : List Terminal
terminals =
    Abort ∷ Alias ∷ Display ∷ Equation ∷ Loop ∷ Model ∷ Option ∷ Parameter ∷
    Scalar ∷ Set ∷ Solve ∷ Table ∷ Variable ∷ VariableType ∷ Name ∷ Suffix ∷
    Function ∷ OrdCard ∷ FoldOp ∷ Infinity ∷ NotAvailable ∷ YesNo ∷ Not ∷ And ∷
    Or ∷ RelationWord ∷ All ∷ Using ∷ Direction ∷ Reserved ∷ Label ∷ Number ∷
    Text ∷ LongText ∷ Sense ∷ Power ∷ DotDot ∷ Relation ∷ Circular ∷ Sign ∷
    Star ∷ Slash ∷ Equals ∷ LeftParen ∷ RightParen ∷ Comma ∷ Semicolon ∷ Dot ∷
    Dollar ∷ Break ∷ TableLine ∷ End ∷ NotInProfile ∷ FaultyNumber ∷ DeepParen ∷ []

-- whether two kinds of tokens are the same
abbrev pub is : Terminal → Terminal → Bool
is kind other = terminal_number kind == terminal_number other

-- whether a kind of tokens is one of these
abbrev pub is_terminal_among : List Terminal → Terminal → Bool
is_terminal_among kinds kind = list_any (is kind) kinds
