-- The grammar of the language (GAMS User's Guide, "GAMS Programs", "Sets", "Data Entry", "Data
-- Manipulation", "Variables", "Equations", "Model and Solve Statements", "Display", "Programming
-- Flow Control Features"). One token decides each production. A production that needs another form
-- for this has its plain form in PlainGrammar, which derives the same.
use Rattle.std.specs.Prelude.{List, [], ◌∷◌}
use Rattle.gms_grammar.specs.declared.terminal.Terminal.{Terminal}
use Rattle.gms_grammar.specs.declared.terminal.Terminal.TheVariants.{Abort, Alias, Display, Equation, Loop, Model, Option, Parameter, Scalar, Set, Solve, Table, Variable, VariableType, Name, Suffix, Function, OrdCard, FoldOp, Infinity, NotAvailable, YesNo, Not, And, Or, RelationWord, All, Using, Direction, Reserved, Label, Number, Text, LongText, Sense, Power, DotDot, Relation, Circular, Sign, Star, Slash, Equals, LeftParen, RightParen, Comma, Semicolon, Dot, Dollar, Break, TableLine}
use Rattle.gms_grammar.specs.Grammar.{Part, one, the, ◌·◌, ◌∣◌, opt, many}
use Rattle.gms_grammar.specs.Terminals.{is, is_terminal_among}

-- The parts of a program for which there is a production.
pub data Nonterminal : Type 0 where
  -- expressions
  Expression Conjunction Negation Comparison Sum Product PowerTerm Guarded Condition Primary : Nonterminal
  Target Attribute IndexList Index Lag LagAmount Call ExpressionList Fold Control NameList : Nonterminal
  -- programs and statements
  Program Segment KeywordStatement NamedStatement AfterName HeadIndices AfterHeadName AfterHeadIndex AfterLag : Nonterminal
  AfterHead AfterTarget Sides InnerStatement Assignment LoopStatement LoopBody AliasStatement DisplayStatement : Nonterminal
  ShownList Shown OptionStatement Setting SolveStatement AbortStatement : Nonterminal
  -- declarations
  SetStatement SetItems SetItem SetList Element ElementPart Range RangeList : Nonterminal
  ParameterStatement ParameterItems ParameterItem ParameterList Entry Value : Nonterminal
  ScalarStatement ScalarItems ScalarItem TableStatement : Nonterminal
  VariableStatement EquationStatement PlainItems PlainItem ModelStatement ModelItems ModelItem ModelList : Nonterminal
  Domain DomainList DomainPosition : Nonterminal

-- one token of a kind
abbrev pub token : Terminal → Part Terminal Nonterminal
token kind = one (is kind)

-- one token, of one of these kinds
abbrev pub any_of : List Terminal → Part Terminal Nonterminal
any_of kinds = one (is_terminal_among kinds)

-- a name: a word that is not reserved. A suffix word, such as `lo`, is a name too
abbrev pub name : Part Terminal Nonterminal
name = any_of (Name ∷ Suffix ∷ [])

-- a word that begins no statement, reserved or not; the words that the language leaves out
-- (`NotInProfile`) are excluded
abbrev pub word : Part Terminal Nonterminal
word =
    any_of
    (Name ∷ Suffix ∷ Function ∷ OrdCard ∷ FoldOp ∷ Infinity ∷ NotAvailable ∷ YesNo ∷ Not ∷ And ∷ Or ∷ RelationWord ∷ All ∷ Using ∷ Direction ∷ Reserved ∷ [])

-- a part in parentheses
abbrev pub bracketed : Part Terminal Nonterminal → Part Terminal Nonterminal
bracketed part = token LeftParen · part · token RightParen

-- one or more of a part, with commas between them
abbrev pub comma_list : Part Terminal Nonterminal → Part Terminal Nonterminal
comma_list part = part · many (token Comma · part)

-- one or more of a part, with a comma or a line end between each two
abbrev pub separated : Part Terminal Nonterminal → Part Terminal Nonterminal
separated part = part · many (any_of (Comma ∷ Break ∷ []) · part)

-- One or more items of a declaration, with a comma or a line end (`Break`) between them, and
-- perhaps a line end after the last: item { ("," | Break) item } [Break]. `item` is the nonterminal
-- of one item, `again` that of these items. The form is recursive: one token cannot tell the last
-- Break from one between items.
abbrev pub items : Nonterminal → Nonterminal → Part Terminal Nonterminal
items item again = the item · opt (token Comma · the again ∣ token Break · opt (the again))

-- the production of each nonterminal
abbrev pub productions : Nonterminal → Part Terminal Nonterminal
-- An expression: `or` and `xor` bind least, then `and`, `not`, relations, sums, products, powers,
-- and `$` most.
productions Expression = the Conjunction · many (token Or · the Conjunction)
productions Conjunction = the Negation · many (token And · the Negation)
productions Negation = opt (token Not) · the Comparison
productions Comparison = the Sum · many (any_of (Relation ∷ RelationWord ∷ Equals ∷ []) · the Sum)
productions Sum = opt (token Sign) · the Product · many (token Sign · the Product)
productions Product = the PowerTerm · many (any_of (Star ∷ Slash ∷ []) · opt (token Sign) · the PowerTerm)
productions PowerTerm = the Guarded · many (token Power · opt (token Sign) · the Guarded)
productions Guarded = the Primary · many (the Condition)
productions Condition = token Dollar · opt (token Not) · the Primary
productions Primary = any_of (Number ∷ Infinity ∷ NotAvailable ∷ YesNo ∷ []) ∣ the Target ∣ the Call ∣ the Fold ∣ bracketed (the Expression)
productions Target = name · opt (the Attribute) · opt (bracketed (the IndexList))
productions Attribute = token Dot · token Suffix
productions IndexList = comma_list (the Index)
productions Index = token Text ∣ name · opt (the Lag)
productions Lag = any_of (Sign ∷ Circular ∷ []) · the LagAmount
productions LagAmount = token Number ∣ name ∣ bracketed (the Expression)
productions Call = token Function · bracketed (the ExpressionList) ∣ token OrdCard · bracketed name
productions ExpressionList = comma_list (the Expression)
productions Fold = token FoldOp · bracketed (the Control · token Comma · the Expression)
productions Control = (name ∣ bracketed (the NameList)) · opt (the Condition)
productions NameList = comma_list name
-- A program: { [statement] ";" } [statement], where ";" may be left out before a statement keyword.
-- Between two semicolons there is at most one statement that begins with a name, which comes first,
-- and then any number of those that begin with a keyword.
productions Program = the Segment · many (token Semicolon · the Segment)
productions Segment = opt (the NamedStatement) · many (the KeywordStatement)
productions KeywordStatement =
    the SetStatement ∣ the ParameterStatement ∣ the ScalarStatement ∣ the TableStatement ∣ the VariableStatement ∣ the EquationStatement ∣ the ModelStatement ∣ the AliasStatement ∣ the DisplayStatement ∣ the OptionStatement ∣ the SolveStatement ∣ the AbortStatement ∣ the LoopStatement
-- An assignment or a definition: Target [Condition] "=" Expression, or name ["(" (text | name) {
-- "," (text | name) } ")"] [Condition] ".." Expression sense Expression. They begin alike, up to
-- `=` or `..`; a suffix or a lag admits only an assignment.
productions NamedStatement = name · the AfterName
productions AfterName = the Attribute · opt (bracketed (the IndexList)) · the AfterTarget ∣ token LeftParen · the HeadIndices ∣ the AfterHead
productions HeadIndices = token Text · the AfterHeadIndex ∣ name · the AfterHeadName
productions AfterHeadName = the Lag · the AfterLag ∣ the AfterHeadIndex
productions AfterHeadIndex = token Comma · the HeadIndices ∣ token RightParen · the AfterHead
productions AfterLag = many (token Comma · the Index) · token RightParen · the AfterTarget
productions AfterHead = opt (the Condition) · (token Equals · the Expression ∣ token DotDot · the Sides)
productions AfterTarget = opt (the Condition) · token Equals · the Expression
productions Sides = the Expression · token Sense · the Expression
-- A loop. In its body a semicolon separates statements, and one may follow the last: Body =
-- statement { ";" statement } [";"].
productions LoopStatement = token Loop · bracketed (the Control · token Comma · the LoopBody)
productions LoopBody = the InnerStatement · opt (token Semicolon · opt (the LoopBody))
productions InnerStatement =
    the Assignment ∣ the DisplayStatement ∣ the OptionStatement ∣ the SolveStatement ∣ the AbortStatement ∣ the LoopStatement
productions Assignment = the Target · the AfterTarget
-- The other statements.
productions AliasStatement = token Alias · bracketed (name · token Comma · name)
productions DisplayStatement = token Display · the ShownList
productions ShownList = comma_list (the Shown)
productions Shown = any_of (Text ∷ LongText ∷ []) ∣ name · opt (the Attribute)
productions OptionStatement = token Option · comma_list (the Setting)
productions Setting = word · token Equals · (token Number ∣ word)
productions SolveStatement = token Solve · name · (token Using · word · token Direction · name ∣ token Direction · name · token Using · word)
productions AbortStatement = token Abort · opt (the Condition) · opt (the ShownList)
-- Declarations. The text of an item or an element is no token.
productions SetStatement = token Set · the SetItems
productions SetItems = items SetItem SetItems
productions SetItem = name · opt (the Domain) · opt (token Slash · the SetList · token Slash)
productions SetList = separated (the Element)
productions Element = the ElementPart · many (token Dot · the ElementPart)
productions ElementPart = the Range ∣ bracketed (the RangeList)
productions Range = token Label · opt (token Star · token Label)
productions RangeList = comma_list (the Range)
productions ParameterStatement = token Parameter · the ParameterItems
productions ParameterItems = items ParameterItem ParameterItems
productions ParameterItem = name · opt (the Domain) · opt (token Slash · the ParameterList · token Slash)
productions ParameterList = separated (the Entry)
productions Entry = the Element · opt (token Equals) · the Value
productions Value = token NotAvailable ∣ opt (token Sign) · any_of (Number ∷ Infinity ∷ [])
productions ScalarStatement = token Scalar · the ScalarItems
productions ScalarItems = items ScalarItem ScalarItems
productions ScalarItem = name · opt (token Slash · the Value · token Slash)
productions TableStatement = token Table · name · the Domain · many (token TableLine)
productions VariableStatement = opt (token VariableType) · token Variable · the PlainItems
productions EquationStatement = token Equation · the PlainItems
productions PlainItems = items PlainItem PlainItems
productions PlainItem = name · opt (the Domain)
productions ModelStatement = token Model · the ModelItems
productions ModelItems = items ModelItem ModelItems
productions ModelItem = name · opt (token Slash · the ModelList · token Slash)
productions ModelList = token All ∣ separated name
productions Domain = bracketed (the DomainList)
productions DomainList = comma_list (the DomainPosition)
productions DomainPosition = token Star ∣ name
