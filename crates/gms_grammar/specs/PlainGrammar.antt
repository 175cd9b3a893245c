-- Parts of the grammar as they read best. The table of productions has them in another form, which
-- one token decides.
use Rattle.gms_grammar.specs.declared.terminal.Terminal.{Terminal}
use Rattle.gms_grammar.specs.declared.terminal.Terminal.TheVariants.{Comma, Semicolon, DotDot, Text, Break}
use Rattle.gms_grammar.specs.Grammar.{Part, the, ◌·◌, ◌∣◌, opt, many}
use Rattle.gms_grammar.specs.GamsGrammar.{Nonterminal, Condition, NamedStatement, KeywordStatement, Assignment, Sides, InnerStatement, token, name, bracketed, comma_list}

-- A statement: one that begins with a name, or one that begins with a keyword.
abbrev pub statement : Part Terminal Nonterminal
statement = the NamedStatement ∣ the KeywordStatement

-- A program: perhaps a statement, and then, any number of times, a semicolon and perhaps a
-- statement. Before a statement that begins with a keyword the semicolon may be left out.
abbrev pub plain_program : Part Terminal Nonterminal
plain_program = opt statement · many (token Semicolon · opt statement ∣ the KeywordStatement)

-- A definition of an equation: a name, perhaps with quoted labels and names as indices, perhaps a
-- condition, and the sides.
abbrev pub plain_definition : Part Terminal Nonterminal
plain_definition = name · opt (bracketed (comma_list (token Text ∣ name))) · opt (the Condition) · token DotDot · the Sides

-- A statement that begins with a name: an assignment or a definition.
abbrev pub plain_named : Part Terminal Nonterminal
plain_named = the Assignment ∣ plain_definition

-- The body of a loop: statements with a semicolon between them, and perhaps one after the last.
abbrev pub plain_body : Part Terminal Nonterminal
plain_body = the InnerStatement · many (token Semicolon · the InnerStatement) · opt (token Semicolon)

-- One or more items of a declaration, with a comma or a line end between them, and perhaps a line
-- end after the last.
abbrev pub plain_items : Nonterminal → Part Terminal Nonterminal
plain_items item = the item · many ((token Comma ∣ token Break) · the item) · opt (token Break)
