-- The modes of reading, that is, where in a statement the next token is, and which tokens end an
-- item or an element (GAMS User's Guide, "GAMS Programs", data declarations and lists).
use Rattle.std.specs.Prelude.{ℕ, suc}
use Rattle.gms_grammar.specs.declared.kind.Sym.{Sym}
use Rattle.gms_grammar.specs.declared.kind.Sym.TheVariants.{RightParen, Comma, Semicolon, Dot, DotDot, Star, Power}
use Rattle.gms_grammar.specs.declared.kind.Kind.TheVariants.{Label, Symbol, Break}
use Rattle.gms_grammar.specs.declared.lexeme.Piece.{Piece}
use Rattle.gms_grammar.specs.declared.lexeme.Piece.TheVariants.{Token}
use Rattle.gms_lex.specs.declared.keyword.Shape.{Shape}
use Rattle.gms_lex.specs.declared.keyword.Shape.TheVariants.{Set, Parameter, Scalar, Model}
use Rattle.gms_lex.specs.declared.mode.Stage.{Stage}
use Rattle.gms_lex.specs.declared.mode.Stage.TheVariants.{Fresh, Expected, After, Spaced}
use Rattle.gms_lex.specs.declared.mode.Mode.{Mode}
use Rattle.gms_lex.specs.declared.mode.Mode.TheVariants.{Named, Domain, Bare, Rest, Element, Value, Tail, TableNamed, TableDomain, TableBare, TableTexted}

-- the mode (where in a statement the next token is) is within an item of a declaration of this
-- shape (how its items are written): after the item's name, its domain, or its text or list
pub data IsInItem : Shape → Mode → Type 0 where
  after_name : (shape : Shape) → IsInItem shape (Named shape)
  after_domain : (shape : Shape) → IsInItem shape (Bare shape)
  after_text : (shape : Shape) → IsInItem shape (Rest shape)

-- the mode (where in a statement the next token is) is in a list of a declaration of this shape,
-- outside parentheses (0 of them), where an element, a value or a name is expected: at the
-- beginning of the list, or after a comma or a line end in it
pub data IsExpected : Shape → Mode → Type 0 where
  element_of_set : IsExpected Set (Element Set 0 Fresh)
  element_of_parameter : IsExpected Parameter (Element Parameter 0 Fresh)
  value_of_scalar : IsExpected Scalar (Value Scalar)
  name_of_model : IsExpected Model (Value Model)

-- the mode (where in a statement the next token is) is in a list of a declaration of this shape,
-- outside parentheses (0 of them): after a label, directly (`After`) or after a blank (`Spaced`),
-- or in the text or value of an element (`Tail`)
pub data IsAfterElement : Shape → Mode → Type 0 where
  after_label : (shape : Shape) → IsAfterElement shape (Element shape 0 After)
  after_blank : (shape : Shape) → IsAfterElement shape (Element shape 0 Spaced)
  in_tail : (shape : Shape) → IsAfterElement shape (Tail shape)

-- a label is expected: at the beginning of an element (`Fresh`), or after a symbol that a label has
-- to follow, as a dot, a star or a `(` (`Expected`)
pub data IsLabelExpected : Stage → Type 0 where
  at_element : IsLabelExpected Fresh
  after_mark : IsLabelExpected Expected

-- the token ends an item or an element: a comma, or a line end that is a token
pub data IsEnd : Piece → Type 0 where
  comma : IsEnd (Token (Symbol Comma))
  line_end : IsEnd (Token Break)

-- the symbol joins the next label to an element: `.`, `..`, `*` or `**`
pub data Joins : Sym → Type 0 where
  dot : Joins Dot
  dots : Joins DotDot
  star : Joins Star
  stars : Joins Power

-- the piece of the source is a token: a label, unquoted or in quotation marks, or a symbol
pub data IsLabelOrSymbol : Piece → Type 0 where
  a_label : IsLabelOrSymbol (Token Label)
  a_symbol : (symbol : Sym) → IsLabelOrSymbol (Token (Symbol symbol))

-- three modes (a mode is where in a statement the next token is): after a name that may have a
-- domain, within that domain, and after it
pub data HasDomain : Mode → Mode → Mode → Type 0 where
  of_item : (shape : Shape) → HasDomain (Named shape) (Domain shape) (Bare shape)
  of_table : HasDomain TableNamed TableDomain TableBare

-- the mode (where in a statement the next token is) is within a domain, or within parentheses of a
-- list, at least 1 of them
pub data IsInParentheses : Mode → Type 0 where
  in_item_domain : (shape : Shape) → IsInParentheses (Domain shape)
  in_table_domain : IsInParentheses TableDomain
  in_list : (shape : Shape) (depth : ℕ) (stage : Stage) → IsInParentheses (Element shape (suc depth) stage)

-- the token ends a domain: `)`, or `;`, which ends every statement
pub data EndsDomain : Piece → Type 0 where
  parenthesis : EndsDomain (Token (Symbol RightParen))
  semicolon : EndsDomain (Token (Symbol Semicolon))

-- the mode (where in a statement the next token is) is after a table's name or its domain, where
-- the table's text may follow
pub data IsBeforeText : Mode → Type 0 where
  table_named : IsBeforeText TableNamed
  table_bare : IsBeforeText TableBare

-- the mode (where in a statement the next token is) is after a table's name, its domain or its
-- text, where the table's lines may begin
pub data IsBeforeLines : Mode → Type 0 where
  without_text : (mode : Mode) → IsBeforeText mode → IsBeforeLines mode
  with_text : IsBeforeLines TableTexted
