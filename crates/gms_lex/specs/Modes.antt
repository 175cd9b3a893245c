-- The mode of reading: the position of the next token in a statement, as the tokens before it
-- determine it (GAMS User's Guide, "GAMS Programs", data declarations, lists and tables).
use Rattle.std.specs.Prelude.{ℕ, ◌+◌, ◌-◌, ◌==◌, if◌then◌else◌, List, Option, Some, None}
use Rattle.gms_grammar.specs.declared.kind.Sym.{Sym}
use Rattle.gms_grammar.specs.declared.kind.Sym.TheVariants.{Power, DotDot, Star, Slash, LeftParen, RightParen, Comma, Semicolon, Dot}
use Rattle.gms_grammar.specs.declared.kind.Kind.{Kind}
use Rattle.gms_grammar.specs.declared.kind.Kind.TheVariants.{Word, Label, Number, Text, Symbol, Break, TableLine, End}
use Rattle.gms_grammar.specs.declared.lexeme.Piece.{Piece}
use Rattle.gms_grammar.specs.declared.lexeme.Piece.TheVariants.{Gap, LineEnd, Remark, Token}
use Rattle.gms_lex.specs.declared.keyword.Shape.{Shape}
use Rattle.gms_lex.specs.declared.keyword.Shape.TheVariants.{Set, Parameter, Scalar, Model}
use Rattle.gms_lex.specs.declared.keyword.Keyword.{Keyword}
use Rattle.gms_lex.specs.declared.keyword.Keyword.TheVariants.{Declarer, Table, Other}
use Rattle.gms_lex.specs.declared.mode.Stage.{Stage}
use Rattle.gms_lex.specs.declared.mode.Stage.TheVariants.{Fresh, Expected, After, Spaced}
use Rattle.gms_lex.specs.declared.mode.Mode.{Mode}
use Rattle.gms_lex.specs.declared.mode.Mode.TheVariants.{Code, Item, Named, Domain, Bare, Rest, Element, Value, Tail, TableName, TableNamed, TableDomain, TableBare, TableTexted, TableLines}
use Rattle.gms_lex.specs.Keywords.{keyword_of}

-- the mode where a list begins, and where it continues after a comma. In a list of a set or a
-- parameter a new element is expected (`Fresh`), inside 0 parentheses; in a list of a scalar a
-- value, and in a list of a model a name (`Value` for both)
abbrev pub list_start : Shape → Mode
list_start Set = Element Set 0 Fresh
list_start Parameter = Element Parameter 0 Fresh
list_start Scalar = Value Scalar
list_start Model = Value Model

-- the mode that a statement keyword begins; the given mode without a keyword
abbrev pub begun_by : Option Keyword → Mode → Mode
begun_by (Some (Declarer shape)) current = Item shape
begun_by (Some Table) current = TableName
begun_by (Some Other) current = Code
begun_by None current = current

-- the mode after a token that follows an element and does not continue it: outside parentheses
-- (`depth` is 0) the element's text or value has begun; within them the mode is that directly after
-- an element
abbrev pub after_element : Shape → ℕ → Mode
after_element shape depth = if depth == 0 then Tail shape else Element shape depth After

-- The mode after a token for which neither `after_token` nor `after_word` has its own rule: a
-- label, a number, a quoted text, the end, or a word that is no keyword and no name there. After an
-- expected element the stage is `After`; after a token that follows an element `after_element`
-- gives the mode; after an expected value it is `Tail`. Where a table's name is expected, after its
-- text, and among its lines it is `Code`. Other modes stay.
abbrev pub after_plain : Mode → Mode
after_plain (Element shape depth Fresh) = Element shape depth After
after_plain (Element shape depth Expected) = Element shape depth After
after_plain (Element shape depth After) = after_element shape depth
after_plain (Element shape depth Spaced) = after_element shape depth
after_plain (Value shape) = Tail shape
after_plain TableName = Code
after_plain TableTexted = Code
after_plain TableLines = Code
after_plain current = current

-- the mode after a word. A keyword begins a statement in code, where an item or the name of a table
-- is expected, after the text or the list of an item, and after the text or among the lines of a
-- table. Any other word where a name is expected is that name; after the text or among the lines of
-- a table it is code; in code, and after the text or the list of an item, it leaves the mode
-- unchanged. In other modes any word is like a label (`after_plain`).
abbrev pub after_word : Mode → List ℕ → Mode
after_word Code word = begun_by (keyword_of word) Code
after_word (Item shape) word = begun_by (keyword_of word) (Named shape)
after_word (Rest shape) word = begun_by (keyword_of word) (Rest shape)
after_word TableName word = begun_by (keyword_of word) TableNamed
after_word TableTexted word = begun_by (keyword_of word) Code
after_word TableLines word = begun_by (keyword_of word) Code
after_word current word = after_plain current

-- the mode after a symbol in an item of a declaration, outside its domain and its list: `/` begins
-- the list, `,` ends the item, and any other symbol leaves the mode `current`
abbrev pub after_item_symbol : Shape → Sym → Mode → Mode
after_item_symbol shape Slash current = list_start shape
after_item_symbol shape Comma current = Item shape
after_item_symbol shape symbol current = current

-- the mode after a comma of a list, inside `depth` parentheses: outside them (0) the list continues
-- as it begins; within them a label is expected
abbrev pub after_comma : Shape → ℕ → Mode
after_comma shape depth = if depth == 0 then list_start shape else Element shape depth Expected

-- The mode after a symbol where an element is expected, inside `depth` parentheses: `(` opens one
-- more, `)` closes one, `,` is as in `after_comma`, and `/` ends the list. After `(`, and after any
-- other symbol, a label is expected.
abbrev pub after_expected_symbol : Shape → ℕ → Sym → Mode
after_expected_symbol shape depth LeftParen = Element shape (depth + 1) Expected
after_expected_symbol shape depth RightParen = Element shape (depth - 1) After
after_expected_symbol shape depth Comma = after_comma shape depth
after_expected_symbol shape depth Slash = Rest shape
after_expected_symbol shape depth symbol = Element shape depth Expected

-- The mode after a symbol that follows an element, inside `depth` parentheses: `)` closes one, `,`
-- begins the next element, in parentheses a label, and `/` ends the list. After a dot or `..`, to
-- join labels, and a star or `**`, for a range, a label is expected. Outside parentheses any other
-- begins a text or value.
abbrev pub after_element_symbol : Shape → ℕ → Sym → Mode
after_element_symbol shape depth RightParen = Element shape (depth - 1) After
after_element_symbol shape depth Comma = after_comma shape depth
after_element_symbol shape depth Slash = Rest shape
after_element_symbol shape depth Dot = Element shape depth Expected
after_element_symbol shape depth DotDot = Element shape depth Expected
after_element_symbol shape depth Star = Element shape depth Expected
after_element_symbol shape depth Power = Element shape depth Expected
after_element_symbol shape depth symbol = after_element shape depth

-- The mode after a `)` that closes no parenthesis, in a list of this shape where a text or value is
-- expected or has begun. In the list of a set or a parameter it is the mode after a label, outside
-- parentheses; in any other the text or value continues.
abbrev pub after_stray_paren : Shape → Mode
after_stray_paren Set = Element Set 0 After
after_stray_paren Parameter = Element Parameter 0 After
after_stray_paren Scalar = Tail Scalar
after_stray_paren Model = Tail Model

-- The mode after a symbol in a list of this shape, where a text or value is expected or has begun:
-- `/` ends the list, `,` ends the element, `)` is as in `after_stray_paren`, and after any other
-- the text or value continues.
abbrev pub after_tail_symbol : Shape → Sym → Mode
after_tail_symbol shape Slash = Rest shape
after_tail_symbol shape Comma = list_start shape
after_tail_symbol shape RightParen = after_stray_paren shape
after_tail_symbol shape symbol = Tail shape

-- the mode after a symbol that follows an item's name: `(` begins the item's domain, `/` its list,
-- `,` ends the item, and any other symbol leaves the mode unchanged
abbrev pub after_name_symbol : Shape → Sym → Mode
after_name_symbol shape LeftParen = Domain shape
after_name_symbol shape symbol = after_item_symbol shape symbol (Named shape)

-- the mode after a symbol in a domain: `following` if the symbol ends the domain, else `inside`
abbrev pub after_domain_symbol : Sym → Mode → Mode → Mode
after_domain_symbol RightParen inside following = following
after_domain_symbol symbol inside following = inside

-- the mode after a symbol that follows a table's name: `(` begins the table's domain, and any other
-- symbol leads to `Code`, the mode outside declarations
abbrev pub after_table_symbol : Sym → Mode
after_table_symbol LeftParen = TableDomain
after_table_symbol symbol = Code

-- The mode after a symbol in a list, inside `depth` parentheses and at this stage of an element. An
-- element or a label is expected at the stages `Fresh` and `Expected`; `After` and `Spaced` are
-- after a label.
abbrev pub after_list_symbol : Shape → ℕ → Stage → Sym → Mode
after_list_symbol shape depth Fresh symbol = after_expected_symbol shape depth symbol
after_list_symbol shape depth Expected symbol = after_expected_symbol shape depth symbol
after_list_symbol shape depth After symbol = after_element_symbol shape depth symbol
after_list_symbol shape depth Spaced symbol = after_element_symbol shape depth symbol

-- The mode after any symbol but `;`. Where an item is expected (`Item`) the mode is unchanged.
-- After an item's name, domain (`Bare`), text or list (`Rest`), in its domain and in its list the
-- symbol determines the mode, and so it does in the domain of a table and after the table's name.
-- In all other modes it is `Code`, the mode outside declarations.
abbrev pub after_symbol : Mode → Sym → Mode
after_symbol Code symbol = Code
after_symbol (Item shape) symbol = Item shape
after_symbol (Named shape) symbol = after_name_symbol shape symbol
after_symbol (Domain shape) symbol = after_domain_symbol symbol (Domain shape) (Bare shape)
after_symbol (Bare shape) symbol = after_item_symbol shape symbol (Bare shape)
after_symbol (Rest shape) symbol = after_item_symbol shape symbol (Rest shape)
after_symbol (Element shape depth stage) symbol = after_list_symbol shape depth stage symbol
after_symbol (Value shape) symbol = after_tail_symbol shape symbol
after_symbol (Tail shape) symbol = after_tail_symbol shape symbol
after_symbol TableName symbol = Code
after_symbol TableNamed symbol = after_table_symbol symbol
after_symbol TableDomain symbol = after_domain_symbol symbol TableDomain TableBare
after_symbol TableBare symbol = Code
after_symbol TableTexted symbol = Code
after_symbol TableLines symbol = Code

-- the mode after a line end that is a token: the next item, or the next element of a list;
-- `current` in any other mode
abbrev pub after_break : Mode → Mode
after_break (Named shape) = Item shape
after_break (Bare shape) = Item shape
after_break (Rest shape) = Item shape
after_break (Element shape depth stage) = list_start shape
after_break (Tail shape) = list_start shape
after_break current = current

-- the mode after a token of this kind with the bytes `text`: a `;` ends every statement, and a line
-- of a table leaves the mode unchanged; `after_plain` has the rule for any token that is no symbol,
-- line end, word or line of a table
abbrev pub after_token : Mode → Kind → List ℕ → Mode
after_token current (Symbol Semicolon) text = Code
after_token current (Symbol symbol) text = after_symbol current symbol
after_token current Break text = after_break current
after_token current Word text = after_word current text
after_token current TableLine text = current
after_token current Label text = after_plain current
after_token current Number text = after_plain current
after_token current Text text = after_plain current
after_token current End text = after_plain current

-- the mode after blanks: only the stage directly after a label changes, to that after a blank
abbrev pub after_gap : Mode → Mode
after_gap (Element shape depth After) = Element shape depth Spaced
after_gap current = current

-- the mode after line ends that are no token: after the name, the domain or the text of a table its
-- lines begin; any other mode is unchanged
abbrev pub after_line : Mode → Mode
after_line TableNamed = TableLines
after_line TableBare = TableLines
after_line TableTexted = TableLines
after_line current = current

-- The mode after a descriptive text. After an item's name or domain the text is the item's
-- (`Rest`), in an element of a list the element's (`Tail`), and after a table's name or domain the
-- table's (`TableTexted`). Any other mode is unchanged.
abbrev pub after_remark : Mode → Mode
after_remark (Named shape) = Rest shape
after_remark (Bare shape) = Rest shape
after_remark (Element shape depth stage) = Tail shape
after_remark TableNamed = TableTexted
after_remark TableBare = TableTexted
after_remark current = current

-- the mode after a piece, from the mode before it; `text` has the bytes of the piece
abbrev pub mode_after : Mode → Piece → List ℕ → Mode
mode_after current Gap text = after_gap current
mode_after current LineEnd text = after_line current
mode_after current Remark text = after_remark current
mode_after current (Token kind) text = after_token current kind text
