-- What the rules of modes say of tokens.
use Rattle.std.proofs.Common.{◌≡◌, ℕ, suc, ◌+◌, ◌-◌, ◌==◌, if◌then◌else◌, true, false, List, take, drop, Option, Some, None, Ok, refl, ap, subst, arith}
use Rattle.std.proofs.Math.Dec.{eqb-suc-zero}
use Rattle.gms_grammar.specs.declared.kind.Sym.{Sym}
use Rattle.gms_grammar.specs.declared.kind.Sym.TheVariants.{EqE, EqL, EqG, EqN, Power, DotDot, LessEq, GreaterEq, NotEq, PlusPlus, MinusMinus, Plus, Minus, Star, Slash, Equals, Less, Greater, LeftParen, RightParen, Comma, Semicolon, Dot, Dollar}
use Rattle.gms_grammar.specs.declared.kind.Kind.TheVariants.{Word, Label, Number, Text, Symbol, Break, TableLine, End}
use Rattle.gms_grammar.specs.declared.lexeme.Lexeme.{Lexeme}
use Rattle.gms_grammar.specs.declared.lexeme.Piece.{Piece}
use Rattle.gms_grammar.specs.declared.lexeme.Piece.TheVariants.{Gap, LineEnd, Remark, Token}
use Rattle.gms_lex.specs.declared.keyword.Shape.{Shape}
use Rattle.gms_lex.specs.declared.keyword.Shape.TheVariants.{Set, Parameter, Scalar, Model}
use Rattle.gms_lex.specs.declared.keyword.Keyword.{Keyword}
use Rattle.gms_lex.specs.declared.keyword.Keyword.TheVariants.{Declarer, Table}
use Rattle.gms_lex.specs.declared.mode.Stage.{Stage}
use Rattle.gms_lex.specs.declared.mode.Stage.TheVariants.{Fresh, Expected, After, Spaced}
use Rattle.gms_lex.specs.declared.mode.Mode.{Mode}
use Rattle.gms_lex.specs.declared.mode.Mode.TheVariants.{Code, Item, Named, Domain, Rest, Element, TableName, TableNamed, TableDomain, TableTexted, TableLines}
use Rattle.gms_lex.specs.declared.mode.LineEnds.TheVariants.{Skipped, EndElement}
use Rattle.gms_lex.specs.Keywords.{keyword_of, begins_statement}
use Rattle.gms_lex.specs.Longest.{IsCode, IsElementPiece, IsInList, IsOfTable, has_text}
use Rattle.gms_lex.specs.Modes.{begun_by, list_start, after_comma, mode_after}
use Rattle.gms_lex.specs.Pieces.{element_line_ends, line_ends, piece_at}
use Rattle.gms_lex.proofs.LongestLemmas.{longest}
use Rattle.gms_laws.specs.Modes.{IsInItem, after_name, after_domain, after_text, IsExpected, element_of_set, element_of_parameter, value_of_scalar, name_of_model, IsAfterElement, after_label, after_blank, in_tail, IsLabelExpected, at_element, after_mark, IsEnd, comma, line_end, Joins, dot, dots, star, stars, IsLabelOrSymbol, a_label, a_symbol, HasDomain, of_item, of_table, IsInParentheses, in_item_domain, in_table_domain, in_list, EndsDomain, parenthesis, semicolon, IsBeforeText, table_named, table_bare, IsBeforeLines, without_text, with_text}

pub declaration : (text : List ℕ) (shape : Shape) → keyword_of text ≡ Some (Declarer shape) → mode_after Code (Token Word) text ≡ Item shape
declaration text shape is = ap (λ (k : Option Keyword). begun_by k Code) is

pub table : (text : List ℕ) → keyword_of text ≡ Some Table → mode_after Code (Token Word) text ≡ TableName
table text is = ap (λ (k : Option Keyword). begun_by k Code) is

pub name : (text : List ℕ) (shape : Shape) → keyword_of text ≡ None → mode_after (Item shape) (Token Word) text ≡ Named shape
name text shape none = ap (λ (k : Option Keyword). begun_by k (Named shape)) none

pub item : (mode : Mode) (shape : Shape) (piece : Piece) (text : List ℕ) → IsInItem shape mode → IsEnd piece → mode_after mode piece text ≡ Item shape
item current shape piece text (after_name s) comma = refl
item current shape piece text (after_name s) line_end = refl
item current shape piece text (after_domain s) comma = refl
item current shape piece text (after_domain s) line_end = refl
item current shape piece text (after_text s) comma = refl
item current shape piece text (after_text s) line_end = refl

begins : (shape : Shape) → IsExpected shape (list_start shape)
begins Set = element_of_set
begins Parameter = element_of_parameter
begins Scalar = value_of_scalar
begins Model = name_of_model

pub list : (mode : Mode) (shape : Shape) (text : List ℕ) → IsInItem shape mode → IsExpected shape (mode_after mode (Token (Symbol Slash)) text)
list current shape text (after_name s) = begins s
list current shape text (after_domain s) = begins s
list current shape text (after_text s) = begins s

pub element : (mode : Mode) (shape : Shape) (piece : Piece) (text : List ℕ) → IsAfterElement shape mode → IsEnd piece → IsExpected shape (mode_after mode piece text)
element current shape piece text (after_label s) comma = begins s
element current shape piece text (after_label s) line_end = begins s
element current shape piece text (after_blank s) comma = begins s
element current shape piece text (after_blank s) line_end = begins s
element current shape piece text (in_tail s) comma = begins s
element current shape piece text (in_tail s) line_end = begins s

pub list_end : (mode : Mode) (shape : Shape) (text : List ℕ) → IsAfterElement shape mode → mode_after mode (Token (Symbol Slash)) text ≡ Rest shape
list_end current shape text (after_label s) = refl
list_end current shape text (after_blank s) = refl
list_end current shape text (in_tail s) = refl

pub label : (shape : Shape) (depth : ℕ) (stage : Stage) (text : List ℕ) → IsLabelExpected stage → mode_after (Element shape depth stage) (Token Label) text ≡ Element shape depth After
label shape depth stage text at_element = refl
label shape depth stage text after_mark = refl

pub joined : (shape : Shape) (depth : ℕ) (symbol : Sym) (text : List ℕ) → Joins symbol → mode_after (Element shape depth After) (Token (Symbol symbol)) text ≡ Element shape depth Expected
joined shape depth symbol text dot = refl
joined shape depth symbol text dots = refl
joined shape depth symbol text star = refl
joined shape depth symbol text stars = refl

-- what may be read where a label is expected
of_element : (piece : Piece) (text : List ℕ) → IsElementPiece piece text → IsLabelOrSymbol piece
of_element (Token Label) text is = a_label
of_element (Token (Symbol symbol)) text is = a_symbol symbol
of_element (Token Word) text is = absurd is
of_element (Token Number) text is = absurd is
of_element (Token Text) text is = absurd is
of_element (Token Break) text is = absurd is
of_element (Token TableLine) text is = absurd is
of_element (Token End) text is = absurd is
of_element Gap text is = absurd is
of_element LineEnd text is = absurd is
of_element Remark text is = absurd is

listed : (shape : Shape) (depth : ℕ) (stage : Stage) (piece : Piece) (text following : List ℕ) → IsLabelExpected stage → IsInList shape depth stage piece text following → IsLabelOrSymbol piece
listed shape depth stage piece text following at_element is = of_element piece text is
listed shape depth stage piece text following after_mark is = of_element piece text is

pub labels : (shape : Shape) (depth : ℕ) (stage : Stage) (text : List ℕ) (next : Lexeme) → IsLabelExpected stage → piece_at (Element shape depth stage) text ≡ Ok next → has_text next.piece ≡ true → IsLabelOrSymbol next.piece
labels shape depth stage text next expected is has =
    listed shape depth stage next.piece (take next.length text) (drop next.length text) expected (longest (Element shape depth stage) text next is has).allowed

no_number : (piece : Piece) → IsLabelOrSymbol piece → piece ≡ Token Number → ⊥
no_number piece a_label e = absurd cc
no_number piece (a_symbol symbol) e = absurd cc

pub never_numbers : (shape : Shape) (depth : ℕ) (stage : Stage) (text : List ℕ) (next : Lexeme) → IsLabelExpected stage → piece_at (Element shape depth stage) text ≡ Ok next → next.piece ≡ Token Number → ⊥
never_numbers shape depth stage text next expected is number =
    no_number next.piece (labels shape depth stage text next expected is (ap has_text number)) number

pub value : (text : List ℕ) (next : Lexeme) → piece_at (Element Parameter 0 Spaced) text ≡ Ok next → has_text next.piece ≡ true → IsCode Label next.piece (take next.length text) (drop next.length text)
value text next is has = (longest (Element Parameter 0 Spaced) text next is has).allowed

-- ---- domains, parentheses and tables

pub domain : (named inside after : Mode) (text : List ℕ) → HasDomain named inside after → mode_after named (Token (Symbol LeftParen)) text ≡ inside
domain named inside after text (of_item s) = refl
domain named inside after text of_table = refl

pub domain_end : (named inside after : Mode) (text : List ℕ) → HasDomain named inside after → mode_after inside (Token (Symbol RightParen)) text ≡ after
domain_end named inside after text (of_item s) = refl
domain_end named inside after text of_table = refl

-- each symbol but `)` and `;` leaves a domain as it is
item_symbol : (shape : Shape) (symbol : Sym) (text : List ℕ) → ¬ (EndsDomain (Token (Symbol symbol))) → mode_after (Domain shape) (Token (Symbol symbol)) text ≡ Domain shape
item_symbol shape EqE text other = refl
item_symbol shape EqL text other = refl
item_symbol shape EqG text other = refl
item_symbol shape EqN text other = refl
item_symbol shape Power text other = refl
item_symbol shape DotDot text other = refl
item_symbol shape LessEq text other = refl
item_symbol shape GreaterEq text other = refl
item_symbol shape NotEq text other = refl
item_symbol shape PlusPlus text other = refl
item_symbol shape MinusMinus text other = refl
item_symbol shape Plus text other = refl
item_symbol shape Minus text other = refl
item_symbol shape Star text other = refl
item_symbol shape Slash text other = refl
item_symbol shape Equals text other = refl
item_symbol shape Less text other = refl
item_symbol shape Greater text other = refl
item_symbol shape LeftParen text other = refl
item_symbol shape RightParen text other = absurd (other parenthesis)
item_symbol shape Comma text other = refl
item_symbol shape Semicolon text other = absurd (other semicolon)
item_symbol shape Dot text other = refl
item_symbol shape Dollar text other = refl

table_symbol : (symbol : Sym) (text : List ℕ) → ¬ (EndsDomain (Token (Symbol symbol))) → mode_after TableDomain (Token (Symbol symbol)) text ≡ TableDomain
table_symbol EqE text other = refl
table_symbol EqL text other = refl
table_symbol EqG text other = refl
table_symbol EqN text other = refl
table_symbol Power text other = refl
table_symbol DotDot text other = refl
table_symbol LessEq text other = refl
table_symbol GreaterEq text other = refl
table_symbol NotEq text other = refl
table_symbol PlusPlus text other = refl
table_symbol MinusMinus text other = refl
table_symbol Plus text other = refl
table_symbol Minus text other = refl
table_symbol Star text other = refl
table_symbol Slash text other = refl
table_symbol Equals text other = refl
table_symbol Less text other = refl
table_symbol Greater text other = refl
table_symbol LeftParen text other = refl
table_symbol RightParen text other = absurd (other parenthesis)
table_symbol Comma text other = refl
table_symbol Semicolon text other = absurd (other semicolon)
table_symbol Dot text other = refl
table_symbol Dollar text other = refl

pub in_domain : (named inside after : Mode) (piece : Piece) (text : List ℕ) → HasDomain named inside after → ¬ (EndsDomain piece) → mode_after inside piece text ≡ inside
in_domain named inside after (Token (Symbol symbol)) text (of_item s) other = item_symbol s symbol text other
in_domain named inside after (Token (Symbol symbol)) text of_table other = table_symbol symbol text other
in_domain named inside after (Token Word) text (of_item s) other = refl
in_domain named inside after (Token Word) text of_table other = refl
in_domain named inside after (Token Label) text (of_item s) other = refl
in_domain named inside after (Token Label) text of_table other = refl
in_domain named inside after (Token Number) text (of_item s) other = refl
in_domain named inside after (Token Number) text of_table other = refl
in_domain named inside after (Token Text) text (of_item s) other = refl
in_domain named inside after (Token Text) text of_table other = refl
in_domain named inside after (Token Break) text (of_item s) other = refl
in_domain named inside after (Token Break) text of_table other = refl
in_domain named inside after (Token TableLine) text (of_item s) other = refl
in_domain named inside after (Token TableLine) text of_table other = refl
in_domain named inside after (Token End) text (of_item s) other = refl
in_domain named inside after (Token End) text of_table other = refl
in_domain named inside after Gap text (of_item s) other = refl
in_domain named inside after Gap text of_table other = refl
in_domain named inside after LineEnd text (of_item s) other = refl
in_domain named inside after LineEnd text of_table other = refl
in_domain named inside after Remark text (of_item s) other = refl
in_domain named inside after Remark text of_table other = refl

pub opened : (shape : Shape) (depth : ℕ) (stage : Stage) (text : List ℕ) → IsLabelExpected stage → mode_after (Element shape depth stage) (Token (Symbol LeftParen)) text ≡ Element shape (depth + 1) Expected
opened shape depth stage text at_element = refl
opened shape depth stage text after_mark = refl

one_less : (depth : ℕ) → suc depth - 1 ≡ depth
one_less depth = omega arith

one_out : (shape : Shape) (depth : ℕ) → Element shape (suc depth - 1) After ≡ Element shape depth After
one_out shape depth = ap (λ n. Element shape n After) (one_less depth)

pub closed : (shape : Shape) (depth : ℕ) (stage : Stage) (text : List ℕ) → mode_after (Element shape (suc depth) stage) (Token (Symbol RightParen)) text ≡ Element shape depth After
closed shape depth Fresh text = one_out shape depth
closed shape depth Expected text = one_out shape depth
closed shape depth After text = one_out shape depth
closed shape depth Spaced text = one_out shape depth

-- within parentheses there are some
some_within : (depth : ℕ) → (suc depth == 0) ≡ false
some_within depth = eqb-suc-zero depth

still_within : (shape : Shape) (depth : ℕ) → after_comma shape (suc depth) ≡ Element shape (suc depth) Expected
still_within shape depth = ap (λ b. if b then list_start shape else Element shape (suc depth) Expected) (some_within depth)

line_within : (depth : ℕ) → element_line_ends (suc depth) ≡ Skipped
line_within depth = ap (λ b. if b then EndElement else Skipped) (some_within depth)

pub next_label : (shape : Shape) (depth : ℕ) (stage : Stage) (text : List ℕ) → mode_after (Element shape (suc depth) stage) (Token (Symbol Comma)) text ≡ Element shape (suc depth) Expected
next_label shape depth Fresh text = still_within shape depth
next_label shape depth Expected text = still_within shape depth
next_label shape depth After text = still_within shape depth
next_label shape depth Spaced text = still_within shape depth

enclosed : (shape : Shape) (depth : ℕ) (stage : Stage) (piece : Piece) (text following : List ℕ) → IsInList shape (suc depth) stage piece text following → IsLabelOrSymbol piece
enclosed shape depth Fresh piece text following is = of_element piece text is
enclosed shape depth Expected piece text following is = of_element piece text is
enclosed shape depth After piece text following is = of_element piece text is
enclosed shape depth Spaced piece text following is = of_element piece text is

pub enclosed_labels : (shape : Shape) (depth : ℕ) (stage : Stage) (text : List ℕ) (next : Lexeme) → piece_at (Element shape (suc depth) stage) text ≡ Ok next → has_text next.piece ≡ true → IsLabelOrSymbol next.piece
enclosed_labels shape depth stage text next is has =
    enclosed shape depth stage next.piece (take next.length text) (drop next.length text) (longest (Element shape (suc depth) stage) text next is has).allowed

pub lines : (mode : Mode) → IsInParentheses mode → line_ends mode ≡ Skipped
lines current (in_item_domain shape) = refl
lines current in_table_domain = refl
lines current (in_list shape depth Fresh) = refl
lines current (in_list shape depth Expected) = line_within depth
lines current (in_list shape depth After) = line_within depth
lines current (in_list shape depth Spaced) = line_within depth

pub table_name : (text : List ℕ) → keyword_of text ≡ None → mode_after TableName (Token Word) text ≡ TableNamed
table_name text none = ap (λ (k : Option Keyword). begun_by k TableNamed) none

pub table_text : (mode : Mode) (text : List ℕ) → IsBeforeText mode → mode_after mode Remark text ≡ TableTexted
table_text current text table_named = refl
table_text current text table_bare = refl

pub table_lines : (mode : Mode) (text : List ℕ) → IsBeforeLines mode → mode_after mode LineEnd text ≡ TableLines
table_lines current text (without_text m table_named) = refl
table_lines current text (without_text m table_bare) = refl
table_lines current text with_text = refl

pub table_end : (text : List ℕ) (shape : Shape) → keyword_of text ≡ Some (Declarer shape) → mode_after TableLines (Token Word) text ≡ Item shape
table_end text shape is = ap (λ (k : Option Keyword). begun_by k Code) is

no_statement : (text : List ℕ) (piece : Piece) (n : ℕ) → piece ≡ Token TableLine → IsOfTable text piece n → begins_statement text ≡ false
no_statement text piece n is of_table_line = (subst (λ p. IsOfTable text p n) is of_table_line).0

pub never_statements : (text : List ℕ) (next : Lexeme) → piece_at TableLines text ≡ Ok next → next.piece ≡ Token TableLine → begins_statement text ≡ false
never_statements text next found is =
    no_statement text next.piece next.length is (longest TableLines text next found (ap has_text is)).allowed
