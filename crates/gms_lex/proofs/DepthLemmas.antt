-- A piece opens one parenthesis at most.
use Rattle.std.proofs.Common.{ℕ, ◌+◌, ◌==◌, ◌≤◌, Bool, true, false, if◌then◌else◌, List, Option, Some, None, arith}
use Rattle.gms_grammar.specs.declared.kind.Sym.{Sym}
use Rattle.gms_grammar.specs.declared.kind.Sym.TheVariants.{Power, DotDot, Star, Slash, LeftParen, RightParen, Comma, Semicolon, Dot}
use Rattle.gms_grammar.specs.declared.kind.Kind.{Kind}
use Rattle.gms_grammar.specs.declared.kind.Kind.TheVariants.{Word, Label, Number, Text, Symbol, Break, TableLine, End}
use Rattle.gms_grammar.specs.declared.lexeme.Piece.{Piece}
use Rattle.gms_grammar.specs.declared.lexeme.Piece.TheVariants.{Gap, LineEnd, Remark, Token}
use Rattle.gms_lex.specs.declared.keyword.Shape.{Shape}
use Rattle.gms_lex.specs.declared.keyword.Shape.TheVariants.{Set, Parameter, Scalar, Model}
use Rattle.gms_lex.specs.declared.keyword.Keyword.{Keyword}
use Rattle.gms_lex.specs.declared.keyword.Keyword.TheVariants.{Declarer, Table, Other}
use Rattle.gms_lex.specs.declared.mode.Stage.{Stage}
use Rattle.gms_lex.specs.declared.mode.Stage.TheVariants.{Fresh, Expected, After, Spaced}
use Rattle.gms_lex.specs.declared.mode.Mode.{Mode}
use Rattle.gms_lex.specs.declared.mode.Mode.TheVariants.{Code, Item, Named, Domain, Bare, Rest, Element, Value, Tail, TableName, TableNamed, TableDomain, TableBare, TableTexted, TableLines}
use Rattle.gms_lex.specs.Keywords.{keyword_of}
use Rattle.gms_lex.specs.InnerDepths.{depth_of}
use Rattle.gms_lex.specs.Modes.{list_start, begun_by, after_element, after_plain, after_word, after_item_symbol, after_comma, after_expected_symbol, after_element_symbol, after_stray_paren, after_tail_symbol, after_name_symbol, after_domain_symbol, after_table_symbol, after_list_symbol, after_symbol, after_break, after_token, after_gap, after_line, after_remark, mode_after}

list_start_depth : (s : Shape) (d : ℕ) → depth_of (list_start s) ≤ d
list_start_depth Set d = omega arith
list_start_depth Parameter d = omega arith
list_start_depth Scalar d = omega arith
list_start_depth Model d = omega arith

begun_depth : (k : Option Keyword) (current : Mode) (d : ℕ) → depth_of current ≤ d → depth_of (begun_by k current) ≤ d
begun_depth (Some (Declarer shape)) current d h = omega arith
begun_depth (Some Table) current d h = omega arith
begun_depth (Some Other) current d h = omega arith
begun_depth None current d h = h

if_depth : (b : Bool) (x y : Mode) (d : ℕ) → depth_of x ≤ d → depth_of y ≤ d → depth_of (if b then x else y) ≤ d
if_depth true x y d p q = p
if_depth false x y d p q = q

after_element_depth : (s : Shape) (d : ℕ) → depth_of (after_element s d) ≤ d
after_element_depth s d = if_depth (d == 0) (Tail s) (Element s d After) d (omega arith) (omega arith)

plain_depth : (current : Mode) → depth_of (after_plain current) ≤ depth_of current
plain_depth (Element s d Fresh) = omega arith
plain_depth (Element s d Expected) = omega arith
plain_depth (Element s d After) = after_element_depth s d
plain_depth (Element s d Spaced) = after_element_depth s d
plain_depth current = omega arith

word_depth : (current : Mode) (word : List ℕ) → depth_of (after_word current word) ≤ depth_of current
word_depth Code word = begun_depth (keyword_of word) Code 0 (omega arith)
word_depth (Item s) word = begun_depth (keyword_of word) (Named s) 0 (omega arith)
word_depth (Rest s) word = begun_depth (keyword_of word) (Rest s) 0 (omega arith)
word_depth TableName word = begun_depth (keyword_of word) TableNamed 0 (omega arith)
word_depth TableTexted word = begun_depth (keyword_of word) Code 0 (omega arith)
word_depth TableLines word = begun_depth (keyword_of word) Code 0 (omega arith)
word_depth current word = plain_depth current

item_symbol_depth : (s : Shape) (symbol : Sym) (current : Mode) (d : ℕ) → depth_of current ≤ d → depth_of (after_item_symbol s symbol current) ≤ d
item_symbol_depth s Slash current d h = list_start_depth s d
item_symbol_depth s Comma current d h = omega arith
item_symbol_depth s symbol current d h = h

comma_depth : (s : Shape) (d : ℕ) → depth_of (after_comma s d) ≤ d
comma_depth s d = if_depth (d == 0) (list_start s) (Element s d Expected) d (list_start_depth s d) (omega arith)

expected_symbol_depth : (s : Shape) (d : ℕ) (symbol : Sym) → depth_of (after_expected_symbol s d symbol) ≤ d + 1
expected_symbol_depth s d LeftParen = omega arith
expected_symbol_depth s d RightParen = omega arith
expected_symbol_depth s d Comma = omega (arith, comma_depth s d)
expected_symbol_depth s d Slash = omega arith
expected_symbol_depth s d symbol = omega arith

element_symbol_depth : (s : Shape) (d : ℕ) (symbol : Sym) → depth_of (after_element_symbol s d symbol) ≤ d + 1
element_symbol_depth s d RightParen = omega arith
element_symbol_depth s d Comma = omega (arith, comma_depth s d)
element_symbol_depth s d Slash = omega arith
element_symbol_depth s d Dot = omega arith
element_symbol_depth s d DotDot = omega arith
element_symbol_depth s d Star = omega arith
element_symbol_depth s d Power = omega arith
element_symbol_depth s d symbol = omega (arith, after_element_depth s d)

stray_depth : (s : Shape) (d : ℕ) → depth_of (after_stray_paren s) ≤ d
stray_depth Set d = omega arith
stray_depth Parameter d = omega arith
stray_depth Scalar d = omega arith
stray_depth Model d = omega arith

tail_symbol_depth : (s : Shape) (symbol : Sym) → depth_of (after_tail_symbol s symbol) ≤ 1
tail_symbol_depth s Slash = omega arith
tail_symbol_depth s Comma = list_start_depth s 1
tail_symbol_depth s RightParen = stray_depth s 1
tail_symbol_depth s symbol = omega arith

name_symbol_depth : (s : Shape) (symbol : Sym) → depth_of (after_name_symbol s symbol) ≤ 1
name_symbol_depth s LeftParen = omega arith
name_symbol_depth s Slash = list_start_depth s 1
name_symbol_depth s symbol = omega arith

list_symbol_depth : (s : Shape) (d : ℕ) (stage : Stage) (symbol : Sym) → depth_of (after_list_symbol s d stage symbol) ≤ d + 1
list_symbol_depth s d Fresh symbol = expected_symbol_depth s d symbol
list_symbol_depth s d Expected symbol = expected_symbol_depth s d symbol
list_symbol_depth s d After symbol = element_symbol_depth s d symbol
list_symbol_depth s d Spaced symbol = element_symbol_depth s d symbol

domain_symbol_depth : (symbol : Sym) (x y : Mode) (d : ℕ) → depth_of x ≤ d → depth_of y ≤ d → depth_of (after_domain_symbol symbol x y) ≤ d
domain_symbol_depth RightParen x y d p q = q
domain_symbol_depth symbol x y d p q = p

table_symbol_depth : (symbol : Sym) (d : ℕ) → depth_of (after_table_symbol symbol) ≤ d
table_symbol_depth LeftParen d = omega arith
table_symbol_depth symbol d = omega arith

symbol_depth : (current : Mode) (symbol : Sym) → depth_of (after_symbol current symbol) ≤ depth_of current + 1
symbol_depth Code symbol = omega arith
symbol_depth (Item s) symbol = omega arith
symbol_depth (Named s) symbol = name_symbol_depth s symbol
symbol_depth (Domain s) symbol = domain_symbol_depth symbol (Domain s) (Bare s) 1 (omega arith) (omega arith)
symbol_depth (Bare s) symbol = item_symbol_depth s symbol (Bare s) 1 (omega arith)
symbol_depth (Rest s) symbol = item_symbol_depth s symbol (Rest s) 1 (omega arith)
symbol_depth (Element s d stage) symbol = list_symbol_depth s d stage symbol
symbol_depth (Value s) symbol = tail_symbol_depth s symbol
symbol_depth (Tail s) symbol = tail_symbol_depth s symbol
symbol_depth TableName symbol = omega arith
symbol_depth TableNamed symbol = table_symbol_depth symbol 1
symbol_depth TableDomain symbol = domain_symbol_depth symbol TableDomain TableBare 1 (omega arith) (omega arith)
symbol_depth TableBare symbol = omega arith
symbol_depth TableTexted symbol = omega arith
symbol_depth TableLines symbol = omega arith

break_depth : (current : Mode) → depth_of (after_break current) ≤ depth_of current
break_depth (Named s) = omega arith
break_depth (Bare s) = omega arith
break_depth (Rest s) = omega arith
break_depth (Element s d stage) = list_start_depth s d
break_depth (Tail s) = list_start_depth s 0
break_depth current = omega arith

-- a token opens one parenthesis at most
pub token_depth : (current : Mode) (kind : Kind) (text : List ℕ) → depth_of (after_token current kind text) ≤ depth_of current + 1
token_depth current (Symbol Semicolon) text = omega arith
token_depth current (Symbol symbol) text = symbol_depth current symbol
token_depth current Break text = omega (arith, break_depth current)
token_depth current Word text = omega (arith, word_depth current text)
token_depth current TableLine text = omega arith
token_depth current Label text = omega (arith, plain_depth current)
token_depth current Number text = omega (arith, plain_depth current)
token_depth current Text text = omega (arith, plain_depth current)
token_depth current End text = omega (arith, plain_depth current)

gap_depth : (current : Mode) → depth_of (after_gap current) ≤ depth_of current
gap_depth (Element s d After) = omega arith
gap_depth current = omega arith

line_depth : (current : Mode) → depth_of (after_line current) ≤ depth_of current
line_depth TableNamed = omega arith
line_depth TableBare = omega arith
line_depth TableTexted = omega arith
line_depth current = omega arith

remark_depth : (current : Mode) → depth_of (after_remark current) ≤ depth_of current
remark_depth (Named s) = omega arith
remark_depth (Bare s) = omega arith
remark_depth (Element s d stage) = omega arith
remark_depth TableNamed = omega arith
remark_depth TableBare = omega arith
remark_depth current = omega arith

-- a piece opens one parenthesis at most
pub piece_depth : (current : Mode) (piece : Piece) (text : List ℕ) → depth_of (mode_after current piece text) ≤ depth_of current + 1
piece_depth current Gap text = omega (arith, gap_depth current)
piece_depth current LineEnd text = omega (arith, line_depth current)
piece_depth current Remark text = omega (arith, remark_depth current)
piece_depth current (Token kind) text = token_depth current kind text
