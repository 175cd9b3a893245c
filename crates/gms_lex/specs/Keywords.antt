-- How the words that begin statements affect the tokens after them (GAMS User's Guide, "GAMS
-- Programs").
use Rattle.std.specs.Prelude.{ℕ, Bool, not, ◌&&◌, List, take, drop, Option, option_map, is_some}
use Rattle.std.specs.List.{prefix_len}
use Rattle.gms_grammar.specs.Bytes.{is_label_byte}
use Rattle.gms_grammar.specs.Numbers.{begins_dot}
use Rattle.gms_grammar.specs.declared.terminal.Terminal.{Terminal}
use Rattle.gms_grammar.specs.declared.terminal.Terminal.TheVariants as terminal
use Rattle.gms_grammar.specs.Keywords.{statement_words, kind_among}
use Rattle.gms_lex.specs.declared.keyword.Shape.TheVariants.{Set, Parameter, Scalar, Model}
use Rattle.gms_lex.specs.declared.keyword.Keyword.{Keyword}
use Rattle.gms_lex.specs.declared.keyword.Keyword.TheVariants.{Declarer, Table, Other}

-- What follows the word of this terminal, which begins a statement: items of a declaration, a
-- table, or code. The items of sets, variables and equations are written alike.
abbrev pub keyword_as : Terminal → Keyword
keyword_as terminal.Set = Declarer Set
keyword_as terminal.Variable = Declarer Set
keyword_as terminal.Equation = Declarer Set
keyword_as terminal.Parameter = Declarer Parameter
keyword_as terminal.Scalar = Declarer Scalar
keyword_as terminal.Model = Declarer Model
keyword_as terminal.Table = Table
keyword_as _ = Other

-- the statement keyword that a word is, letter case ignored; None if it is none
unfoldable pub keyword_of : List ℕ → Option Keyword
keyword_of text = option_map keyword_as (kind_among text statement_words)

-- Whether a text begins with an unquoted statement keyword: the longest run of bytes of a label is
-- one, and no dot after it makes it part of a label.
abbrev pub begins_statement : List ℕ → Bool
begins_statement text =
    let length = prefix_len is_label_byte text in
    is_some (keyword_of (take length text)) && not (begins_dot (drop length text))
