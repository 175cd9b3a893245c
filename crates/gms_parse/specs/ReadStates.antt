-- The state after the tokens of a program, read in order: names and labels are numbered in the
-- order of their first occurrence. And which tokens that the grammar expects have a fault (GAMS
-- User's Guide, "Language Items", "Sets"; the limits are this project's).
use Rattle.std.specs.Prelude.{◌≡◌, ℕ, ◌≤◌, Bool, true, false, not, ◌&&◌, ◌||◌, ◌==◌, if◌then◌else◌, List, [], ◌∷◌, ◌++◌, map, reverse, take_while, Option, Some, None}
use Rattle.gms_labels.specs.declared.place.Place.{Place}
use Rattle.gms_labels.specs.Labels.{entered, IsFullFor}
use Rattle.gms_lex.specs.declared.token.Token.{Token}
use Rattle.gms_lex.specs.TokenTexts.{token_text, unquoted}
use Rattle.gq_number.specs.Number.{Number}
use Rattle.gq_text.specs.Literal.{FitsLiteral}
use Rattle.gq_text.specs.Decimal.{MeansNumber}
use Rattle.gms_grammar.specs.declared.terminal.Terminal.{Terminal}
use Rattle.gms_grammar.specs.declared.terminal.Terminal.TheVariants as terminal
use Rattle.gms_grammar.specs.Terminals.{is, is_terminal_among}
use Rattle.gms_grammar.specs.Rules as rules
use Rattle.gms_grammar.specs.Rules.{Rule, left_by}
pub use Rattle.gms_grammar.specs.Rules.{kind_ahead, kind_of}
use Rattle.gms_set.specs.Ranges.{is_range, members}
use Rattle.gms_table.specs.WordLabels.{all_entered}
use Rattle.gms_grammar.specs.Keywords.{statement_words}
use Rattle.gms_expressions.specs.Outcomes as syntax
use Rattle.gms_expressions.specs.Outcomes.{open_after}
use Rattle.gms_parse.specs.Faults.{source_fault}
use Rattle.gms_expressions.specs.declared.fault.SyntaxError.TheVariants.{Depth, Number as OutOfRange, TooManyLabels}
use Rattle.gms_table.specs.declared.fault.TableError.TheVariants.{NoHeading}
use Rattle.gms_parse.specs.declared.fault.SourceError.TheVariants.{Syntax, Table}
use Rattle.gms_parse.specs.declared.fault.SourceFault.{SourceFault}
use Rattle.gms_parse.specs.declared.fault.SourceFaultOrMemory.{SourceFaultOrMemory}
use Rattle.gms_parse.specs.declared.fault.SourceFaultOrMemory.TheVariants.{Fault}
use Rattle.gms_parse.specs.Tables.{labels_of_lines, IsTableLineFault}

-- a token with its terminal of the grammar
abbrev pub KindedToken : Type 0
KindedToken = Terminal × Token

-- The state after the tokens that were read.
pub record ReaderState : Type 0 where
  -- how many parentheses are open
  pub open_count : ℕ
  -- the names and the labels so far, each numbered by its position
  pub names : List (List ℕ)
  pub labels : List (List ℕ)
  -- the tokens that were read, the last one first
  pub before : List KindedToken
  -- the last keyword or semicolon, with or after which the current statement begins, and how many
  -- parentheses were open before it
  pub keyword : Terminal
  pub level : ℕ

-- the state before the first token: nothing is open, no name or label has been read, and the last
-- keyword counts as `;`, after which a statement may begin
abbrev pub start : ReaderState
start = record { open_count = 0; names = []; labels = []; before = []; keyword = terminal.Semicolon; level = 0 }

-- the kind of the first token in the list, which was read last; a semicolon if the list is empty
abbrev pub last_kind : List KindedToken → Terminal
last_kind [] = terminal.Semicolon
last_kind (token ∷ tokens) = token.0

-- whether a kind is that of a keyword, with which a statement begins
abbrev pub is_keyword : Terminal → Bool
is_keyword kind = is_terminal_among (map (λ words. words.0) statement_words) kind

-- Whether a token of this kind, in this state, is a name: a `Name`, or a `Suffix` (a word such as
-- `lo`), but not after a dot or `using`, and not in an option statement.
abbrev pub is_name : ReaderState → Terminal → Bool
is_name read_state kind =
    is_terminal_among (terminal.Name ∷ terminal.Suffix ∷ []) kind && not (is_terminal_among (terminal.Dot ∷ terminal.Using ∷ []) (last_kind read_state.before) || is terminal.Option read_state.keyword)

-- whether a token of this kind, in this state, is a quoted text that is an index; a text in a
-- display or an abort, outside of all parentheses of the statement, is shown and is no index
abbrev pub is_index : ReaderState → Terminal → Bool
is_index read_state kind =
    is terminal.Text kind && not (is_terminal_among (terminal.Display ∷ terminal.Abort ∷ []) read_state.keyword && read_state.open_count == read_state.level)

-- the first label of a range, if a label and a `*` were read last, otherwise None; the list has the
-- last token first
abbrev pub range_start : List KindedToken → Option Token
range_start [] = None
range_start (star ∷ []) = None
range_start (star ∷ (first ∷ others)) = if is terminal.Star star.0 && is terminal.Label first.0 then Some first.1 else None

-- the place of the name of the table that was begun last: the token after the keyword `table`; line
-- 0 and column 0 without a table. The list has the last token first
abbrev pub table_name : List KindedToken → Place
table_name [] = record { line = 0; column = 0 }
table_name (name ∷ []) = record { line = 0; column = 0 }
table_name (name ∷ (word ∷ others)) = if is terminal.Table word.0 then name.1.at else table_name (word ∷ others)

-- whether a statement may end before a token of this kind: a semicolon, the end of the source, or a
-- keyword
abbrev pub ends_statement : Terminal → Bool
ends_statement kind = is_terminal_among (terminal.Semicolon ∷ terminal.End ∷ []) kind || is_keyword kind

-- If these texts are entered in the table `labels`, in order, the table is full (it has 65,536
-- texts) when one of them, which is new, is to be entered.
pub record ExceedsTable (labels texts : List (List ℕ)) : Type 0 where
  pub before : List (List ℕ)
  pub text : List ℕ
  pub following : List (List ℕ)
  pub parts : texts ≡ before ++ text ∷ following
  pub full : IsFullFor (all_entered labels before) text

-- What tokens of a source change in the state.
module _ (source : List ℕ) where
  -- the members of the range from one label to another; none for an invalid range
  abbrev pub range_texts : List ℕ → List ℕ → List (List ℕ)
  range_texts from to = if is_range from to then members from to else []

  -- The labels that the token of a label in a list enters in the table of labels, unless the table
  -- has them. If the token ends a range, the option is the first label of the range, and these are
  -- its members (none if the range is invalid). Otherwise the option is None, and `ahead` is the
  -- kind of the next token: before a `*`, that is, if the token begins a range, there are none,
  -- else there is the label itself.
  abbrev pub list_labels : Option Token → Terminal → Token → List (List ℕ)
  list_labels (Some first) ahead token = range_texts (unquoted (token_text source first)) (unquoted (token_text source token))
  list_labels None ahead token = if is terminal.Star ahead then [] else unquoted (token_text source token) ∷ []

  -- the lines of a table up to the line `line`, in order. The list `before` has the tokens that
  -- were read before it, the last one first
  abbrev pub lines_with : List KindedToken → KindedToken → List KindedToken
  lines_with before line = reverse (line ∷ take_while (λ token. is terminal.TableLine token.0) before)

  -- the labels that a token, read in this state, adds to the table of labels, unless the table has
  -- them, if one of kind `ahead` follows it: that of a quoted text that is an index; in a list that
  -- of a label outside a range, or with the last label of a range those of the range; with the last
  -- line of a table all labels of the table; otherwise none
  abbrev pub new_labels : ReaderState → KindedToken → Terminal → List (List ℕ)
  new_labels read_state token ahead =
      if is_index read_state token.0 then unquoted (token_text source token.1) ∷ [] else (if is terminal.Label token.0 then list_labels (range_start read_state.before) ahead token.1 else (if is terminal.TableLine token.0 && not (is terminal.TableLine ahead) then labels_of_lines source (lines_with read_state.before token) else []))

  -- the state after a token, from the state before it, if one of kind `ahead` follows it
  abbrev pub reader_after : ReaderState → KindedToken → Terminal → ReaderState
  reader_after read_state token ahead =
      let begins = is_keyword token.0 || is terminal.Semicolon token.0 in
      record {
        open_count = open_after read_state.open_count token.0;
        names = if is_name read_state token.0 then entered read_state.names (token_text source token.1) else read_state.names;
        labels = all_entered read_state.labels (new_labels read_state token ahead);
        before = token ∷ read_state.before;
        keyword = if begins then token.0 else read_state.keyword;
        level = if begins then read_state.open_count else read_state.level;
      }

  -- the state after tokens, from the state before them, if one of kind `ahead` follows them
  abbrev pub reader_after_all : ReaderState → List KindedToken → Terminal → ReaderState
  reader_after_all read_state tokens ahead = left_by reader_after read_state tokens ahead

  -- the fault that the first of the tokens `rest` is unexpected, or, without tokens, that the end
  -- of the source is
  abbrev pub unexpected : List KindedToken → SourceFault
  unexpected rest = source_fault (syntax.unexpected_token source rest)

module _ (limit : ℕ) (source : List ℕ) where
  -- the number of a token is out of range: it is neither an integer of at most `limit`, nor an
  -- integer over a power of ten with both of these at most `limit`
  abbrev pub IsOutOfRange : Token → Type 0
  IsOutOfRange token = (x : Number) → MeansNumber (token_text source token) x → FitsLiteral limit x → ⊥

  -- A token that the grammar expects has this fault, if it is read in this state and one of kind
  -- `ahead` follows: it opens a parenthesis while 100 are open; it is a number out of range; it is
  -- a new name after 65,536 others, or enters a new label after 65,536 others; it is the last line
  -- of a table with this fault; or is the `)` of a table without lines.
  pub data IsFaulty (read_state : ReaderState) (token : KindedToken) (ahead : Terminal) : SourceFault → Type 0 where
    deep : token.0 ≡ terminal.LeftParen → 100 ≤ read_state.open_count → IsFaulty read_state token ahead (record { error = Syntax Depth; at = token.1.at })
    out_of_range : token.0 ≡ terminal.Number → IsOutOfRange token.1 → IsFaulty read_state token ahead (record { error = Syntax OutOfRange; at = token.1.at })
    many_names : is_name read_state token.0 ≡ true → IsFullFor read_state.names (token_text source token.1) →
        IsFaulty read_state token ahead (record { error = Syntax TooManyLabels; at = token.1.at })
    many_labels : is terminal.TableLine token.0 ≡ false → ExceedsTable read_state.labels (new_labels source read_state token ahead) →
        IsFaulty read_state token ahead (record { error = Syntax TooManyLabels; at = token.1.at })
    in_table : {fault : SourceFault} → token.0 ≡ terminal.TableLine → is terminal.TableLine ahead ≡ false →
        IsTableLineFault limit source (table_name read_state.before) read_state.labels (lines_with source read_state.before token) fault → IsFaulty read_state token ahead fault
    without_lines : token.0 ≡ terminal.RightParen → read_state.keyword ≡ terminal.Table → ends_statement ahead ≡ true →
        IsFaulty read_state token ahead (record { error = Table NoHeading; at = table_name read_state.before })

-- the rule by which a source is read, for a pair of the limit of the size of numbers and the
-- source: the state after a token, the faults of a token, the fault of an unexpected one, and the
-- result that reports a fault
abbrev pub source_rule : ℕ × List ℕ → Rule Token ReaderState SourceFault SourceFaultOrMemory
source_rule key = record {
  after = reader_after key.1;
  Faulty = λ read_state token ahead fault. IsFaulty key.0 key.1 read_state token ahead fault;
  unexpected = unexpected key.1;
  told = Fault;
}

-- none of the tokens has a fault, read from this state on, if one of kind `ahead` follows them;
-- `limit` is the limit of the size of numbers
abbrev pub AreTokensFaultless : ℕ → List ℕ → ReaderState → List KindedToken → Terminal → Type 0
AreTokensFaultless limit source read_state tokens ahead = rules.AreFaultless (source_rule (limit, source)) read_state tokens ahead
