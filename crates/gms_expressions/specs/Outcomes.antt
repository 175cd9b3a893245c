-- The result of reading a part of an expression: the longest part with its tree, or its first fault
-- (GAMS User's Guide, "GAMS Output", compilation errors).
use Rattle.std.specs.Prelude.{◌≡◌, ℕ, ◌+◌, ◌-◌, ◌≤◌, Bool, true, not, ◌&&◌, if◌then◌else◌, List, [], ◌∷◌, length, map}
use Rattle.gms_labels.specs.declared.place.Place.{Place}
use Rattle.gms_labels.specs.Labels.{entered, IsFullFor}
use Rattle.gms_lex.specs.declared.token.Token.{Token}
use Rattle.gms_lex.specs.Places.{place_of_byte}
use Rattle.gms_lex.specs.TokenTexts.{token_text, unquoted}
use Rattle.gq_number.specs.Number.{Number}
use Rattle.gq_text.specs.Literal.{FitsLiteral}
use Rattle.gq_text.specs.Decimal.{MeansNumber}
use Rattle.gms_grammar.specs.declared.terminal.Terminal.{Terminal}
use Rattle.gms_grammar.specs.declared.terminal.Terminal.TheVariants as terminal
use Rattle.gms_grammar.specs.Grammar.{the, DerivationTree, yield, IsTree, Derives, Stops}
use Rattle.gms_grammar.specs.Terminals.{is, is_terminal_among}
use Rattle.gms_grammar.specs.GamsGrammar.{Nonterminal, productions}
use Rattle.gms_grammar.specs.Rules as rules
use Rattle.gms_grammar.specs.Rules.{Rule, kind_of, left_by, AreFaultless}
use Rattle.gms_expressions.specs.declared.fault.SyntaxError.{SyntaxError}
use Rattle.gms_expressions.specs.declared.fault.SyntaxError.TheVariants.{Expected, Depth, Number as OutOfRange, NotInProfile, TooManyLabels}
use Rattle.gms_expressions.specs.declared.fault.SyntaxFault.{SyntaxFault}
use Rattle.gms_expressions.specs.declared.fault.SyntaxFaultOrMemory.{SyntaxFaultOrMemory}
use Rattle.gms_expressions.specs.declared.fault.SyntaxFaultOrMemory.TheVariants.{Fault}
use Rattle.gms_expressions.specs.Words.{terminal_of}

-- the tokens of a source, each with its terminal of the grammar
abbrev pub kinded_tokens : List ℕ → List Token → List (Terminal × Token)
kinded_tokens source tokens = map (λ token. (terminal_of token.kind (token_text source token), token)) tokens

-- The state after the tokens so far: how many parentheses are open, the names and the labels, and
-- whether the last token was a dot.
pub record ExpressionState : Type 0 where
  pub open_count : ℕ
  pub names : List (List ℕ)
  pub labels : List (List ℕ)
  pub dotted : Bool

-- whether a token of this kind, in this state, is a name: a `Name` or a `Suffix`, with no dot
-- before it
abbrev pub is_name_token : ExpressionState → Terminal → Bool
is_name_token read_state kind = is_terminal_among (terminal.Name ∷ terminal.Suffix ∷ []) kind && not read_state.dotted

-- how many parentheses are open after a token of this kind, if n are open before it
abbrev pub open_after : ℕ → Terminal → ℕ
open_after n terminal.LeftParen = n + 1
open_after n terminal.RightParen = n - 1
open_after n _ = n

-- the state after a token of a source: a parenthesis is counted, a new name or label is entered,
-- and it is noted whether the token is a dot
abbrev pub state_after_token : List ℕ → ExpressionState → Terminal × Token → ExpressionState
state_after_token source read_state token =
    record {
      open_count = open_after read_state.open_count token.0;
      names = if is_name_token read_state token.0 then entered read_state.names (token_text source token.1) else read_state.names;
      labels = if is terminal.Text token.0 then entered read_state.labels (unquoted (token_text source token.1)) else read_state.labels;
      dotted = is terminal.Dot token.0;
    }

-- the state after these tokens of a source; `ahead`, the kind of the token that follows them, has
-- no effect in expressions
abbrev pub state_after_tokens : List ℕ → ExpressionState → List (Terminal × Token) → Terminal → ExpressionState
state_after_tokens source read_state tokens ahead = left_by (λ read_state token ahead. state_after_token source read_state token) read_state tokens ahead

-- the place of the first of the tokens; that of the source's end without tokens
abbrev pub next_place : List ℕ → List (Terminal × Token) → Place
next_place source [] = place_of_byte source (length source)
next_place source (token ∷ tokens) = token.1.at

-- the error that the first of these tokens is unexpected: NotInProfile for a word that the language
-- leaves out, else Expected, also without tokens
abbrev pub unexpected_error : List (Terminal × Token) → SyntaxError
unexpected_error [] = Expected
unexpected_error (token ∷ tokens) = if is terminal.NotInProfile token.0 then NotInProfile else Expected

-- the fault that the first of the tokens `rest` is unexpected, or, without tokens, that the end of
-- the source is
abbrev pub unexpected_token : List ℕ → List (Terminal × Token) → SyntaxFault
unexpected_token source rest = record { error = unexpected_error rest; at = next_place source rest }

-- A token that the grammar expects has a fault: it opens a parenthesis while 100 are open; it is a
-- number out of range, that is, neither an integer within `limit`, the limit of the size of
-- numbers, nor an integer over a power of ten that are both within `limit` (`FitsLiteral`); or it
-- is a new name or label for which the table is full.
pub data IsFaultyInExpression (limit : ℕ) (source : List ℕ) (read_state : ExpressionState) (token : Terminal × Token) : SyntaxFault → Type 0 where
  deep : token.0 ≡ terminal.LeftParen → 100 ≤ read_state.open_count → IsFaultyInExpression limit source read_state token (record { error = Depth; at = token.1.at })
  out_of_range : token.0 ≡ terminal.Number → ((x : Number) → MeansNumber (token_text source token.1) x → FitsLiteral limit x → ⊥) →
      IsFaultyInExpression limit source read_state token (record { error = OutOfRange; at = token.1.at })
  many_names : is_name_token read_state token.0 ≡ true → IsFullFor read_state.names (token_text source token.1) →
      IsFaultyInExpression limit source read_state token (record { error = TooManyLabels; at = token.1.at })
  many_labels : token.0 ≡ terminal.Text → IsFullFor read_state.labels (unquoted (token_text source token.1)) →
      IsFaultyInExpression limit source read_state token (record { error = TooManyLabels; at = token.1.at })

-- the rule by which expressions are read, for a pair of the limit of the size of numbers and the
-- source: the state after a token, the faults of a token, the fault of an unexpected one, and the
-- result that reports a fault
abbrev pub syntax_rule : ℕ × List ℕ → Rule Token ExpressionState SyntaxFault SyntaxFaultOrMemory
syntax_rule key = record {
  after = λ read_state token ahead. state_after_token key.1 read_state token;
  Faulty = λ read_state token ahead fault. IsFaultyInExpression key.0 key.1 read_state token fault;
  unexpected = unexpected_token key.1;
  told = Fault;
}

module _ (limit : ℕ) (source : List ℕ) where
  -- The longest prefix of the tokens of `source` that begins something the nonterminal n derives is
  -- itself derived by n, and has no token that is faulty by `syntax_rule` under `limit`, the limit
  -- of the size of numbers. This prefix is the part: `tree` is its tree, `rest` follows it, and the
  -- state is `read_state` before it and `following` after it.
  pub record IsPart (n : Nonterminal) (read_state following : ExpressionState) (tokens rest : List (Terminal × Token)) (tree : DerivationTree (Terminal × Token)) : Type 0 where
    pub is_tree : IsTree productions (the n) tree
    pub stops : Stops productions (the n) tokens (yield tree) rest
    pub are_sound : AreFaultless (syntax_rule (limit, source)) read_state (yield tree) (kind_of rest)
    pub leaves : following ≡ state_after_tokens source read_state (yield tree) (kind_of rest)

  -- `fault` is the first fault of the tokens of `source`, read as the nonterminal n from the state
  -- `read_state`, by `syntax_rule` under `limit`, the limit of the size of numbers. Let P be the
  -- longest prefix of the tokens that begins something n derives. The fault is that of the first
  -- faulty token of P; or P has no faulty token, n does not derive P, and the fault is that of the
  -- unexpected next token, or without one of the end of the source.
  abbrev pub IsRefusedPart : Nonterminal → ExpressionState → List (Terminal × Token) → SyntaxFault → Type 0
  IsRefusedPart n read_state tokens fault = rules.IsRefusedByRule syntax_rule (limit, source) (λ prefix rest. Derives productions (the n) prefix → ⊥) n read_state tokens fault
