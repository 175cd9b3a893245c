-- The results of the calls that read expressions and their parts.
use Rattle.std.specs.Prelude.{◌≡◌, ℕ, false, List, ◌++◌, drop, Some}
use Rattle.gms_labels.specs.Labels.{place_of}
use Rattle.gms_lex.specs.declared.token.Token.{Token}
use Rattle.gms_grammar.specs.declared.terminal.Terminal.{Terminal}
use Rattle.gms_grammar.specs.Grammar.{DerivationTree}
use Rattle.gms_grammar.specs.GamsGrammar.{Nonterminal}
use Rattle.gms_expressions.specs.declared.fault.SyntaxFaultOrMemory.{SyntaxFaultOrMemory}
use Rattle.gms_expressions.specs.declared.fault.SyntaxFaultOrMemory.TheVariants.{Fault, Memory}
use Rattle.gms_expressions.specs.Outcomes.{ExpressionState, kinded_tokens, IsPart, IsRefusedPart}

-- the state before a part of an expression, with `unclosed` open parentheses, these names and these
-- labels; no dot precedes the part
abbrev pub expression_state : ℕ → List (List ℕ) → List (List ℕ) → ExpressionState
expression_state unclosed names labels = record { open_count = unclosed; names = names; labels = labels; dotted = false }

-- the tokens of a source from the index `at` of their list on, each with its terminal of the
-- grammar
abbrev pub tokens_from : List ℕ → List Token → ℕ → List (Terminal × Token)
tokens_from source tokens at = kinded_tokens source (drop at tokens)

-- the second table begins with the first
abbrev pub IsTablePrefix : List (List ℕ) → List (List ℕ) → Type 0
IsTablePrefix before after = (more : List (List ℕ)) × (after ≡ before ++ more)

-- each text that `texts` has is in `later` too, at the same position
abbrev pub KeepsPlaces : List (List ℕ) → List (List ℕ) → Type 0
KeepsPlaces texts later = (text : List ℕ) (n : ℕ) → place_of texts text ≡ Some n → place_of later text ≡ Some n

-- The longest part of the nonterminal n that begins the tokens was read, from the state `before` to
-- the state `after`; `tree` is its derivation, `rest` follows it, and `limit` is the limit of the
-- size of numbers. `part` is what `tree` means by the tables of names and labels of `after`, and by
-- any tables in which these keep their positions: `Means names labels tree part` states this.
pub record IsRead {T : Type 0} (limit : ℕ) (source : List ℕ) (n : Nonterminal) (Means : List (List ℕ) → List (List ℕ) → DerivationTree (Terminal × Token) → T → Type 0) (before after : ExpressionState) (tokens rest : List (Terminal × Token)) (part : T) : Type 0 where
  pub tree : DerivationTree (Terminal × Token)
  pub is_part : IsPart limit source n before after tokens rest tree
  pub means : (names labels : List (List ℕ)) → KeepsPlaces after.names names → KeepsPlaces after.labels labels → Means names labels tree part

-- the error in place of a part of the nonterminal n, read from the state `before` on, is right: a
-- fault is the part's first one, and out of memory makes no claim
abbrev pub IsSyntaxRefusal : ℕ → List ℕ → Nonterminal → ExpressionState → List (Terminal × Token) → SyntaxFaultOrMemory → Type 0
IsSyntaxRefusal limit source n before tokens (Fault fault) = IsRefusedPart limit source n before tokens fault
IsSyntaxRefusal limit source n before tokens Memory = Unit {0}
