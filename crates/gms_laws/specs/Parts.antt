-- What the four functions that read a part of an expression from tokens give, as relations (GAMS
-- User's Guide, "Data Manipulation", expressions).
use Rattle.std.specs.Prelude.{◌≡◌, ℕ, List, map}
use Rattle.gq_number.specs.Number.{Number}
use Rattle.gms_ast.specs.declared.expression.Control.{Control}
use Rattle.gms_ast.specs.declared.expression.Expr.{Expr}
use Rattle.gms_ast.specs.declared.program.Target.{Target}
use Rattle.gms_ast.specs.TreeView.{tree_of, control_tree, indices_of, index_tree}
use Rattle.gms_ast.specs.Trees.{Tree as Syntax, reference}
use Rattle.gms_ast.specs.Numbers.{in_numbers, indices_in_numbers, control_in_numbers}
use Rattle.gms_lex.specs.declared.token.Token.{Token}
use Rattle.gms_grammar.specs.declared.terminal.Terminal.{Terminal}
use Rattle.gms_grammar.specs.Grammar.{DerivationTree}
use Rattle.gms_grammar.specs.GamsGrammar.{Nonterminal, Expression, Primary, Control as ControlPart, Target as TargetPart}
use Rattle.gms_expressions.specs.ExpressionTrees as trees
use Rattle.gms_expressions.specs.Calls.{IsRead}
use Rattle.gms_expressions.specs.Outcomes.{ExpressionState, IsPart}

-- tokens, each with the terminal of the grammar that it is
abbrev pub Tokens : Type 0
Tokens = List (Terminal × Token)

-- a derivation tree of a part, over tokens that each have their terminal
abbrev pub Derivation : Type 0
Derivation = DerivationTree (Terminal × Token)

-- two readings end in the same state, with the same tokens remaining
abbrev pub EndAlike : ExpressionState → ExpressionState → Tokens → Tokens → Type 0
EndAlike after later rest others = (after ≡ later) × (rest ≡ others)

-- Some prefix of these tokens is the part of the nonterminal `n` that is read from the state
-- `before` (`IsPart`): the longest prefix that begins something n derives, itself derived by n, and
-- without a faulty token. `limit` is the limit of the size of numbers.
pub record SomePart (limit : ℕ) (source : List ℕ) (n : Nonterminal) (before : ExpressionState) (tokens : Tokens) : Type 0 where
  pub after : ExpressionState
  pub rest : Tokens
  pub tree : Derivation
  pub is_part : IsPart limit source n before after tokens rest tree

module _ {F : Type 0} where
  -- the left side of an assignment as a reference, with its numbers replaced by those that they
  -- mean
  abbrev pub meant_target : (F → Number) → Target F → Syntax Number
  meant_target value target = reference target.at target.name target.suffix (indices_in_numbers value (indices_of (map index_tree target.indices)))

  module _ (limit : ℕ) (value : F → Number) (source : List ℕ) where
    -- the parser's function `expression` reads this expression from a prefix of the first tokens,
    -- after which the second ones remain: with its values replaced by the numbers that they mean,
    -- it is the expression that the prefix means; reading goes from the first state to the second
    abbrev pub IsExpression : ExpressionState → ExpressionState → Tokens → Tokens → Expr F → Type 0
    IsExpression = IsRead limit source Expression (λ names labels tree part. in_numbers value (tree_of part) ≡ trees.expression source names labels tree)

    -- the parser's function `primary` reads this expression from a prefix of the first tokens,
    -- after which the second ones remain: with its values replaced by the numbers that they mean,
    -- it is the operand that the prefix means; reading goes from the first state to the second
    abbrev pub IsPrimary : ExpressionState → ExpressionState → Tokens → Tokens → Expr F → Type 0
    IsPrimary = IsRead limit source Primary (λ names labels tree part. in_numbers value (tree_of part) ≡ trees.primary source names labels tree)

    -- the parser's function `control` reads this control from a prefix of the first tokens, after
    -- which the second ones remain: with its values replaced by the numbers that they mean, it is
    -- the control that the prefix means; reading goes from the first state to the second
    abbrev pub IsControl : ExpressionState → ExpressionState → Tokens → Tokens → Control F → Type 0
    IsControl = IsRead limit source ControlPart (λ names labels tree part. control_in_numbers value (control_tree part) ≡ trees.control source names labels tree)

    -- the parser's function `target` reads this left side from a prefix of the first tokens, after
    -- which the second ones remain: with its values replaced by the numbers that they mean, it is
    -- the left side that the prefix means; reading goes from the first state to the second
    abbrev pub IsTarget : ExpressionState → ExpressionState → Tokens → Tokens → Target F → Type 0
    IsTarget = IsRead limit source TargetPart (λ names labels tree part. meant_target value part ≡ trees.target source names labels tree)
