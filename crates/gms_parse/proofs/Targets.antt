-- What is assigned, as the crate that reads expressions means it.
use Rattle.std.proofs.Common.{◌≡◌, ℕ, List, ap}
use Rattle.gq_number.specs.Number.{Number}
use Rattle.gms_ast.specs.Trees.{Tree as Syntax, reference}
use Rattle.gms_ast.specs.StatementTrees.{Target}
use Rattle.gms_grammar.specs.Grammar.{the, pair, node, IsTree}
use Rattle.gms_grammar.specs.GamsGrammar.{Target as TargetPart, productions}
use Rattle.gms_expressions.specs.ExpressionTrees as trees
use Rattle.gms_parse.specs.Statements.{target_in}
use Rattle.gms_parse.specs.InnerReadings.{Derivation}

-- a reference, as a target
abbrev to_target : Target Number → Syntax Number → Target Number
to_target other (reference at name suffix indices) = record { at = at; name = name; suffix = suffix; indices = indices }
to_target other _ = other

module _ (source : List ℕ) (names labels : List (List ℕ)) where
  pub target_is : (target : Target Number) (tree : Derivation) → IsTree productions (the TargetPart) tree → reference target.at target.name target.suffix target.indices ≡ trees.target source names labels tree → target ≡ target_in source names labels tree
  target_is target (node (pair word (pair dotted indices))) k h = ap (to_target target) h
  target_is target (node (pair word _)) k h = absurd k.1
  target_is target (node _) k h = absurd k
  target_is target _ k h = absurd k
