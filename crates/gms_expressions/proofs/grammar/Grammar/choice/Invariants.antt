use Rattle.std.proofs.Common.{length, ◌-◌}
use Rattle.gms_ast.specs.Trees.{one_of}
use Rattle.gms_grammar.specs.Grammar.{the, ◌·◌}
use Rattle.gms_grammar.specs.GamsGrammar.{Expression, Conjunction, token}
use Rattle.gms_grammar.specs.declared.terminal.Terminal.TheVariants.{Or}
use Rattle.gms_expressions.specs.ExpressionTrees.{expression, choices}
use Rattle.gms_expressions.specs.InnerNodes.{chosen_views}
use Rattle.gms_expressions.proofs.Chains.{Chain}
use Rattle.gms_expressions.proofs.grammar.Grammar.choice.Given as goal

abbrev pub invariant-loop-word : goal.invariant-loop-word
invariant-loop-word g l =
    Chain g.F.ExactField.limit (the Expression) (token Or · the Conjunction) expression choices one_of (chosen_views g.F.ExactField.value l.parts.items) l.self.reader l.at l.fn.tables l.tables l.next

abbrev pub decreases-loop-word : goal.decreases-loop-word
decreases-loop-word g l = length l.self.reader.tokens.now - l.next
