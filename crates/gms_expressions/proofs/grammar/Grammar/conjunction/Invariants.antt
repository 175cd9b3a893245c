use Rattle.std.proofs.Common.{length, ◌-◌}
use Rattle.gms_ast.specs.Trees.{all_of}
use Rattle.gms_grammar.specs.Grammar.{the, ◌·◌}
use Rattle.gms_grammar.specs.GamsGrammar.{Conjunction, Negation, token}
use Rattle.gms_grammar.specs.declared.terminal.Terminal.TheVariants.{And}
use Rattle.gms_expressions.specs.ExpressionTrees.{conjunction, conjuncts}
use Rattle.gms_expressions.specs.InnerNodes.{plain_views}
use Rattle.gms_expressions.proofs.Chains.{Chain}
use Rattle.gms_expressions.proofs.grammar.Grammar.conjunction.Given as goal

abbrev pub invariant-loop-following : goal.invariant-loop-following
invariant-loop-following g l =
    Chain g.F.ExactField.limit (the Conjunction) (token And · the Negation) conjunction conjuncts all_of (plain_views g.F.ExactField.value l.parts.items) l.self.reader l.at l.fn.tables l.tables l.next

abbrev pub decreases-loop-following : goal.decreases-loop-following
decreases-loop-following g l = length l.self.reader.tokens.now - l.next
