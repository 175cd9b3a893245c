use Rattle.std.proofs.Common.{length, ◌-◌}
use Rattle.gms_ast.specs.Trees.{sum}
use Rattle.gms_grammar.specs.Grammar.{the, ◌·◌}
use Rattle.gms_grammar.specs.GamsGrammar.{Sum, Product, token}
use Rattle.gms_grammar.specs.declared.terminal.Terminal.TheVariants.{Sign}
use Rattle.gms_expressions.specs.ExpressionTrees.{sum_tree, terms}
use Rattle.gms_expressions.specs.InnerNodes.{signed_views}
use Rattle.gms_expressions.proofs.Chains.{Chain}
use Rattle.gms_expressions.proofs.grammar.Grammar.sum.Given as goal

abbrev pub invariant-loop-sign : goal.invariant-loop-sign
invariant-loop-sign g l =
    Chain g.F.ExactField.limit (the Sum) (token Sign · the Product) sum_tree terms sum (signed_views g.F.ExactField.value l.parts.items) l.self.reader l.at l.fn.tables l.tables l.next

abbrev pub decreases-loop-sign : goal.decreases-loop-sign
decreases-loop-sign g l = length l.self.reader.tokens.now - l.next
