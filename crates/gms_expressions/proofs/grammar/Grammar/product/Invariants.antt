use Rattle.std.proofs.Common.{length, ◌-◌, [], ◌∷◌}
use Rattle.gms_ast.specs.Trees.{product}
use Rattle.gms_grammar.specs.Grammar.{the, ◌·◌, opt}
use Rattle.gms_grammar.specs.GamsGrammar.{Product, PowerTerm, token, any_of}
use Rattle.gms_grammar.specs.declared.terminal.Terminal.TheVariants.{Star, Slash, Sign}
use Rattle.gms_expressions.specs.ExpressionTrees.{product_tree, factors}
use Rattle.gms_expressions.specs.InnerNodes.{signed_views}
use Rattle.gms_expressions.proofs.Chains.{Chain}
use Rattle.gms_expressions.proofs.grammar.Grammar.product.Given as goal

abbrev pub invariant-loop-operator : goal.invariant-loop-operator
invariant-loop-operator g l =
    Chain g.F.ExactField.limit (the Product) (any_of (Star ∷ Slash ∷ []) · opt (token Sign) · the PowerTerm) product_tree factors product (signed_views g.F.ExactField.value l.parts.items) l.self.reader l.at l.fn.tables l.tables l.next

abbrev pub decreases-loop-operator : goal.decreases-loop-operator
decreases-loop-operator g l = length l.self.reader.tokens.now - l.next
