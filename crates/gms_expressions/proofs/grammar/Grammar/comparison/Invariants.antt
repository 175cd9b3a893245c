use Rattle.std.proofs.Common.{length, ◌-◌, [], ◌∷◌}
use Rattle.gms_ast.specs.Trees.{relation}
use Rattle.gms_grammar.specs.Grammar.{the, ◌·◌}
use Rattle.gms_grammar.specs.GamsGrammar.{Comparison, Sum, any_of}
use Rattle.gms_grammar.specs.declared.terminal.Terminal.TheVariants.{Relation, RelationWord, Equals}
use Rattle.gms_expressions.specs.ExpressionTrees.{comparison_tree, relations}
use Rattle.gms_expressions.specs.InnerNodes.{related_views}
use Rattle.gms_expressions.proofs.Chains.{Chain}
use Rattle.gms_expressions.proofs.grammar.Grammar.comparison.Given as goal

abbrev pub invariant-loop-word : goal.invariant-loop-word
invariant-loop-word g l =
    Chain g.F.ExactField.limit (the Comparison) (any_of (Relation ∷ RelationWord ∷ Equals ∷ []) · the Sum) comparison_tree relations relation (related_views g.F.ExactField.value l.parts.items) l.self.reader l.at l.fn.tables l.tables l.next

abbrev pub decreases-loop-word : goal.decreases-loop-word
decreases-loop-word g l = length l.self.reader.tokens.now - l.next
