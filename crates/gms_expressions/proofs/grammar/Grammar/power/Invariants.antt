use Rattle.std.proofs.Common.{length, ◌-◌}
use Rattle.gms_ast.specs.Trees.{power}
use Rattle.gms_grammar.specs.Grammar.{the, ◌·◌, opt}
use Rattle.gms_grammar.specs.GamsGrammar.{PowerTerm, Guarded, token}
use Rattle.gms_grammar.specs.declared.terminal.Terminal.TheVariants.{Power, Sign}
use Rattle.gms_expressions.specs.ExpressionTrees.{power_of, exponents}
use Rattle.gms_expressions.specs.InnerNodes.{placed_views}
use Rattle.gms_expressions.proofs.Chains.{Chain}
use Rattle.gms_expressions.proofs.grammar.Grammar.power.Given as goal

abbrev pub invariant-loop-following : goal.invariant-loop-following
invariant-loop-following g l =
    Chain g.F.ExactField.limit (the PowerTerm) (token Power · opt (token Sign) · the Guarded) power_of exponents power (placed_views g.F.ExactField.value l.parts.items) l.self.reader l.at l.fn.tables l.tables l.next

abbrev pub decreases-loop-following : goal.decreases-loop-following
decreases-loop-following g l = length l.self.reader.tokens.now - l.next
