use Rattle.std.proofs.Common.{◌≡◌, true, [], length, ◌-◌}
use Rattle.gms_grammar.specs.Reading.{leads}
use Rattle.gms_grammar.specs.GamsGrammar.{productions, token}
use Rattle.gms_grammar.specs.GamsLookAhead.{look_ahead}
use Rattle.gms_grammar.specs.declared.terminal.Terminal.TheVariants.{Dollar}
use Rattle.gms_expressions.specs.InnerNodes.{view, plain_views}
use Rattle.gms_expressions.specs.InnerReadings.{seen_from}
use Rattle.gms_expressions.proofs.Sums.{Guards}
use Rattle.gms_expressions.proofs.grammar.Grammar.guarded.Given as goal

abbrev pub invariant-loop-following : goal.invariant-loop-following
invariant-loop-following g l =
    Guards g.F.ExactField.limit (view g.F.ExactField.value l.operand.value) (plain_views g.F.ExactField.value l.guards.items) l.self.reader l.at l.fn.tables l.tables l.next
    × (l.guards.items ≡ [] → leads productions look_ahead (token Dollar) (seen_from l.self.reader l.next) ≡ true)

abbrev pub decreases-loop-following : goal.decreases-loop-following
decreases-loop-following g l = length l.self.reader.tokens.now - l.next
