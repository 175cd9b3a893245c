use Rattle.std.proofs.Common.{length, ◌-◌, ◌+◌}
use Rattle.gms_expressions.specs.InnerNodes.{plain_views}
use Rattle.gms_expressions.specs.InnerReadings.{inside}
use Rattle.gms_expressions.proofs.Lists.{Arguments}
use Rattle.gms_expressions.proofs.grammar.Grammar.arguments.Given as goal

abbrev pub invariant-loop-following : goal.invariant-loop-following
invariant-loop-following g l = Arguments g.F.ExactField.limit (plain_views g.F.ExactField.value l.args.items) (inside l.self.reader (l.self.reader.unclosed + 1)) l.start l.fn.tables l.tables l.next

abbrev pub decreases-loop-following : goal.decreases-loop-following
decreases-loop-following g l = length l.self.reader.tokens.now - l.next
