use Rattle.std.proofs.Common.{length, ◌-◌}
use Rattle.gms_parse.proofs.Wholes.{Whole}
use Rattle.gms_parse.proofs.reader.Reader.program.Given as goal

abbrev pub invariant-loop-following : goal.invariant-loop-following
invariant-loop-following g l = Whole g.F.ExactField.limit g.F.ExactField.value l.self l.tables l.statements.items l.next

abbrev pub decreases-loop-following : goal.decreases-loop-following
decreases-loop-following g l = length l.self.tokens.now - l.next
