use Rattle.std.proofs.Common.{length, ◌-◌}
use Rattle.gms_parse.proofs.TableSteps.{SomeLines}
use Rattle.gms_parse.proofs.reader.Reader.table_lines.Given as goal

abbrev pub invariant-loop-token : goal.invariant-loop-token
invariant-loop-token l = SomeLines l.self l.at l.lines.items l.next

abbrev pub decreases-loop-token : goal.decreases-loop-token
decreases-loop-token l = length l.self.tokens.now - l.next
