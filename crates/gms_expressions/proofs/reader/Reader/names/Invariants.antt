use Rattle.std.proofs.Common.{ℕ, length, ◌-◌}
use Rattle.gms_expressions.proofs.Lists.{Names}
use Rattle.gms_expressions.proofs.reader.Reader.names.Given as goal

abbrev pub invariant-loop-following : goal.invariant-loop-following
invariant-loop-following l = (limit : ℕ) → Names limit l.names.items l.self l.at l.fn.tables l.tables l.next

abbrev pub decreases-loop-following : goal.decreases-loop-following
decreases-loop-following l = length l.self.tokens.now - l.next
