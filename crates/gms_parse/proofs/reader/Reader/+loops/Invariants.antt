use Rattle.std.proofs.Common.{length, ◌-◌, ◌+◌, ◌*◌}
use Rattle.gms_parse.specs.ReadStates.{ReaderState}
use Rattle.gms_parse.specs.InnerReadings.{Starts, Tableless}
use Rattle.gms_parse.proofs.Looped.{Bodying}
use Rattle.gms_parse.proofs.reader.Reader.+loops.Given as goal

abbrev pub decreases-loop_statement : goal.decreases-loop_statement
decreases-loop_statement g l = (100 - l.self.now.unclosed) * 5

abbrev pub decreases-act : goal.decreases-act
decreases-act g l = (100 - l.self.now.unclosed) * 5 + 1

abbrev pub decreases-inner_act : goal.decreases-inner_act
decreases-inner_act g l = (100 - l.self.now.unclosed) * 5 + 2

abbrev pub decreases-inner_statement : goal.decreases-inner_statement
decreases-inner_statement g l = (100 - l.self.now.unclosed) * 5 + 3

abbrev pub decreases-loop_body : goal.decreases-loop_body
decreases-loop_body g l = (100 - l.self.now.unclosed) * 5 + 4

abbrev pub invariant-loop_body-loop-following : goal.invariant-loop_body-loop-following
invariant-loop_body-loop-following g l = (read_state : ReaderState) → Starts l.self l.fn.tables read_state → Tableless read_state → Bodying g.F.ExactField.limit g.F.ExactField.value l.self l.at read_state l.tables l.body.items l.next

abbrev pub decreases-loop_body-loop-following : goal.decreases-loop_body-loop-following
decreases-loop_body-loop-following g l = length l.self.tokens.now - l.next
