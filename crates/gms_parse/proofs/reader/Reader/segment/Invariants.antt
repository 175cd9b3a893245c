use Rattle.std.proofs.Common.{length, ◌-◌}
use Rattle.gms_parse.specs.ReadStates.{ReaderState}
use Rattle.gms_parse.specs.InnerReadings.{Starts, Tableless}
use Rattle.gms_parse.proofs.Segments.{Segmenting}
use Rattle.gms_parse.proofs.reader.Reader.segment.Given as goal

abbrev pub invariant-loop-tables : goal.invariant-loop-tables
invariant-loop-tables g l = (read_state : ReaderState) → Starts l.self l.fn.tables read_state → Tableless read_state → Segmenting g.F.ExactField.limit g.F.ExactField.value l.self l.at read_state l.fn.statements.items l.tables l.statements.items l.next

abbrev pub decreases-loop-tables : goal.decreases-loop-tables
decreases-loop-tables g l = length l.self.tokens.now - l.next
