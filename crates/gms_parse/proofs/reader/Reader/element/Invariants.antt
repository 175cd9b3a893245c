use Rattle.std.proofs.Common.{ℕ, length, ◌-◌}
use Rattle.gms_parse.specs.ReadStates.{ReaderState}
use Rattle.gms_parse.specs.InnerReadings.{Has, Starless, Tableless}
use Rattle.gms_parse.proofs.Items.{Positions}
use Rattle.gms_parse.proofs.reader.Reader.element.Given as goal

abbrev pub invariant-loop-following : goal.invariant-loop-following
invariant-loop-following l = (limit : ℕ) (read_state : ReaderState) → Has l.self l.fn.tables read_state → Starless read_state → Tableless read_state → Positions limit l.self l.at read_state l.tables l.parts.items l.bad_range l.next

abbrev pub decreases-loop-following : goal.decreases-loop-following
decreases-loop-following l = length l.self.tokens.now - l.next
