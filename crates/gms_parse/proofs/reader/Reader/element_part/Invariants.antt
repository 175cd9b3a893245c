use Rattle.std.proofs.Common.{ℕ, length, ◌-◌}
use Rattle.gms_parse.specs.ReadStates.{ReaderState}
use Rattle.gms_parse.specs.InnerReadings.{Has, Starless, Tableless}
use Rattle.gms_parse.proofs.Elements.{Gathering}
use Rattle.gms_parse.proofs.reader.Reader.element_part.Given as goal

abbrev pub invariant-loop-following : goal.invariant-loop-following
invariant-loop-following l = (limit : ℕ) (read_state : ReaderState) → Has l.inner l.fn.tables read_state → Starless read_state → Tableless read_state → Gathering limit l.inner l.start read_state l.tables l.part l.next

abbrev pub decreases-loop-following : goal.decreases-loop-following
decreases-loop-following l = length l.inner.tokens.now - l.next
