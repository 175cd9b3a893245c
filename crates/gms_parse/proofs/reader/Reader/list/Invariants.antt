use Rattle.std.proofs.Common.{length, ◌-◌}
use Rattle.gms_grammar.specs.Grammar.{the}
use Rattle.gms_parse.specs.ReadStates.{ReaderState}
use Rattle.gms_parse.specs.InnerReadings.{Has, Starless, Tableless}
use Rattle.gms_parse.specs.InnerMeanings.{IsListed, listed_part}
use Rattle.gms_parse.proofs.Items.{separators}
use Rattle.gms_parse.proofs.Listing.{Listing}
use Rattle.gms_parse.proofs.reader.Reader.list.Given as goal

abbrev pub invariant-loop-following : goal.invariant-loop-following
invariant-loop-following g l = (read_state : ReaderState) → Has l.self l.fn.tables read_state → Starless read_state → Tableless read_state → Listing g.F.ExactField.limit (IsListed g.F.ExactField.value l.self.source.now l.list) separators (the (listed_part l.list)) l.self l.start read_state l.tables l.items.items l.next

abbrev pub decreases-loop-following : goal.decreases-loop-following
decreases-loop-following g l = length l.self.tokens.now - l.next
