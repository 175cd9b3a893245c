use Rattle.std.proofs.Common.{length, ◌-◌}
use Rattle.gms_parse.specs.ReadStates.{ReaderState}
use Rattle.gms_ast.specs.StatementView.{declared_in}
use Rattle.gms_parse.specs.InnerReadings.{Starts, Tableless}
use Rattle.gms_parse.specs.InnerMeanings.{item_meaning, items_part}
use Rattle.gms_parse.proofs.Itemized.{Itemizing}
use Rattle.gms_parse.proofs.reader.Reader.items.Given as goal

abbrev pub invariant-loop-following : goal.invariant-loop-following
invariant-loop-following g l = (read_state : ReaderState) → Starts l.self l.fn.tables read_state → Tableless read_state → Itemizing g.F.ExactField.limit (declared_in g.F.ExactField.value) (λ sense. item_meaning l.form l.self.source.now sense.names sense.labels) (items_part l.form) l.self l.at read_state l.tables l.items.items l.next

abbrev pub decreases-loop-following : goal.decreases-loop-following
decreases-loop-following g l = length l.self.tokens.now - l.next
