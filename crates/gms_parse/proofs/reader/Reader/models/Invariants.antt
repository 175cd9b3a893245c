use Rattle.std.proofs.Common.{ℕ, length, ◌-◌}
use Rattle.gms_grammar.specs.GamsGrammar.{ModelItems}
use Rattle.gms_parse.specs.ReadStates.{ReaderState}
use Rattle.gms_parse.specs.InnerReadings.{Starts}
use Rattle.gms_parse.proofs.Itemized.{Itemizing}
use Rattle.gms_parse.proofs.Models.{model_meaning}
use Rattle.gms_parse.proofs.reader.Reader.models.Given as goal

abbrev pub invariant-loop-following : goal.invariant-loop-following
invariant-loop-following g l = (limit : ℕ) (read_state : ReaderState) → Starts l.self l.fn.tables read_state → Itemizing limit (λ x. x) (model_meaning l.self.source.now) ModelItems l.self l.start read_state l.tables l.models.items l.next

abbrev pub decreases-loop-following : goal.decreases-loop-following
decreases-loop-following g l = length l.self.tokens.now - l.next
