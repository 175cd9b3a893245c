use Rattle.std.proofs.Common.{ℕ, length, ◌-◌}
use Rattle.gms_grammar.specs.Grammar.{the}
use Rattle.gms_grammar.specs.GamsGrammar.{DomainPosition}
use Rattle.gms_grammar.specs.Terminals.{is}
use Rattle.gms_grammar.specs.declared.terminal.Terminal.TheVariants.{Comma}
use Rattle.gms_parse.specs.ReadStates.{ReaderState}
use Rattle.gms_parse.specs.InnerReadings.{Starts}
use Rattle.gms_parse.specs.InnerMeanings.{IsPosition}
use Rattle.gms_parse.proofs.Listing.{Listing}
use Rattle.gms_parse.proofs.reader.Reader.domain.Given as goal

abbrev pub invariant-loop-following : goal.invariant-loop-following
invariant-loop-following l = (limit : ℕ) (read_state : ReaderState) → Starts l.inner l.fn.tables read_state → Listing limit (IsPosition l.inner.source.now) (is Comma) (the DomainPosition) l.inner l.start read_state l.tables l.positions.items l.next

abbrev pub decreases-loop-following : goal.decreases-loop-following
decreases-loop-following l = length l.inner.tokens.now - l.next
