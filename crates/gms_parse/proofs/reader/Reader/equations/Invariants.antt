use Rattle.std.proofs.Common.{ℕ, length, ◌-◌, [], ◌∷◌}
use Rattle.gms_grammar.specs.GamsGrammar.{name}
use Rattle.gms_grammar.specs.Terminals.{is_terminal_among}
use Rattle.gms_grammar.specs.declared.terminal.Terminal.TheVariants.{Comma, Break}
use Rattle.gms_parse.specs.ReadStates.{ReaderState}
use Rattle.gms_parse.specs.InnerReadings.{Starts}
use Rattle.gms_parse.specs.InnerMeanings.{IsNamed}
use Rattle.gms_parse.proofs.Listing.{Listing}
use Rattle.gms_parse.proofs.reader.Reader.equations.Given as goal

abbrev pub invariant-loop-following : goal.invariant-loop-following
invariant-loop-following l = (limit : ℕ) (read_state : ReaderState) → Starts l.self l.fn.tables read_state → Listing limit (IsNamed l.self.source.now) (is_terminal_among (Comma ∷ Break ∷ [])) name l.self l.at read_state l.tables l.equations.items l.next

abbrev pub decreases-loop-following : goal.decreases-loop-following
decreases-loop-following l = length l.self.tokens.now - l.next
