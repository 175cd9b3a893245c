use Rattle.std.proofs.Common.{◌≡◌, ℕ, true, length, ◌-◌, [], ◌∷◌}
use Rattle.gms_grammar.specs.Grammar.{the}
use Rattle.gms_grammar.specs.GamsGrammar.{Shown}
use Rattle.gms_grammar.specs.Terminals.{is, is_terminal_among}
use Rattle.gms_grammar.specs.declared.terminal.Terminal.TheVariants.{Comma, Display, Abort}
use Rattle.gms_parse.specs.ReadStates.{ReaderState}
use Rattle.gms_parse.specs.InnerReadings.{Starts}
use Rattle.gms_parse.specs.InnerMeanings.{IsShown}
use Rattle.gms_parse.proofs.Listing.{Listing}
use Rattle.gms_parse.proofs.reader.Reader.shown_list.Given as goal

abbrev pub invariant-loop-following : goal.invariant-loop-following
invariant-loop-following l = (limit : ℕ) (read_state : ReaderState) → Starts l.self l.fn.tables read_state → is_terminal_among (Display ∷ Abort ∷ []) read_state.keyword ≡ true → read_state.level ≡ read_state.open_count → Listing limit (IsShown l.self.source.now) (is Comma) (the Shown) l.self l.at read_state l.tables l.items.items l.next

abbrev pub decreases-loop-following : goal.decreases-loop-following
decreases-loop-following l = length l.self.tokens.now - l.next
