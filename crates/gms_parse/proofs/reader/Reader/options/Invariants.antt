use Rattle.std.proofs.Common.{◌≡◌, true, length, ◌-◌}
use Rattle.gms_grammar.specs.Grammar.{the}
use Rattle.gms_grammar.specs.GamsGrammar.{Setting}
use Rattle.gms_grammar.specs.Terminals.{is}
use Rattle.gms_grammar.specs.declared.terminal.Terminal.TheVariants.{Comma, Option}
use Rattle.gms_parse.specs.declared.reader.Tables.{Tables}
use Rattle.gms_parse.specs.ReadStates.{ReaderState}
use Rattle.gms_parse.specs.InnerReadings.{Has}
use Rattle.gms_parse.specs.InnerMeanings.{IsSetting}
use Rattle.gms_parse.proofs.Listing.{Listing}
use Rattle.gms_parse.proofs.reader.Reader.options.Given as goal

abbrev pub invariant-loop-following : goal.invariant-loop-following
invariant-loop-following g l = (tables : Tables) (read_state : ReaderState) → Has l.self tables read_state → is Option read_state.keyword ≡ true → Listing g.F.ExactField.limit (IsSetting g.F.ExactField.value l.self.source.now) (is Comma) (the Setting) l.self l.start read_state tables l.settings.items l.next

abbrev pub decreases-loop-following : goal.decreases-loop-following
decreases-loop-following g l = length l.self.tokens.now - l.next
