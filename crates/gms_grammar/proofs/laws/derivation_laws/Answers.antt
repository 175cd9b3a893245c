-- The laws of derivations.
use Rattle.gms_grammar.specs.Grammar.{the}
use Rattle.gms_grammar.specs.GamsGrammar.{productions}
use Rattle.gms_grammar.proofs.Stopping.{stops_once}
use Rattle.gms_grammar.proofs.Language.{gams_unique, gams_stops}
use Rattle.gms_grammar.proofs.laws.derivation_laws.Goals as goal

pub returns : goal.returns
returns g c = record { one_tree = gams_unique; stops = gams_stops; stops_once = λ n. stops_once productions (the n) }
