use Rattle.std.proofs.Common.{refl}
use Rattle.gms_grammar.specs.declared.terminal.Terminal.TheVariants.{Equals}
use Rattle.gms_expressions.proofs.Signs.{answered}
use Rattle.gms_parse.proofs.Values.{equals_got, equals_refused, no_equals_got, no_equals_refused}
use Rattle.gms_parse.proofs.Nexts.{kind_stays}
use Rattle.gms_parse.proofs.reader.Reader.entry_value.Goals as goal

pub returns-in-Some : goal.returns-in-Some
returns-in-Some g c tables read_state h = answered c.value.result (c.value.ensures tables _ (kind_stays Equals c.in-Some.ensures refl h).has) (λ r got. equals_got g.F.ExactField.value h c.in-Some.ensures got) (λ e r. equals_refused c.in-Some.ensures r)

pub returns-in-None : goal.returns-in-None
returns-in-None g c tables read_state h = answered c.value-in-None.result (c.value-in-None.ensures tables read_state h) (λ r got. no_equals_got g.F.ExactField.value c.in-None.ensures got) (λ e r. no_equals_refused c.in-None.ensures r)
