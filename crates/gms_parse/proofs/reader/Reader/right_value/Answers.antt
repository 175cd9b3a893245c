use Rattle.std.proofs.Common.{refl}
use Rattle.gms_grammar.specs.declared.terminal.Terminal.TheVariants.{Equals}
use Rattle.gms_expressions.proofs.Signs.{handed_on}
use Rattle.gms_parse.proofs.Ends.{after_within}
use Rattle.gms_parse.proofs.Steps.{refuses_first, refuses_second}
use Rattle.gms_parse.proofs.Nexts.{gives_exact, plain_starts, kind_stays, tableless_on, refuses_lacking}
use Rattle.gms_parse.proofs.Assigning.{right_value_got}
use Rattle.gms_parse.proofs.reader.Reader.right_value.Goals as goal

pub returns-in_err-right : goal.returns-in_err-right
returns-in_err-right g c read_state s other = handed_on _ _ c.from_residual.result _ c.from_residual.ensures.1 (refuses_first (refuses_lacking c.in_err-right.ensures))

pub expression-requires-clause-within : goal.expression-requires-clause-within
expression-requires-clause-within g c = after_within Equals c.requires c.in_ok-right.ensures.next refl

pub returns-in_err-value : goal.returns-in_err-value
returns-in_err-value g c read_state s other =
    let n = c.in_ok-right.ensures.next in
    let k = kind_stays Equals n refl s.has in
    handed_on _ _ c.from_residual-in_err-value.result _ c.from_residual-in_err-value.ensures.1
    (refuses_second (gives_exact {kind = Equals} n refl) (c.in_err-value.ensures _ (plain_starts c.args.self.now read_state Equals c.in_ok-right.ensures.token c.in_ok-right.right refl refl s.has s.optionless) (tableless_on k.keyword other)))

pub returns : goal.returns
returns g c read_state s other =
    let n = c.in_ok-right.ensures.next in
    let k = kind_stays Equals n refl s.has in
    right_value_got g.F.ExactField.value s.has n c.place.ensures
    (c.in_ok-value.ensures _ (plain_starts c.args.self.now read_state Equals c.in_ok-right.ensures.token c.in_ok-right.right refl refl s.has s.optionless) (tableless_on k.keyword other))
