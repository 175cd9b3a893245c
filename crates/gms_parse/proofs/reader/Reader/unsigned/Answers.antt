use Rattle.std.proofs.Common.{refl}
use Rattle.gms_expressions.proofs.Signs.{handed_on}
use Rattle.gms_parse.proofs.Entering.{number_refused}
use Rattle.gms_parse.proofs.Values.{infinity_got, numeral_got, numeral_lacking}
use Rattle.gms_parse.proofs.reader.Reader.unsigned.Goals as goal

pub returns-in-Some : goal.returns-in-Some
returns-in-Some g c tables read_state h = infinity_got g.F.ExactField.value c.in-Some.ensures h

pub returns-in_err-token : goal.returns-in_err-token
returns-in_err-token g c tables read_state h = handed_on _ _ c.from_residual.result _ c.from_residual.ensures.1 (numeral_lacking c.in_default.ensures c.in_err-token.ensures)

pub returns-in_err-number : goal.returns-in_err-number
returns-in_err-number g c tables read_state h = handed_on _ _ c.from_residual-in_err-number.result _ c.from_residual-in_err-number.ensures.1 (number_refused c.in_ok-token.ensures refl c.in_err-number.ensures)

pub returns : goal.returns
returns g c tables read_state h = numeral_got g.F.ExactField.value c.in_ok-number.number c.in_ok-token.ensures c.in_ok-number.ensures h
