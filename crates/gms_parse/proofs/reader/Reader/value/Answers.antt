use Rattle.gms_expressions.proofs.Signs.{handed_on}
use Rattle.gms_parse.proofs.Values.{not_available_got, value_got, value_refused}
use Rattle.gms_parse.proofs.reader.Reader.value.Goals as goal

pub returns-in-Some : goal.returns-in-Some
returns-in-Some g c tables read_state h = not_available_got g.F.ExactField.value c.in-Some.ensures h

pub returns-in_err-value : goal.returns-in_err-value
returns-in_err-value g c tables read_state h =
    let s = c.sign-minus.ensures g.F.ExactField.limit tables read_state h in
    handed_on _ _ c.from_residual.result _ c.from_residual.ensures.1 (value_refused c.in_default.ensures s.gives (c.in_err-value.ensures tables s.following s.leaves.has))

pub returns : goal.returns
returns g c tables read_state h =
    let s = c.sign-minus.ensures g.F.ExactField.limit tables read_state h in
    value_got g.F.ExactField.value c.in_default.ensures s (c.in_ok-value.ensures tables s.following s.leaves.has) c.signed.ensures
