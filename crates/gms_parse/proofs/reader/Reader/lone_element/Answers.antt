use Rattle.gms_expressions.proofs.Signs.{handed_on}
use Rattle.gms_parse.proofs.Items.{lone_item}
use Rattle.gms_parse.proofs.reader.Reader.lone_element.Goals as goal

pub returns-in_err-element : goal.returns-in_err-element
returns-in_err-element g c read_state h clean other = handed_on _ _ c.from_residual.result _ c.from_residual.ensures.1 (c.in_err-element.ensures g.F.ExactField.limit read_state h clean other)

pub returns : goal.returns
returns g c read_state h clean other = lone_item g.F.ExactField.value _ _ c.item_of.ensures (c.in_ok-element.ensures g.F.ExactField.limit read_state h clean other)
