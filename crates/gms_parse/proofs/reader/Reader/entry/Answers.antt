use Rattle.gms_grammar.specs.GamsGrammar.{Entry}
use Rattle.gms_expressions.proofs.Signs.{handed_on}
use Rattle.gms_parse.proofs.Steps.{refuses_the, refuses_first, refuses_second}
use Rattle.gms_parse.proofs.Items.{entry_got}
use Rattle.gms_parse.proofs.reader.Reader.entry.Goals as goal

pub returns-in_err-element : goal.returns-in_err-element
returns-in_err-element g c read_state h clean other = handed_on _ _ c.from_residual.result _ c.from_residual.ensures.1 (refuses_the Entry (refuses_first (c.in_err-element.ensures g.F.ExactField.limit read_state h clean other)))

pub returns-in_err-value : goal.returns-in_err-value
returns-in_err-value g c read_state h clean other =
    let got = c.in_ok-element.ensures g.F.ExactField.limit read_state h clean other in
    handed_on _ _ c.from_residual-in_err-value.result _ c.from_residual-in_err-value.ensures.1 (refuses_the Entry (refuses_second got.gives (c.in_err-value.ensures _ got.following got.leaves.has)))

pub returns : goal.returns
returns g c read_state h clean other =
    let got = c.in_ok-element.ensures g.F.ExactField.limit read_state h clean other in
    entry_got g.F.ExactField.value _ c.in_ok-value.value _ c.item_of.ensures got (c.in_ok-value.ensures _ got.following got.leaves.has)
