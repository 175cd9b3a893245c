use Rattle.gms_expressions.proofs.Signs.{handed_on}
use Rattle.std.proofs.Common.{refl}
use Rattle.gms_grammar.specs.GamsGrammar.{Setting}
use Rattle.gms_parse.proofs.Steps.{refuses_the, refuses_first, refuses_second}
use Rattle.gms_parse.proofs.Nexts.{refuses_lacking}
use Rattle.gms_parse.proofs.Acts.{option_nameless, equals_stays, equals_nameless, setting_number, setting_number_refused, setting_word, setting_word_refused}
use Rattle.gms_parse.proofs.reader.Reader.setting.Goals as goal

pub returns-in_err-option : goal.returns-in_err-option
returns-in_err-option g c tables read_state h k = handed_on _ _ c.from_residual.result _ c.from_residual.ensures.1 (refuses_the Setting (refuses_first (c.in_err-option.ensures g.F.ExactField.limit tables read_state h (option_nameless read_state read_state refl k))))

pub returns-in_err-next : goal.returns-in_err-next
returns-in_err-next g c tables read_state h k =
    let o = c.in_ok-option.ensures g.F.ExactField.limit tables read_state h (option_nameless read_state read_state refl k) in
    handed_on _ _ c.from_residual-in_err-next.result _ c.from_residual-in_err-next.ensures.1 (refuses_the Setting (refuses_second o.gives (refuses_first (refuses_lacking c.in_err-next.ensures))))

pub returns-in_err-value : goal.returns-in_err-value
returns-in_err-value g c tables read_state h k =
    let o = c.in_ok-option.ensures g.F.ExactField.limit tables read_state h (option_nameless read_state read_state refl k) in
    handed_on _ _ c.from_residual-in_err-value.result _ c.from_residual-in_err-value.ensures.1 (setting_number_refused g.F.ExactField.value o c.in_ok-next.ensures.next c.in-Some.ensures c.in_err-value.ensures)

pub returns-in-Some : goal.returns-in-Some
returns-in-Some g c tables read_state h k =
    let o = c.in_ok-option.ensures g.F.ExactField.limit tables read_state h (option_nameless read_state read_state refl k) in
    setting_number g.F.ExactField.value o c.in_ok-next.ensures.next c.in-Some.ensures c.in_ok-value.ensures

pub returns-in_err-name : goal.returns-in_err-name
returns-in_err-name g c tables read_state h k =
    let o = c.in_ok-option.ensures g.F.ExactField.limit tables read_state h (option_nameless read_state read_state refl k) in
    let s = equals_stays g.F.ExactField.value o c.in_ok-next.ensures.next in
    handed_on _ _ c.from_residual-in_err-name.result _ c.from_residual-in_err-name.ensures.1
    (setting_word_refused g.F.ExactField.value o c.in_ok-next.ensures.next c.in_default.ensures (c.in_err-name.ensures g.F.ExactField.limit tables _ s.has (equals_nameless g.F.ExactField.value o c.in_ok-next.ensures.next k)))

pub returns : goal.returns
returns g c tables read_state h k =
    let o = c.in_ok-option.ensures g.F.ExactField.limit tables read_state h (option_nameless read_state read_state refl k) in
    let s = equals_stays g.F.ExactField.value o c.in_ok-next.ensures.next in
    setting_word g.F.ExactField.value o c.in_ok-next.ensures.next c.in_default.ensures (c.in_ok-name.ensures g.F.ExactField.limit tables _ s.has (equals_nameless g.F.ExactField.value o c.in_ok-next.ensures.next k))
