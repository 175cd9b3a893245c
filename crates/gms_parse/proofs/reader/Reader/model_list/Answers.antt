use Rattle.gms_expressions.proofs.Signs.{handed_on}
use Rattle.gms_parse.proofs.Models.{list_none, list_all, list_all_open, list_starts, list_named, list_unnamed, list_named_open}
use Rattle.gms_parse.proofs.reader.Reader.model_list.Goals as goal

pub returns-in_default : goal.returns-in_default
returns-in_default c limit read_state h o = list_none _ c.new-none.ensures.items c.in_default.ensures h

pub returns-in_err-following : goal.returns-in_err-following
returns-in_err-following c limit read_state h o = handed_on _ _ c.from_residual.result _ c.from_residual.ensures.1 (list_all_open c.in-Some.ensures c.in-Some-take_if.ensures c.in_err-following.ensures)

pub returns-in-Some-take_if : goal.returns-in-Some-take_if
returns-in-Some-take_if c limit read_state h o = list_all c.in-Some.ensures h _ c.new-none.ensures.items c.in-Some-take_if.ensures c.in_ok-following.ensures.next

pub returns-in_err-equations : goal.returns-in_err-equations
returns-in_err-equations c limit read_state h o =
    handed_on _ _ c.from_residual-in_err-equations.result _ c.from_residual-in_err-equations.ensures.1
    (list_unnamed c.in-Some.ensures c.in_default-take_if.ensures (c.in_err-equations.ensures limit _ (list_starts c.in-Some.ensures h o)))

pub returns-in_err-following-2 : goal.returns-in_err-following-2
returns-in_err-following-2 c limit read_state h o =
    let e = c.in_ok-equations.ensures limit _ (list_starts c.in-Some.ensures h o) in
    handed_on _ _ c.from_residual-in_err-following-2.result _ c.from_residual-in_err-following-2.ensures.1
    (list_named_open c.in-Some.ensures c.in_default-take_if.ensures e.gives c.in_err-following-2.ensures)

pub returns : goal.returns
returns c limit read_state h o = list_named c.in-Some.ensures h c.in_default-take_if.ensures (c.in_ok-equations.ensures limit _ (list_starts c.in-Some.ensures h o)) c.in_ok-following-2.ensures.next
