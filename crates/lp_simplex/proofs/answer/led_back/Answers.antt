use Rattle.std.proofs.Common.{sym, subst}
use Rattle.lp_std.specs.Last.{IsReadAt, last_value}
use Rattle.lp_dict.specs.Tableau.{dictionary}
use Rattle.lp_simplex.proofs.Answering.{never_crossed, led_back_given, led_back_stopped}
use Rattle.lp_simplex.proofs.answer.led_back.Goals as goal

pub recover-requires-clause-last : goal.recover-requires-clause-last
recover-requires-clause-last g c =
    ((dictionary g.F.ExactField.value c.args.dict.now), c.requires.of_form, subst (IsReadAt (dictionary g.F.ExactField.value c.args.dict.now) c.in_ok-last.last.kind) (sym c.in_ok-last.ensures.read) c.in_ok-last.ensures.kind)

pub returns-in-Ok : goal.returns-in-Ok
returns-in-Ok g c =
    led_back_given g.F.ExactField.value g.F.ExactField.limit c.args.lp.now (dictionary g.F.ExactField.value c.args.dict.now) c.args.enter c.in_ok-last.last.kind (last_value g.F.ExactField.value c.in_ok-last.last) c.in-Ok.end c.in_ok-last.ensures.kind c.in_ok-last.ensures.read (c.in-Ok.ensures.end, c.in-Ok.ensures.all_fit, c.in-Ok.ensures.proved)

pub refused-requires : goal.refused-requires
refused-requires g c =
    never_crossed g.F.ExactField.value g.F.ExactField.limit c.args.lp.now c.in_ok-last.last.kind (last_value g.F.ExactField.value c.in_ok-last.last) c.in-Err.stop c.in-Err.ensures.stop

pub returns : goal.returns
returns g c =
    led_back_stopped g.F.ExactField.value g.F.ExactField.limit c.args.lp.now (dictionary g.F.ExactField.value c.args.dict.now) c.args.enter c.in_ok-last.last.kind (last_value g.F.ExactField.value c.in_ok-last.last) c.in-Err.stop c.in_ok-last.ensures.kind c.in_ok-last.ensures.read c.in-Err.ensures.stop c.refused.result c.refused.ensures
