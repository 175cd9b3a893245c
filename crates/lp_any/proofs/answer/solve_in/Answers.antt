use Rattle.std.proofs.Common.{arith}
use Rattle.lp_any.proofs.Each.{none_before, one_more, in_turn, in_turn_if_ok, all_if_ok, bland_if_ok}
use Rattle.lp_any.proofs.answer.solve_in.Goals as goal

pub loop-place-init : goal.loop-place-init
loop-place-init g c = none_before g.F.ExactField.value g.F.ExactField.limit c.args.lp.now c.args.iterlim

pub loop-place-preserved : goal.loop-place-preserved
loop-place-preserved g c =
    one_more g.F.ExactField.value g.F.ExactField.limit c.args.lp.now c.args.iterlim c.loop-place.place c.rule_at.result c.in_ok-answer.answer c.is_refused.result c.loop-place.invariant c.rule_at.ensures c.in_ok-answer.ensures.answer c.is_refused.ensures c.if-not-is_refused.false

pub returns-then-not-is_refused-clause-in_turn : goal.returns-then-not-is_refused-clause-in_turn
returns-then-not-is_refused-clause-in_turn g c =
    in_turn g.F.ExactField.value g.F.ExactField.limit c.args.lp.now c.args.iterlim c.loop-place.place c.rule_at.result c.in_ok-answer.answer (omega arith) c.loop-place.invariant c.rule_at.ensures c.in_ok-answer.ensures.answer

pub returns-clause-in_turn : goal.returns-clause-in_turn
returns-clause-in_turn g c = in_turn_if_ok g.F.ExactField.value g.F.ExactField.limit c.args.lp.now c.args.iterlim (λ place less. c.loop-place.invariant place (omega arith)) c.answer_of-2.result c.answer_of-2.ensures.answer

pub returns-clause-refused : goal.returns-clause-refused
returns-clause-refused g c = all_if_ok g.F.ExactField.value g.F.ExactField.limit c.args.lp.now c.args.iterlim (λ place less. c.loop-place.invariant place (omega arith)) c.answer_of-2.result c.answer_of-2.ensures.answer

pub returns-clause-by_bland : goal.returns-clause-by_bland
returns-clause-by_bland g c = bland_if_ok g.F.ExactField.value g.F.ExactField.limit c.args.lp.now c.args.iterlim c.answer_of-2.result c.answer_of-2.ensures.answer
