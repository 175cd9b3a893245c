use Rattle.std.proofs.Common.{◌∙◌}
use Rattle.lp_simplex.proofs.Answering.{legal_if_ok}
use Rattle.lp_simplex.proofs.Formless.{formless_answers}
use Rattle.lp_core.proofs.Rules.{legal_answer}
use Rattle.lp_simplex.proofs.answer.solve_by.Goals as goal

pub returns-in_ok-formless-in-Err-clause-chosen : goal.returns-in_ok-formless-in-Err-clause-chosen
returns-in_ok-formless-in-Err-clause-chosen g c =
    formless_answers g.F.ExactField.value g.F.ExactField.limit c.args.lp.now c.args.iterlim (g.C.Choosing.chooses (g.C.Choosing.rule c.args.choice.now)) (record { pivots = c.new-in-Err.result; end = c.in_ok-formless-in-Err.field-0 }) (c.new-in-Err.ensures ∙ c.new.ensures.items) c.in_ok-formless-in-Err.ensures

pub returns-in_ok-formless-in-Err-clause-legal : goal.returns-in_ok-formless-in-Err-clause-legal
returns-in_ok-formless-in-Err-clause-legal g c =
    legal_answer g.F.ExactField.value g.F.ExactField.limit c.args.lp.now c.args.iterlim (g.C.Choosing.chooses (g.C.Choosing.rule c.args.choice.now)) (record { pivots = c.new-in-Err.result; end = c.in_ok-formless-in-Err.field-0 }) (g.met.C.Choosing.improving (g.C.Choosing.rule c.args.choice.now))
    (formless_answers g.F.ExactField.value g.F.ExactField.limit c.args.lp.now c.args.iterlim (g.C.Choosing.chooses (g.C.Choosing.rule c.args.choice.now)) (record { pivots = c.new-in-Err.result; end = c.in_ok-formless-in-Err.field-0 }) (c.new-in-Err.ensures ∙ c.new.ensures.items) c.in_ok-formless-in-Err.ensures)

pub returns-in-Ok-clause-legal : goal.returns-in-Ok-clause-legal
returns-in-Ok-clause-legal g c =
    legal_if_ok g.F.ExactField.value g.F.ExactField.limit c.args.lp.now c.args.iterlim (g.C.Choosing.chooses (g.C.Choosing.rule c.args.choice.now)) (g.met.C.Choosing.improving (g.C.Choosing.rule c.args.choice.now)) c.searched.result c.searched.ensures
