use Rattle.lp_any.proofs.Each.{legal_if_ok}
use Rattle.lp_any.proofs.Few.{bland_few_if_ok, bland_ends_if_ok}
use Rattle.lp_any.proofs.members.answer_of.Goals as goal

pub returns-in-Bland-clause-legal : goal.returns-in-Bland-clause-legal
returns-in-Bland-clause-legal g c =
    legal_if_ok g.F.ExactField.value g.F.ExactField.limit c.args.lp.now c.args.iterlim c.solve_in-in-Bland.result c.solve_in-in-Bland.ensures.answers

pub returns-in-Bland-clause-few : goal.returns-in-Bland-clause-few
returns-in-Bland-clause-few g c =
    bland_few_if_ok g.F.ExactField.value c.args.lp.now c.args.iterlim c.solve_in-in-Bland.result c.solve_in-in-Bland.ensures.few

pub returns-in-Bland-clause-to_the_end : goal.returns-in-Bland-clause-to_the_end
returns-in-Bland-clause-to_the_end g c =
    bland_ends_if_ok g.F.ExactField.value c.args.lp.now c.args.iterlim c.solve_in-in-Bland.result c.solve_in-in-Bland.ensures.to_the_end
