use Rattle.lp_bland.proofs.Few.{bland_if_ok, only_if_ok, few_if_ok, ends_if_ok}
use Rattle.lp_bland.proofs.answer.solve_in.Goals as goal

pub returns-clause-answers : goal.returns-clause-answers
returns-clause-answers g c = bland_if_ok g.F.ExactField.value g.F.ExactField.limit c.args.lp.now c.args.iterlim c.requires c.solve_by.result c.solve_by.ensures.chosen

pub returns-clause-few : goal.returns-clause-few
returns-clause-few g c =
    few_if_ok g.F.ExactField.value g.F.ExactField.limit c.args.lp.now c.args.iterlim c.requires c.solve_by.result
    (bland_if_ok g.F.ExactField.value g.F.ExactField.limit c.args.lp.now c.args.iterlim c.requires c.solve_by.result c.solve_by.ensures.chosen)

pub returns-clause-to_the_end : goal.returns-clause-to_the_end
returns-clause-to_the_end g c =
    ends_if_ok g.F.ExactField.value g.F.ExactField.limit c.args.lp.now c.args.iterlim c.requires c.solve_by.result
    (bland_if_ok g.F.ExactField.value g.F.ExactField.limit c.args.lp.now c.args.iterlim c.requires c.solve_by.result c.solve_by.ensures.chosen)

pub returns-clause-only : goal.returns-clause-only
returns-clause-only g c =
    only_if_ok g.F.ExactField.value g.met.F.ExactField.same_value g.F.ExactField.limit c.args.lp.now c.args.iterlim c.requires c.solve_by.result
    (bland_if_ok g.F.ExactField.value g.F.ExactField.limit c.args.lp.now c.args.iterlim c.requires c.solve_by.result c.solve_by.ensures.chosen)
