use Rattle.lp_dantzig.proofs.Only.{only_if_ok}
use Rattle.lp_dantzig.proofs.answer.solve_in.Goals as goal

pub returns-clause-only : goal.returns-clause-only
returns-clause-only g c = only_if_ok g.F.ExactField.value g.met.F.ExactField.same_value g.F.ExactField.limit c.args.lp.now c.args.iterlim c.requires c.solve_with.result c.solve_with.ensures.turning
