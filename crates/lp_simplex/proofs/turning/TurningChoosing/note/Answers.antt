use Rattle.std.proofs.Common.{◌∙◌, ◌==◌, ap}
use Rattle.std.specs.Prelude.{not}
use Rattle.lp_dict.specs.Tableau.{dictionary}
use Rattle.lp_simplex.specs.InnerCounting.{after}
use Rattle.lp_simplex.proofs.Counted.{noted}
use Rattle.lp_simplex.proofs.turning.TurningChoosing.note.Goals as goal

pub returns-clause-remembered : goal.returns-clause-remembered
returns-clause-remembered g c first pivots k leaves known =
    let is = c.after-self.ensures ∙ ap (after c.args.self.now.count (c.args.pivot.leave == 0) (not c.is_zero-gains.result)) c.variables.ensures in
    noted first pivots (dictionary g.F.ExactField.value c.args.dict.now) c.args.pivot k c.requires.proper c.requires.legal leaves c.args.self.now.count c.after-self.result c.is_zero-gains.result (g.F.ExactField.value c.amount.result) is c.is_zero-gains.ensures (c.amount.ensures.basic k leaves) known
