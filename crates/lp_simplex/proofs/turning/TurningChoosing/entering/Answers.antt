use Rattle.std.proofs.Common.{subst}
use Rattle.lp_dict.specs.Tableau.{dictionary}
use Rattle.lp_simplex.specs.InnerCounting.{Remembers}
use Rattle.lp_simplex.proofs.Nexts.{next_by_pick, next_by_least}
use Rattle.lp_simplex.proofs.turning.TurningChoosing.entering.Goals as goal

pub returns-in-Still : goal.returns-in-Still
returns-in-Still g c =
    let d = dictionary g.F.ExactField.value c.args.dict.now in
    next_by_pick (g.P.Picking.picks c.args.self.now.rule) (g.met.P.Picking.improving c.args.self.now.rule) d (λ first pivots. Remembers c.args.self.now.count first pivots d) c.pick.result c.pick.ensures (λ first pivots known. (subst (λ s. Remembers s first pivots d) c.in-Still.is known).not_turned)

pub returns-in-Turned : goal.returns-in-Turned
returns-in-Turned g c =
    let d = dictionary g.F.ExactField.value c.args.dict.now in
    next_by_least (g.P.Picking.picks c.args.self.now.rule) (g.met.P.Picking.improving c.args.self.now.rule) d (λ first pivots. Remembers c.args.self.now.count first pivots d) c.entering.result c.entering.ensures (λ first pivots known. (subst (λ s. Remembers s first pivots d) c.in-Turned.is known).1)
