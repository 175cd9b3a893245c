use Rattle.std.proofs.Common.{refl}
use Rattle.lp_dict.specs.Tableau.{dictionary}
use Rattle.lp_simplex.proofs.PivotSteps.{goes_on_by_pivot, goes_on_by_stop}
use Rattle.lp_simplex.proofs.pivoting.halted.Goals as goal

pub returns-in-Pivot : goal.returns-in-Pivot
returns-in-Pivot g c first pivots known =
    let required = c.in-Pivot.ensures.chosen first pivots known in
    (refl, goes_on_by_pivot (g.C.Choosing.chooses (g.C.Choosing.rule c.args.choice.now) first pivots (dictionary g.F.ExactField.value c.args.dict)) (dictionary g.F.ExactField.value c.args.dict) c.in-Pivot.field-0 required.0 required.1)

pub returns-in-Stop : goal.returns-in-Stop
returns-in-Stop g c first pivots known =
    (refl, goes_on_by_stop (g.C.Choosing.chooses (g.C.Choosing.rule c.args.choice.now) first pivots (dictionary g.F.ExactField.value c.args.dict)) g.F.ExactField.limit c.args.dict.upcoming (dictionary g.F.ExactField.value c.args.dict) c.in-Stop.field-0 (c.in-Stop.ensures.chosen first pivots known))
