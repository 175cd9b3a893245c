use Rattle.std.proofs.Common.{subst, arith}
use Rattle.lp_dict.specs.Tableau.{dictionary}
use Rattle.lp_any.proofs.Cheapest.{CheapestTo, begins, goes, none_found, some_found}
use Rattle.lp_any.proofs.costs.cheapest.Goals as goal

pub loop-variable-init : goal.loop-variable-init
loop-variable-init g c = begins (g.C.Costing.costs c.args.rule.now) (dictionary g.F.ExactField.value c.args.dict.now)

pub loop-variable-preserved : goal.loop-variable-preserved
loop-variable-preserved g c =
    goes (g.C.Costing.costs c.args.rule.now) (dictionary g.F.ExactField.value c.args.dict.now) c.loop-variable.variable c.loop-variable.best c.tried-best.result c.loop-variable.invariant c.tried-best.ensures

pub returns-in-Some : goal.returns-in-Some
returns-in-Some g c =
    let d = dictionary g.F.ExactField.value c.args.dict.now in
    some_found (g.C.Costing.costs c.args.rule.now) d c.loop-variable.variable c.in-Some.best (omega arith) (subst (CheapestTo (g.C.Costing.costs c.args.rule.now) d c.loop-variable.variable) c.in-Some.is c.loop-variable.invariant)

pub returns-in-None : goal.returns-in-None
returns-in-None g c =
    let d = dictionary g.F.ExactField.value c.args.dict.now in
    none_found (g.C.Costing.costs c.args.rule.now) d c.loop-variable.variable (omega arith) (subst (CheapestTo (g.C.Costing.costs c.args.rule.now) d c.loop-variable.variable) c.in-None.is c.loop-variable.invariant)
