use Rattle.lp_dict.specs.Tableau.{dictionary}
use Rattle.lp_any.proofs.Cheapest.{CheapestTo}
use Rattle.lp_any.proofs.costs.cheapest.Given as goal

abbrev pub invariant-loop-variable : goal.invariant-loop-variable
invariant-loop-variable g l = CheapestTo (g.C.Costing.costs l.rule) (dictionary g.F.ExactField.value l.dict) l.variable l.best
