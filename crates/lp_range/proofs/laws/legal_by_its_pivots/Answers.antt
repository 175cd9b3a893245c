use Rattle.lp_core.specs.declared.answer.Rule.TheVariants.{Bland, Legal}
use Rattle.lp_range.proofs.Solved.{legal_by_optimum}
use Rattle.lp_range.proofs.laws.legal_by_its_pivots.Goals as goal

pub returns-clause-bland : goal.returns-clause-bland
returns-clause-bland g c lp iterlim answer optimum h = legal_by_optimum g.F.ExactField.value g.F.ExactField.limit lp answer iterlim Bland optimum h

pub returns-clause-legal : goal.returns-clause-legal
returns-clause-legal g c lp iterlim answer optimum h = legal_by_optimum g.F.ExactField.value g.F.ExactField.limit lp answer iterlim Legal optimum h
