use Rattle.lp_core.specs.LargestCoefficient.{IsNext}
use Rattle.lp_simplex.proofs.Unique.{one_answer_by}
use Rattle.lp_dantzig.specs.InnerNext.{next_improves}
use Rattle.lp_dantzig.proofs.Nexts.{next_once}
use Rattle.lp_dantzig.proofs.laws.one_answer.Goals as goal

pub returns : goal.returns
returns g c lp iterlim a b formed one two = one_answer_by g.F.ExactField.value g.met.F.ExactField.same_value g.F.ExactField.limit lp iterlim IsNext next_improves next_once a b formed one two
