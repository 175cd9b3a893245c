use Rattle.lp_core.specs.LargestCoefficient.{IsNext}
use Rattle.lp_core.proofs.Rules.{legal_answer}
use Rattle.lp_dantzig.specs.InnerNext.{next_improves}
use Rattle.lp_dantzig.proofs.laws.answer_is_legal.Goals as goal

pub returns : goal.returns
returns g c lp iterlim a answer = legal_answer g.F.ExactField.value g.F.ExactField.limit lp iterlim IsNext a next_improves answer
