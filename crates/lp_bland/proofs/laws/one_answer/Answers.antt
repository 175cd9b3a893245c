use Rattle.lp_bland.proofs.Few.{one_answer}
use Rattle.lp_bland.proofs.laws.one_answer.Goals as goal

pub returns : goal.returns
returns g c lp iterlim a b formed one two = one_answer g.F.ExactField.value g.met.F.ExactField.same_value g.F.ExactField.limit lp iterlim formed a b one two
