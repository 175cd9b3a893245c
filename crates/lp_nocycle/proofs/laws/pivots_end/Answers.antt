use Rattle.lp_nocycle.proofs.Answering.{has_few, comes_to_end}
use Rattle.lp_nocycle.proofs.laws.pivots_end.Goals as goal

pub returns-clause-few : goal.returns-clause-few
returns-clause-few g c = λ lp limit iterlim answer formed answers. has_few g.F.ExactField.value limit lp iterlim answer formed answers

pub returns-clause-to_the_end : goal.returns-clause-to_the_end
returns-clause-to_the_end g c = λ lp limit iterlim answer formed answers. comes_to_end g.F.ExactField.value limit lp iterlim answer formed answers
