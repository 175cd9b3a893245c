use Rattle.lp_nocycle.proofs.AnsweringTurn.{has_few_by_turn, comes_to_end_by_turn}
use Rattle.lp_nocycle.proofs.laws.turns_end.Goals as goal

pub returns-clause-few : goal.returns-clause-few
returns-clause-few g c = λ lp limit iterlim answer formed answers. has_few_by_turn g.F.ExactField.value limit lp iterlim g.C.Turning.chooses g.C.Turning.turning answer formed answers

pub returns-clause-to_the_end : goal.returns-clause-to_the_end
returns-clause-to_the_end g c = λ lp limit iterlim answer formed answers. comes_to_end_by_turn g.F.ExactField.value limit lp iterlim g.C.Turning.chooses g.C.Turning.turning answer formed answers
