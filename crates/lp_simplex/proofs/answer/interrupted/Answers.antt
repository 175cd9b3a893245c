use Rattle.std.proofs.Common.{inl}
use Rattle.lp_dict.specs.Tableau.{dictionary}
use Rattle.lp_simplex.proofs.Ending.{broken_off_done}
use Rattle.lp_simplex.proofs.Answering.{phase_one, phase_two, broken_off_two}
use Rattle.lp_simplex.proofs.answer.interrupted.Goals as goal

pub led_back-requires-clause-done : goal.led_back-requires-clause-done
led_back-requires-clause-done g c =
    broken_off_done (dictionary g.F.ExactField.value c.args.dict.now) c.requires.continues (phase_two (dictionary g.F.ExactField.value c.args.dict.now) c.phase.result c.phase.ensures c.if-phase-eq2.true)

pub returns-then-phase-eq2 : goal.returns-then-phase-eq2
returns-then-phase-eq2 g c =
    broken_off_two g.F.ExactField.value g.F.ExactField.limit c.args.lp.now (dictionary g.F.ExactField.value c.args.dict.now) (phase_two (dictionary g.F.ExactField.value c.args.dict.now) c.phase.result c.phase.ensures c.if-phase-eq2.true) c.led_back.result c.led_back.ensures

pub returns : goal.returns
returns g c = inl (phase_one (dictionary g.F.ExactField.value c.args.dict.now) c.phase.result c.phase.ensures c.if-phase-eq2.false, cc)
