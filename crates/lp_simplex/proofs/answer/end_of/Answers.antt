use Rattle.std.proofs.Common.{refl, sym, subst}
use Rattle.std.specs.Prelude.{IfOk}
use Rattle.lp_std.specs.Meaning.{standard_value}
use Rattle.lp_simplex.specs.InnerEnds.{CanEnd, EndsHalted}
use Rattle.lp_simplex.proofs.answer.end_of.Goals as goal

pub led_back-requires-clause-of_form : goal.led_back-requires-clause-of_form
led_back-requires-clause-of_form g c = (subst (CanEnd g.F.ExactField.value (standard_value g.F.ExactField.value c.args.s.now)) c.in-Ended.is c.requires.halted).0

pub led_back-requires-clause-done : goal.led_back-requires-clause-done
led_back-requires-clause-done g c = (subst (CanEnd g.F.ExactField.value (standard_value g.F.ExactField.value c.args.s.now)) c.in-Ended.is c.requires.halted).1

pub returns-in-Ended : goal.returns-in-Ended
returns-in-Ended g c = subst (λ h. IfOk c.led_back.result (EndsHalted g.F.ExactField.value g.F.ExactField.limit c.args.lp.now h)) (sym c.in-Ended.is) c.led_back.ensures

pub interrupted-requires-clause-of_form : goal.interrupted-requires-clause-of_form
interrupted-requires-clause-of_form g c = (subst (CanEnd g.F.ExactField.value (standard_value g.F.ExactField.value c.args.s.now)) c.in-Interrupted.is c.requires.halted).0

pub interrupted-requires-clause-continues : goal.interrupted-requires-clause-continues
interrupted-requires-clause-continues g c = (subst (CanEnd g.F.ExactField.value (standard_value g.F.ExactField.value c.args.s.now)) c.in-Interrupted.is c.requires.halted).1

pub returns-in-Interrupted : goal.returns-in-Interrupted
returns-in-Interrupted g c = subst (λ h. IfOk c.interrupted.result (EndsHalted g.F.ExactField.value g.F.ExactField.limit c.args.lp.now h)) (sym c.in-Interrupted.is) c.interrupted.ensures

pub returns-in-Refused : goal.returns-in-Refused
returns-in-Refused g c = rw c.in-Refused.is refl
