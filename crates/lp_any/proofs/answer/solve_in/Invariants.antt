use Rattle.lp_any.specs.Members.{AreRefused}
use Rattle.lp_any.proofs.answer.solve_in.Given as goal

abbrev pub invariant-loop-place : goal.invariant-loop-place
invariant-loop-place g l = AreRefused g.F.ExactField.value g.F.ExactField.limit l.place l.lp l.iterlim
