use Rattle.std.proofs.Common.{◌-◌, ◌^◌, subst}
use Rattle.gq_frac.specs.Frac.{frac_value}
use Rattle.lp_slot.specs.Under.{IsAnswerUnder}
use Rattle.gms_exec.proofs.solving.solve_one.Goals as goal

pub returns-clause-answer : goal.returns-clause-answer
returns-clause-answer g c =
    subst (λ d. IsAnswerUnder frac_value (2 ^ 127 - 1) c.args.lp.now c.args.iterlim ((goal.LpSolver-dyn g d).rule d.1) c.in_ok-answer.answer) c.deref_box_mut-1.ensures.value.1 c.in_ok-answer.ensures.0
