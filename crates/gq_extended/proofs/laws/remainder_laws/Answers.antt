-- The four steps, and what they leave.
use Rattle.std.proofs.Common.{subst, sym}
use Rattle.gq_number.specs.Order.{◌<ℚ◌, abs_ℚ}
use Rattle.gq_extended.proofs.RemainderLaws.{remainder_steps, remainder_below, not_zero}
use Rattle.gq_extended.proofs.laws.remainder_laws.Goals as goal

pub returns-clause-value : goal.returns-clause-value
returns-clause-value c = λ limit x y r e. (remainder_steps limit x y r e).1

pub returns-clause-below_divisor : goal.returns-clause-below_divisor
returns-clause-below_divisor c =
    λ limit x y r e.
    let steps = remainder_steps limit x y r e in
    subst (λ w. abs_ℚ w <ℚ abs_ℚ y) (sym steps.1) (remainder_below x y (not_zero y steps.0))
