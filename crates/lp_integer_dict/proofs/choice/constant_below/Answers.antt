use Rattle.std.proofs.Common.{rules, ◌<ℤ◌, pos, FitsSigned, sym, subst, arith}
use Rattle.std.specs.Int.{w128}
use Rattle.std.proofs.lemmas.Int.{ints, to_z-of_z}
use Rattle.gq_number.specs.Number.{whole}
use Rattle.gq_number.specs.Order.{◌<ℚ◌}
use Rattle.lp_integer_dict.proofs.Reading.{number_below, below_number}
use Rattle.lp_integer_dict.proofs.choice.constant_below.Goals as goal

pub returns-then-constant-lt0 : goal.returns-then-constant-lt0
returns-then-constant-lt0 c =
    let fits : FitsSigned w128 c.read-constant.result.numerator = search rules in
    let is = to_z-of_z w128 c.read-constant.result.numerator fits in
    let told = c.if-constant-lt0.true in
    let below : c.read-constant.result.numerator <ℤ pos 0 = omega (arith, ints) in
    let w = c.requires.lines.2 in
    let small = w.small in
    let within = (c.read-constant.ensures.within c.requires.lines.1 w.within_bound).1 in (
      (c.read-constant.ensures.positive, omega arith),
      subst (λ x. x <ℚ whole (pos 0)) c.read-constant.ensures.number (below_number c.read-constant.result.numerator c.read-constant.result.denominator c.read-constant.ensures.positive below),
      c.read-constant.ensures.number,
    )

pub returns-else-constant-lt0 : goal.returns-else-constant-lt0
returns-else-constant-lt0 c = λ below.
    let fits : FitsSigned w128 c.read-constant.result.numerator = search rules in
    let is = to_z-of_z w128 c.read-constant.result.numerator fits in
    let told = c.if-constant-lt0.false in
    let low = number_below c.read-constant.result.numerator c.read-constant.result.denominator c.read-constant.ensures.positive (subst (λ x. x <ℚ whole (pos 0)) (sym c.read-constant.ensures.number) below) in
    omega (arith, ints)
