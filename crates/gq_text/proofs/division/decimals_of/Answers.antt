-- Each digit is at most 9, so the decimals stay below their unit.
use Rattle.std.proofs.Common.{◌≡◌, ◌^◌, ◌<◌, ◌≤◌, arith, subst}
use Rattle.std.proofs.Math.Nat.{pow-le-pow_right}
use Rattle.gq_text.proofs.Literals.{tens_above}
use Rattle.gq_text.proofs.Divisions.{quotient_below, one_digit}
use Rattle.gq_text.proofs.division.decimals_of.Goals as goal

pub overflow_mul-fraction : goal.overflow_mul-fraction
overflow_mul-fraction c =
    let so_far = quotient_below c.loop-place.fraction c.loop-place.left c.args.divisor c.args.rest (10 ^ c.loop-place._place) c.loop-place.invariant.0 c.requires.rest (tens_above c.loop-place._place) in
    let few = c.requires.decimals in
    let most : 10 ^ c.loop-place._place ≤ 10 ^ 8 = pow-le-pow_right {n = 10} (omega arith) {i = c.loop-place._place} {j = 8} (omega arith) in
    omega arith

pub overflow_add-fraction : goal.overflow_add-fraction
overflow_add-fraction c =
    let so_far = quotient_below c.loop-place.fraction c.loop-place.left c.args.divisor c.args.rest (10 ^ c.loop-place._place) c.loop-place.invariant.0 c.requires.rest (tens_above c.loop-place._place) in
    let few = c.requires.decimals in
    let most : 10 ^ c.loop-place._place ≤ 10 ^ 8 = pow-le-pow_right {n = 10} (omega arith) {i = c.loop-place._place} {j = 8} (omega arith) in
    let digit = quotient_below c.next_digit-digit.result.0 c.next_digit-digit.result.1 c.args.divisor c.loop-place.left 10 c.next_digit-digit.ensures.quotient c.loop-place.invariant.1 (omega arith) in
    omega arith

pub loop-place-preserved : goal.loop-place-preserved
loop-place-preserved c =
    (one_digit c.loop-place.fraction c.next_digit-digit.result.0 c.loop-place.left c.next_digit-digit.result.1 c.args.divisor c.args.rest c.loop-place._place c.loop-place.invariant.0 c.next_digit-digit.ensures.quotient, c.next_digit-digit.ensures.left)

pub returns-clause-fraction : goal.returns-clause-fraction
returns-clause-fraction c =
    let all : c.loop-place._place ≡ c.args.decimals = omega arith in
    subst (λ p. c.loop-place.fraction < 10 ^ p) all
    (quotient_below c.loop-place.fraction c.loop-place.left c.args.divisor c.args.rest (10 ^ c.loop-place._place) c.loop-place.invariant.0 c.requires.rest (tens_above c.loop-place._place))
