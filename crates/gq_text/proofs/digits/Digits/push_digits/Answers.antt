-- Each digit is the rest over its unit.
use Rattle.std.proofs.Common.{◌≡◌, ◌-◌, ◌%◌, length, ap, sym, subst, arith, length-append}
use Rattle.std.proofs.Math.Nat.{one-le-pow, pow-le-pow_right}
use Rattle.gq_text.proofs.Pushes.{HasDigits, none_yet, one_more, digit_small, all_pushed}
use Rattle.gq_text.proofs.digits.Digits.push_digits.Goals as goal

pub loop-place-init : goal.loop-place-init
loop-place-init c = none_yet c.args.self.now c.args.n c.args.places c.requires.small

pub pow-unit-requires : goal.pow-unit-requires
pow-unit-requires c =
    let few = c.requires.places in
    let wide = pow-le-pow_right {n = 10} (omega arith) {i = c.loop-place.place - 1} {j = 38} (omega arith) in
    omega arith

pub nonzero_div-rest : goal.nonzero_div-rest
nonzero_div-rest c = omega (arith, one-le-pow (c.loop-place.place - 1) 10 (omega arith))

pub overflow_cast-rest : goal.overflow_cast-rest
overflow_cast-rest c =
    let d = digit_small c.loop-place.rest c.loop-place.place (c.loop-place.place - 1) c.pow-unit.result (omega arith) c.pow-unit.ensures c.loop-place.invariant.small in
    omega arith

pub overflow_add-rest : goal.overflow_add-rest
overflow_add-rest c =
    let d = digit_small c.loop-place.rest c.loop-place.place (c.loop-place.place - 1) c.pow-unit.result (omega arith) c.pow-unit.ensures c.loop-place.invariant.small in
    omega arith

pub push-requires-clause-ascii : goal.push-requires-clause-ascii
push-requires-clause-ascii c =
    let d = digit_small c.loop-place.rest c.loop-place.place (c.loop-place.place - 1) c.pow-unit.result (omega arith) c.pow-unit.ensures c.loop-place.invariant.small in
    omega arith

pub push-requires-clause-within_bound : goal.push-requires-clause-within_bound
push-requires-clause-within_bound c =
    let within_bound = c.requires.within_bound in
    let length_is = length-append c.args.self.now c.loop-place.invariant.digits in
    let now = ap length c.loop-place.invariant.appended in
    omega (arith, c.loop-place.invariant.places_are)

pub nonzero_rem-rest : goal.nonzero_rem-rest
nonzero_rem-rest c = omega (arith, one-le-pow (c.loop-place.place - 1) 10 (omega arith))

pub loop-place-preserved : goal.loop-place-preserved
loop-place-preserved c =
    subst (λ now. HasDigits c.args.self.now now c.args.n c.args.places (c.loop-place.place - 1) (c.loop-place.rest % c.pow-unit.result)) (sym c.push.ensures)
    (one_more c.args.self.now c.loop-place.self c.args.n c.args.places c.loop-place.place (c.loop-place.place - 1) c.pow-unit.result c.loop-place.rest (omega arith) c.pow-unit.ensures c.loop-place.invariant)

pub returns : goal.returns
returns c =
    let none : c.loop-place.place ≡ 0 = omega arith in
    all_pushed c.args.self.now c.loop-place.self c.args.n c.args.places c.loop-place.rest (subst (λ p. HasDigits c.args.self.now c.loop-place.self c.args.n c.args.places p c.loop-place.rest) none c.loop-place.invariant)
