-- A prefix of the digits spells at most the number that all of them spell.
use Rattle.std.proofs.Common.{◌≡◌, ◌+◌, ◌*◌, ◌^◌, length, take, ap, ◌∙◌, arith}
use Rattle.std.proofs.Math.Seq.{take-length}
use Rattle.gq_text.specs.Numeral.{spelled}
use Rattle.gq_text.proofs.Options.{SomeIff-none}
use Rattle.gq_text.proofs.Zeros.{prefix-le, prefix_more, digit_low}
use Rattle.gq_text.proofs.literal.spelled.Goals as goal

pub returns-in_err-checked_mul : goal.returns-in_err-checked_mul
returns-in_err-checked_mul c =
    let next = prefix_more c.args.prefix c.loop-digit.digit-index c.args.digits.now (omega arith) in
    let most = prefix-le c.args.prefix (c.loop-digit.digit-index + 1) c.args.digits.now (omega arith) in
    let now = c.loop-digit.invariant.0 in
    SomeIff-none _ _ _ c.from_residual.ensures (λ small. c.in_err-checked_mul.ensures (omega arith))

pub loop-digit-init : goal.loop-digit-init
loop-digit-init c = let fits = c.ranges.prefix.fits in (omega arith, omega arith)

pub overflow_sub-digit : goal.overflow_sub-digit
overflow_sub-digit c = digit_low c.args.digits.now c.loop-digit.digit-index c.requires (omega arith)

pub returns-in_err-value : goal.returns-in_err-value
returns-in_err-value c =
    let next = prefix_more c.args.prefix c.loop-digit.digit-index c.args.digits.now (omega arith) in
    let most = prefix-le c.args.prefix (c.loop-digit.digit-index + 1) c.args.digits.now (omega arith) in
    let now = c.loop-digit.invariant.0 in
    let product = c.in_ok-checked_mul.ensures in
    SomeIff-none _ _ _ c.from_residual-in_err-value.ensures (λ small. c.in_err-value.ensures (omega arith))

pub loop-digit-preserved : goal.loop-digit-preserved
loop-digit-preserved c =
    let next = prefix_more c.args.prefix c.loop-digit.digit-index c.args.digits.now (omega arith) in
    let now = c.loop-digit.invariant.0 in
    let product = c.in_ok-checked_mul.ensures in
    let sum = c.in_ok-value.ensures in
    (omega arith, omega arith)

pub returns : goal.returns
returns c =
    let all : c.loop-digit.digit-index ≡ length c.args.digits.now = omega arith in
    let value : c.loop-digit.value ≡ c.args.prefix * 10 ^ length c.args.digits.now + spelled c.args.digits.now =
    c.loop-digit.invariant.0 ∙ ap (λ n. c.args.prefix * 10 ^ n + spelled (take n c.args.digits.now)) all ∙ ap (λ l. c.args.prefix * 10 ^ length c.args.digits.now + spelled l) (take-length c.args.digits.now) in
    (omega arith, value)
