-- The digits before the point spell no more than all of them.
use Rattle.std.proofs.Common.{◌≡◌, ◌+◌, ◌*◌, ◌^◌, ◌≤◌, ◌++◌, sym, ap, ◌∙◌, arith, length}
use Rattle.std.proofs.Math.Nat.{le-mul_of_pos_right}
use Rattle.gq_text.specs.Numeral.{spelled}
use Rattle.gq_text.proofs.Numerals.{spelled-append}
use Rattle.gq_text.proofs.Literals.{tens_above}
use Rattle.gq_text.proofs.Options.{SomeIff-none, SomeIff-same}
use Rattle.gq_text.proofs.literal.digits_together.Goals as goal

pub returns-in_err-spelled : goal.returns-in_err-spelled
returns-in_err-spelled c =
    let all = spelled-append c.args.whole.now c.args.fraction.now in
    let grows : spelled c.args.whole.now ≤ spelled c.args.whole.now * 10 ^ length c.args.fraction.now = le-mul_of_pos_right (spelled c.args.whole.now) (tens_above (length c.args.fraction.now)) in
    SomeIff-none _ _ _ c.from_residual.ensures (λ small. c.in_err-spelled.ensures (omega arith))

pub returns : goal.returns
returns c =
    let prefix = c.in_ok-spelled.ensures in
    let all = spelled-append c.args.whole.now c.args.fraction.now in
    let prefix_is : c.in_ok-spelled.field-0 ≡ spelled c.args.whole.now = omega arith in
    let e : c.in_ok-spelled.field-0 * 10 ^ length c.args.fraction.now + spelled c.args.fraction.now ≡ spelled (c.args.whole.now ++ c.args.fraction.now) = ap (λ n. n * 10 ^ length c.args.fraction.now + spelled c.args.fraction.now) prefix_is ∙ sym all in
    SomeIff-same c.spelled-2.result _ _ _ _ (λ small. omega arith) (λ small. omega arith) e c.spelled-2.ensures
