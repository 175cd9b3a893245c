use Rattle.std.proofs.Common.{pos, int_div, ◌≡◌, ◌*ℤ◌, to_z, of_z, sym, ap, ap₂, ◌∙◌, arith}
use Rattle.std.specs.Int.{w128}
use Rattle.std.proofs.lemmas.Int.{ints, to_z-of_z, to_z_pos, quot_fits}
use Rattle.gq_number.proofs.Whole.{int_div-*ℤ}
use Rattle.lp_integers.proofs.Lines.{none_over}
use Rattle.lp_integers.proofs.wide.quotient.Goals as goal

pub returns-then-n-eq0 : goal.returns-then-n-eq0
returns-then-n-eq0 c = none_over c.args.divisor ∙ sym (sym (to_z-of_z w128 c.args.n c.ranges.n) ∙ ap (to_z w128) c.if-n-eq0.true)

pub returns : goal.returns
returns c =
    let divisor_is : to_z w128 c.args.divisor ≡ pos c.args.divisor = to_z_pos w128 c.args.divisor c.requires.small in
    let number_is : to_z w128 (of_z w128 c.args.n) ≡ c.args.n = to_z-of_z w128 c.args.n c.ranges.n in
    let positive = c.requires.positive in
    let quotient_fits = quot_fits w128 c.args.n (pos c.args.divisor) c.ranges.n (omega (arith, ints)) in
    ap (λ z. z *ℤ pos c.args.divisor)
    (ap₂ (λ x y. to_z w128 (of_z w128 (int_div x y))) number_is divisor_is ∙ to_z-of_z w128 (int_div c.args.n (pos c.args.divisor)) quotient_fits)
    ∙ int_div-*ℤ c.args.n c.args.divisor c.requires.divides
