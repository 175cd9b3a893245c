use Rattle.std.proofs.Common.{ℕ, pos, int_div, ◌≡◌, ◌*ℤ◌, to_z, of_z, w64, ap, ap₂, ◌∙◌, arith}
use Rattle.std.proofs.lemmas.Int.{ints, to_z-of_z, to_z_pos, quot_fits}
use Rattle.gq_number.proofs.Whole.{int_div-*ℤ}
use Rattle.lp_integers.proofs.divisor.Divisor.quotient.Goals as goal

pub returns-in-None : goal.returns-in-None
returns-in-None c =
    let divisor : ℕ = c.args.self.value in
    let divisor_is : to_z w64 divisor ≡ pos divisor = to_z_pos w64 divisor c.requires.small in
    let number_is : to_z w64 (of_z w64 c.args.n) ≡ c.args.n = to_z-of_z w64 c.args.n c.ranges.n in
    let positive = c.requires.positive in
    let quotient_fits = quot_fits w64 c.args.n (pos divisor) c.ranges.n (omega (arith, ints)) in
    ap (λ z. z *ℤ pos divisor)
    (ap₂ (λ x y. to_z w64 (of_z w64 (int_div x y))) number_is divisor_is ∙ to_z-of_z w64 (int_div c.args.n (pos divisor)) quotient_fits)
    ∙ int_div-*ℤ c.args.n divisor c.requires.divides
