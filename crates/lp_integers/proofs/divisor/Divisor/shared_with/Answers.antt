-- Where the divisor divides the number, it is what both share.
use Rattle.std.proofs.Common.{ℕ, ℤ, pos, nat_abs, ◌≡◌, ◌*◌, ◌%◌, w64, sym, ap, ◌∙◌}
use Rattle.std.proofs.lemmas.Int.{to_z-of_z}
use Rattle.std.proofs.Math.Nat.{mul-mod_left}
use Rattle.gq_number.specs.Gcd.{gcd}
use Rattle.gq_number.proofs.Gcd.{gcd-mod, gcd-zero}
use Rattle.gq_number.proofs.Whole.{nat_abs-*ℤ}
use Rattle.lp_integers.proofs.divisor.Divisor.shared_with.Goals as goal

pub returns-in-Some : goal.returns-in-Some
returns-in-Some c =
    let quotient : ℤ = c.in-Some.field-0 in
    let divisor : ℕ = c.args.self.value in
    let product : nat_abs c.args.n ≡ nat_abs quotient * divisor = ap nat_abs (sym (c.in-Some.ensures ∙ to_z-of_z w64 c.args.n c.ranges.n)) ∙ nat_abs-*ℤ quotient (pos divisor) in
    let rest : nat_abs c.args.n % divisor ≡ 0 = ap (λ m. m % divisor) product ∙ mul-mod_left (nat_abs quotient) divisor in
    sym (gcd-mod (nat_abs c.args.n) divisor ∙ ap (gcd divisor) rest ∙ gcd-zero divisor)
