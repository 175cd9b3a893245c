use Rattle.std.proofs.Common.{rules, ◌≡◌, ◌<◌, ◌≤◌, ◌-◌, ◌^◌, ◌/◌, ◌*◌, ℕ, ℤ, pos, nat_abs, ◌*ℤ◌, FitsSigned, to_z, of_z, sym, ap, ap₂, ◌∙◌, subst, arith}
use Rattle.std.specs.Int.{w128}
use Rattle.std.proofs.lemmas.Int.{to_z-of_z, to_z_pos, fits_signed_from_abs}
use Rattle.std.proofs.Math.Nat.{div-le_self}
use Rattle.gq_number.specs.Number.{ratio}
use Rattle.gq_number.proofs.Whole.{nat_abs-*ℤ}
use Rattle.lp_integer_rows.proofs.Filling.{scaled_is}
use Rattle.lp_integer_rows.proofs.parts.scaled.Goals as goal

pub returns-in_default : goal.returns-in_default
returns-in_default c =
    let fits_n : FitsSigned w128 c.args.part.numerator = search rules in
    let told : c.unsigned_abs.result ≡ nat_abs c.args.part.numerator = c.unsigned_abs.ensures.value ∙ ap nat_abs (to_z-of_z w128 c.args.part.numerator fits_n) in
    let past : 2 ^ 127 - 1 < nat_abs c.args.part.numerator * (c.args.multiple / c.args.part.denominator) = subst (λ n. 2 ^ 127 - 1 < n * (c.args.multiple / c.args.part.denominator)) told c.in_default.ensures in
    omega arith

pub returns : goal.returns
returns c =
    let n : ℤ = c.args.part.numerator in
    let d : ℕ = c.args.part.denominator in
    let m : ℕ = c.args.multiple in
    let f : ℕ = c.args.multiple / c.args.part.denominator in
    let fits_n : FitsSigned w128 c.args.part.numerator = search rules in
    let n_is : to_z w128 (of_z w128 n) ≡ n = to_z-of_z w128 c.args.part.numerator fits_n in
    let told : c.unsigned_abs.result ≡ nat_abs n = c.unsigned_abs.ensures.value ∙ ap nat_abs n_is in
    let at_most : f ≤ m = div-le_self m d in
    let small_m = c.requires.small in
    let f_is : to_z w128 f ≡ pos f = to_z_pos w128 f (omega arith) in
    let found_is = c.in-Some.ensures.0 in
    let found_low = c.in-Some.ensures.1 in
    let product : nat_abs (n *ℤ pos f) ≡ c.unsigned_abs.result * f = nat_abs-*ℤ n (pos f) ∙ ap (λ k. k * f) (sym told) in
    let small : nat_abs (n *ℤ pos f) < 2 ^ 127 = omega arith in
    let inner : to_z w128 (of_z w128 (to_z w128 (of_z w128 n) *ℤ to_z w128 f)) ≡ n *ℤ pos f =
    ap₂ (λ x y. to_z w128 (of_z w128 (x *ℤ y))) n_is f_is ∙ to_z-of_z w128 (n *ℤ pos f) (fits_signed_from_abs w128 (n *ℤ pos f) small) in
    (subst (λ z. nat_abs z < 2 ^ 127) (sym inner) small, ap (λ z. ratio z m) inner ∙ scaled_is n d m c.requires.positive c.requires.some c.requires.divides)
