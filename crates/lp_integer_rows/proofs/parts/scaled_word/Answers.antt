use Rattle.std.proofs.Common.{rules, ◌≡◌, ◌<◌, ◌≤◌, ◌-◌, ◌^◌, ℤ, nat_abs, FitsSigned, to_z, of_z, w64, sym, ap, ◌∙◌, subst, arith}
use Rattle.std.specs.Int.{w128}
use Rattle.std.proofs.lemmas.Int.{to_z-of_z, fits_signed_from_abs}
use Rattle.gq_number.specs.Number.{ratio}
use Rattle.lp_integer_rows.proofs.parts.scaled_word.Goals as goal

pub returns : goal.returns
returns c =
    let n : ℤ = c.in-Some.number in
    let fits : FitsSigned w128 c.in-Some.number = search rules in
    let n_is : to_z w128 (of_z w128 n) ≡ n = to_z-of_z w128 n fits in
    let magnitude : c.unsigned_abs.result ≡ nat_abs n = c.unsigned_abs.ensures.value ∙ ap nat_abs n_is in
    let small : nat_abs n < 2 ^ 63 = subst (λ m. m < 2 ^ 63) magnitude c.if-unsigned_abs-ge-WORD.false in
    let is : to_z w64 (of_z w64 (to_z w128 (of_z w128 n))) ≡ n = ap (λ z. to_z w64 (of_z w64 z)) n_is ∙ to_z-of_z w64 n (fits_signed_from_abs w64 n small) in
    (subst (λ z. nat_abs z ≤ 2 ^ 63 - 1) (sym is) (omega arith), ap (λ z. ratio z c.args.multiple) is ∙ c.in-Some.ensures.1)
