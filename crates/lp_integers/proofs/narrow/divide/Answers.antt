-- One more number is divided, which the divisor divides.
use Rattle.std.proofs.Common.{rules, ◌<◌, ◌^◌, ℤ, pos, nat_abs, ◌≡◌, ◌*ℤ◌, slice_index_or, FitsSigned, to_z, of_z, w64, sym, ap, ◌∙◌, subst, le_refl, arith}
use Rattle.std.specs.Int.{◌∣◌}
use Rattle.std.proofs.lemmas.Int.{to_z-of_z}
use Rattle.lp_integers.proofs.Lines.{divided_more, divided_all}
use Rattle.lp_integers.proofs.narrow.divide.Goals as goal

pub quotient-over-requires-clause-divides : goal.quotient-over-requires-clause-divides
quotient-over-requires-clause-divides c =
    let number : ℤ = slice_index_or c.loop-c.numbers c.loop-c.c (pos 0) in
    let fits : FitsSigned w64 number = search rules in
    let before = c.loop-c.invariant.left c.loop-c.c (le_refl c.loop-c.c) in
    let divides : c.args.divisor ∣ nat_abs (to_z w64 (of_z w64 number)) =
    subst (λ z. c.args.divisor ∣ nat_abs z) (sym before ∙ sym (to_z-of_z w64 number fits)) (c.requires.divides c.loop-c.c) in
    subst (λ d. d ∣ nat_abs (to_z w64 (of_z w64 number))) (sym c.of-quick.ensures) divides

pub loop-c-preserved : goal.loop-c-preserved
loop-c-preserved c =
    let number : ℤ = slice_index_or c.loop-c.numbers c.loop-c.c (pos 0) in
    let fits : FitsSigned w64 number = search rules in
    let fits_over : FitsSigned w64 c.quotient-over.result = record { sfits = c.quotient-over.type_inv } in
    let before = c.loop-c.invariant.left c.loop-c.c (le_refl c.loop-c.c) in
    let over : c.quotient-over.result *ℤ pos c.args.divisor ≡ to_z w64 (of_z w64 number) =
    subst (λ d. c.quotient-over.result *ℤ pos d ≡ to_z w64 (of_z w64 number)) c.of-quick.ensures c.quotient-over.ensures in
    divided_more c.args.divisor c.args.numbers.now c.loop-c.numbers c.loop-c.c (to_z w64 (of_z w64 c.quotient-over.result)) c.loop-c.invariant (omega arith)
    (ap (λ z. z *ℤ pos c.args.divisor) (to_z-of_z w64 c.quotient-over.result fits_over) ∙ over ∙ to_z-of_z w64 number fits ∙ before)

pub returns : goal.returns
returns c = divided_all c.args.divisor c.args.numbers.now c.loop-c.numbers c.loop-c.c (omega arith) c.loop-c.invariant

pub bounds-numbers-c : goal.bounds-numbers-c
bounds-numbers-c c = subst (λ n. c.loop-c.c < n) (sym c.loop-c.auto.numbers) c.loop-c-test.true

pub quotient-over-requires-clause-positive : goal.quotient-over-requires-clause-positive
quotient-over-requires-clause-positive c = subst (λ n. 0 < n) (sym c.of-quick.ensures) c.requires.positive

pub quotient-over-requires-clause-small : goal.quotient-over-requires-clause-small
quotient-over-requires-clause-small c = subst (λ n. n < 2 ^ 63) (sym c.of-quick.ensures) c.requires.small
