-- One more number is divided, which the divisor divides.
use Rattle.std.proofs.Common.{rules, ℤ, pos, nat_abs, ◌*ℤ◌, slice_index_or, FitsSigned, to_z, of_z, sym, ap, ◌∙◌, subst, le_refl, arith}
use Rattle.std.specs.Int.{◌∣◌, w128}
use Rattle.std.proofs.lemmas.Int.{to_z-of_z}
use Rattle.lp_integers.proofs.Lines.{divided_more, divided_all}
use Rattle.lp_integers.proofs.wide.divide.Goals as goal

pub quotient-over-requires-clause-divides : goal.quotient-over-requires-clause-divides
quotient-over-requires-clause-divides c =
    let number : ℤ = slice_index_or c.loop-c.numbers c.loop-c.c (pos 0) in
    let fits : FitsSigned w128 number = search rules in
    let before = c.loop-c.invariant.left c.loop-c.c (le_refl c.loop-c.c) in
    subst (λ z. c.args.divisor ∣ nat_abs z) (sym before ∙ sym (to_z-of_z w128 number fits)) (c.requires.divides c.loop-c.c)

pub loop-c-preserved : goal.loop-c-preserved
loop-c-preserved c =
    let number : ℤ = slice_index_or c.loop-c.numbers c.loop-c.c (pos 0) in
    let fits : FitsSigned w128 number = search rules in
    let fits_over : FitsSigned w128 c.quotient-over.result = record { sfits = c.quotient-over.type_inv } in
    let before = c.loop-c.invariant.left c.loop-c.c (le_refl c.loop-c.c) in
    divided_more c.args.divisor c.args.numbers.now c.loop-c.numbers c.loop-c.c (to_z w128 (of_z w128 c.quotient-over.result)) c.loop-c.invariant (omega arith)
    (ap (λ z. z *ℤ pos c.args.divisor) (to_z-of_z w128 c.quotient-over.result fits_over) ∙ c.quotient-over.ensures ∙ to_z-of_z w128 number fits ∙ before)

pub returns : goal.returns
returns c = divided_all c.args.divisor c.args.numbers.now c.loop-c.numbers c.loop-c.c (omega arith) c.loop-c.invariant
