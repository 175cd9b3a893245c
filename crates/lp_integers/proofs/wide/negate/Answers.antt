-- One more number is negated, which keeps its magnitude.
use Rattle.std.proofs.Common.{rules, ◌≡◌, ◌<◌, ◌^◌, ◌-ℤ◌, pos, nat_abs, ℤ, slice_index_or, FitsSigned, to_z, of_z, sym, ap, ◌∙◌, subst, le_refl, arith}
use Rattle.std.specs.Int.{w128}
use Rattle.std.proofs.lemmas.Int.{to_z-of_z}
use Rattle.lp_integers.specs.Lines.{whole_at}
use Rattle.lp_integers.proofs.Lines.{negated_more, negated_all, negative, negative_below}
use Rattle.lp_integers.proofs.wide.negate.Goals as goal

pub difference-negated-requires : goal.difference-negated-requires
difference-negated-requires c =
    let number : ℤ = slice_index_or c.loop-c.numbers c.loop-c.c (pos 0) in
    let fits : FitsSigned w128 number = search rules in
    let is : to_z w128 (of_z w128 number) ≡ number = to_z-of_z w128 number fits in
    let before = c.loop-c.invariant.left c.loop-c.c (le_refl c.loop-c.c) in
    let small : nat_abs number < 2 ^ 127 = subst (λ z. nat_abs z < 2 ^ 127) (sym before) (c.requires c.loop-c.c) in
    subst (λ z. nat_abs (pos 0 -ℤ z) < 2 ^ 127) (sym is) (negative_below number (2 ^ 127) small)

pub loop-c-preserved : goal.loop-c-preserved
loop-c-preserved c =
    let number : ℤ = slice_index_or c.loop-c.numbers c.loop-c.c (pos 0) in
    let fits : FitsSigned w128 number = search rules in
    let fits_negated : FitsSigned w128 c.difference-negated.result = record { sfits = c.difference-negated.type_inv } in
    let before = c.loop-c.invariant.left c.loop-c.c (le_refl c.loop-c.c) in
    negated_more c.args.numbers.now c.loop-c.numbers c.loop-c.c (to_z w128 (of_z w128 c.difference-negated.result)) c.loop-c.invariant (omega arith)
    (to_z-of_z w128 c.difference-negated.result fits_negated ∙ c.difference-negated.ensures ∙ ap (λ z. pos 0 -ℤ z) (to_z-of_z w128 number fits ∙ before) ∙ negative (whole_at c.args.numbers.now c.loop-c.c))

pub returns : goal.returns
returns c = negated_all c.args.numbers.now c.loop-c.numbers c.loop-c.c (omega arith) c.loop-c.invariant
