-- One more number is lessened: the steps stay within wide, and the result is bounded.
use Rattle.std.proofs.Common.{rules, ◌<◌, ◌*◌, ◌+◌, ◌-◌, ◌^◌, ◌≤◌, ℤ, pos, nat_abs, ◌≡◌, ◌-ℤ◌, ◌*ℤ◌, slice_index_or, FitsSigned, sym, ap, ◌∙◌, subst, subst₂, le_refl, arith}
use Rattle.std.specs.Int.{w128}
use Rattle.std.proofs.lemmas.Int.{to_z-of_z}
use Rattle.lp_integers.specs.Lines.{AreLessenedTo}
use Rattle.lp_integers.proofs.Lines.{stored, first_below, second_below, left_below, left_is, greater_within, lessened_more, lessened_all}
use Rattle.lp_integers.proofs.wide.lessen.Goals as goal

pub product-first-requires : goal.product-first-requires
product-first-requires c =
    let number : ℤ = slice_index_or c.loop-c.numbers c.loop-c.c (pos 0) in
    let other : ℤ = slice_index_or c.args.others.now c.loop-c.c (pos 0) in
    let fits_number : FitsSigned w128 number = search rules in
    let before = c.loop-c.invariant.left c.loop-c.c (le_refl c.loop-c.c) in
    let within : nat_abs c.args.a * nat_abs number + nat_abs c.args.b * nat_abs other ≤ 2 ^ 127 - 1 =
    subst (λ z. nat_abs c.args.a * nat_abs z + nat_abs c.args.b * nat_abs other ≤ 2 ^ 127 - 1) (sym before) (c.requires.within_bound c.loop-c.c) in
    first_below w128 (2 ^ 127) c.args.a c.args.b number other (omega arith) within c.ranges.a fits_number

pub product-second-requires : goal.product-second-requires
product-second-requires c =
    let number : ℤ = slice_index_or c.loop-c.numbers c.loop-c.c (pos 0) in
    let other : ℤ = slice_index_or c.args.others.now c.loop-c.c (pos 0) in
    let fits_number : FitsSigned w128 number = search rules in
    let fits_other : FitsSigned w128 other = search rules in
    let before = c.loop-c.invariant.left c.loop-c.c (le_refl c.loop-c.c) in
    let within : nat_abs c.args.a * nat_abs number + nat_abs c.args.b * nat_abs other ≤ 2 ^ 127 - 1 =
    subst (λ z. nat_abs c.args.a * nat_abs z + nat_abs c.args.b * nat_abs other ≤ 2 ^ 127 - 1) (sym before) (c.requires.within_bound c.loop-c.c) in
    second_below w128 (2 ^ 127) c.args.a c.args.b number other (omega arith) within c.ranges.a fits_number c.ranges.b fits_other

pub difference-left-requires : goal.difference-left-requires
difference-left-requires c =
    let number : ℤ = slice_index_or c.loop-c.numbers c.loop-c.c (pos 0) in
    let other : ℤ = slice_index_or c.args.others.now c.loop-c.c (pos 0) in
    let fits_number : FitsSigned w128 number = search rules in
    let fits_other : FitsSigned w128 other = search rules in
    let fits_first : FitsSigned w128 c.product-first.result = record { sfits = c.product-first.type_inv } in
    let fits_second : FitsSigned w128 c.product-second.result = record { sfits = c.product-second.type_inv } in
    let before = c.loop-c.invariant.left c.loop-c.c (le_refl c.loop-c.c) in
    let within : nat_abs c.args.a * nat_abs number + nat_abs c.args.b * nat_abs other ≤ 2 ^ 127 - 1 =
    subst (λ z. nat_abs c.args.a * nat_abs z + nat_abs c.args.b * nat_abs other ≤ 2 ^ 127 - 1) (sym before) (c.requires.within_bound c.loop-c.c) in
    left_below w128 (2 ^ 127) c.args.a c.args.b number other (omega arith) within c.ranges.a fits_number c.ranges.b fits_other c.product-first.result c.product-second.result fits_first fits_second c.product-first.ensures c.product-second.ensures

pub loop-c-preserved : goal.loop-c-preserved
loop-c-preserved c =
    let a : ℤ = stored w128 c.args.a in
    let b : ℤ = stored w128 c.args.b in
    let number : ℤ = slice_index_or c.loop-c.numbers c.loop-c.c (pos 0) in
    let other : ℤ = slice_index_or c.args.others.now c.loop-c.c (pos 0) in
    let v : ℤ = stored w128 c.difference-left.result in
    let n : ℤ = slice_index_or c.args.numbers.now c.loop-c.c (pos 0) in
    let fits_number : FitsSigned w128 number = search rules in
    let fits_other : FitsSigned w128 other = search rules in
    let fits_first : FitsSigned w128 c.product-first.result = record { sfits = c.product-first.type_inv } in
    let fits_second : FitsSigned w128 c.product-second.result = record { sfits = c.product-second.type_inv } in
    let fits_left : FitsSigned w128 c.difference-left.result = record { sfits = c.difference-left.type_inv } in
    let before : number ≡ n = c.loop-c.invariant.left c.loop-c.c (le_refl c.loop-c.c) in
    let within : nat_abs c.args.a * nat_abs number + nat_abs c.args.b * nat_abs other ≤ 2 ^ 127 - 1 =
    subst (λ z. nat_abs c.args.a * nat_abs z + nat_abs c.args.b * nat_abs other ≤ 2 ^ 127 - 1) (sym before) (c.requires.within_bound c.loop-c.c) in
    let is : v ≡ a *ℤ n -ℤ b *ℤ other =
    left_is w128 (2 ^ 127) c.args.a c.args.b number other (omega arith) within c.ranges.a fits_number c.ranges.b fits_other c.product-first.result c.product-second.result fits_first fits_second c.product-first.ensures c.product-second.ensures c.difference-left.result fits_left c.difference-left.ensures
    ∙ ap (λ z. a *ℤ z -ℤ b *ℤ other) before in
    lessened_more a b c.args.numbers.now c.args.others.now c.loop-c.numbers c.loop-c.c c.loop-c.most v c.greater-most.result c.loop-c.invariant (omega arith) is c.greater-most.ensures.above.0 c.greater-most.ensures.above.1
    (λ m h. greater_within a b n other v c.loop-c.most c.greater-most.result m is (h c.loop-c.c) (c.loop-c.invariant.small m h) c.greater-most.ensures.one)

pub returns : goal.returns
returns c =
    let a_is = to_z-of_z w128 c.args.a c.ranges.a in
    let b_is = to_z-of_z w128 c.args.b c.ranges.b in
    lessened_all c.args.a c.args.b c.args.numbers.now c.args.others.now c.loop-c.numbers c.loop-c.c c.loop-c.most (omega arith)
    (subst₂ (λ x y. AreLessenedTo x y c.args.numbers.now c.args.others.now c.loop-c.numbers c.loop-c.c c.loop-c.most) a_is b_is c.loop-c.invariant)

pub bounds-numbers-c : goal.bounds-numbers-c
bounds-numbers-c c = subst (λ n. c.loop-c.c < n) (sym c.loop-c.auto.numbers) c.loop-c-test.true

pub bounds-others-c : goal.bounds-others-c
bounds-others-c c = subst (λ n. c.loop-c.c < n) (sym c.requires.sized) c.loop-c-test.true
