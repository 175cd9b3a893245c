use Rattle.std.proofs.Common.{rules, ℤ, ◌≡◌, ◌≤◌, ◌<◌, ◌^◌, ◌-◌, ◌-ℤ◌, ◌*ℤ◌, nat_abs, FitsSigned, to_z, of_z, w64, sym, ap, ap₂, ◌∙◌, subst, subst₂}
use Rattle.std.proofs.lemmas.Int.{to_z-of_z}
use Rattle.lp_integers.specs.Words.{HasWordsBound}
use Rattle.lp_integers.proofs.Places.{below_half}
use Rattle.lp_integers.proofs.Differences.{Passing, StepsAreSmall, steps_are_small, passing_begins, passing_bound, passing_goes, passing_ends, passing_shrinks}
use Rattle.lp_integers.proofs.few.differences.Goals as goal

pub loop-place-init : goal.loop-place-init
loop-place-init c = λ high h g.
    subst (λ made. Passing (2 ^ 63 - 1) high c.args.words.now (to_z w64 (of_z w64 c.args.a)) (to_z w64 (of_z w64 c.args.b)) c.args.others.now c.args.words.now c.args.others.now made) (sym c.in_ok-made.ensures.items)
    (passing_begins (2 ^ 63 - 1) high c.args.words.now (to_z w64 (of_z w64 c.args.a)) (to_z w64 (of_z w64 c.args.b)) c.args.others.now h g)

pub product-first-requires : goal.product-first-requires
product-first-requires c =
    let a : ℤ = to_z w64 (of_z w64 c.args.a) in
    let b : ℤ = to_z w64 (of_z w64 c.args.b) in
    let x : ℤ = c.split_place-number.result.0 in
    let y : ℤ = c.split_place-other.result.0 in
    let fits_x : FitsSigned w64 c.split_place-number.result.0 = search rules in
    let fits_y : FitsSigned w64 c.split_place-other.result.0 = search rules in
    let within_bound : HasWordsBound (2 ^ 63 - 1) a b c.args.words.now c.args.others.now =
    subst₂ (λ u v. HasWordsBound (2 ^ 63 - 1) u v c.args.words.now c.args.others.now) (sym (to_z-of_z w64 c.args.a c.ranges.a)) (sym (to_z-of_z w64 c.args.b c.ranges.b)) c.requires.3 in
    let s : StepsAreSmall a b x y =
    steps_are_small a b x y (passing_bound (2 ^ 63 - 1) c.requires.0 c.args.words.now a b c.args.others.now c.loop-place.left.now c.loop-place.right.now c.loop-place.made.items c.split_place-number.result.1.now c.split_place-other.result.1.now c.in-Some.place x y (c.loop-place.invariant c.requires.0 c.requires.1 c.requires.2) c.in-Some.ensures c.split_place-number.ensures c.split_place-other.ensures within_bound) in
    subst (λ z. nat_abs (a *ℤ z) < 2 ^ 63) (sym (to_z-of_z w64 x fits_x)) s.first

pub product-second-requires : goal.product-second-requires
product-second-requires c =
    let a : ℤ = to_z w64 (of_z w64 c.args.a) in
    let b : ℤ = to_z w64 (of_z w64 c.args.b) in
    let x : ℤ = c.split_place-number.result.0 in
    let y : ℤ = c.split_place-other.result.0 in
    let fits_x : FitsSigned w64 c.split_place-number.result.0 = search rules in
    let fits_y : FitsSigned w64 c.split_place-other.result.0 = search rules in
    let within_bound : HasWordsBound (2 ^ 63 - 1) a b c.args.words.now c.args.others.now =
    subst₂ (λ u v. HasWordsBound (2 ^ 63 - 1) u v c.args.words.now c.args.others.now) (sym (to_z-of_z w64 c.args.a c.ranges.a)) (sym (to_z-of_z w64 c.args.b c.ranges.b)) c.requires.3 in
    let s : StepsAreSmall a b x y =
    steps_are_small a b x y (passing_bound (2 ^ 63 - 1) c.requires.0 c.args.words.now a b c.args.others.now c.loop-place.left.now c.loop-place.right.now c.loop-place.made.items c.split_place-number.result.1.now c.split_place-other.result.1.now c.in-Some.place x y (c.loop-place.invariant c.requires.0 c.requires.1 c.requires.2) c.in-Some.ensures c.split_place-number.ensures c.split_place-other.ensures within_bound) in
    subst (λ z. nat_abs (b *ℤ z) < 2 ^ 63) (sym (to_z-of_z w64 y fits_y)) s.second

pub difference-requires : goal.difference-requires
difference-requires c =
    let a : ℤ = to_z w64 (of_z w64 c.args.a) in
    let b : ℤ = to_z w64 (of_z w64 c.args.b) in
    let x : ℤ = c.split_place-number.result.0 in
    let y : ℤ = c.split_place-other.result.0 in
    let fits_x : FitsSigned w64 c.split_place-number.result.0 = search rules in
    let fits_y : FitsSigned w64 c.split_place-other.result.0 = search rules in
    let within_bound : HasWordsBound (2 ^ 63 - 1) a b c.args.words.now c.args.others.now =
    subst₂ (λ u v. HasWordsBound (2 ^ 63 - 1) u v c.args.words.now c.args.others.now) (sym (to_z-of_z w64 c.args.a c.ranges.a)) (sym (to_z-of_z w64 c.args.b c.ranges.b)) c.requires.3 in
    let s : StepsAreSmall a b x y =
    steps_are_small a b x y (passing_bound (2 ^ 63 - 1) c.requires.0 c.args.words.now a b c.args.others.now c.loop-place.left.now c.loop-place.right.now c.loop-place.made.items c.split_place-number.result.1.now c.split_place-other.result.1.now c.in-Some.place x y (c.loop-place.invariant c.requires.0 c.requires.1 c.requires.2) c.in-Some.ensures c.split_place-number.ensures c.split_place-other.ensures within_bound) in
    let fits_first : FitsSigned w64 c.product-first.result = record { sfits = c.product-first.type_inv } in
    let fits_second : FitsSigned w64 c.product-second.result = record { sfits = c.product-second.type_inv } in
    let first_is = to_z-of_z w64 c.product-first.result fits_first ∙ c.product-first.ensures ∙ ap (λ z. a *ℤ z) (to_z-of_z w64 x fits_x) in
    let second_is = to_z-of_z w64 c.product-second.result fits_second ∙ c.product-second.ensures ∙ ap (λ z. b *ℤ z) (to_z-of_z w64 y fits_y) in
    subst₂ (λ u v. nat_abs (u -ℤ v) < 2 ^ 63) (sym first_is) (sym second_is) (below_half _ s.left)

pub loop-place-preserved : goal.loop-place-preserved
loop-place-preserved c =
    let a : ℤ = to_z w64 (of_z w64 c.args.a) in
    let b : ℤ = to_z w64 (of_z w64 c.args.b) in
    let x : ℤ = c.split_place-number.result.0 in
    let y : ℤ = c.split_place-other.result.0 in
    let fits_x : FitsSigned w64 c.split_place-number.result.0 = search rules in
    let fits_y : FitsSigned w64 c.split_place-other.result.0 = search rules in
    let within_bound : HasWordsBound (2 ^ 63 - 1) a b c.args.words.now c.args.others.now =
    subst₂ (λ u v. HasWordsBound (2 ^ 63 - 1) u v c.args.words.now c.args.others.now) (sym (to_z-of_z w64 c.args.a c.ranges.a)) (sym (to_z-of_z w64 c.args.b c.ranges.b)) c.requires.3 in
    let s : StepsAreSmall a b x y =
    steps_are_small a b x y (passing_bound (2 ^ 63 - 1) c.requires.0 c.args.words.now a b c.args.others.now c.loop-place.left.now c.loop-place.right.now c.loop-place.made.items c.split_place-number.result.1.now c.split_place-other.result.1.now c.in-Some.place x y (c.loop-place.invariant c.requires.0 c.requires.1 c.requires.2) c.in-Some.ensures c.split_place-number.ensures c.split_place-other.ensures within_bound) in
    let fits_first : FitsSigned w64 c.product-first.result = record { sfits = c.product-first.type_inv } in
    let fits_second : FitsSigned w64 c.product-second.result = record { sfits = c.product-second.type_inv } in
    let fits_left : FitsSigned w64 c.difference.result = record { sfits = c.difference.type_inv } in
    let first_is = to_z-of_z w64 c.product-first.result fits_first ∙ c.product-first.ensures ∙ ap (λ z. a *ℤ z) (to_z-of_z w64 x fits_x) in
    let second_is = to_z-of_z w64 c.product-second.result fits_second ∙ c.product-second.ensures ∙ ap (λ z. b *ℤ z) (to_z-of_z w64 y fits_y) in
    let z : ℤ = to_z w64 (of_z w64 c.difference.result) in
    let is : z ≡ a *ℤ x -ℤ b *ℤ y = to_z-of_z w64 c.difference.result fits_left ∙ c.difference.ensures ∙ ap₂ (λ u v. u -ℤ v) first_is second_is in
    let small : nat_abs z ≤ 2 ^ 63 - 1 = subst (λ u. nat_abs u ≤ 2 ^ 63 - 1) (sym is) s.left in
    λ high h g. passing_goes (2 ^ 63 - 1) high c.args.words.now a b c.args.others.now c.loop-place.left.now c.loop-place.right.now c.loop-place.made.items c.split_place-number.result.1.now c.split_place-other.result.1.now c.in-Some.place x y (c.loop-place.invariant high h g) c.in-Some.ensures c.split_place-number.ensures c.split_place-other.ensures z c.push_unless_zero.new.words.items is small c.in_ok-push_unless_zero.ensures

pub loop-place-smaller : goal.loop-place-smaller
loop-place-smaller c =
    passing_shrinks c.loop-place.left.now c.loop-place.right.now c.split_place-number.result.1.now c.split_place-other.result.1.now c.in-Some.place c.split_place-number.result.0 c.split_place-other.result.0 c.in-Some.ensures c.split_place-number.ensures c.split_place-other.ensures

pub returns : goal.returns
returns c = λ high h g within_bound.
    passing_ends (2 ^ 63 - 1) high c.args.words.now c.args.a c.args.b c.args.others.now c.loop-place.left.now c.loop-place.right.now c.loop-place.made.items
    (subst₂ (λ u v. Passing (2 ^ 63 - 1) high c.args.words.now u v c.args.others.now c.loop-place.left.now c.loop-place.right.now c.loop-place.made.items) (to_z-of_z w64 c.args.a c.ranges.a) (to_z-of_z w64 c.args.b c.ranges.b) (c.loop-place.invariant high h g)) c.in_default.ensures
