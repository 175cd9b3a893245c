use Rattle.std.proofs.Common.{rules, ℕ, ℤ, pos, nat_abs, ◌≡◌, ◌<◌, ◌^◌, ◌-◌, ◌-ℤ◌, ◌*ℤ◌, ◌≤◌, length, slice_index_or, Some, FitsSigned, to_z, of_z, w64, refl, sym, ap, ap₂, ◌∙◌, subst, arith}
use Rattle.std.specs.Prelude.{slice_get}
use Rattle.std.proofs.lemmas.Int.{to_z-of_z}
use Rattle.std.proofs.lemmas.Option.{slice_get-get_or}
use Rattle.lp_integers.specs.Lines.{whole_at, CombinationsStayWithin}
use Rattle.lp_integers.proofs.Lines.{left_within, greater_within}
use Rattle.lp_integers.proofs.Places.{place_within, lessened_none, place_left, once_less, second_small, below_half, lessened_at_more, lessened_at_all, same_lessened_from}
use Rattle.lp_integers.proofs.narrow.lessen_at.Goals as goal

pub loop-i-init : goal.loop-i-init
loop-i-init c = lessened_none (to_z w64 (of_z w64 c.args.b)) c.args.numbers.now c.args.others.now c.args.places.now c.args.least c.requires.within

pub offset_bounds-others-c : goal.offset_bounds-others-c
offset_bounds-others-c c =
    let place : ℕ = slice_index_or c.args.places.now c.loop-i.i 0 in
    let inside : place < length c.args.others.now = place_within c.args.others.now c.args.places.now c.loop-i.i (length c.args.others.now) c.requires.places c.loop-i-test.true in
    search rules

pub bounds-others-c : goal.bounds-others-c
bounds-others-c c = place_within c.args.others.now c.args.places.now c.loop-i.i (length c.args.others.now) c.requires.places c.loop-i-test.true

pub product-second-requires : goal.product-second-requires
product-second-requires c =
    let place : ℕ = slice_index_or c.args.places.now c.loop-i.i 0 in
    let inside : place < length c.args.others.now = place_within c.args.others.now c.args.places.now c.loop-i.i (length c.args.others.now) c.requires.places c.loop-i-test.true in
    let b : ℤ = to_z w64 (of_z w64 c.args.b) in
    let other : ℤ = slice_index_or c.args.others.now place (pos 0) in
    let fits_other : FitsSigned w64 other = search rules in
    let b_is = to_z-of_z w64 c.args.b c.ranges.b in
    let other_is = to_z-of_z w64 other fits_other in
    subst (λ z. nat_abs z < 2 ^ 63) (sym (ap₂ (λ x y. x *ℤ y) b_is other_is))
    (second_small c.args.b (whole_at c.args.numbers.now place) other (c.requires.within_bound place))

pub offset_bounds-numbers-c : goal.offset_bounds-numbers-c
offset_bounds-numbers-c c =
    let place : ℕ = slice_index_or c.args.places.now c.loop-i.i 0 in
    let inside : place < length c.args.others.now = place_within c.args.others.now c.args.places.now c.loop-i.i (length c.args.others.now) c.requires.places c.loop-i-test.true in
    let here : place < length c.loop-i.numbers = subst (λ n. place < n) (c.requires.sized ∙ sym c.loop-i.invariant.sized) inside in
    search rules

pub offset_bounds-numbers-c-in-loop-i : goal.offset_bounds-numbers-c-in-loop-i
offset_bounds-numbers-c-in-loop-i c =
    let place : ℕ = slice_index_or c.args.places.now c.loop-i.i 0 in
    let inside : place < length c.args.others.now = place_within c.args.others.now c.args.places.now c.loop-i.i (length c.args.others.now) c.requires.places c.loop-i-test.true in
    let here : place < length c.loop-i.numbers = subst (λ n. place < n) (c.requires.sized ∙ sym c.loop-i.invariant.sized) inside in
    search rules

pub slice_copy_out-difference : goal.slice_copy_out-difference
slice_copy_out-difference c =
    let place : ℕ = slice_index_or c.args.places.now c.loop-i.i 0 in
    let inside : place < length c.args.others.now = place_within c.args.others.now c.args.places.now c.loop-i.i (length c.args.others.now) c.requires.places c.loop-i-test.true in
    let here : place < length c.loop-i.numbers = subst (λ n. place < n) (c.requires.sized ∙ sym c.loop-i.invariant.sized) inside in
    here

pub bounds-numbers-c : goal.bounds-numbers-c
bounds-numbers-c c =
    let place : ℕ = slice_index_or c.args.places.now c.loop-i.i 0 in
    let inside : place < length c.args.others.now = place_within c.args.others.now c.args.places.now c.loop-i.i (length c.args.others.now) c.requires.places c.loop-i-test.true in
    let here : place < length c.loop-i.numbers = subst (λ n. place < n) (c.requires.sized ∙ sym c.loop-i.invariant.sized) inside in
    here

pub difference-left-requires : goal.difference-left-requires
difference-left-requires c =
    let place : ℕ = slice_index_or c.args.places.now c.loop-i.i 0 in
    let inside : place < length c.args.others.now = place_within c.args.others.now c.args.places.now c.loop-i.i (length c.args.others.now) c.requires.places c.loop-i-test.true in
    let b : ℤ = to_z w64 (of_z w64 c.args.b) in
    let number : ℤ = slice_index_or c.loop-i.numbers place (pos 0) in
    let other : ℤ = slice_index_or c.args.others.now place (pos 0) in
    let fits_number : FitsSigned w64 number = search rules in
    let fits_other : FitsSigned w64 other = search rules in
    let b_is = to_z-of_z w64 c.args.b c.ranges.b in
    let other_is = to_z-of_z w64 other fits_other in
    let there : slice_get c.args.places.now c.loop-i.i ≡ Some place = slice_get-get_or c.args.places.now c.loop-i.i 0 c.loop-i-test.true in
    let fits_second : FitsSigned w64 c.product-second.result = record { sfits = c.product-second.type_inv } in
    let before = place_left b c.args.numbers.now c.args.others.now c.loop-i.numbers c.args.places.now c.loop-i.i (length c.args.others.now) c.args.least c.loop-i.most place c.requires.places c.loop-i.invariant there in
    let low = left_within (pos 1) c.args.b (whole_at c.args.numbers.now place) other (2 ^ 63 - 1) (c.requires.within_bound place) in
    let second_is : to_z w64 (of_z w64 c.product-second.result) ≡ c.args.b *ℤ other = to_z-of_z w64 c.product-second.result fits_second ∙ c.product-second.ensures ∙ ap₂ (λ x y. x *ℤ y) b_is other_is in
    let is : to_z w64 (of_z w64 number) -ℤ to_z w64 (of_z w64 c.product-second.result) ≡ pos 1 *ℤ whole_at c.args.numbers.now place -ℤ c.args.b *ℤ other =
    ap₂ (λ x y. x -ℤ y) (to_z-of_z w64 number fits_number ∙ before) second_is ∙ once_less (whole_at c.args.numbers.now place) (c.args.b *ℤ other) in
    subst (λ z. nat_abs z < 2 ^ 63) (sym is) (below_half _ low)

pub loop-i-preserved : goal.loop-i-preserved
loop-i-preserved c =
    let place : ℕ = slice_index_or c.args.places.now c.loop-i.i 0 in
    let there : slice_get c.args.places.now c.loop-i.i ≡ Some place = slice_get-get_or c.args.places.now c.loop-i.i 0 c.loop-i-test.true in
    let within = (c.requires.places.some c.loop-i.i place there).0 in
    let here : place < length c.loop-i.numbers = subst (λ n. place < n) (c.requires.sized ∙ sym c.loop-i.invariant.sized) within in
    let b : ℤ = to_z w64 (of_z w64 c.args.b) in
    let number : ℤ = slice_index_or c.loop-i.numbers place (pos 0) in
    let other : ℤ = slice_index_or c.args.others.now place (pos 0) in
    let v : ℤ = to_z w64 (of_z w64 c.difference-left.result) in
    let fits_number : FitsSigned w64 number = search rules in
    let fits_other : FitsSigned w64 other = search rules in
    let fits_second : FitsSigned w64 c.product-second.result = record { sfits = c.product-second.type_inv } in
    let fits_left : FitsSigned w64 c.difference-left.result = record { sfits = c.difference-left.type_inv } in
    let number_is = to_z-of_z w64 number fits_number in
    let other_is = to_z-of_z w64 other fits_other in
    let second_is = to_z-of_z w64 c.product-second.result fits_second in
    let left_is = to_z-of_z w64 c.difference-left.result fits_left in
    let before = place_left b c.args.numbers.now c.args.others.now c.loop-i.numbers c.args.places.now c.loop-i.i (length c.args.others.now) c.args.least c.loop-i.most place c.requires.places c.loop-i.invariant there in
    let once = once_less (whole_at c.args.numbers.now place) (b *ℤ other) in
    let is : v ≡ pos 1 *ℤ whole_at c.args.numbers.now place -ℤ b *ℤ other =
    left_is ∙ c.difference-left.ensures ∙ ap₂ (λ x y. x -ℤ y) (number_is ∙ before) (second_is ∙ c.product-second.ensures ∙ ap (λ y. b *ℤ y) other_is) ∙ once in
    let high : nat_abs v ≤ c.greater-most.result = c.greater-most.ensures.above.1 in
    let small : (m : ℕ) → CombinationsStayWithin m (pos 1) b c.args.numbers.now c.args.others.now → c.args.least ≤ m → c.greater-most.result ≤ m =
    λ m h more. greater_within (pos 1) b (whole_at c.args.numbers.now place) other v c.loop-i.most c.greater-most.result m is (h place)
    (c.loop-i.invariant.small m h more) c.greater-most.ensures.one in
    lessened_at_more b c.args.numbers.now c.args.others.now c.loop-i.numbers c.args.places.now c.loop-i.i
    (length c.args.others.now) c.args.least c.loop-i.most place v c.greater-most.result
    c.requires.places c.loop-i.invariant there here is c.greater-most.ensures.above.0 high small

pub returns : goal.returns
returns c =
    same_lessened_from (to_z-of_z w64 c.args.b c.ranges.b) refl refl refl
    (lessened_at_all (to_z w64 (of_z w64 c.args.b)) c.args.numbers.now c.args.others.now c.loop-i.numbers c.args.places.now c.loop-i.i c.args.least c.loop-i.most c.requires.places c.requires.sized (omega arith) c.loop-i.invariant)
