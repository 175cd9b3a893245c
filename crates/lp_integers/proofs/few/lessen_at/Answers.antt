use Rattle.std.proofs.Common.{rules, ℕ, ℤ, pos, nat_abs, ◌+◌, ◌*◌, ◌≡◌, ◌<◌, ◌^◌, ◌-◌, ◌-ℤ◌, ◌*ℤ◌, ◌≤◌, List, length, map, slice_index_or, Some, FitsSigned, to_z, of_z, w64, refl, sym, ap, ap₂, ◌∙◌, subst, arith}
use Rattle.std.specs.Prelude.{slice_get}
use Rattle.std.proofs.lemmas.Int.{to_z-of_z}
use Rattle.std.proofs.lemmas.List.{length-map}
use Rattle.lp_integers.specs.declared.few.Word.{Word}
use Rattle.lp_integers.specs.Lines.{whole_at, CombinationsStayWithin, ArePlaces}
use Rattle.lp_integers.specs.Words.{spread_out}
use Rattle.lp_integers.proofs.Lines.{left_within, greater_within}
use Rattle.lp_integers.proofs.Places.{lessened_none, place_left, once_less, second_small, below_half, lessened_at_more, lessened_at_all, same_lessened_from}
use Rattle.lp_integers.proofs.Words.{spread_length}
use Rattle.lp_integers.proofs.Each.{word_at, word_place, place_there, are_places}
use Rattle.lp_integers.proofs.few.lessen_at.Goals as goal

pub loop-i-init : goal.loop-i-init
loop-i-init c = lessened_none (to_z w64 (of_z w64 c.args.b)) c.args.numbers.now (spread_out (length c.args.numbers.now) c.args.words.now) (map (λ (w : Word). w.place) c.args.words.now) c.args.least c.requires.within

pub product-second-requires : goal.product-second-requires
product-second-requires c =
    let w : Word = word_at c.args.words.now c.loop-i.i in
    let n : ℕ = length c.args.numbers.now in
    let told = word_place n c.args.words.now c.requires.words.0 c.loop-i.i c.requires.words.1 c.loop-i-test.true in
    let fits : FitsSigned w64 w.number = search rules in
    let b_is = to_z-of_z w64 c.args.b c.ranges.b in
    let number_is = to_z-of_z w64 w.number fits in
    let within_bound = subst (λ z. nat_abs (pos 1) * nat_abs (whole_at c.args.numbers.now w.place) + nat_abs c.args.b * nat_abs z ≤ 2 ^ 63 - 1) told.1 (c.requires.within_bound w.place) in
    subst (λ z. nat_abs z < 2 ^ 63) (sym (ap₂ (λ x y. x *ℤ y) b_is number_is))
    (second_small c.args.b (whole_at c.args.numbers.now w.place) w.number within_bound)

pub difference-left-requires : goal.difference-left-requires
difference-left-requires c =
    let w : Word = word_at c.args.words.now c.loop-i.i in
    let n : ℕ = length c.args.numbers.now in
    let others : List ℤ = spread_out n c.args.words.now in
    let places : List ℕ = map (λ (v : Word). v.place) c.args.words.now in
    let are : ArePlaces others n places = are_places n c.args.words.now c.requires.words.0 c.requires.words.1 in
    let told = word_place n c.args.words.now c.requires.words.0 c.loop-i.i c.requires.words.1 c.loop-i-test.true in
    let here : w.place < length c.loop-i.numbers = subst (λ m. w.place < m) (sym c.loop-i.invariant.sized) told.0 in
    let b : ℤ = to_z w64 (of_z w64 c.args.b) in
    let number : ℤ = slice_index_or c.loop-i.numbers w.place (pos 0) in
    let fits : FitsSigned w64 w.number = search rules in
    let fits_number : FitsSigned w64 number = search rules in
    let fits_second : FitsSigned w64 c.product-second.result = record { sfits = c.product-second.type_inv } in
    let there : slice_get places c.loop-i.i ≡ Some w.place = place_there c.args.words.now c.loop-i.i c.loop-i-test.true in
    let before = place_left b c.args.numbers.now others c.loop-i.numbers places c.loop-i.i n c.args.least c.loop-i.most w.place are c.loop-i.invariant there in
    let low = left_within (pos 1) c.args.b (whole_at c.args.numbers.now w.place) (whole_at others w.place) (2 ^ 63 - 1) (c.requires.within_bound w.place) in
    let b_is = to_z-of_z w64 c.args.b c.ranges.b in
    let number_is = to_z-of_z w64 w.number fits ∙ sym told.1 in
    let second_is : to_z w64 (of_z w64 c.product-second.result) ≡ c.args.b *ℤ whole_at others w.place = to_z-of_z w64 c.product-second.result fits_second ∙ c.product-second.ensures ∙ ap₂ (λ x y. x *ℤ y) b_is number_is in
    let is : to_z w64 (of_z w64 number) -ℤ to_z w64 (of_z w64 c.product-second.result) ≡ pos 1 *ℤ whole_at c.args.numbers.now w.place -ℤ c.args.b *ℤ whole_at others w.place =
    ap₂ (λ x y. x -ℤ y) (to_z-of_z w64 number fits_number ∙ before) second_is ∙ once_less (whole_at c.args.numbers.now w.place) (c.args.b *ℤ whole_at others w.place) in
    subst (λ z. nat_abs z < 2 ^ 63) (sym is) (below_half _ low)

pub loop-i-preserved : goal.loop-i-preserved
loop-i-preserved c =
    let w : Word = word_at c.args.words.now c.loop-i.i in
    let n : ℕ = length c.args.numbers.now in
    let others : List ℤ = spread_out n c.args.words.now in
    let places : List ℕ = map (λ (x : Word). x.place) c.args.words.now in
    let are : ArePlaces others n places = are_places n c.args.words.now c.requires.words.0 c.requires.words.1 in
    let told = word_place n c.args.words.now c.requires.words.0 c.loop-i.i c.requires.words.1 c.loop-i-test.true in
    let there : slice_get places c.loop-i.i ≡ Some w.place = place_there c.args.words.now c.loop-i.i c.loop-i-test.true in
    let here : w.place < length c.loop-i.numbers = subst (λ m. w.place < m) (sym c.loop-i.invariant.sized) told.0 in
    let b : ℤ = to_z w64 (of_z w64 c.args.b) in
    let number : ℤ = slice_index_or c.loop-i.numbers w.place (pos 0) in
    let v : ℤ = to_z w64 (of_z w64 c.difference-left.result) in
    let fits : FitsSigned w64 w.number = search rules in
    let fits_number : FitsSigned w64 number = search rules in
    let fits_second : FitsSigned w64 c.product-second.result = record { sfits = c.product-second.type_inv } in
    let fits_left : FitsSigned w64 c.difference-left.result = record { sfits = c.difference-left.type_inv } in
    let before = place_left b c.args.numbers.now others c.loop-i.numbers places c.loop-i.i n c.args.least c.loop-i.most w.place are c.loop-i.invariant there in
    let number_is = to_z-of_z w64 w.number fits ∙ sym told.1 in
    let second_is : to_z w64 (of_z w64 c.product-second.result) ≡ b *ℤ whole_at others w.place = to_z-of_z w64 c.product-second.result fits_second ∙ c.product-second.ensures ∙ ap (λ y. b *ℤ y) number_is in
    let is : v ≡ pos 1 *ℤ whole_at c.args.numbers.now w.place -ℤ b *ℤ whole_at others w.place =
    to_z-of_z w64 c.difference-left.result fits_left ∙ c.difference-left.ensures ∙ ap₂ (λ x y. x -ℤ y) (to_z-of_z w64 number fits_number ∙ before) second_is ∙ once_less (whole_at c.args.numbers.now w.place) (b *ℤ whole_at others w.place) in
    let high : nat_abs v ≤ c.greater-most.result = c.greater-most.ensures.above.1 in
    let small : (m : ℕ) → CombinationsStayWithin m (pos 1) b c.args.numbers.now others → c.args.least ≤ m → c.greater-most.result ≤ m =
    λ m h more. greater_within (pos 1) b (whole_at c.args.numbers.now w.place) (whole_at others w.place) v c.loop-i.most c.greater-most.result m is (h w.place)
    (c.loop-i.invariant.small m h more) c.greater-most.ensures.one in
    lessened_at_more b c.args.numbers.now others c.loop-i.numbers places c.loop-i.i n c.args.least c.loop-i.most w.place v c.greater-most.result are c.loop-i.invariant there here is c.greater-most.ensures.above.0 high small

pub returns : goal.returns
returns c =
    let n : ℕ = length c.args.numbers.now in
    let others : List ℤ = spread_out n c.args.words.now in
    let places : List ℕ = map (λ (x : Word). x.place) c.args.words.now in
    let are : ArePlaces others (length others) places = subst (λ m. ArePlaces others m places) (sym (spread_length n c.args.words.now)) (are_places n c.args.words.now c.requires.words.0 c.requires.words.1) in
    same_lessened_from (to_z-of_z w64 c.args.b c.ranges.b) refl refl refl
    (lessened_at_all (to_z w64 (of_z w64 c.args.b)) c.args.numbers.now others c.loop-i.numbers places c.loop-i.i c.args.least c.loop-i.most are (spread_length n c.args.words.now) (let e = length-map c.args.words.now (λ (x : Word). x.place) in omega arith) c.loop-i.invariant)

pub offset_bounds-numbers-word : goal.offset_bounds-numbers-word
offset_bounds-numbers-word c =
    let told = word_place (length c.args.numbers.now) c.args.words.now c.requires.words.0 c.loop-i.i c.requires.words.1 c.loop-i-test.true in
    let here : (word_at c.args.words.now c.loop-i.i).place < length c.loop-i.numbers =
    subst (λ m. (word_at c.args.words.now c.loop-i.i).place < m) (sym c.loop-i.invariant.sized) told.0 in
    search rules

pub offset_bounds-numbers-word-in-loop-i : goal.offset_bounds-numbers-word-in-loop-i
offset_bounds-numbers-word-in-loop-i c =
    let told = word_place (length c.args.numbers.now) c.args.words.now c.requires.words.0 c.loop-i.i c.requires.words.1 c.loop-i-test.true in
    let here : (word_at c.args.words.now c.loop-i.i).place < length c.loop-i.numbers =
    subst (λ m. (word_at c.args.words.now c.loop-i.i).place < m) (sym c.loop-i.invariant.sized) told.0 in
    search rules

pub slice_copy_out-difference : goal.slice_copy_out-difference
slice_copy_out-difference c =
    let told = word_place (length c.args.numbers.now) c.args.words.now c.requires.words.0 c.loop-i.i c.requires.words.1 c.loop-i-test.true in
    let here : (word_at c.args.words.now c.loop-i.i).place < length c.loop-i.numbers =
    subst (λ m. (word_at c.args.words.now c.loop-i.i).place < m) (sym c.loop-i.invariant.sized) told.0 in
    here

pub bounds-numbers-word : goal.bounds-numbers-word
bounds-numbers-word c =
    let told = word_place (length c.args.numbers.now) c.args.words.now c.requires.words.0 c.loop-i.i c.requires.words.1 c.loop-i-test.true in
    let here : (word_at c.args.words.now c.loop-i.i).place < length c.loop-i.numbers =
    subst (λ m. (word_at c.args.words.now c.loop-i.i).place < m) (sym c.loop-i.invariant.sized) told.0 in
    here
