use Rattle.std.proofs.Common.{rules, ◌≡◌, ◌<◌, ◌≤◌, ◌^◌, ◌-◌, ℤ, pos, nat_abs, length, FitsSigned, to_z, of_z, w64, refl, sym, ap, ◌∙◌, subst, arith}
use Rattle.std.specs.Prelude.{slice_get, slice_index_or, Some}
use Rattle.std.proofs.lemmas.Int.{to_z-of_z}
use Rattle.gq_number.specs.Number.{ratio}
use Rattle.lp_integer_rows.specs.declared.parts.Part.{Part}
use Rattle.lp_integer_rows.specs.Parts.{AreZeros, AreFilled}
use Rattle.lp_integer_rows.proofs.Plans.{index_get}
use Rattle.lp_integer_rows.proofs.Filling.{filled_none, filled_more, within_set}
use Rattle.lp_integer_rows.proofs.parts.fill_words.Goals as goal

abbrev none : Part
none = record { column = 0; numerator = pos 0; denominator = 0 }

pub loop-i-init : goal.loop-i-init
loop-i-init c =
    let zeros : AreZeros c.args.width c.in_ok-words.words.items = record { sized = c.in_ok-words.ensures.sized; zeros = c.in_ok-words.ensures.zeros } in
    (filled_none c.args.parts.now c.args.multiple c.args.width c.in_ok-words.words.items zeros, λ k. subst (λ x. nat_abs x ≤ 2 ^ 63 - 1) (sym (c.in_ok-words.ensures.zeros k)) (omega arith))

pub loop-i-preserved : goal.loop-i-preserved
loop-i-preserved c =
    let part : Part = slice_index_or c.args.parts.now c.loop-i.i none in
    let there : slice_get c.args.parts.now c.loop-i.i ≡ Some part = index_get c.args.parts.now c.loop-i.i part none c.loop-i-test.true refl in
    let told = c.in-Some.ensures in
    let word : ℤ = c.in-Some.word in
    let fits : FitsSigned w64 c.in-Some.word = search rules in
    let is : to_z w64 (of_z w64 word) ≡ word = to_z-of_z w64 word fits in
    let low : nat_abs (to_z w64 (of_z w64 word)) ≤ 2 ^ 63 - 1 = subst (λ z. nat_abs z ≤ 2 ^ 63 - 1) (sym is) told.0 in
    let within : part.column < length c.loop-i.words.items = let sized = c.loop-i.invariant.0.sized in let less = (c.requires.there c.loop-i.i part there).0 in omega arith in (
      filled_more c.args.parts.now c.args.multiple c.args.width c.loop-i.i c.loop-i.words.items part (to_z w64 (of_z w64 word)) c.requires.there c.requires.apart c.loop-i.invariant.0 there (omega arith) (ap (λ z. ratio z c.args.multiple) is ∙ told.1),
      within_set c.loop-i.words.items part.column (to_z w64 (of_z w64 word)) (2 ^ 63 - 1) within c.loop-i.invariant.1 low,
    )

pub scaled_word-requires-clause-positive : goal.scaled_word-requires-clause-positive
scaled_word-requires-clause-positive c = (c.requires.there c.loop-i.i (slice_index_or c.args.parts.now c.loop-i.i none) (index_get c.args.parts.now c.loop-i.i (slice_index_or c.args.parts.now c.loop-i.i none) none c.loop-i-test.true refl)).1

pub scaled_word-requires-clause-divides : goal.scaled_word-requires-clause-divides
scaled_word-requires-clause-divides c = c.requires.multiple.divides c.loop-i.i (slice_index_or c.args.parts.now c.loop-i.i none) c.loop-i-test.true (index_get c.args.parts.now c.loop-i.i (slice_index_or c.args.parts.now c.loop-i.i none) none c.loop-i-test.true refl)

pub index_mut-requires : goal.index_mut-requires
index_mut-requires c =
    let sized = c.loop-i.invariant.0.sized in
    let less = (c.requires.there c.loop-i.i (slice_index_or c.args.parts.now c.loop-i.i none) (index_get c.args.parts.now c.loop-i.i (slice_index_or c.args.parts.now c.loop-i.i none) none c.loop-i-test.true refl)).0 in
    omega (arith, c.loop-i.words.ok.0)

pub returns : goal.returns
returns c = (subst (λ n. AreFilled c.args.parts.now c.args.multiple c.args.width n c.loop-i.words.items) (omega arith) c.loop-i.invariant.0, c.loop-i.invariant.1)
