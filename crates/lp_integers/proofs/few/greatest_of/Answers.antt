use Rattle.std.proofs.Common.{rules, ◌≡◌, ◌≤◌, nat_abs, Some, FitsSigned, inl, inr, ap, subst, arith}
use Rattle.std.specs.Int.{w64}
use Rattle.std.specs.Prelude.{slice_get}
use Rattle.std.proofs.lemmas.Int.{to_z-of_z}
use Rattle.lp_integers.specs.declared.few.Word.{Word}
use Rattle.lp_integers.proofs.Each.{word_at, word_there, each_more, each_all}
use Rattle.lp_integers.proofs.few.greatest_of.Goals as goal

pub loop-word-preserved : goal.loop-word-preserved
loop-word-preserved c =
    let w : Word = word_at c.args.words.now c.loop-word.word-index in
    let fits : FitsSigned w64 w.number = search rules in
    let number_is = to_z-of_z w64 w.number fits in
    let there : slice_get c.args.words.now c.loop-word.word-index ≡ Some w = word_there c.args.words.now c.loop-word.word-index (omega arith) in
    let old = c.loop-word.invariant in
    let above = c.greater-most.ensures.above in
    let extended = above.0 in
    let high : nat_abs w.number ≤ c.greater-most.result = subst (λ z. nat_abs z ≤ c.greater-most.result) number_is above.1 in (
      each_more (λ v. nat_abs v.number ≤ c.greater-most.result) c.args.words.now c.loop-word.word-index w there (λ i v less at. let low = old.0 i v less at in omega arith) high,
      λ m within. elim c.greater-most.ensures.one [
        | inl e ↦ let low = old.1 m within in omega arith
        | inr e ↦ let low : nat_abs w.number ≤ m = within c.loop-word.word-index w there in let same = ap nat_abs number_is in omega arith
      ],
    )

pub returns-clause-within : goal.returns-clause-within
returns-clause-within c = each_all (λ v. nat_abs v.number ≤ c.loop-word.most) c.args.words.now c.loop-word.word-index (omega arith) c.loop-word.invariant.0
