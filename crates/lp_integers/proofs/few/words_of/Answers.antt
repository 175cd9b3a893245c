-- One more number is a word, unless it is 0; past the end of the list each number is 0.
use Rattle.std.proofs.Common.{rules, ◌≡◌, ◌≤◌, ◌-◌, ◌^◌, ℤ, inl, inr, pos, nat_abs, slice_index_or, FitsSigned, to_z, of_z, w64, sym, ◌∙◌, subst, le_refl, arith}
use Rattle.std.proofs.lemmas.Int.{to_z-of_z}
use Rattle.std.proofs.lemmas.Result.{IfOk-from_err}
use Rattle.std.proofs.lemmas.Bool.{cases_lt, cases_eq}
use Rattle.lp_integers.specs.Lines.{whole_at}
use Rattle.lp_integers.specs.Words.{stored_number, AreWords}
use Rattle.lp_integers.proofs.Lines.{whole_past}
use Rattle.lp_integers.proofs.Words.{number_above}
use Rattle.lp_integers.proofs.Differences.{pushed_here, pushed_other, pushed_words}
use Rattle.lp_integers.proofs.few.words_of.Goals as goal

pub loop-place-preserved : goal.loop-place-preserved
loop-place-preserved c =
    let number : ℤ = slice_index_or c.args.numbers.now c.loop-place.place (pos 0) in
    let fits : FitsSigned w64 number = search rules in
    let z : ℤ = to_z w64 (of_z w64 number) in
    let is : z ≡ number = to_z-of_z w64 number fits in
    let small : nat_abs z ≤ 2 ^ 63 - 1 = subst (λ x. nat_abs x ≤ 2 ^ 63 - 1) (sym is) (c.requires c.loop-place.place) in
    let old = c.loop-place.invariant in
    let p = c.in_ok-push_unless_zero.ensures in (
      pushed_words c.loop-place.words.items c.push_unless_zero.new.words.items (2 ^ 63 - 1) c.loop-place.place c.loop-place.place z old.0 (le_refl c.loop-place.place) small p,
      λ k less. elim (cases_eq k c.loop-place.place) [
        | inl same ↦ subst (λ j. whole_at c.args.numbers.now j ≡ stored_number c.push_unless_zero.new.words.items j) (sym same) (sym is ∙ sym (pushed_here c.loop-place.words.items c.push_unless_zero.new.words.items (2 ^ 63 - 1) c.loop-place.place c.loop-place.place z old.0 (le_refl c.loop-place.place) p))
        | inr other ↦ old.1 k (omega arith) ∙ sym (pushed_other c.loop-place.words.items c.push_unless_zero.new.words.items c.loop-place.place k z (λ s. other (sym s)) p)
      ],
    )

pub returns-clause-words : goal.returns-clause-words
returns-clause-words c = subst (λ n. AreWords (2 ^ 63 - 1) 0 n c.loop-place.words.items) (omega arith) c.loop-place.invariant.0

pub returns-clause-numbers : goal.returns-clause-numbers
returns-clause-numbers c = λ k.
    elim (cases_lt k c.loop-place.place) [
      | inl less ↦ c.loop-place.invariant.1 k less
      | inr more ↦ whole_past c.args.numbers.now k (omega arith) ∙ sym (number_above c.loop-place.words.items (2 ^ 63 - 1) 0 c.loop-place.place k c.loop-place.invariant.0 more)
    ]

pub returns-in_err-words-clause-words : goal.returns-in_err-words-clause-words
returns-in_err-words-clause-words c = IfOk-from_err c.from_residual.result _ c.from_residual.ensures.0

pub returns-in_err-words-clause-numbers : goal.returns-in_err-words-clause-numbers
returns-in_err-words-clause-numbers c = IfOk-from_err c.from_residual.result _ c.from_residual.ensures.0

pub loop-place-init : goal.loop-place-init
loop-place-init c = (subst (AreWords (2 ^ 63 - 1) 0 0) (sym c.in_ok-words.ensures.items) tt, λ k less. absurd (omega arith))

pub bounds-numbers-place : goal.bounds-numbers-place
bounds-numbers-place c = c.loop-place-test.true

pub returns-in_err-push_unless_zero-clause-words : goal.returns-in_err-push_unless_zero-clause-words
returns-in_err-push_unless_zero-clause-words c =
    IfOk-from_err c.from_residual-in_err-push_unless_zero.result _ c.from_residual-in_err-push_unless_zero.ensures.0

pub returns-in_err-push_unless_zero-clause-numbers : goal.returns-in_err-push_unless_zero-clause-numbers
returns-in_err-push_unless_zero-clause-numbers c =
    IfOk-from_err c.from_residual-in_err-push_unless_zero.result _ c.from_residual-in_err-push_unless_zero.ensures.0
