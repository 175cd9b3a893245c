use Rattle.std.proofs.Common.{rules, ◌≡◌, ◌<◌, ℕ, nat_abs, Some, FitsSigned, to_z, of_z, sym, ap, subst, arith}
use Rattle.std.specs.Int.{w64, ◌∣◌}
use Rattle.std.specs.Prelude.{slice_get}
use Rattle.std.proofs.Math.Nat.{one-dvd, dvd_trans}
use Rattle.std.proofs.lemmas.Int.{to_z-of_z}
use Rattle.std.proofs.lemmas.Nat.Gcd.{dvd_refl}
use Rattle.gq_number.proofs.Gcd.{gcd_pos, gcd-dvd_left, gcd-dvd_right, dvd-gcd}
use Rattle.lp_integers.specs.declared.few.Word.{Word}
use Rattle.lp_integers.proofs.Each.{word_at, word_there, each_more, each_all}
use Rattle.lp_integers.proofs.few.divisor_of.Goals as goal

pub returns-then-divisor-eq1-clause-denominator : goal.returns-then-divisor-eq1-clause-denominator
returns-then-divisor-eq1-clause-denominator c = one-dvd c.args.denominator

pub returns-then-divisor-eq1-clause-numbers : goal.returns-then-divisor-eq1-clause-numbers
returns-then-divisor-eq1-clause-numbers c = λ i w at. one-dvd (nat_abs w.number)

pub loop-word-init : goal.loop-word-init
loop-word-init c =
    let is = c.of-divisor.ensures in (
      subst (λ d. 0 < d) (sym is) c.requires,
      subst (λ d. d ∣ c.args.denominator) (sym is) (dvd_refl c.args.denominator),
      λ i w less. absurd (omega arith),
      λ k of_denominator of_all. subst (λ d. k ∣ d) (sym is) of_denominator,
    )

pub loop-word-preserved : goal.loop-word-preserved
loop-word-preserved c =
    let w : Word = word_at c.args.words.now c.loop-word.word-index in
    let fits : FitsSigned w64 w.number = search rules in
    let m : ℕ = nat_abs (to_z w64 (of_z w64 w.number)) in
    let m_is : m ≡ nat_abs w.number = ap nat_abs (to_z-of_z w64 w.number fits) in
    let there : slice_get c.args.words.now c.loop-word.word-index ≡ Some w = word_there c.args.words.now c.loop-word.word-index (omega arith) in
    let is = c.shared_with-divisor.ensures in
    let d : ℕ = c.shared_with-divisor.result.value in
    let old = c.loop-word.invariant in (
      subst (λ g. 0 < g) (sym is) (gcd_pos m c.loop-word.divisor.value old.0),
      subst (λ g. g ∣ c.args.denominator) (sym is) (dvd_trans _ (gcd-dvd_right m c.loop-word.divisor.value) old.1),
      each_more (λ v. d ∣ nat_abs v.number) c.args.words.now c.loop-word.word-index w there
          (λ i v less at. subst (λ g. g ∣ nat_abs v.number) (sym is) (dvd_trans _ (gcd-dvd_right m c.loop-word.divisor.value) (old.2 i v less at)))
          (subst (λ t. d ∣ t) m_is (subst (λ g. g ∣ m) (sym is) (gcd-dvd_left m c.loop-word.divisor.value))),
      λ k of_denominator of_all. subst (λ g. k ∣ g) (sym is) (dvd-gcd k m c.loop-word.divisor.value (subst (λ t. k ∣ t) (sym m_is) (of_all c.loop-word.word-index w there)) (old.3 k of_denominator of_all)),
    )

pub returns-clause-numbers : goal.returns-clause-numbers
returns-clause-numbers c = each_all (λ v. c.loop-word.divisor.value ∣ nat_abs v.number) c.args.words.now c.loop-word.word-index (omega arith) c.loop-word.invariant.2

pub returns-then-divisor-eq1-clause-greatest : goal.returns-then-divisor-eq1-clause-greatest
returns-then-divisor-eq1-clause-greatest c = λ k of_denominator of_all. subst (λ g. k ∣ g) c.if-divisor-eq1.true (c.loop-word.invariant.3 k of_denominator of_all)

pub returns-clause-greatest : goal.returns-clause-greatest
returns-clause-greatest c = c.loop-word.invariant.3

pub bounds-words-word-index : goal.bounds-words-word-index
bounds-words-word-index c = c.loop-word-test.true

pub shared_with-divisor-requires : goal.shared_with-divisor-requires
shared_with-divisor-requires c = c.loop-word.invariant.0

pub returns-clause-positive : goal.returns-clause-positive
returns-clause-positive c = c.loop-word.invariant.0

pub returns-clause-denominator : goal.returns-clause-denominator
returns-clause-denominator c = c.loop-word.invariant.1
