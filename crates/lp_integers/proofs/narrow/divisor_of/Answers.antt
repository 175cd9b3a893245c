use Rattle.std.proofs.Common.{rules, ℕ, ◌<◌, ℤ, pos, nat_abs, slice_index_or, ◌≡◌, FitsSigned, to_z, of_z, w64, inl, inr, sym, ap, subst, below_more, arith}
use Rattle.std.specs.Int.{◌∣◌}
use Rattle.std.proofs.Math.Nat.{one-dvd, dvd_trans, dvd-zero}
use Rattle.std.proofs.lemmas.Int.{to_z-of_z}
use Rattle.std.proofs.lemmas.Nat.Gcd.{dvd_refl}
use Rattle.std.proofs.lemmas.Bool.{cases_lt}
use Rattle.gq_number.proofs.Gcd.{gcd_pos, gcd-dvd_left, gcd-dvd_right, dvd-gcd}
use Rattle.lp_integers.specs.Lines.{whole_at}
use Rattle.lp_integers.proofs.Lines.{whole_past}
use Rattle.lp_integers.proofs.narrow.divisor_of.Goals as goal

pub returns-then-divisor-eq1-clause-denominator : goal.returns-then-divisor-eq1-clause-denominator
returns-then-divisor-eq1-clause-denominator c = one-dvd c.args.denominator

pub returns-then-divisor-eq1-clause-numbers : goal.returns-then-divisor-eq1-clause-numbers
returns-then-divisor-eq1-clause-numbers c = λ v. one-dvd (nat_abs (whole_at c.args.numbers.now v))

pub loop-n-init : goal.loop-n-init
loop-n-init c =
    let is = c.of-divisor.ensures in (
      subst (λ d. 0 < d) (sym is) c.requires,
      subst (λ d. d ∣ c.args.denominator) (sym is) (dvd_refl c.args.denominator),
      λ k less. absurd (omega arith),
      λ k of_denominator of_all. subst (λ d. k ∣ d) (sym is) of_denominator,
    )

pub loop-n-preserved : goal.loop-n-preserved
loop-n-preserved c =
    let number : ℤ = slice_index_or c.args.numbers.now c.loop-n.n-index (pos 0) in
    let fits_number : FitsSigned w64 number = search rules in
    let m : ℕ = nat_abs (to_z w64 (of_z w64 number)) in
    let m_is : m ≡ nat_abs number = ap nat_abs (to_z-of_z w64 number fits_number) in
    let is = c.shared_with-divisor.ensures in
    let old = c.loop-n.invariant in (
      subst (λ g. 0 < g) (sym is) (gcd_pos m c.loop-n.divisor.value old.0),
      subst (λ g. g ∣ c.args.denominator) (sym is) (dvd_trans _ (gcd-dvd_right m c.loop-n.divisor.value) old.1),
      below_more _ _ (λ k less. subst (λ g. g ∣ nat_abs (whole_at c.args.numbers.now k)) (sym is) (dvd_trans _ (gcd-dvd_right m c.loop-n.divisor.value) (old.2 k less)))
          (subst (λ t. c.shared_with-divisor.result.value ∣ t) m_is (subst (λ g. g ∣ m) (sym is) (gcd-dvd_left m c.loop-n.divisor.value))),
      λ k of_denominator of_all. subst (λ g. k ∣ g) (sym is) (dvd-gcd k m c.loop-n.divisor.value (subst (λ t. k ∣ t) (sym m_is) (of_all c.loop-n.n-index)) (old.3 k of_denominator of_all)),
    )

pub returns-clause-numbers : goal.returns-clause-numbers
returns-clause-numbers c = λ v.
    elim (cases_lt v c.loop-n.n-index) [
      | inl less ↦ c.loop-n.invariant.2 v less
      | inr more ↦ subst (λ z. c.loop-n.divisor.value ∣ nat_abs z) (sym (whole_past c.args.numbers.now v (omega arith))) (dvd-zero c.loop-n.divisor.value)
    ]

pub returns-then-divisor-eq1-clause-greatest : goal.returns-then-divisor-eq1-clause-greatest
returns-then-divisor-eq1-clause-greatest c = λ k of_denominator of_all. subst (λ g. k ∣ g) c.if-divisor-eq1.true (c.loop-n.invariant.3 k of_denominator of_all)

pub returns-clause-greatest : goal.returns-clause-greatest
returns-clause-greatest c = c.loop-n.invariant.3

pub bounds-numbers-n-index : goal.bounds-numbers-n-index
bounds-numbers-n-index c = c.loop-n-test.true

pub shared_with-divisor-requires : goal.shared_with-divisor-requires
shared_with-divisor-requires c = c.loop-n.invariant.0

pub returns-clause-positive : goal.returns-clause-positive
returns-clause-positive c = c.loop-n.invariant.0

pub returns-clause-denominator : goal.returns-clause-denominator
returns-clause-denominator c = c.loop-n.invariant.1
