use Rattle.std.proofs.Common.{◌≡◌, ℕ, ◌<◌, nat_abs, FitsSigned, inl, inr, sym, ap, ◌∙◌, subst, below_more, arith}
use Rattle.std.specs.Int.{◌∣◌, w128}
use Rattle.std.proofs.Math.Nat.{one-dvd, dvd_trans, dvd-zero}
use Rattle.std.proofs.lemmas.Int.{to_z-of_z}
use Rattle.std.proofs.lemmas.Bool.{cases_lt}
use Rattle.gq_number.proofs.Gcd.{gcd_pos, gcd-dvd_left, gcd-dvd_right, dvd-gcd}
use Rattle.lp_integers.specs.Lines.{whole_at}
use Rattle.lp_integers.proofs.Lines.{whole_past}
use Rattle.lp_integers.proofs.numbers.Numbers.divisor_of_any.Goals as goal

pub returns-then-divisor-eq1-clause-denominator : goal.returns-then-divisor-eq1-clause-denominator
returns-then-divisor-eq1-clause-denominator c = one-dvd c.args.denominator

pub returns-then-divisor-eq1-clause-numbers : goal.returns-then-divisor-eq1-clause-numbers
returns-then-divisor-eq1-clause-numbers c = λ v. one-dvd (nat_abs (whole_at c.args.self.now v))

pub loop-place-preserved : goal.loop-place-preserved
loop-place-preserved c =
    let m : ℕ = c.unsigned_abs.result in
    let fits : FitsSigned w128 c.at.result = record { sfits = c.at.type_inv } in
    let m_is : m ≡ nat_abs (whole_at c.args.self.now c.loop-place.place) = c.unsigned_abs.ensures.value ∙ ap nat_abs (to_z-of_z w128 c.at.result fits ∙ c.at.ensures) in
    let is = c.gcd-divisor.ensures in
    let old = c.loop-place.invariant in (
      subst (λ g. 0 < g) (sym is) (gcd_pos m c.loop-place.divisor old.0),
      subst (λ g. g ∣ c.args.denominator) (sym is) (dvd_trans _ (gcd-dvd_right m c.loop-place.divisor) old.1),
      below_more _ _ (λ k less. subst (λ g. g ∣ nat_abs (whole_at c.args.self.now k)) (sym is) (dvd_trans _ (gcd-dvd_right m c.loop-place.divisor) (old.2 k less)))
          (subst (λ t. c.gcd-divisor.result ∣ t) m_is (subst (λ g. g ∣ m) (sym is) (gcd-dvd_left m c.loop-place.divisor))),
      λ k of_denominator of_all. subst (λ g. k ∣ g) (sym is) (dvd-gcd k m c.loop-place.divisor (subst (λ t. k ∣ t) (sym m_is) (of_all c.loop-place.place)) (old.3 k of_denominator of_all)),
    )

pub returns-clause-numbers : goal.returns-clause-numbers
returns-clause-numbers c = λ v.
    elim (cases_lt v c.loop-place.place) [
      | inl less ↦ c.loop-place.invariant.2 v less
      | inr more ↦ subst (λ z. c.loop-place.divisor ∣ nat_abs z) (sym (whole_past c.args.self.now v (omega arith))) (dvd-zero c.loop-place.divisor)
    ]

pub returns-then-divisor-eq1-clause-greatest : goal.returns-then-divisor-eq1-clause-greatest
returns-then-divisor-eq1-clause-greatest c = λ k of_denominator of_all. subst (λ g. k ∣ g) c.if-divisor-eq1.true (c.loop-place.invariant.3 k of_denominator of_all)

pub returns-clause-greatest : goal.returns-clause-greatest
returns-clause-greatest c = c.loop-place.invariant.3

pub at-requires : goal.at-requires
at-requires c = subst (λ n. c.loop-place.place < n) c.len-place-end.ensures c.loop-place-test.true

pub returns-clause-positive : goal.returns-clause-positive
returns-clause-positive c = c.loop-place.invariant.0

pub returns-clause-denominator : goal.returns-clause-denominator
returns-clause-denominator c = c.loop-place.invariant.1
