use Rattle.std.proofs.Common.{rules, ◌≡◌, ℕ, ◌<◌, nat_abs, FitsSigned, sym, ap, ◌∙◌, subst, below_more, arith}
use Rattle.std.specs.Int.{◌∣◌, w128}
use Rattle.std.proofs.Math.Nat.{dvd_refl, dvd_trans}
use Rattle.std.proofs.lemmas.Int.{to_z-of_z}
use Rattle.gq_number.proofs.Gcd.{gcd_pos, gcd-dvd_left, gcd-dvd_right, dvd-gcd}
use Rattle.lp_integer_dict.specs.WithinBound.{line_denominator, row_number}
use Rattle.lp_integer_dict.proofs.pairs.divisor_of_row.Goals as goal

pub loop-c-init : goal.loop-c-init
loop-c-init c = (
  c.read-divisor.ensures.positive,
  subst (λ g. g ∣ line_denominator c.args.deferred c.args.lines.now c.args.place) (sym c.read-divisor.ensures.shared) (dvd_refl (line_denominator c.args.deferred c.args.lines.now c.args.place)),
  λ i less. absurd (omega arith),
  λ d of_low of_all. subst (λ g. d ∣ g) (sym c.read-divisor.ensures.shared) of_low,
)

pub loop-c-preserved : goal.loop-c-preserved
loop-c-preserved c =
    let m : ℕ = c.unsigned_abs.result in
    let fits : FitsSigned w128 c.read-number.result.numerator = search rules in
    let m_is : m ≡ nat_abs (row_number c.args.deferred c.args.lines.now c.args.place c.loop-c.c) = c.unsigned_abs.ensures.value ∙ ap nat_abs (to_z-of_z w128 c.read-number.result.numerator fits ∙ c.read-number.ensures.numerator) in
    let is = c.gcd-divisor.ensures in
    let old = c.loop-c.invariant in (
      subst (λ g. 0 < g) (sym is) (gcd_pos m c.loop-c.divisor old.0),
      subst (λ g. g ∣ line_denominator c.args.deferred c.args.lines.now c.args.place) (sym is) (dvd_trans _ (gcd-dvd_right m c.loop-c.divisor) old.1),
      below_more _ _ (λ k less. subst (λ g. g ∣ nat_abs (row_number c.args.deferred c.args.lines.now c.args.place k)) (sym is) (dvd_trans _ (gcd-dvd_right m c.loop-c.divisor) (old.2 k less)))
          (subst (λ t. c.gcd-divisor.result ∣ t) m_is (subst (λ g. g ∣ m) (sym is) (gcd-dvd_left m c.loop-c.divisor))),
      λ d of_low of_all. subst (λ g. d ∣ g) (sym is) (dvd-gcd d m c.loop-c.divisor (subst (λ t. d ∣ t) (sym m_is) (of_all c.loop-c.c c.loop-c-test.true)) (old.3 d of_low of_all)),
    )

pub returns-clause-numbers : goal.returns-clause-numbers
returns-clause-numbers c = λ i less. c.loop-c.invariant.2 i (omega arith)
