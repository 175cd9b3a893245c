-- Some variable improves with the greatest coefficient.
use Rattle.std.proofs.Common.{◌≡◌, ℕ, ◌+◌, ◌<◌, inl, inr, sym, ap, subst, subst₂, arith}
use Rattle.gq_number.specs.Number.{Number, neg_ℚ}
use Rattle.gq_number.specs.Order.{◌≤ℚ◌}
use Rattle.gq_number.proofs.Order.{≤ℚ_from_≡, neg-≤ℚ}
use Rattle.gq_number.proofs.Ring.{neg_neg}
use Rattle.lp_core.specs.Dictionary.{Dictionary, entry_at, IsPriced, Improves}
use Rattle.lp_core.specs.LargestCoefficient.{HasGreatest}
use Rattle.lp_fraction_dict.specs.Pivots.{IsProper}
use Rattle.lp_fraction_dict.proofs.Improving.{priced_there}
use Rattle.lp_simplex.proofs.Deciding.{IsFirst, first_below, improves_or_not, priced_once}
use Rattle.lp_simplex.specs.Turn.{AlwaysPicks}

unturned : (x y : Number) → neg_ℚ y ≤ℚ neg_ℚ x → x ≤ℚ y
unturned x y most = subst₂ (λ a b. a ≤ℚ b) (neg_neg x) (neg_neg y) (neg-≤ℚ (neg_ℚ y) (neg_ℚ x) most)

module _ (d : Dictionary) (proper : IsProper d) (k : ℕ) (priced : IsPriced d k) (q : ℕ) (h : IsFirst (Improves d) (λ v. neg_ℚ (entry_at d k v)) (λ v. v) (d.variables + 1) q) where
  within : (v : ℕ) → Improves d v → v < d.variables + 1
  within v improves = let there = improves.there in omega arith

  here : (j : ℕ) → IsPriced d j → k ≡ j
  here j also = priced_once d proper k j priced also

  found_greatest : HasGreatest d q
  found_greatest =
      record {
        improves = h.holds;
        greatest = λ v j improves also. subst (λ i. entry_at d i v ≤ℚ entry_at d i q) (here j also) (unturned (entry_at d k v) (entry_at d k q) (h.least v (within v improves) improves));
        least = λ v j improves also same. h.first v (within v improves) improves (≤ℚ_from_≡ (neg_ℚ (entry_at d k v)) (neg_ℚ (entry_at d k q)) (ap neg_ℚ (subst (λ i. entry_at d i v ≡ entry_at d i q) (sym (here j also)) same)));
      }

pub greatest_there : AlwaysPicks HasGreatest
greatest_there d proper some =
    let priced = priced_there d in
    elim (first_below (Improves d) (improves_or_not d proper) (λ v. neg_ℚ (entry_at d priced.0 v)) (λ v. v) (d.variables + 1)) [
      | inl found ↦ (found.0, found_greatest d proper priced.0 priced.1 found.0 found.1)
      | inr none ↦ absurd (let most = some.1.there in none some.0 (omega arith) some.1)
    ]
