-- Which variable enters next is one.
use Rattle.std.proofs.Common.{◌≡◌, ℕ, ◌≤◌, inl, inr, List, arith}
use Rattle.gq_number.proofs.Order.{≤ℚ_antisymm}
use Rattle.lp_core.specs.declared.answer.Pivot.{Pivot}
use Rattle.lp_core.specs.Dictionary.{Dictionary, entry_at}
use Rattle.lp_core.specs.LargestCoefficient.{HasGreatest, IsNext}
use Rattle.lp_fraction_dict.proofs.Improving.{priced_there}

both_least : (a b : ℕ) → a ≤ b → b ≤ a → a ≡ b
both_least a b less more = omega arith

greatest_once : (d : Dictionary) (q r : ℕ) → HasGreatest d q → HasGreatest d r → q ≡ r
greatest_once d q r one two =
    let k = (priced_there d).0 in
    let priced = (priced_there d).1 in
    let same : entry_at d k q ≡ entry_at d k r = ≤ℚ_antisymm (entry_at d k q) (entry_at d k r) (two.greatest q k one.improves priced) (one.greatest r k two.improves priced) in
    both_least q r (one.least r k two.improves priced (flip same)) (two.least q k one.improves priced same)
  where
    flip : {X : Type 0} {x y : X} → x ≡ y → y ≡ x
    flip e = cc

pub next_once : (first : Dictionary) (pivots : List Pivot) (d : Dictionary) (q r : ℕ) → IsNext first pivots d q → IsNext first pivots d r → q ≡ r
next_once first pivots d q r (inl one) (inl two) = greatest_once d q r one.1 two.1
next_once first pivots d q r (inl one) (inr two) = absurd (one.0 two.0)
next_once first pivots d q r (inr one) (inl two) = absurd (two.0 one.0)
next_once first pivots d q r (inr one) (inr two) = both_least q r (one.1.1 r two.1.0) (two.1.1 q one.1.0)
