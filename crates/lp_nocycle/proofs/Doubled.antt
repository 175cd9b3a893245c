-- Where twice the sets of some variables fit in 64 bits.
use Rattle.std.proofs.Common.{◌≡◌, ℕ, suc, ◌+◌, ◌*◌, ◌%◌, ◌<◌, ◌≤◌, inl, inr, cond, Some, None, sym, ap, ◌∙◌, subst, arith}
use Rattle.std.specs.Prelude.{◌^◌}
use Rattle.std.proofs.Math.Nat.{pow-succ'}
use Rattle.std.proofs.lemmas.Nat.{mod-mul-add, pow_below}
use Rattle.std.proofs.lemmas.Bool.{lt-ltb, le-ltb}
use Rattle.lp_fraction_dict.proofs.Improving.{same_or_not}
use Rattle.lp_nocycle.specs.PivotCount.{pivot_bound}

remainder_same : (b w : ℕ) → b < w → b % w ≡ b
remainder_same b w less = ap (λ x. x % w) (let h : b ≡ 0 * w + b = omega arith in h) ∙ mod-mul-add 0 w b less

fits : (v : ℕ) → v < 63 → 2 * 2 ^ v < 2 ^ 64
fits v less = subst (λ x. x < 2 ^ 64) (pow-succ' 2 v) (pow_below (suc v) 64 (omega arith))

power_least : (n : ℕ) → 64 ≤ n → 2 ^ 64 ≤ 2 ^ n
power_least n most =
    elim (same_or_not 64 n) [
      | inl same ↦ subst (λ k. 2 ^ 64 ≤ 2 ^ k) same (omega arith)
      | inr other ↦ let h = pow_below 64 n (omega arith) in omega arith
    ]

pub bound_below : (v : ℕ) → v < 63 → Some ((2 * 2 ^ v) % (2 ^ 64)) ≡ pivot_bound v
bound_below v less =
    ap (λ (x : ℕ). Some x) (remainder_same (2 * 2 ^ v) (2 ^ 64) (fits v less))
    ∙ sym (ap (λ b. cond b (Some (2 * 2 ^ v)) None) (lt-ltb (2 * 2 ^ v) (2 ^ 64) (fits v less)))

pub bound_past : (v : ℕ) → 63 ≤ v → None ≡ pivot_bound v
bound_past v more =
    let most : 2 ^ 64 ≤ 2 * 2 ^ v = subst (λ x. 2 ^ 64 ≤ x) (pow-succ' 2 v) (power_least (suc v) (omega arith)) in
    sym (ap (λ b. cond b (Some (2 * 2 ^ v)) None) (le-ltb (2 * 2 ^ v) (2 ^ 64) most))
