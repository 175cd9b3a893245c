-- A number has one place more than the greatest power of ten in it.
use Rattle.std.proofs.Common.{◌≡◌, ℕ, suc, ◌+◌, ◌*◌, ◌^◌, ◌<◌, ◌≤◌, Option, Some, None, length, length-append, arith, ap, sym, subst}
use Rattle.std.specs.Option.{IfNone, IfSome, unwrap_or}
use Rattle.std.proofs.Math.Nat.{pow-succ'}
use Rattle.gq_text.proofs.Pushes.{numeral_pushed}
use Rattle.gq_text.proofs.digits.Digits.push_numeral.Goals as goal

HasPlaces : ℕ → ℕ → Type 0
HasPlaces n k = (n < 10 ^ (1 + k)) × (0 < k → 10 ^ k ≤ n)

places : (n k : ℕ) (o : Option ℕ) → k ≡ unwrap_or o 0 → IfNone o (n ≡ 0) → IfSome o (λ k. 10 ^ k ≤ n) → IfSome o (λ k. n < 10 * 10 ^ k) → HasPlaces n k
unfolding HasPlaces
places n k None e none low high = (subst (λ j. n < 10 ^ (1 + j)) (sym e) (omega arith), λ some. absurd (omega arith))
places n k (Some j) e none low high =
    let up : n < 10 ^ suc j = subst (λ u. n < u) (sym (pow-succ' 10 j)) high in
    (subst (λ m. n < 10 ^ m) (let f : suc j ≡ 1 + k = omega (arith, e) in f) up, λ some. subst (λ j. 10 ^ j ≤ n) (sym e) low)

log_small : (k : ℕ) (o : Option ℕ) → k ≡ unwrap_or o 0 → IfSome o (λ k. k < 39) → k < 39
log_small k None e h = omega arith
log_small k (Some j) e h = omega arith

pub push_digits-requires-clause-small : goal.push_digits-requires-clause-small
unfolding HasPlaces
push_digits-requires-clause-small c =
    (places c.args.n c.unwrap_or.result c.checked_ilog10.result c.unwrap_or.ensures c.checked_ilog10.ensures.none c.checked_ilog10.ensures.power_le c.checked_ilog10.ensures.next_power_gt).0

pub returns-clause-numeral : goal.returns-clause-numeral
unfolding HasPlaces
returns-clause-numeral c =
    numeral_pushed c.args.self.now c.push_digits.new.self c.args.n c.unwrap_or.result c.push_digits.ensures
    (places c.args.n c.unwrap_or.result c.checked_ilog10.result c.unwrap_or.ensures c.checked_ilog10.ensures.none c.checked_ilog10.ensures.power_le c.checked_ilog10.ensures.next_power_gt).1

pub returns-clause-short : goal.returns-clause-short
returns-clause-short c =
    let few = log_small c.unwrap_or.result c.checked_ilog10.result c.unwrap_or.ensures c.checked_ilog10.ensures.bound in
    let now = ap length c.push_digits.ensures.appended in
    let more = length-append c.args.self.now c.push_digits.ensures.digits in
    omega (arith, c.push_digits.ensures.places_are)
