-- A dictionary with variable 0 deferred, read from the stored rows; and when all its integers are
-- within a bound.
use Rattle.std.proofs.Common.{◌≡◌, ◌≢◌, ℕ, ◌+◌, ◌*◌, ◌<◌, ◌≤◌, ◌==◌, inl, inr, ℤ, pos, ◌-ℤ◌, ◌*ℤ◌, nat_abs, cond, refl, sym, ap, ap₂, ◌∙◌, subst, arith, mul-pos, mul_comm, mul-one}
use Rattle.std.proofs.lemmas.Int.{ints}
use Rattle.std.proofs.lemmas.Bool.{cases_eq, eq-eqb, ne_eqb}
use Rattle.std.proofs.Math.Nat.{mul-le-mul_left}
use Rattle.gq_number.specs.Number.{Number, ratio, ◌-ℚ◌, ◌*ℚ◌, ◌/ℚ◌}
use Rattle.gq_number.proofs.Whole.{nat_abs-*ℤ}
use Rattle.gq_number.proofs.Naming.{times_one}
use Rattle.lp_core.specs.Dictionary.{Dictionary}
use Rattle.lp_integer_rows.specs.Turning.{turned_at, IsDeferredExchange}
use Rattle.lp_integer_dict.specs.Bounds.{IsBounded, DeferredNumbersWithin, over_denominators}
use Rattle.lp_integer_rows.proofs.Turning.{turned_row, turned_other}
use Rattle.lp_integer_rows.proofs.Lessening.{divided_line, lessened}

module _ (n : ℕ → ℕ → ℤ) (d : ℕ → ℕ) (z k u : ℕ) (pivot : n k z ≡ pos u) (above : 0 < u) (positive : (i : ℕ) → 0 < d i) where
  abbrev kept : ℕ → ℕ → Number
  kept = over_denominators n d

  pub read_own : (c : ℕ) → turned_at kept z k k c ≡ ratio (n k c) u
  read_own c =
      turned_row kept z k c ∙ ap (λ p. ratio (n k c) (d k) /ℚ ratio p (d k)) pivot ∙ divided_line (n k c) u (d k) (positive k) above

  pub read_other : (i c : ℕ) → i ≢ k → turned_at kept z k i c ≡ ratio (pos u *ℤ n i c -ℤ n i z *ℤ n k c) (u * d i)
  read_other i c other =
      turned_other kept z k i c other
      ∙ ap (λ p. ratio (n i c) (d i) -ℚ ratio (n i z) (d i) *ℚ (ratio (n k c) (d k) /ℚ ratio p (d k))) pivot
      ∙ sym (lessened (n i c) (n k c) (n i z) (n i z) (d i) (d k) u u 1 (positive i) (positive k) above (omega arith) (sym (mul-one u)) (sym (times_one (n i z))))

difference_most : (u v : ℤ) → nat_abs (u -ℤ v) ≤ nat_abs u + nat_abs v
difference_most u v = omega (arith, ints)

module _ (n : ℕ → ℕ → ℤ) (d most : ℕ → ℕ) (bound k u : ℕ) (h : DeferredNumbersWithin n d most bound k u) where
  abbrev number : ℕ → ℕ → ℤ
  number i c = cond (i == k) (n k c) (pos u *ℤ n i c -ℤ n i 1 *ℤ n k c)

  abbrev denominator : ℕ → ℕ
  denominator i = cond (i == k) u (u * d i)

  own_number : (c : ℕ) → number k c ≡ n k c
  own_number c = ap (λ b. cond b (n k c) (pos u *ℤ n k c -ℤ n k 1 *ℤ n k c)) (eq-eqb k k refl)

  own_denominator : denominator k ≡ u
  own_denominator = ap (λ b. cond b u (u * d k)) (eq-eqb k k refl)

  other_number : (i c : ℕ) → i ≢ k → number i c ≡ pos u *ℤ n i c -ℤ n i 1 *ℤ n k c
  other_number i c other = ap (λ b. cond b (n k c) (pos u *ℤ n i c -ℤ n i 1 *ℤ n k c)) (ne_eqb i k other)

  other_denominator : (i : ℕ) → i ≢ k → denominator i ≡ u * d i
  other_denominator i other = ap (λ b. cond b u (u * d i)) (ne_eqb i k other)

  -- the number of variable 0 is one of the row
  pivot_within : u ≤ bound
  pivot_within = let e = ap nat_abs h.pivot in let f = h.number_within k 1 in let g = h.own in omega arith

  part_within : (i c : ℕ) → i ≢ k → nat_abs (pos u *ℤ n i c -ℤ n i 1 *ℤ n k c) ≤ bound
  part_within i c other =
      let total = difference_most (pos u *ℤ n i c) (n i 1 *ℤ n k c) in
      let first : nat_abs (pos u *ℤ n i c) ≤ u * most i = subst (λ t. t ≤ u * most i) (sym (nat_abs-*ℤ (pos u) (n i c))) (mul-le-mul_left u (h.number_within i c)) in
      let second : nat_abs (n i 1 *ℤ n k c) ≤ nat_abs (n i 1) * most k = subst (λ t. t ≤ nat_abs (n i 1) * most k) (sym (nat_abs-*ℤ (n i 1) (n k c))) (mul-le-mul_left (nat_abs (n i 1)) (h.number_within k c)) in
      let same = mul_comm u (most i) in
      let within_bound = h.others i other in
      omega arith

  below_within : (i : ℕ) → i ≢ k → u * d i ≤ bound
  below_within i other =
      let extended : u * d i ≤ u * most i = mul-le-mul_left u (h.denominator_within i) in
      let same = mul_comm u (most i) in
      let within_bound = h.others i other in
      omega arith

  pub bounded_above : (above : Dictionary) → IsDeferredExchange above (over_denominators n d) k → IsBounded above bound
  bounded_above above a =
      record {
        number = number;
        denominator = denominator;
        positive = λ i. elim (cases_eq i k) [
          | inl same ↦ subst (λ j. 0 < denominator j) (sym same) (subst (λ t. 0 < t) (sym own_denominator) h.above)
          | inr other ↦ subst (λ t. 0 < t) (sym (other_denominator i other)) (mul-pos h.above (h.positive i))
        ];
        numbers = λ i c. a.numbers i c ∙ elim (cases_eq i k) [
          | inl same ↦ subst (λ j. turned_at (over_denominators n d) 1 k j c ≡ ratio (number j c) (denominator j)) (sym same) (read_own n d 1 k u h.pivot h.above h.positive c ∙ sym (ap₂ ratio (own_number c) own_denominator))
          | inr other ↦ read_other n d 1 k u h.pivot h.above h.positive i c other ∙ sym (ap₂ ratio (other_number i c other) (other_denominator i other))
        ];
        number_within = λ i c. elim (cases_eq i k) [
          | inl same ↦ subst (λ j. nat_abs (number j c) ≤ bound) (sym same) (subst (λ t. nat_abs t ≤ bound) (sym (own_number c)) (let f = h.number_within k c in let g = h.own in omega arith))
          | inr other ↦ subst (λ t. nat_abs t ≤ bound) (sym (other_number i c other)) (part_within i c other)
        ];
        denominator_within = λ i. elim (cases_eq i k) [
          | inl same ↦ subst (λ j. denominator j ≤ bound) (sym same) (subst (λ t. t ≤ bound) (sym own_denominator) pivot_within)
          | inr other ↦ subst (λ t. t ≤ bound) (sym (other_denominator i other)) (below_within i other)
        ];
      }
