-- The variable whose number in a line is greatest, and the one with the greatest coefficient.
use Rattle.std.proofs.Common.{◌≡◌, ℕ, ◌+◌, ◌<◌, ◌≤◌, ℤ, pos, ◌<ℤ◌, inl, inr, Option, Some, None, sym, ap, ◌∙◌, subst, arith}
use Rattle.std.specs.Prelude.{◌⊎◌, MatchOption}
use Rattle.std.proofs.lemmas.Int.{ints}
use Rattle.gq_number.specs.Number.{ratio}
use Rattle.gq_number.specs.Order.{◌<ℚ◌, ◌≤ℚ◌}
use Rattle.gq_number.proofs.Means.{ratio_means}
use Rattle.gq_number.proofs.Order as order
use Rattle.lp_core.specs.Dictionary.{Dictionary, entry_at, IsPriced, Improves}
use Rattle.lp_core.specs.LargestCoefficient.{HasGreatest}
use Rattle.lp_integer_rows.specs.declared.line.Line.{Line}
use Rattle.lp_integers.specs.Lines.{whole_at}
use Rattle.lp_integers.specs.Words.{IsGreatestAbove as IsGreatestPlaceAbove}
use Rattle.lp_integer_rows.specs.Form.{wholes}
use Rattle.lp_integer_dict.specs.InnerChoice.{IsGreatestAbove}

-- the place from column 2 on with the greatest number gives the variable
pub greatest_of_places : (l : Line) (p q : ℕ) → q + 1 ≡ p → IsGreatestPlaceAbove (wholes l) 2 (Some p) → IsGreatestAbove l (Some q)
greatest_of_places l p q is known =
    let two = known.0 in (
      omega arith,
      subst (λ k. pos 0 <ℤ whole_at (wholes l) k) (sym is) known.2,
      λ v one. elim (known.3 (v + 1) (omega arith)) [
        | inl below ↦ inl (subst (λ k. whole_at (wholes l) (v + 1) <ℤ whole_at (wholes l) k) (sym is) below)
        | inr same ↦ let later = same.1 in inr (same.0 ∙ ap (whole_at (wholes l)) (sym is), omega arith)
      ],
    )

-- ---- numbers over one denominator

pub over_less : (n m : ℤ) (d : ℕ) → 0 < d → n <ℤ m → ratio n d <ℚ ratio m d
over_less n m d positive less =
    order.<ℚ_from_not_≤ℚ (ratio n d) (ratio m d) (λ most.
    let back = order.cancel_le m n d positive (order.le_means (ratio_means m d positive) (ratio_means n d positive) most) in
    absurd (omega (arith, ints)))

-- ---- the row by which pivots are chosen

module _ (d : Dictionary) (k : ℕ) (l : Line) (u : ℕ) (positive : 0 < u) (number : (v : ℕ) → entry_at d k v ≡ ratio (whole_at (wholes l) (v + 1)) u) (same_priced : (j : ℕ) → IsPriced d j → k ≡ j) (improves_from : (v : ℕ) → 1 ≤ v → pos 0 <ℤ whole_at (wholes l) (v + 1) → Improves d v) (above_of : (v : ℕ) → Improves d v → (1 ≤ v) × (pos 0 <ℤ whole_at (wholes l) (v + 1))) where
  compared : (q : ℕ) → IsGreatestAbove l (Some q) → (v : ℕ) → Improves d v → (entry_at d k v <ℚ entry_at d k q) ⊎ ((entry_at d k v ≡ entry_at d k q) × (q ≤ v))
  compared q h v i =
      let some = above_of v i in
      elim (h.2 v some.0) [
        | inl below ↦
            inl (subst (λ x. x <ℚ entry_at d k q) (sym (number v)) (subst (λ y. ratio (whole_at (wholes l) (v + 1)) u <ℚ y) (sym (number q)) (over_less (whole_at (wholes l) (v + 1)) (whole_at (wholes l) (q + 1)) u positive below)))
        | inr equal ↦ inr (number v ∙ ap (λ n. ratio n u) equal.0 ∙ sym (number q), equal.1)
      ]

  at_most : (q : ℕ) → IsGreatestAbove l (Some q) → (v : ℕ) → Improves d v → entry_at d k v ≤ℚ entry_at d k q
  at_most q h v i =
      elim (compared q h v i) [
        | inl below ↦ order.≤ℚ_from_<ℚ (entry_at d k v) (entry_at d k q) below
        | inr equal ↦ order.≤ℚ_from_≡ (entry_at d k v) (entry_at d k q) equal.0
      ]

  by_least : (q : ℕ) → IsGreatestAbove l (Some q) → (v : ℕ) → Improves d v → entry_at d k v ≡ entry_at d k q → q ≤ v
  by_least q h v i same =
      elim (compared q h v i) [
        | inl below ↦ absurd (order.<ℚ_irrefl (entry_at d k q) (subst (λ x. x <ℚ entry_at d k q) same below))
        | inr equal ↦ equal.1
      ]

  pub greatest_tells : (r : Option ℕ) → IsGreatestAbove l r → MatchOption r ((v : ℕ) → ¬ (Improves d v)) (HasGreatest d)
  greatest_tells None h = λ v i. let some = above_of v i in h v some.0 some.1
  greatest_tells (Some q) h =
      record {
        improves = improves_from q h.0 h.1;
        greatest = λ v j i other. subst (λ m. entry_at d m v ≤ℚ entry_at d m q) (same_priced j other) (at_most q h v i);
        least = λ v j i other same. by_least q h v i (subst (λ m. entry_at d m v ≡ entry_at d m q) (sym (same_priced j other)) same);
      }
