-- In a run that comes back to its basic variables each pivot is degenerate: no constant changes.
use Rattle.std.proofs.Common.{◌≡◌, ◌≢◌, ℕ, suc, ◌<◌, ◌≤◌, inl, inr, pos, length, Some, refl, sym, ap, ◌∙◌, subst, arith}
use Rattle.std.specs.Prelude.{slice_get}
use Rattle.gq_number.specs.Number.{Number, whole, ◌-ℚ◌, ◌*ℚ◌}
use Rattle.gq_number.specs.Order.{◌≤ℚ◌, ◌<ℚ◌}
use Rattle.gq_number.proofs.Ring.{ring_ℚ}
use Rattle.gq_number.proofs.Order.{≤ℚ_refl, ≤ℚ_trans, ≤ℚ_antisymm, ≤ℚ_from_≡, ≤ℚ_from_<ℚ}
use Rattle.gq_number.proofs.Linear.{≤ℚ_from}
use Rattle.gq_number.proofs.Signs.{*ℚ-zero-≤ℚ, ≢-zero_above}
use Rattle.gq_number.proofs.Quotients.{no_zero_divisors}
use Rattle.lp_core.specs.declared.answer.Pivot.{Pivot}
use Rattle.lp_core.specs.Dictionary.{Dictionary, constant_at, entry_at, ratio_at, IsPriced, IsStep}
use Rattle.lp_fraction_dict.proofs.Kept.{get_within}
use Rattle.lp_fraction_dict.proofs.Improving.{same_or_not, found_or_not}
use Rattle.lp_fraction_dict.proofs.Equations.{no_quotient}
use Rattle.lp_fraction_dict.proofs.Proper
use Rattle.lp_nocycle.specs.Cycling.{SameBasic}
use Rattle.lp_nocycle.proofs.Units.{some_is, same_constant, same_objective}
use Rattle.lp_nocycle.proofs.Runs.{IsRun, pivot_run}
use Rattle.lp_nocycle.proofs.Runs

-- ---- numbers that fall and come back stay

fall : (z : ℕ → Number) (m : ℕ) → ((j : ℕ) → j < m → z (suc j) ≤ℚ z j) → (a b : ℕ) → a ≤ b → b ≤ m → z b ≤ℚ z a
fall z m falls a b more within = pivot_run (λ j. z j ≤ℚ z a) m (λ j less most. ≤ℚ_trans (z (suc j)) (z j) (z a) (falls j less) most) a b more within (≤ℚ_refl (z a))

pub stay : (z : ℕ → Number) (m : ℕ) → ((j : ℕ) → j < m → z (suc j) ≤ℚ z j) → z 0 ≡ z m → (j : ℕ) → j < m → z (suc j) ≡ z j
stay z m falls back j less =
    ≤ℚ_antisymm (z (suc j)) (z j) (falls j less)
    (≤ℚ_trans (z j) (z 0) (z (suc j)) (fall z m falls 0 j (omega arith) (omega arith)) (≤ℚ_trans (z 0) (z m) (z (suc j)) (≤ℚ_from_≡ (z 0) (z m) back) (fall z m falls (suc j) m (omega arith) (omega arith))))

falls_by : (x y : Number) → whole (pos 0) ≤ℚ y → x -ℚ y ≤ℚ x
falls_by x y above = ≤ℚ_from above (simp ring_ℚ)

none_lost : (x y : Number) → x -ℚ y ≡ x → y ≡ whole (pos 0)
none_lost x y same = (let h : y ≡ x -ℚ (x -ℚ y) = simp ring_ℚ in h) ∙ ap (λ w. x -ℚ w) same ∙ (let h : x -ℚ x ≡ whole (pos 0) = simp ring_ℚ in h)

less_none : (x e r : Number) → r ≡ whole (pos 0) → x -ℚ e *ℚ r ≡ x
less_none x e r none = ap (λ w. x -ℚ e *ℚ w) none ∙ (let h : x -ℚ e *ℚ whole (pos 0) ≡ x = simp ring_ℚ in h)

-- a run that comes back to its basic variables; each pivot is a step, and variable 0 never leaves
pub record Returns (m : ℕ) (at : ℕ → Dictionary) (pivot : ℕ → Pivot) (row : ℕ → ℕ) : Type 0 where
  pub runs : IsRun m at pivot row
  pub step : (j : ℕ) → j < m → IsStep (at j) (pivot j) (row j)
  pub zero_stays : (j : ℕ) → j < m → (pivot j).leave ≢ 0
  pub back : SameBasic (at 0) (at m)

module _ (m : ℕ) (at : ℕ → Dictionary) (pivot : ℕ → Pivot) (row : ℕ → ℕ) (returns : Returns m at pivot row) where
  zero_untouched : (k j : ℕ) → j < m → slice_get (at j).basic k ≡ Some 0 → row j ≢ k
  zero_untouched k j less here same = returns.zero_stays j less (some_is (pivot j).leave 0 (sym (Runs.leaving_at m at pivot row returns.runs j less) ∙ ap (slice_get (at j).basic) same ∙ here))

  -- one row is the priced one all along
  pub priced : (k : ℕ) × ((j : ℕ) → j ≤ m → IsPriced (at j) k) × (constant_at (at 0) k ≡ constant_at (at m) k)
  priced =
      let proper = Runs.proper_at m at pivot row returns.runs in
      let agrees = Runs.agree m at pivot row returns.runs returns.zero_stays 0 m (omega arith) (omega arith) in
      elim (found_or_not (at 0).basic 0) [
        | inl found ↦
            let there : (j : ℕ) → j ≤ m → slice_get (at j).basic found.0 ≡ Some 0 = λ j within.
            pivot_run (λ j. slice_get (at j).basic found.0 ≡ Some 0) m (λ j less here. Runs.there_at m at pivot row returns.runs found.0 0 j less (zero_untouched found.0 j less here) here) 0 j (omega arith) within found.1 in
            (found.0, λ j within. inl (there j within), same_constant (at 0) (at m) (proper 0 (omega arith)) (proper m (omega arith)) agrees returns.back found.0 found.0 0 found.1 (there m (omega arith)))
        | inr none ↦
            let sized : (j : ℕ) → j ≤ m → length (at j).basic ≡ length (at 0).basic = Runs.sized_from m at pivot row returns.runs in (
              length (at 0).basic,
              λ j within. inr (Runs.out_from m at pivot row returns.runs 0 (λ i less. (returns.step i less).improves.other) 0 j (omega arith) within none, sym (sized j within)),
              same_objective (at 0) (at m) (proper 0 (omega arith)) (proper m (omega arith)) agrees returns.back ∙ ap (λ n. constant_at (at m) n) (sized m (omega arith)),
            )
      ]

  priced_untouched : (k j : ℕ) → j < m → IsPriced (at j) k → row j ≢ k
  priced_untouched k j less p same =
      elim p [
        | inl here ↦ zero_untouched k j less here same
        | inr past ↦ let within = get_within (at j).basic (row j) (pivot j).leave (Runs.leaving_at m at pivot row returns.runs j less) in let is = past.1 in absurd (omega arith)
      ]

  constant_lost : (k j : ℕ) → j < m → row j ≢ k → constant_at (at (suc j)) k ≡ constant_at (at j) k -ℚ entry_at (at j) k (pivot j).enter *ℚ ratio_at (at j) (pivot j).enter (row j)
  constant_lost k j less other =
      ap (λ (d : Dictionary). constant_at d k) (returns.runs.next j less)
      ∙ Proper.constant_other (at j) (pivot j) (row j) (Runs.proper_at m at pivot row returns.runs j (omega arith)) (returns.runs.legal j less) k (λ same. other (sym same))

  constant_gained : (j : ℕ) → j < m → constant_at (at (suc j)) (row j) ≡ ratio_at (at j) (pivot j).enter (row j)
  constant_gained j less =
      ap (λ (d : Dictionary). constant_at d (row j)) (returns.runs.next j less)
      ∙ Proper.constant_pivot (at j) (pivot j) (row j) (Runs.proper_at m at pivot row returns.runs j (omega arith)) (returns.runs.legal j less)

  priced_above : (j : ℕ) → j < m → whole (pos 0) <ℚ entry_at (at j) priced.0 (pivot j).enter
  priced_above j less = (returns.step j less).improves.above priced.0 (priced.1 j (omega arith))

  ratio_above : (j : ℕ) → j < m → whole (pos 0) ≤ℚ ratio_at (at j) (pivot j).enter (row j)
  ratio_above j less = Proper.step_ratio (at j) (pivot j) (row j) (Runs.proper_at m at pivot row returns.runs j (omega arith)) (returns.runs.legal j less) (returns.step j less)

  priced_lost : (j : ℕ) → j < m → constant_at (at (suc j)) priced.0 ≡ constant_at (at j) priced.0 -ℚ entry_at (at j) priced.0 (pivot j).enter *ℚ ratio_at (at j) (pivot j).enter (row j)
  priced_lost j less = constant_lost priced.0 j less (priced_untouched priced.0 j less (priced.1 j (omega arith)))

  priced_falls : (j : ℕ) → j < m → constant_at (at (suc j)) priced.0 ≤ℚ constant_at (at j) priced.0
  priced_falls j less =
      subst (λ x. x ≤ℚ constant_at (at j) priced.0) (sym (priced_lost j less))
      (falls_by (constant_at (at j) priced.0) (entry_at (at j) priced.0 (pivot j).enter *ℚ ratio_at (at j) (pivot j).enter (row j)) (*ℚ-zero-≤ℚ _ _ (≤ℚ_from_<ℚ _ _ (priced_above j less)) (ratio_above j less)))

  -- each ratio is 0
  pub ratio_none : (j : ℕ) → j < m → ratio_at (at j) (pivot j).enter (row j) ≡ whole (pos 0)
  ratio_none j less =
      let same : constant_at (at (suc j)) priced.0 ≡ constant_at (at j) priced.0 = stay (λ i. constant_at (at i) priced.0) m priced_falls priced.2 j less in
      elim (no_zero_divisors (entry_at (at j) priced.0 (pivot j).enter) (ratio_at (at j) (pivot j).enter (row j)) (none_lost (constant_at (at j) priced.0) _ (sym (priced_lost j less) ∙ same))) [
        | inl none ↦ absurd (≢-zero_above _ (priced_above j less) none)
        | inr none ↦ none
      ]

  -- so the constant of the row that is touched is 0, before and after
  pub touched_before : (j : ℕ) → j < m → constant_at (at j) (row j) ≡ whole (pos 0)
  touched_before j less = no_quotient (constant_at (at j) (row j)) (entry_at (at j) (row j) (pivot j).enter) (≢-zero_above _ (returns.step j less).ties.limits.1) (ratio_none j less)

  constant_same : (k j : ℕ) → j < m → constant_at (at (suc j)) k ≡ constant_at (at j) k
  constant_same k j less =
      elim (same_or_not (row j) k) [
        | inl same ↦ subst (λ i. constant_at (at (suc j)) i ≡ constant_at (at j) i) same (constant_gained j less ∙ ratio_none j less ∙ sym (touched_before j less))
        | inr other ↦ constant_lost k j less other ∙ less_none (constant_at (at j) k) (entry_at (at j) k (pivot j).enter) (ratio_at (at j) (pivot j).enter (row j)) (ratio_none j less)
      ]

  constant_from : (k j : ℕ) → j ≤ m → constant_at (at j) k ≡ constant_at (at 0) k
  constant_from k j within = pivot_run (λ j. constant_at (at j) k ≡ constant_at (at 0) k) m (λ j less same. constant_same k j less ∙ same) 0 j (omega arith) within refl

  -- a row that is touched has the constant 0 all along
  pub touched : (k i l : ℕ) → i < m → row i ≡ k → l ≤ m → constant_at (at l) k ≡ whole (pos 0)
  touched k i l less is within = constant_from k l within ∙ sym (constant_from k i (omega arith)) ∙ ap (λ n. constant_at (at i) n) (sym is) ∙ touched_before i less
