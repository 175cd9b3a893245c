-- The phase before and after a legal pivot: another only where variable 0 leaves.
use Rattle.std.proofs.Common.{◌≡◌, ◌≢◌, ℕ, ◌⊎◌, inl, inr, pos, Some, refl, sym, ap, ◌∙◌, arith}
use Rattle.std.specs.Prelude.{slice_get, slice_set}
use Rattle.gq_number.specs.Number.{whole}
use Rattle.gq_number.proofs.Order.{<ℚ_irrefl, <ℚ-≤ℚ_trans, <ℚ_trans}
use Rattle.lp_core.specs.declared.answer.Pivot.{Pivot}
use Rattle.lp_core.specs.Dictionary.{Dictionary, constant_at, InPhaseOne, OpeningIsRequired, IsOpening, IsLegal, exchanged}
use Rattle.lp_core.specs.Ends.{IsPhase}
use Rattle.lp_fraction_dict.specs.Pivots.{IsProper}
use Rattle.lp_fraction_dict.proofs.Kept.{contains_get, index_get}
use Rattle.lp_fraction_dict.proofs.Improving.{found_or_not}
use Rattle.lp_fraction_dict.proofs.Proper.{set_same, set_other, place_within, basic_after, none_required}
use Rattle.lp_simplex.proofs.PivotSteps.{leaves_row}

phase_of_pivot : (d : Dictionary) (p : Pivot) (k : ℕ) → IsLegal d p k → (n : ℕ) × IsPhase d n
phase_of_pivot d p k (inl opening) = (1, inl (refl, inl opening.required))
phase_of_pivot d p k (inr step) =
    elim (found_or_not d.basic 0) [
      | inl found ↦ (1, inl (refl, inr (contains_get d.basic found.0 0 found.1)))
      | inr free ↦ (2, inr (refl, step.not_required, free))
    ]

module _ (d : Dictionary) (p : Pivot) (k : ℕ) (proper : IsProper d) (legal : IsLegal d p k) where
  pub phase_of : (n : ℕ) × IsPhase d n
  phase_of = phase_of_pivot d p k legal

  leaves : slice_get d.basic k ≡ Some p.leave
  leaves = leaves_row d p k legal

  some_is : (a b : ℕ) → Some a ≡ Some b → a ≡ b
  some_is a b e = cc

  -- where another variable leaves
  zero_stays : p.leave ≢ 0 → InPhaseOne d → InPhaseOne (exchanged d p.enter k)
  zero_stays other phase =
      let at = index_get d.basic phase.0 0 0 phase.1 phase.2 in
      contains_get (slice_set d.basic k p.enter) phase.0 0 (set_other d.basic k phase.0 p.enter (λ same. other (some_is p.leave 0 (sym leaves ∙ ap (slice_get d.basic) (sym same) ∙ at))) ∙ at)

  zero_enters : IsOpening d p k → InPhaseOne (exchanged d p.enter k)
  zero_enters opening = contains_get (slice_set d.basic k p.enter) k 0 (set_same d.basic k p.enter (place_within d p k proper legal) ∙ ap Some opening.enters)

  stays_one : p.leave ≢ 0 → OpeningIsRequired d ⊎ InPhaseOne d → InPhaseOne (exchanged d p.enter k)
  stays_one other phase =
      elim legal [
        | inl opening ↦ zero_enters opening
        | inr step ↦ elim phase [ inl required ↦ absurd (step.not_required required) | inr one ↦ zero_stays other one ]
      ]

  -- variable 0 does not come back
  stays_two : ¬ (OpeningIsRequired d) → ¬ (InPhaseOne d) → ¬ (InPhaseOne (exchanged d p.enter k))
  stays_two none free phase =
      elim (basic_after d p k proper legal phase.0 0 (index_get (slice_set d.basic k p.enter) phase.0 0 0 phase.1 phase.2)) [
        | inl new ↦ elim legal [ inl opening ↦ none opening.required | inr step ↦ step.improves.other (sym new.1) ]
        | inr old ↦ free (contains_get d.basic phase.0 0 old.1)
      ]

  pub same_phase : p.leave ≢ 0 → (n : ℕ) → IsPhase d n → IsPhase (exchanged d p.enter k) n
  same_phase other n (inl one) = inl (one.0, inr (stays_one other one.1))
  same_phase other n (inr two) = inr (two.0, none_required d p k proper legal, stays_two two.1 two.2)

  -- where variable 0 leaves
  no_opening : p.leave ≡ 0 → IsOpening d p k → ⊥
  no_opening zero opening =
      let above = proper.above k (leaves ∙ ap Some zero) in
      let required = opening.required in
      let most = opening.least.1 required.0 required.1 in
      <ℚ_irrefl (whole (pos 0)) (<ℚ_trans (whole (pos 0)) (constant_at d required.0) (whole (pos 0)) (<ℚ-≤ℚ_trans (whole (pos 0)) (constant_at d k) (constant_at d required.0) above most) required.2)

  zero_is_gone : p.leave ≡ 0 → ¬ (InPhaseOne (exchanged d p.enter k))
  zero_is_gone zero phase =
      elim (basic_after d p k proper legal phase.0 0 (index_get (slice_set d.basic k p.enter) phase.0 0 0 phase.1 phase.2)) [
        | inl new ↦ elim legal [ inl opening ↦ no_opening zero opening | inr step ↦ step.improves.other (sym new.1) ]
        | inr old ↦ old.0 (proper.distinct phase.0 k 0 old.1 (leaves ∙ ap Some zero))
      ]

  one_or_two : (n : ℕ) → n ≡ 1 → n ≡ 2 → ⊥
  one_or_two n one two = omega arith

  pub other_phase : p.leave ≡ 0 → (n : ℕ) → IsPhase d n → IsPhase (exchanged d p.enter k) n → ⊥
  other_phase zero n (inr two) after = two.2 (contains_get d.basic k 0 (leaves ∙ ap Some zero))
  other_phase zero n (inl one) (inl again) = elim again.1 [ inl required ↦ none_required d p k proper legal required | inr phase ↦ zero_is_gone zero phase ]
  other_phase zero n (inl one) (inr two) = one_or_two n one.0 two.0
