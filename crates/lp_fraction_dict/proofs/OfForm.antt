-- A dictionary of a program is one of its standard form, and stays so over a pivot.
use Rattle.std.proofs.Common.{◌≡◌, ◌≢◌, ℕ, ◌+◌, inl, inr, pos, List, length, Some, refl, sym, ap, ◌∙◌}
use Rattle.std.specs.Prelude.{slice_get, slice_index_or, ◌↔◌}
use Rattle.gq_number.specs.Number.{Number, whole}
use Rattle.lp_core.specs.declared.answer.Pivot.{Pivot}
use Rattle.lp_core.specs.Sums.{value_of_column}
use Rattle.lp_core.specs.StandardForm.{Standard}
use Rattle.lp_core.specs.Dictionary.{Dictionary, Meets, IsLegal, basic_at, first_dictionary, exchanged}
use Rattle.lp_std.specs.Last.{HasZero, IsDictionaryOf}
use Rattle.lp_fraction_dict.specs.Pivots.{IsProper}
use Rattle.lp_fraction_dict.proofs.Kept.{index_get, contains_get}
use Rattle.lp_fraction_dict.proofs.Exchanging.{length-put}
use Rattle.lp_fraction_dict.proofs.Proper.{leaves_at, enters_new, basic_after, proper_after, none_required}

pub of_form : (s : Standard) (d : Dictionary) → IsProper d → d.variables ≡ length s.objective + length s.rows → length d.basic ≡ length s.rows → ((x : List Number) (objective : Number) → (¬ (HasZero d) → value_of_column x 0 ≡ whole (pos 0)) → Meets d x objective ↔ Meets (first_dictionary s) x objective) → IsDictionaryOf s d
of_form s d proper variables sized same =
    record {
      variables = variables;
      sized = sized;
      there = λ k o less. proper.there k (slice_index_or d.basic k o) (index_get d.basic k (slice_index_or d.basic k o) o less refl);
      own = λ k less. proper.own k (basic_at d k) (index_get d.basic k (basic_at d k) 0 less refl);
      alone = λ i k most less other. proper.apart k i (basic_at d k) (index_get d.basic k (basic_at d k) 0 less refl) other;
      same = same;
      zero_above = λ k at none. proper.above k at;
    }

module _ (s : Standard) (d : Dictionary) (p : Pivot) (k : ℕ) (proper : IsProper d) (legal : IsLegal d p k) (law : (x : List Number) (objective : Number) → (p.leave ≡ 0 → value_of_column x 0 ≡ whole (pos 0)) → Meets d x objective ↔ Meets (exchanged d p.enter k) x objective) (h : IsDictionaryOf s d) where
  -- variable 0 has a part after the pivot only where it had one before and does not leave
  zero_from : HasZero (exchanged d p.enter k) → HasZero d × (p.leave ≢ 0)
  zero_from (inr required) = absurd (none_required d p k proper legal required)
  zero_from (inl phase) =
      let at : slice_get (exchanged d p.enter k).basic phase.0 ≡ Some 0 = index_get (exchanged d p.enter k).basic phase.0 0 0 phase.1 phase.2 in
      elim (basic_after d p k proper legal phase.0 0 at) [
        | inl new ↦ (elim legal [ inl o ↦ inr o.required | inr step ↦ absurd (step.improves.other (sym new.1)) ], λ gone. enters_new d p k proper legal k p.leave (leaves_at d p k proper legal) (gone ∙ new.1))
        | inr old ↦ (inl (contains_get d.basic phase.0 0 old.1), λ gone. old.0 (proper.distinct phase.0 k 0 old.1 (leaves_at d p k proper legal ∙ ap Some gone)))
      ]

  same_after : (x : List Number) (objective : Number) → (¬ (HasZero (exchanged d p.enter k)) → value_of_column x 0 ≡ whole (pos 0)) → Meets (exchanged d p.enter k) x objective ↔ Meets (first_dictionary s) x objective
  same_after x objective none =
      let moved = law x objective (λ gone. none (λ zero. (zero_from zero).1 gone)) in
      let began = h.same x objective (λ free. none (λ zero. free (zero_from zero).0)) in
      (λ m. began.0 (moved.1 m), λ m. moved.0 (began.1 m))

  pub of_form_after : IsDictionaryOf s (exchanged d p.enter k)
  of_form_after = of_form s (exchanged d p.enter k) (proper_after d p k proper legal) h.variables (length-put d.basic k p.enter ∙ h.sized) same_after
