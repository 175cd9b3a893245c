-- What holds of a dictionary after a legal pivot.
use Rattle.std.proofs.Common.{◌≡◌, ℕ, ◌≤◌, pos, List, length, length-set, Some, sym, ◌∙◌, subst, arith}
use Rattle.std.specs.Prelude.{slice_get, ◌↔◌}
use Rattle.gq_number.specs.Number.{Number, whole}
use Rattle.lp_core.specs.declared.answer.Pivot.{Pivot}
use Rattle.lp_core.specs.Sums.{value_of_column}
use Rattle.lp_core.specs.StandardForm.{Standard}
use Rattle.lp_core.specs.Dictionary.{Dictionary, Meets, OpeningIsRequired, basic_at, IsLegal, exchanged}
use Rattle.lp_std.specs.Last.{IsDictionaryOf}
use Rattle.lp_fraction_dict.specs.Pivots.{IsProper}
use Rattle.lp_fraction_dict.proofs.Equations.{meets_after, meets_before}
use Rattle.lp_fraction_dict.proofs.OfForm.{of_form_after}
use Rattle.lp_fraction_dict.proofs.Proper.{leaves_at, leaves_is, place_within, pivot_some, proper_after, none_required}

module _ (d : Dictionary) (p : Pivot) (proper : IsProper d) (legal : (k : ℕ) × IsLegal d p k) (after : Dictionary) (follows : (k : ℕ) → slice_get d.basic k ≡ Some p.leave → after ≡ exchanged d p.enter k) where
  is_exchanged : after ≡ exchanged d p.enter legal.0
  is_exchanged = follows legal.0 (leaves_at d p legal.0 proper legal.1)

  law : (x : List Number) (objective : Number) → (p.leave ≡ 0 → value_of_column x 0 ≡ whole (pos 0)) → Meets d x objective ↔ Meets (exchanged d p.enter legal.0) x objective
  law x objective gone =
      let within = place_within d p legal.0 proper legal.1 in
      let some = pivot_some d p legal.0 proper legal.1 in
      let at_zero : basic_at d legal.0 ≡ 0 → value_of_column x 0 ≡ whole (pos 0) = λ is. gone (sym (leaves_is d p legal.0 proper legal.1) ∙ is) in
      (meets_after d p.enter legal.0 x objective within some at_zero, meets_before d p.enter legal.0 x objective within some at_zero)

  pub same_points : (x : List Number) (objective : Number) → (p.leave ≡ 0 → value_of_column x 0 ≡ whole (pos 0)) → Meets d x objective ↔ Meets after x objective
  same_points x objective gone = subst (λ e. Meets d x objective ↔ Meets e x objective) (sym is_exchanged) (law x objective gone)

  pub stays_of_form : (s : Standard) → IsDictionaryOf s d → IsDictionaryOf s after
  stays_of_form s h = subst (IsDictionaryOf s) (sym is_exchanged) (of_form_after s d p legal.0 proper legal.1 law h)

  pub is_not_required : ¬ (OpeningIsRequired after)
  is_not_required required = none_required d p legal.0 proper legal.1 (subst OpeningIsRequired is_exchanged required)

  pub stays_proper : IsProper after
  stays_proper = subst IsProper (sym is_exchanged) (proper_after d p legal.0 proper legal.1)

  pub stays_few : length d.basic ≤ d.variables → length after.basic ≤ after.variables
  stays_few few =
      subst (λ (e : Dictionary). length e.basic ≤ e.variables) (sym is_exchanged) (let sized = length-set d.basic legal.0 p.enter in omega arith)
