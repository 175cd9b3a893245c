-- Where pivots lead each dictionary is one of the program.
use Rattle.std.proofs.Common.{◌≡◌, ℕ, pos, List, [], ◌∷◌, ◌++◌, sym, ◌∙◌, subst}
use Rattle.std.specs.Prelude.{◌↔◌}
use Rattle.gq_number.specs.Number.{Number, whole}
use Rattle.lp_core.specs.declared.answer.Pivot.{Pivot}
use Rattle.lp_core.specs.declared.program.Lp.{Lp}
use Rattle.lp_core.specs.Sums.{value_of_column}
use Rattle.lp_core.specs.WellFormed.{IsWellFormed}
use Rattle.lp_core.specs.StandardForm.{Standard, standard_form}
use Rattle.lp_core.specs.Dictionary.{Dictionary, Meets, basic_at, IsLegal, first_dictionary, exchanged}
use Rattle.lp_core.specs.Pivots.{Leads}
use Rattle.lp_std.specs.Last.{IsDictionaryOf}
use Rattle.lp_fraction_dict.specs.Pivots.{IsProper}
use Rattle.lp_fraction_dict.proofs.Equations.{meets_after, meets_before}
use Rattle.lp_fraction_dict.proofs.Proper.{place_within, pivot_some, leaves_is, proper_after}
use Rattle.lp_fraction_dict.proofs.OfForm.{of_form_after}
use Rattle.lp_fraction_dict.proofs.InForm.{form_in_order}
use Rattle.lp_fraction_dict.proofs.Begins.{first_proper, first_of_form}

-- A dictionary of a standard form in which each basic variable occurs in its own row alone.
pub record Occurs (s : Standard) (d : Dictionary) : Type 0 where
  pub proper : IsProper d
  pub of_form : IsDictionaryOf s d

pub first_occurs : {F : Type 0} (value : F → Number) (lp : Lp F) → IsWellFormed value lp → Occurs (standard_form value lp) (first_dictionary (standard_form value lp))
first_occurs value lp formed =
    let h = form_in_order value lp formed in
    record { proper = first_proper (standard_form value lp) h; of_form = first_of_form (standard_form value lp) h }

-- values meet the equations after a pivot exactly where they meet those before it
same_points : (d : Dictionary) (p : Pivot) (k : ℕ) (proper : IsProper d) (legal : IsLegal d p k) (x : List Number) (objective : Number) → (p.leave ≡ 0 → value_of_column x 0 ≡ whole (pos 0)) → Meets d x objective ↔ Meets (exchanged d p.enter k) x objective
same_points d p k proper legal x objective gone =
    let within = place_within d p k proper legal in
    let some = pivot_some d p k proper legal in
    let at_zero : basic_at d k ≡ 0 → value_of_column x 0 ≡ whole (pos 0) = λ is. gone (sym (leaves_is d p k proper legal) ∙ is) in
    (λ m. meets_after d p.enter k x objective within some at_zero m, λ m. meets_before d p.enter k x objective within some at_zero m)

pub occurs_after : (s : Standard) (d : Dictionary) (p : Pivot) (k : ℕ) → Occurs s d → IsLegal d p k → Occurs s (exchanged d p.enter k)
occurs_after s d p k h legal =
    record {
      proper = proper_after d p k h.proper legal;
      of_form = of_form_after s d p k h.proper legal (same_points d p k h.proper legal) h.of_form;
    }

pub occurs_last : (s : Standard) (Allowed : List Pivot → Dictionary → Pivot → ℕ → Type 0) → ((done : List Pivot) (d : Dictionary) (p : Pivot) (k : ℕ) → Allowed done d p k → IsLegal d p k) → (done : List Pivot) (d : Dictionary) (pivots : List Pivot) (last : Dictionary) → Occurs s d → Leads Allowed done d pivots last → Occurs s last
occurs_last s Allowed legal done d [] last h way = subst (Occurs s) (sym way) h
occurs_last s Allowed legal done d (p ∷ pivots) last h way =
    occurs_last s Allowed legal (done ++ p ∷ []) (exchanged d p.enter way.0) pivots last (occurs_after s d p way.0 h (legal done d p way.0 way.1)) way.2
