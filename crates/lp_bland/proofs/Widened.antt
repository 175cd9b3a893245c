-- An answer over a lesser limit that is not refused is the answer over a greater one.
use Rattle.std.proofs.Common.{◌≡◌, ℕ, ◌+◌, ◌≤◌, inl, inr, List, [], ◌∷◌, ◌++◌, length, map, Some, None, refl, sym, ap, ap₂, ◌∙◌, subst, subst₂}
use Rattle.gq_number.specs.Number.{Number}
use Rattle.lp_core.specs.declared.answer.Pivot.{Pivot}
use Rattle.lp_core.specs.declared.answer.Rule.{Rule}
use Rattle.lp_core.specs.declared.answer.End.{End}
use Rattle.lp_core.specs.declared.answer.End.TheVariants.{Optimal, Infeasible, Unbounded, Interrupted}
use Rattle.lp_core.specs.declared.answer.EndKind.{EndKind}
use Rattle.lp_core.specs.declared.answer.EndKind.TheVariants as kind
use Rattle.lp_core.specs.declared.answer.Answer.{Answer}
use Rattle.lp_core.specs.declared.program.Lp.{Lp}
use Rattle.lp_core.specs.WellFormed.{IsWellFormed}
use Rattle.lp_core.specs.Proofs.{FirstCrossed, row_sums}
use Rattle.lp_core.specs.StandardForm.{standard_form, Last, levels_back, duals_back, reduced_back, farkas_back, ray_back}
use Rattle.lp_core.specs.Dictionary.{Dictionary, Improves, first_dictionary, exchanged}
use Rattle.lp_core.specs.Steps.{AllFit, standard_steps, steps_back}
use Rattle.lp_core.specs.Pivots.{IsChosen, ByRule, Leads, PivotsFit, LeadsWithin}
use Rattle.lp_core.specs.Ends.{IsUnfinishedBy, EndsAt, LeadsTo, EndsSoBy, ends_by_kind, limit_is_met, step_stops}
use Rattle.lp_core.specs.Answers.{EndsCrossed, IsAnswer, bounds_cross, form_stops, search_ends}
use Rattle.lp_std.specs.Last.{IsDictionaryOf, IsReadAt}
use Rattle.lp_std.proofs.Ends.{proved_at}
use Rattle.lp_core.specs.Numbers.{lp_numbers, end_numbers, answer_numbers}
use Rattle.lp_bland.specs.Ends.{IsRefusedEnd}
use Rattle.lp_nocycle.proofs.SameForm.{itself, form_same}
use Rattle.lp_bland.proofs.Naturality.{levels_same, row_sums_same, duals_same, farkas_same, reduced_same, ray_same}
use Rattle.lp_bland.proofs.SameSteps.{standard_steps_same, steps_back_same}
use Rattle.lp_bland.proofs.Eased.{ratio_eased, exchange_eased, standard_eased, steps_back_eased}
use Rattle.lp_core.proofs.Rules.{improves_of, legal_of}
use Rattle.lp_simplex.proofs.ProgramDictionaries.{first_occurs, occurs_last}
use Rattle.lp_width.proofs.Programs.{none_cross, crossed_same}

-- pivots that fit under the lesser limit fit under the greater
pub fits_eased : (low high : ℕ) → low ≤ high → (Allowed : List Pivot → Dictionary → Pivot → ℕ → Type 0) (n : ℕ) (done : List Pivot) (d : Dictionary) (pivots : List Pivot) (last : Dictionary) (way : Leads Allowed done d pivots last) → PivotsFit Allowed low n done d pivots last way → PivotsFit Allowed high n done d pivots last way
fits_eased low high less Allowed n done d [] last way fit = tt
fits_eased low high less Allowed n done d (p ∷ pivots) last way fit =
    (λ none. ratio_eased low high less n d p.enter (fit.0 none), exchange_eased low high less n d p.enter way.0 fit.1, fits_eased low high less Allowed (n + 1) (done ++ p ∷ []) (exchanged d p.enter way.0) pivots last way.2 fit.2)

-- two programs of the same numbers
module _ {F G : Type 0} (value : F → Number) (other : G → Number) (lp : Lp F) (wide : Lp G) (same : lp_numbers value lp ≡ lp_numbers other wide) where
  form_is : standard_form value lp ≡ standard_form other wide
  form_is = sym (form_same value lp) ∙ ap (standard_form itself) same ∙ form_same other wide

  levels_are : (last : Last) → levels_back value lp last ≡ levels_back other wide last
  levels_are last = sym (levels_same value lp last) ∙ ap (λ p. levels_back itself p last) same ∙ levels_same other wide last

  row_sums_are : (x : List Number) → row_sums value lp x ≡ row_sums other wide x
  row_sums_are x = sym (row_sums_same value lp x) ∙ ap (λ p. row_sums itself p x) same ∙ row_sums_same other wide x

  duals_are : (last : Last) → duals_back value lp last ≡ duals_back other wide last
  duals_are last = sym (duals_same value lp last) ∙ ap (λ p. duals_back itself p last) same ∙ duals_same other wide last

  farkas_are : (last : Last) → farkas_back value lp last ≡ farkas_back other wide last
  farkas_are last = sym (farkas_same value lp last) ∙ ap (λ p. farkas_back itself p last) same ∙ farkas_same other wide last

  reduced_are : (last : Last) → reduced_back value lp last ≡ reduced_back other wide last
  reduced_are last = sym (reduced_same value lp last) ∙ ap (λ p. reduced_back itself p last) same ∙ reduced_same other wide last

  rays_are : (last : Last) → ray_back value lp last ≡ ray_back other wide last
  rays_are last = sym (ray_same value lp last) ∙ ap (λ p. ray_back itself p last) same ∙ ray_same other wide last

  -- the numbers determine what the recovery computes
  pub told_same : (how : EndKind) (last : Last) (end : End F) (made : End G) → end_numbers other made ≡ end_numbers value end → LeadsTo value lp how last end → LeadsTo other wide how last made
  told_same kind.Optimal last (Optimal x s y r) (Optimal xs sums ys ds) e h =
      let a : map other xs ≡ map value x = cc in
      let b : map other sums ≡ map value s = cc in
      let c : map other ys ≡ map value y = cc in
      let f : map other ds ≡ map value r = cc in
      (a ∙ h.0 ∙ levels_are last, b ∙ h.1 ∙ row_sums_are (levels_back value lp last) ∙ ap (row_sums other wide) (levels_are last), c ∙ h.2 ∙ duals_are last, f ∙ h.3 ∙ reduced_are last)
  told_same kind.Infeasible last (Infeasible y crossed) (Infeasible ys again) e h =
      let a : map other ys ≡ map value y = cc in
      let b : again ≡ crossed = cc in
      (a ∙ h.0 ∙ farkas_are last, b ∙ h.1)
  told_same kind.Unbounded last (Unbounded x s r) (Unbounded xs sums rs) e h =
      let a : map other xs ≡ map value x = cc in
      let b : map other sums ≡ map value s = cc in
      let c : map other rs ≡ map value r = cc in
      (a ∙ h.0 ∙ levels_are last, b ∙ h.1 ∙ row_sums_are (levels_back value lp last) ∙ ap (row_sums other wide) (levels_are last), c ∙ h.2 ∙ rays_are last)
  told_same kind.Interrupted last (Interrupted phase x s) (Interrupted again xs sums) e h =
      let a : map other xs ≡ map value x = cc in
      let b : map other sums ≡ map value s = cc in
      let c : again ≡ phase = cc in
      (c ∙ h.0, a ∙ h.1 ∙ levels_are last, b ∙ h.2 ∙ row_sums_are (levels_back value lp last) ∙ ap (row_sums other wide) (levels_are last))
  told_same kind.Optimal last (Optimal x s y r) made e h = absurd (cc)
  told_same kind.Infeasible last (Infeasible y crossed) made e h = absurd (cc)
  told_same kind.Unbounded last (Unbounded x s r) made e h = absurd (cc)
  told_same kind.Interrupted last (Interrupted phase x s) made e h = absurd (cc)
  told_same how last end made e h = absurd h

  module _ (low high : ℕ) (less : low ≤ high) where
    standard_fit : AllFit (standard_steps value low lp) → AllFit (standard_steps other high wide)
    standard_fit fit =
        standard_eased low high less other wide
        (subst AllFit (sym (standard_steps_same value low lp) ∙ ap (standard_steps itself low) same ∙ standard_steps_same other low wide) fit)

    back_fit : (how : EndKind) (last : Last) → AllFit (steps_back value low lp how last) → AllFit (steps_back other high wide how last)
    back_fit how last fit =
        steps_back_eased low high less other how wide last
        (subst AllFit (sym (steps_back_same value low how lp last) ∙ ap (λ p. steps_back itself low p how last) same ∙ steps_back_same other low how wide last) fit)

    -- ---- the end

    module _ (formed : IsWellFormed other wide) (iterlim : ℕ) (none : FirstCrossed other wide.columns None) (d : Dictionary) (of_form : IsDictionaryOf (standard_form other wide) d) (Allowed : Pivot → ℕ → Type 0) (Chosen : ℕ → Type 0) (improves : (q : ℕ) → Chosen q → Improves d q) (pivots : ℕ) where
      pub read_of : (how : EndKind) (last : Last) → EndsAt Chosen ((pivots ≡ iterlim) × IsUnfinishedBy Chosen d) d how last → IsReadAt d how last
      read_of kind.Optimal last at = at
      read_of kind.Infeasible last at = at
      read_of kind.Unbounded last at = (at.0, (at.1.0, (at.1.1.0, improves at.1.0 at.1.1.1, at.1.1.2), at.1.2))
      read_of kind.Interrupted last at = (at.0, at.1, elim at.2.1 [ inl required ↦ absurd (at.1 required) | inr more ↦ (more.1.0, improves more.1.0 more.1.2) ], at.3)

      nothing_mapped : (l : List G) → map other l ≡ [] → l ≡ []
      nothing_mapped [] e = refl
      nothing_mapped (a ∷ l) e = absurd (cc)

      interrupted_is : (made : End G) → end_numbers other made ≡ Interrupted 1 [] [] → made ≡ Interrupted 1 [] []
      interrupted_is (Interrupted phase xs sums) e =
          let a : phase ≡ 1 = cc in
          let b : map other xs ≡ [] = cc in
          let c : map other sums ≡ [] = cc in
          ap (λ n. Interrupted n xs sums) a ∙ ap₂ (Interrupted 1) (nothing_mapped xs b) (nothing_mapped sums c)
      interrupted_is made e = absurd (cc)

      end_so : (end : End F) (made : End G) → end_numbers other made ≡ end_numbers value end → ¬ (IsRefusedEnd end) → EndsSoBy value low lp iterlim Allowed Chosen pivots d end → EndsSoBy other high wide iterlim Allowed Chosen pivots d made
      end_so end made e fine (ends_by_kind how last at (inl told)) =
          let tells = told_same how last end made e told.0 in
          ends_by_kind how last at (inl (tells, back_fit how last told.1, proved_at other wide formed none d of_form how last (read_of how last at) made tells))
      end_so end made e fine (ends_by_kind how last at (inr refused)) = absurd (fine (subst IsRefusedEnd (sym refused.1) tt))
      end_so end made e fine (limit_is_met most one goes is) = limit_is_met most one goes (interrupted_is made (e ∙ ap (end_numbers value) is))
      end_so end made e fine (step_stops few step is stops) = absurd (fine (subst IsRefusedEnd (sym is) tt))

-- An answer that is not refused is one over a greater limit, for a program of the same numbers.
module _ {F G : Type 0} (value : F → Number) (other : G → Number) (low high : ℕ) (less : low ≤ high) (lp : Lp F) (wide : Lp G) (same : lp_numbers value lp ≡ lp_numbers other wide) (formed : IsWellFormed other wide) (iterlim : ℕ) (rule : Rule) where
  infeasible_is : (duals : List F) (j : ℕ) (made : End G) → end_numbers other made ≡ Infeasible (map value duals) (Some j) → (more : List G) × (made ≡ Infeasible more (Some j)) × (map other more ≡ map value duals)
  infeasible_is duals j (Infeasible more (Some i)) e =
      let place : i ≡ j = cc in
      let duals_are : map other more ≡ map value duals = cc in
      (more, ap (λ n. Infeasible more (Some n)) place, duals_are)
  infeasible_is duals j made e = absurd (cc)

  pub crossed_so : (end : End F) (made : End G) → end_numbers other made ≡ end_numbers value end → EndsCrossed value lp end → EndsCrossed other wide made
  crossed_so end made e (duals, j, is, h) =
      let found = infeasible_is duals j made (e ∙ ap (end_numbers value) is) in
      (found.0, j, found.1, crossed_same value other lp wide same j (map value duals) (map other found.0) found.2 h)

  pivots_same : (answer : Answer F) (made : Answer G) → answer_numbers other made ≡ answer_numbers value answer → answer.pivots ≡ made.pivots
  pivots_same answer made e = sym (ap (λ (a : Answer Number). a.pivots) e)

  end_same : (answer : Answer F) (made : Answer G) → answer_numbers other made ≡ answer_numbers value answer → end_numbers other made.end ≡ end_numbers value answer.end
  end_same answer made e = ap (λ (a : Answer Number). a.end) e

  pub widened : (answer : Answer F) (made : Answer G) → answer_numbers other made ≡ answer_numbers value answer → ¬ (IsRefusedEnd answer.end) → IsAnswer value low lp iterlim rule answer → IsAnswer other high wide iterlim rule made
  widened answer made e fine (bounds_cross nothing crossed) = bounds_cross (sym (pivots_same answer made e) ∙ nothing) (crossed_so answer.end made.end (end_same answer made e) crossed)
  widened answer made e fine (form_stops nothing stopped) = absurd (fine (subst IsRefusedEnd (sym stopped.1.1) tt))
  widened answer made e fine (search_ends ordered fit few last way ends) =
      let pivots = pivots_same answer made e in
      let none = none_cross value other lp wide same ordered in
      let start = first_dictionary (standard_form other wide) in
      let form = ap first_dictionary (form_is value other lp wide same) in
      let fits = fits_eased low high less (ByRule rule) 1 [] (first_dictionary (standard_form value lp)) answer.pivots last way.0 way.1 in
      let on : LeadsWithin (ByRule rule) high 1 [] (first_dictionary (standard_form value lp)) answer.pivots last = (way.0, fits) in
      let moved : LeadsWithin (ByRule rule) high 1 [] start made.pivots last = subst₂ (λ d (p : List Pivot). LeadsWithin (ByRule rule) high 1 [] d p last) form pivots on in
      let occurs = occurs_last (standard_form other wide) (ByRule rule) (λ done d p k allowed. legal_of rule d p k allowed) [] start made.pivots last (first_occurs other wide formed) moved.0 in
      search_ends none (standard_fit value other lp wide same low high less fit) (subst (λ (p : List Pivot). length p ≤ iterlim) pivots few) last moved
      (subst (λ (p : List Pivot). EndsSoBy other high wide iterlim (ByRule rule p last) (IsChosen rule last) (length p) last made.end) pivots
      (end_so value other lp wide same low high less formed iterlim none last occurs.of_form (ByRule rule answer.pivots last) (IsChosen rule last) (λ q chosen. improves_of rule last q chosen) (length answer.pivots) answer.end made.end (end_same answer made e) fine ends))
