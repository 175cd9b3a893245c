-- What is known of the final dictionary of an optimum.
use Rattle.std.proofs.Common.{◌≡◌, ℕ, ◌+◌, inl, inr, List, [], ◌∷◌, ◌++◌, length, map, refl, sym, subst, arith}
use Rattle.std.specs.List.{All}
use Rattle.gq_number.specs.Number.{Number}
use Rattle.lp_core.specs.declared.answer.Pivot.{Pivot}
use Rattle.lp_core.specs.Pivots.{last_of, NothingImproves, IsAllowed, IsChosen, ByRule, LeadsWithin}
use Rattle.lp_core.specs.Ends.{IsUnfinishedBy, EndsAt, LeadsTo, EndsSoBy, ends_by_kind, limit_is_met, step_stops}
use Rattle.lp_core.specs.declared.answer.Rule.{Rule}
use Rattle.lp_core.specs.declared.answer.Rule.TheVariants.{Bland, Legal}
use Rattle.lp_core.specs.declared.answer.End.TheVariants.{Optimal}
use Rattle.lp_core.specs.declared.answer.EndKind.{EndKind}
use Rattle.lp_core.specs.declared.answer.EndKind.TheVariants as kind
use Rattle.lp_core.specs.declared.answer.Answer.{Answer}
use Rattle.lp_core.specs.declared.program.Column.{Column}
use Rattle.lp_core.specs.declared.program.Lp.{Lp}
use Rattle.lp_core.specs.Proofs.{Crosses, IsProved}
use Rattle.lp_core.specs.StandardForm.{Last, standard_form, levels_back, duals_back}
use Rattle.lp_core.specs.Dictionary.{Dictionary, InPhaseOne, IsLegal, first_dictionary, exchanged}
use Rattle.lp_core.specs.Steps.{AllFit, standard_steps, steps_back}
use Rattle.lp_core.specs.Answers.{EndsCrossed, EndsUnformed, IsAnswer, bounds_cross, form_stops, search_ends}
use Rattle.lp_range.specs.Ranges.{IsOptimum, LeadTo}

legal_of : (rule : Rule) (d : Dictionary) (p : Pivot) (k : ℕ) → IsAllowed rule d p k → IsLegal d p k
legal_of Bland d p k allowed = allowed.0
legal_of Legal d p k allowed = allowed

leads_legal : (rule : Rule) (limit n : ℕ) (done : List Pivot) (d : Dictionary) (pivots : List Pivot) (last : Dictionary) → LeadsWithin (ByRule rule) limit n done d pivots last → LeadsWithin (ByRule Legal) limit n done d pivots last
leads_legal rule limit n done d [] last leads = (leads.0, tt)
leads_legal rule limit n done d (p ∷ pivots) last leads =
    let rest = leads_legal rule limit (n + 1) (done ++ p ∷ []) (exchanged d p.enter leads.0.0) pivots last (leads.0.2, leads.1.2) in
    ((leads.0.0, legal_of rule d p leads.0.0 leads.0.1, rest.0), (leads.1.0, leads.1.1, rest.1))

module _ {F : Type 0} (value : F → Number) (limit : ℕ) (lp : Lp F) where
  -- A program is solved: pivots lead to a final dictionary at which nothing improves, and levels
  -- and duals are recovered from it.
  pub record IsSolved (pivots : List Pivot) (levels duals : List Number) : Type 0 where
    pub none : All (λ (c : Column F). ¬ (Crosses value c.lower c.upper)) lp.columns
    pub fit : AllFit (standard_steps value limit lp)
    pub last : Dictionary
    pub leads : LeadTo value limit lp pivots last
    pub second : ¬ (InPhaseOne last)
    pub nothing : NothingImproves last
    pub levels_are : levels ≡ levels_back value lp (last_of last)
    pub duals_are : duals ≡ duals_back value lp (last_of last)

  -- what an optimum states of its final dictionary
  abbrev IsTold : Dictionary → List F → List F → List F → List F → Type 0
  IsTold d levels row_levels duals reduced =
      ¬ (InPhaseOne d) × NothingImproves d × LeadsTo value lp kind.Optimal (last_of d) (Optimal levels row_levels duals reduced)
      × AllFit (steps_back value limit lp kind.Optimal (last_of d)) × IsProved value lp (Optimal levels row_levels duals reduced)

  of_kind : (BrokenOff : Type 0) (Chosen : ℕ → Type 0) (d : Dictionary) (how : EndKind) (last : Last) (levels row_levels duals reduced : List F) → EndsAt Chosen BrokenOff d how last → LeadsTo value lp how last (Optimal levels row_levels duals reduced) → AllFit (steps_back value limit lp how last) → IsProved value lp (Optimal levels row_levels duals reduced) → IsTold d levels row_levels duals reduced
  of_kind BrokenOff Chosen d kind.Optimal last levels row_levels duals reduced at told fit proved =
      (at.0, at.1, subst (λ l. LeadsTo value lp kind.Optimal l (Optimal levels row_levels duals reduced)) at.2 told, subst (λ l. AllFit (steps_back value limit lp kind.Optimal l)) at.2 fit, proved)
  of_kind BrokenOff Chosen d kind.Infeasible last levels row_levels duals reduced at told fit proved = absurd told
  of_kind BrokenOff Chosen d kind.Unbounded last levels row_levels duals reduced at told fit proved = absurd told
  of_kind BrokenOff Chosen d kind.Interrupted last levels row_levels duals reduced at told fit proved = absurd told

  told_of : (Allowed : Pivot → ℕ → Type 0) (Chosen : ℕ → Type 0) (iterlim pivots : ℕ) (d : Dictionary) (levels row_levels duals reduced : List F) → EndsSoBy value limit lp iterlim Allowed Chosen pivots d (Optimal levels row_levels duals reduced) → IsTold d levels row_levels duals reduced
  told_of Allowed Chosen iterlim pivots d levels row_levels duals reduced (ends_by_kind how last at (inl told)) =
      of_kind ((pivots ≡ iterlim) × IsUnfinishedBy Chosen d) Chosen d how last levels row_levels duals reduced at told.0 told.1 told.2
  told_of Allowed Chosen iterlim pivots d levels row_levels duals reduced (ends_by_kind how last at (inr refused)) = absurd (let e = refused.1 in cc)
  told_of Allowed Chosen iterlim pivots d levels row_levels duals reduced (limit_is_met most one goes is) = absurd (cc)
  told_of Allowed Chosen iterlim pivots d levels row_levels duals reduced (step_stops less step is stops) = absurd (cc)

  module _ (answer : Answer F) (iterlim : ℕ) (rule : Rule) (h : IsAnswer value limit lp iterlim rule answer) (levels row_levels duals reduced : List F) (is : answer.end ≡ Optimal levels row_levels duals reduced) where
    not_crossed : EndsCrossed value lp answer.end → ⊥
    not_crossed crossed = let e = crossed.2 in cc

    not_unformed : EndsUnformed value limit lp answer.end → ⊥
    not_unformed stopped = let e = stopped.1.1 in cc

    told_at : (last : Dictionary) → EndsSoBy value limit lp iterlim (ByRule rule answer.pivots last) (IsChosen rule last) (length answer.pivots) last answer.end → IsTold last levels row_levels duals reduced
    told_at last ends =
        told_of (ByRule rule answer.pivots last) (IsChosen rule last) iterlim (length answer.pivots) last levels row_levels duals reduced
        (subst (EndsSoBy value limit lp iterlim (ByRule rule answer.pivots last) (IsChosen rule last) (length answer.pivots) last) is ends)

    pub solved : IsSolved answer.pivots (map value levels) (map value duals)
    solved =
        elim h [
          | bounds_cross none crossed ↦ absurd (not_crossed crossed)
          | form_stops none stopped ↦ absurd (not_unformed stopped)
          | search_ends ordered fit few last way ends ↦
              let told = told_at last ends in
              record {
                none = ordered;
                fit = fit;
                last = last;
                leads = leads_legal rule limit 1 [] (first_dictionary (standard_form value lp)) answer.pivots last way;
                second = told.0;
                nothing = told.1;
                levels_are = told.2.0;
                duals_are = told.2.2;
              }
        ]

    pub legal_answer : IsAnswer value limit lp (length answer.pivots) Legal answer
    legal_answer =
        elim h [
          | bounds_cross none crossed ↦ absurd (not_crossed crossed)
          | form_stops none stopped ↦ absurd (not_unformed stopped)
          | search_ends ordered fit few last way ends ↦
              let told = told_at last ends in
              let legal : EndsSoBy value limit lp (length answer.pivots) (ByRule Legal answer.pivots last) (IsChosen Legal last) (length answer.pivots) last (Optimal levels row_levels duals reduced) =
              ends_by_kind kind.Optimal (last_of last) (told.0, told.1, refl) (inl (told.2, told.3, told.4)) in
              search_ends ordered fit (omega arith) last
              (leads_legal rule limit 1 [] (first_dictionary (standard_form value lp)) answer.pivots last way)
              (subst (EndsSoBy value limit lp (length answer.pivots) (ByRule Legal answer.pivots last) (IsChosen Legal last) (length answer.pivots) last) (sym is) legal)
        ]

  pub legal_by_optimum : (answer : Answer F) (iterlim : ℕ) (rule : Rule) → IsOptimum answer → IsAnswer value limit lp iterlim rule answer → IsAnswer value limit lp (length answer.pivots) Legal answer
  legal_by_optimum answer iterlim rule optimum h = legal_answer answer iterlim rule h optimum.0 optimum.1 optimum.2 optimum.3 optimum.4
