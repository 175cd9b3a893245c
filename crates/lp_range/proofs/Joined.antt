-- The ranges of a solved program: what is read at the final dictionary, and what each interval
-- proves.
use Rattle.std.proofs.Common.{◌≡◌, ℕ, List, [], length, map, Some, sym, ap, ◌∙◌, subst}
use Rattle.std.specs.Prelude.{slice_get, Option}
use Rattle.gq_number.specs.Number.{Number}
use Rattle.lp_core.specs.declared.answer.Pivot.{Pivot}
use Rattle.lp_core.specs.Pivots.{ByRule, LeadsWithin}
use Rattle.lp_core.specs.declared.answer.Rule.TheVariants.{Legal}
use Rattle.lp_core.specs.declared.answer.End.TheVariants.{Optimal}
use Rattle.lp_core.specs.declared.answer.Answer.{Answer}
use Rattle.lp_core.specs.declared.program.Lp.{Lp}
use Rattle.lp_core.specs.StandardForm.{Standard, standard_form}
use Rattle.lp_core.specs.Dictionary.{Dictionary, first_dictionary}
use Rattle.lp_core.specs.Answers.{IsAnswer}
use Rattle.lp_core.specs.WellFormed.{IsWellFormed}
use Rattle.lp_std.specs.Last.{IsDictionaryOf}
use Rattle.lp_range.specs.declared.interval.Interval.{Interval}
use Rattle.lp_range.specs.Spans.{IsInSpan}
use Rattle.lp_range.specs.Ranges.{IsOptimum, LeadTo, interval_value, span_value, rights, costs}
use Rattle.lp_range.specs.Moved.{MeetsBoundWithRight, MeetsBoundWithCost}
use Rattle.lp_range.proofs.Solved.{IsSolved, solved}
use Rattle.lp_range.proofs.RightBounds.{rights_meet}
use Rattle.lp_range.proofs.CostBounds.{costs_meet}

module _ {F : Type 0} (value : F → Number) (limit : ℕ) (lp : Lp F) (answer : Answer F) (h : IsAnswer value limit lp (length answer.pivots) Legal answer) where
  pub optimum_solved : (optimum : IsOptimum answer) → IsSolved value limit lp answer.pivots (map value optimum.0) (map value optimum.2)
  optimum_solved optimum = solved value limit lp answer (length answer.pivots) Legal h optimum.0 optimum.1 optimum.2 optimum.3 optimum.4

  -- pivots lead from the first dictionary as it is kept
  module _ (first : Dictionary) (s : Standard) (pivots : List Pivot) (first_is : first ≡ first_dictionary s) (form_is : s ≡ standard_form value lp) (pivots_are : pivots ≡ answer.pivots) where
    pub leads_back : (last : Dictionary) → LeadTo value limit lp answer.pivots last → LeadsWithin (ByRule Legal) limit 1 [] first pivots last
    leads_back last leads =
        subst (λ (d : Dictionary). LeadsWithin (ByRule Legal) limit 1 [] d pivots last) (sym (first_is ∙ ap first_dictionary form_is)) (subst (λ (ps : List Pivot). LeadsWithin (ByRule Legal) limit 1 [] (first_dictionary (standard_form value lp)) ps last) (sym pivots_are) leads)

    pub some_last : IsOptimum answer → (last : Dictionary) × LeadsWithin (ByRule Legal) limit 1 [] first pivots last
    some_last optimum = let all = optimum_solved optimum in (all.last, leads_back all.last all.leads)

  module _ (formed : IsWellFormed value lp) (made : Dictionary) (of_form : IsDictionaryOf (standard_form value lp) made) (reached : (last : Dictionary) → LeadTo value limit lp answer.pivots last → made ≡ last) (rs cs : List (Option (Interval F))) (rights_are : map (span_value value) rs ≡ rights value limit lp made) (costs_are : map (span_value value) cs ≡ costs value limit lp made) where
    pub entries_are : IsOptimum answer → (last : Dictionary) × LeadTo value limit lp answer.pivots last × (map (span_value value) rs ≡ rights value limit lp last) × (map (span_value value) cs ≡ costs value limit lp last)
    entries_are optimum =
        let all = optimum_solved optimum in
        let same = reached all.last all.leads in
        (all.last, all.leads, rights_are ∙ ap (rights value limit lp) same, costs_are ∙ ap (costs value limit lp) same)

    pub right_meets : (levels row_levels duals reduced : List F) (i : ℕ) (interval : Interval F) (right : Number) → answer.end ≡ Optimal levels row_levels duals reduced → slice_get rs i ≡ Some (Some interval) → IsInSpan (interval_value value interval) right → MeetsBoundWithRight value lp (map value duals) i right
    right_meets levels row_levels duals reduced i interval right is at within =
        let all = solved value limit lp answer (length answer.pivots) Legal h levels row_levels duals reduced is in
        let same = reached all.last all.leads in
        rights_meet value limit lp all.last formed all.none (subst (IsDictionaryOf (standard_form value lp)) same of_form) all.second all.nothing rs (map value duals) (rights_are ∙ ap (rights value limit lp) same) all.duals_are i interval right at within

    pub cost_meets : (levels row_levels duals reduced : List F) (j : ℕ) (interval : Interval F) (cost : Number) → answer.end ≡ Optimal levels row_levels duals reduced → slice_get cs j ≡ Some (Some interval) → IsInSpan (interval_value value interval) cost → MeetsBoundWithCost value lp (map value levels) j cost
    cost_meets levels row_levels duals reduced j interval cost is at within =
        let all = solved value limit lp answer (length answer.pivots) Legal h levels row_levels duals reduced is in
        let same = reached all.last all.leads in
        costs_meet value limit lp all.last formed all.none (subst (IsDictionaryOf (standard_form value lp)) same of_form) all.second all.nothing cs (map value levels) (costs_are ∙ ap (costs value limit lp) same) all.levels_are j interval cost at within
