-- An answer over a field is one over the numbers that its values mean.
use Rattle.std.proofs.Common.{◌≡◌, ℕ, inl, inr, List, [], ◌∷◌, map, length, Option, None, refl, sym, ap, ap₂, ◌∙◌, subst, arith}
use Rattle.std.proofs.lemmas.List.{map-id}
use Rattle.gq_number.specs.Number.{Number}
use Rattle.lp_core.specs.declared.answer.Answer.{Answer}
use Rattle.lp_core.specs.declared.answer.End.{End}
use Rattle.lp_core.specs.declared.answer.End.TheVariants.{Optimal, Infeasible, Unbounded, Interrupted, Refused}
use Rattle.lp_core.specs.declared.answer.Pivot.{Pivot}
use Rattle.lp_core.specs.declared.answer.Rule.{Rule}
use Rattle.lp_core.specs.declared.answer.StepName.{StepName}
use Rattle.lp_core.specs.declared.program.Column.{Column}
use Rattle.lp_core.specs.declared.program.Row.{Row}
use Rattle.lp_core.specs.declared.program.Lp.{Lp}
use Rattle.lp_core.specs.Proofs.{FirstCrossed}
use Rattle.lp_core.specs.Pivots.{IsChosen, ByRule, LeadsWithin}
use Rattle.lp_core.specs.Ends.{EndsSoBy, ends_by_kind, limit_is_met, step_stops}
use Rattle.lp_core.specs.Answers.{IsAnswer, bounds_cross, form_stops, search_ends}
use Rattle.lp_core.specs.Dictionary.{Dictionary, Improves, first_dictionary}
use Rattle.lp_core.specs.Numbers.{answer_numbers, column_numbers, end_numbers, lp_numbers, row_numbers}
use Rattle.lp_core.specs.StandardForm.{Standard, standard_form}
use Rattle.lp_core.specs.Steps.{AllFit, FirstStop}
use Rattle.lp_core.specs.WellFormed.{IsWellFormed}
use Rattle.lp_std.specs.Last.{IsDictionaryOf}
use Rattle.lp_std.proofs.Ends.{proved_at}
use Rattle.lp_nocycle.proofs.SameForm.{bound_same, form_same, itself}
use Rattle.lp_core.proofs.Rules.{improves_of, legal_of}
use Rattle.lp_simplex.proofs.ProgramDictionaries.{first_occurs, occurs_last}
use Rattle.lp_width.proofs.Programs.{none_cross, well_formed_same}
use Rattle.lp_bland.proofs.SameSteps.{standard_steps_same, steps_back_same}
use Rattle.lp_bland.proofs.Widened.{told_same, read_of, crossed_so}

columns_again : (columns : List (Column Number)) → map (column_numbers itself) columns ≡ columns
columns_again [] = refl
columns_again (c ∷ columns) =
    ap₂ (λ (l : Option Number) (u : Option Number). record { key = c.key; lower = l; upper = u } ∷ map (column_numbers itself) columns) (bound_same c.lower) (bound_same c.upper)
    ∙ ap (λ (cs : List (Column Number)). c ∷ cs) (columns_again columns)

rows_again : (rows : List (Row Number)) → map (row_numbers itself) rows ≡ rows
rows_again [] = refl
rows_again (row ∷ rows) =
    ap (λ (es : List (ℕ × Number)). record { key = row.key; sense = row.sense; right = row.right; entries = es } ∷ map (row_numbers itself) rows) (map-id row.entries)
    ∙ ap (λ (rs : List (Row Number)). row ∷ rs) (rows_again rows)

-- a program of numbers has the numbers that it has
program_again : (lp : Lp Number) → lp_numbers itself lp ≡ lp
program_again lp =
    ap₂ (λ (columns : List (Column Number)) (rows : List (Row Number)). record { columns = columns; rows = rows; objective = lp.objective; maximize = lp.maximize }) (columns_again lp.columns) (rows_again lp.rows)

end_again : (end : End Number) → end_numbers itself end ≡ end
end_again (Optimal levels row_levels duals reduced) =
    ap₂ (λ xs rs. Optimal xs rs (map itself duals) (map itself reduced)) (map-id levels) (map-id row_levels) ∙ ap₂ (Optimal levels row_levels) (map-id duals) (map-id reduced)
end_again (Infeasible duals crossed) = ap (λ ys. Infeasible ys crossed) (map-id duals)
end_again (Unbounded levels row_levels ray) =
    ap₂ (λ xs rs. Unbounded xs rs (map itself ray)) (map-id levels) (map-id row_levels) ∙ ap (Unbounded levels row_levels) (map-id ray)
end_again (Interrupted phase levels row_levels) = ap₂ (Interrupted phase) (map-id levels) (map-id row_levels)
end_again (Refused step) = refl

module _ {F : Type 0} (value : F → Number) (limit : ℕ) (lp : Lp F) (iterlim : ℕ) (rule : Rule) (formed : IsWellFormed value lp) where
  abbrev numbers : Lp Number
  numbers = lp_numbers value lp

  same : lp_numbers value lp ≡ lp_numbers itself numbers
  same = sym (program_again numbers)

  refused_too : (end : End F) (step : StepName) → end ≡ Refused step → end_numbers value end ≡ Refused step
  refused_too end step is = ap (end_numbers value) is

  module _ (none : FirstCrossed itself numbers.columns None) (d : Dictionary) (of_form : IsDictionaryOf (standard_form itself numbers) d) (Allowed : Pivot → ℕ → Type 0) (Chosen : ℕ → Type 0) (improves : (q : ℕ) → Chosen q → Improves d q) (pivots : ℕ) where
    ends_over : (end : End F) → EndsSoBy value limit lp iterlim Allowed Chosen pivots d end → EndsSoBy itself limit numbers iterlim Allowed Chosen pivots d (end_numbers value end)
    ends_over end (ends_by_kind how last at (inl told)) =
        let well = well_formed_same value itself lp numbers same formed in
        let tells = told_same value itself lp numbers same how last end (end_numbers value end) (end_again (end_numbers value end)) told.0 in
        ends_by_kind how last at (inl (tells, subst AllFit (sym (steps_back_same value limit how lp last)) told.1, proved_at itself numbers well none d of_form how last (read_of value itself lp numbers same limit limit (omega arith) well iterlim none d of_form Allowed Chosen improves pivots how last at) (end_numbers value end) tells))
    ends_over end (ends_by_kind how last at (inr refused)) =
        ends_by_kind how last at (inr (refused.0, refused_too end refused.0 refused.1, subst (λ steps. FirstStop steps refused.0) (sym (steps_back_same value limit how lp last)) refused.2))
    ends_over end (limit_is_met most one goes is) = limit_is_met most one goes (ap (end_numbers value) is)
    ends_over end (step_stops less step is stops) = step_stops less step (refused_too end step is) stops

  -- an answer over a field is one over the numbers
  pub over_numbers : (answer : Answer F) → IsAnswer value limit lp iterlim rule answer → IsAnswer itself limit numbers iterlim rule (answer_numbers value answer)
  over_numbers answer (bounds_cross nothing crossed) =
      bounds_cross nothing (crossed_so value itself limit limit (omega arith) lp numbers same (well_formed_same value itself lp numbers same formed) iterlim rule answer.end (end_numbers value answer.end) (end_again (end_numbers value answer.end)) crossed)
  over_numbers answer (form_stops nothing (ordered, (step, is, stop))) =
      form_stops nothing (none_cross value itself lp numbers same ordered, (step, refused_too answer.end step is, subst (λ steps. FirstStop steps step) (sym (standard_steps_same value limit lp)) stop))
  over_numbers answer (search_ends ordered fit few last way ends) =
      let n = length answer.pivots in
      let none = none_cross value itself lp numbers same ordered in
      let well = well_formed_same value itself lp numbers same formed in
      let start = first_dictionary (standard_form itself numbers) in
      let moved : LeadsWithin (ByRule rule) limit 1 [] start answer.pivots last = subst (λ (s : Standard). LeadsWithin (ByRule rule) limit 1 [] (first_dictionary s) answer.pivots last) (sym (form_same value lp)) way in
      let occurs = occurs_last (standard_form itself numbers) (ByRule rule) (λ done d p k allowed. legal_of rule d p k allowed) [] start answer.pivots last (first_occurs itself numbers well) moved.0 in
      search_ends none (subst AllFit (sym (standard_steps_same value limit lp)) fit) few last moved
      (ends_over none last occurs.of_form (ByRule rule answer.pivots last) (IsChosen rule last) (λ q chosen. improves_of rule last q chosen) n answer.end ends)
