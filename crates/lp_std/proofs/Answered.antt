-- The recovery as one: what is read has its sizes, and the recovered end is proved.
use Rattle.std.proofs.Common.{◌≡◌, ℕ, ◌+◌, ◌≤◌, List, [], ◌∷◌, length, map, None, refl, sym, ap, ap₂, ◌∙◌, subst, arith}
use Rattle.std.specs.Prelude.{sum_by, Result, Ok, Err}
use Rattle.std.specs.Result.{IfOk, IfErr}
use Rattle.std.proofs.lemmas.List.{length-map, length-append}
use Rattle.std.proofs.lemmas.List.Sums.{sum_by-cons}
use Rattle.std.proofs.lemmas.List.FromFn.{length-map-range_with_len}
use Rattle.gq_number.specs.Number.{Number}
use Rattle.lp_core.specs.declared.answer.End.{End}
use Rattle.lp_core.specs.Ends.{LeadsTo}
use Rattle.lp_core.specs.declared.program.Column.{Column}
use Rattle.lp_core.specs.declared.program.Lp.{Lp}
use Rattle.lp_core.specs.WellFormed.{IsWellFormed}
use Rattle.lp_core.specs.Feasible.{bound_value}
use Rattle.lp_core.specs.Proofs.{FirstCrossed, IsProved}
use Rattle.lp_core.specs.StandardForm as form
use Rattle.lp_core.specs.Steps.{AllFit, ExpectedStep, count_of_rows, steps_back}
use Rattle.lp_core.specs.Dictionary.{Dictionary}
use Rattle.lp_core.specs.Pivots.{last_of, value_by_row, cost_by_row, change_by_row, row_of_basic, priced_row, all_variables}
use Rattle.lp_std.specs.declared.types.Shift.{Shift}
use Rattle.lp_std.specs.declared.types.Standard.{Standard}
use Rattle.lp_std.specs.declared.types.Final.{Final}
use Rattle.lp_core.specs.declared.answer.EndKind.{EndKind}
use Rattle.lp_core.specs.declared.answer.EndKind.TheVariants as kind
use Rattle.lp_std.specs.declared.stop.Stop.{Stop}
use Rattle.lp_std.specs.declared.stop.Stop.TheVariants as stop
use Rattle.lp_std.specs.Meaning.{shift_value, row_value, standard_value}
use Rattle.lp_std.specs.InnerSteps.{StopsAt, ComputesEnd, IsSized, HasRay, AreSized, rows_over, bounds_over}
use Rattle.lp_std.specs.Last.{IsDictionaryOf, IsReadAt, IsLast, last_value}
use Rattle.lp_std.specs.Recovery.{HasNoRecovery}
use Rattle.lp_std.proofs.Stops.{all_fit, stops_first}
use Rattle.lp_std.proofs.BoundSteps.{counted_by_bounds}
use Rattle.lp_std.proofs.Shapes.{widths_of_shifts, widths-numbered, variables_counted, variables_few, rows_few}
use Rattle.lp_std.proofs.Proved.{rows_over_counted}
use Rattle.lp_std.proofs.Ends.{count_is, proved_at}

-- ---- sizes

pub bounds_over_counted : {F : Type 0} (value : F → Number) (columns : List (ℕ × form.Shift)) (j : ℕ) (bounded : List (Column F)) → length (bounds_over value columns j bounded) ≡ sum_by (λ (column : Column F). form.rows_of_bounds column.lower column.upper) bounded
bounds_over_counted value columns j [] = refl
bounds_over_counted {F} value columns j (column ∷ bounded) =
    length-append (form.bound_rows j (form.column_at columns j).0 (bound_value value column.lower) (bound_value value column.upper)) (bounds_over value columns (j + 1) bounded)
    ∙ ap₂ (λ a b. a + b) (counted_by_bounds value j (form.column_at columns j).0 column.lower column.upper) (bounds_over_counted value columns (j + 1) bounded)
    ∙ sym (sum_by-cons (λ (column : Column F). form.rows_of_bounds column.lower column.upper) column bounded)

module _ {F : Type 0} (value : F → Number) (lp : Lp F) (formed : IsWellFormed value lp) (s : Standard F) (is_form : standard_value value s ≡ form.standard_form value lp) where
  pub columns_are : form.numbered 1 (map (shift_value value) s.shifts) ≡ form.columns_of value lp
  columns_are = ap (λ (t : form.Standard). t.columns) is_form

  pub shifts_count : sum_by (λ (t : Shift F). form.width (shift_value value t)) s.shifts ≡ form.variables_of value lp
  shifts_count =
      widths_of_shifts value s.shifts ∙ sym (widths-numbered 1 (map (shift_value value) s.shifts)) ∙ ap (sum_by (λ (p : ℕ × form.Shift). form.width p.1)) columns_are

  pub shifts_within : sum_by (λ (t : Shift F). form.width (shift_value value t)) s.shifts ≤ 3000
  shifts_within = omega (arith, shifts_count, variables_counted value lp, variables_few value lp formed)

  all_counted : length (form.rows_of value lp) ≡ count_of_rows lp.rows + sum_by (λ (column : Column F). form.rows_of_bounds column.lower column.upper) lp.columns
  all_counted =
      length-append (rows_over value (form.columns_of value lp) 0 lp.rows) (bounds_over value (form.columns_of value lp) 0 lp.columns)
      ∙ ap₂ (λ a b. a + b) (rows_over_counted value (form.columns_of value lp) 0 lp.rows) (bounds_over_counted value (form.columns_of value lp) 0 lp.columns)

  -- the form's own counts
  pub form_counted : length s.objective + length s.rows ≡ form.variables_of value lp + (count_of_rows lp.rows + sum_by (λ (column : Column F). form.rows_of_bounds column.lower column.upper) lp.columns)
  form_counted =
      ap₂ (λ a b. a + b) (sym (length-map s.objective value) ∙ ap (λ (t : form.Standard). length t.objective) is_form ∙ count_is value lp formed) (sym (length-map s.rows (row_value value)) ∙ ap (λ (t : form.Standard). length t.rows) is_form ∙ all_counted)

  pub form_few : length s.objective + length s.rows ≤ 4500
  form_few = omega (arith, form_counted, rows_few value lp formed, variables_counted value lp, variables_few value lp formed)

  module _ (d : Dictionary) (is : IsDictionaryOf (standard_value value s) d) where
    of_program : IsDictionaryOf (form.standard_form value lp) d
    of_program = subst (λ t. IsDictionaryOf t d) is_form is

    sized_by : (n : ℕ) → n ≡ d.variables + 1 → IsSized value lp n
    sized_by n e = omega (arith, e, of_program.variables, count_is value lp formed, all_counted)

    read_sized : (xs : List F) (f : ℕ → Number) → map value xs ≡ map f (all_variables d) → IsSized value lp (length xs)
    read_sized xs f e = sized_by (length xs) (sym (length-map xs value) ∙ ap length e ∙ length-map-range_with_len f 0 (d.variables + 1))

    values_sized : (final : Final F) → last_value value final ≡ last_of d → IsSized value lp (length final.values)
    values_sized final e = read_sized final.values (λ v. value_by_row d (row_of_basic d v)) (ap (λ (l : form.Last). l.values) e)

    costs_sized : (final : Final F) → last_value value final ≡ last_of d → IsSized value lp (length final.costs)
    costs_sized final e = read_sized final.costs (λ v. cost_by_row d (priced_row d) v (row_of_basic d v)) (ap (λ (l : form.Last). l.costs) e)

    sized_at : (final : Final F) (k : EndKind) → IsReadAt d k (last_value value final) → IsSized value lp (length final.values) × IsSized value lp (length final.costs) × HasRay k (IsSized value lp (length final.ray))
    sized_at final kind.Optimal h = (values_sized final h.2, costs_sized final h.2, tt)
    sized_at final kind.Infeasible h = (values_sized final h.2, costs_sized final h.2, tt)
    sized_at final kind.Unbounded h = (
      read_sized final.values (λ v. value_by_row d (row_of_basic d v)) (ap (λ (l : form.Last). l.values) h.1.2),
      read_sized final.costs (λ v. cost_by_row d (priced_row d) v (row_of_basic d v)) (ap (λ (l : form.Last). l.costs) h.1.2),
      read_sized final.ray (λ v. change_by_row d h.1.0 v (row_of_basic d v)) (ap (λ (l : form.Last). l.changes) h.1.2),
    )
    sized_at final kind.Interrupted h = (values_sized final h.3, costs_sized final h.3, tt)

  pub are_sized : (final : Final F) → IsLast value s final → AreSized value lp final
  are_sized final last = sized_at last.0 last.1 final final.kind last.2

  -- ---- the end is proved
  module _ (none : FirstCrossed value lp.columns None) (d : Dictionary) (is : IsDictionaryOf (standard_value value s) d) where
    proper : IsDictionaryOf (form.standard_form value lp) d
    proper = subst (λ t. IsDictionaryOf t d) is_form is

  pub end_proved : FirstCrossed value lp.columns None → (final : Final F) → IsLast value s final → (steps : List ExpectedStep) (r : Result (End F) Stop) → ComputesEnd steps (LeadsTo value lp final.kind (last_value value final)) r → IfOk r (IsProved value lp)
  end_proved none final last steps (Ok end) h = proved_at value lp formed none last.0 (proper none last.0 last.1) final.kind (last_value value final) last.2 end h.1
  end_proved none final last steps (Err stop) h = tt

-- ---- the answer of the whole

module _ {F : Type 0} (value : F → Number) (limit : ℕ) (lp : Lp F) (k : EndKind) (last : form.Last) where
  pub end_is : (r : Result (End F) Stop) → ComputesEnd (steps_back value limit lp k last) (LeadsTo value lp k last) r → IfOk r (LeadsTo value lp k last)
  end_is (Ok end) h = h.1
  end_is (Err s) h = tt

  pub end_fits : (r : Result (End F) Stop) → ComputesEnd (steps_back value limit lp k last) (LeadsTo value lp k last) r → IfOk r (λ end. AllFit (steps_back value limit lp k last))
  end_fits (Ok end) h = all_fit (steps_back value limit lp k last) h.0
  end_fits (Err s) h = tt

  stop_back : (s : Stop) → StopsAt (steps_back value limit lp k last) s → HasNoRecovery value limit lp k last s
  stop_back (stop.Limit step) h = stops_first (steps_back value limit lp k last) step h
  stop_back (stop.Crossed j) h = h
  stop_back stop.Memory h = tt

  pub end_stops : (r : Result (End F) Stop) → ComputesEnd (steps_back value limit lp k last) (LeadsTo value lp k last) r → IfErr r (HasNoRecovery value limit lp k last)
  end_stops (Ok end) h = tt
  end_stops (Err s) h = stop_back s h

-- a ray exists, or none is required
pub has_ray : (k : EndKind) (P : Type 0) → P → HasRay k P
has_ray kind.Optimal P h = tt
has_ray kind.Infeasible P h = tt
has_ray kind.Unbounded P h = h
has_ray kind.Interrupted P h = tt

pub no_ray : (k : EndKind) (P : Type 0) → (k ≡ kind.Unbounded → ⊥) → HasRay k P
no_ray kind.Optimal P h = tt
no_ray kind.Infeasible P h = tt
no_ray kind.Unbounded P h = absurd (h refl)
no_ray kind.Interrupted P h = tt
