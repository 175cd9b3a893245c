-- If the steps of the recovery fit, each number that it gives fits.
use Rattle.std.proofs.Common.{◌≡◌, ℕ, ◌+◌, ◌^◌, ◌<◌, ◌≤◌, ◌==◌, cond, true, pos, List, [], ◌∷◌, map, Option, Some, None, sym, ap, ◌∙◌, subst}
use Rattle.std.specs.Prelude.{flat_map}
use Rattle.std.specs.List.{All, enumerate_from}
use Rattle.std.proofs.lemmas.List.Elements.{All-nil, All-cons, All-head, All-tail, All-map, All-weaker}
use Rattle.gq_number.specs.Number.{Number, whole, ◌+ℚ◌, ◌*ℚ◌, neg_ℚ}
use Rattle.gq_number.proofs.Ring.{zero-+ℚ}
use Rattle.gq_number.proofs.Field.{+ℚ-zero, +ℚ_assoc}
use Rattle.gq_number.proofs.Sums.{sum_by_ℚ-nil, sum_by_ℚ-cons}
use Rattle.gq_field.specs.Fits.{sum_fits}
use Rattle.lp_form.proofs.Zeros.{fits-zero}
use Rattle.lp_core.specs.declared.answer.StepName.TheVariants.{Recover}
use Rattle.lp_core.specs.declared.program.Sense.{Sense}
use Rattle.lp_core.specs.declared.program.Sense.TheVariants as sense
use Rattle.lp_core.specs.declared.program.Column.{Column}
use Rattle.lp_core.specs.declared.program.Row.{Row}
use Rattle.lp_core.specs.declared.program.Lp.{Lp}
use Rattle.lp_core.specs.Sums.{value_of_column, row_sum}
use Rattle.lp_core.specs.Proofs.{row_sums}
use Rattle.lp_core.specs.StandardForm as form
use Rattle.lp_core.specs.Steps.{ExpectedStep, AllFit, product_fits, difference_fits, level_step, row_level_steps, dual_steps, reduced_steps, ray_step, count_of_rows, levels_steps, row_levels_steps, duals_steps, reduced_costs_steps, ray_steps}
use Rattle.lp_std.proofs.Sums.{All-append_left, All-append_right}
use Rattle.lp_simplex.proofs.Fitting.{Fitting, neg_within, sum_within, difference_within, directed_within, number_within}
use Rattle.lp_simplex.proofs.FittingForm.{BaseFits, bases_within}

abbrev Fit : ExpectedStep → Type 0
Fit step = step.1 ≡ true

module _ {F : Type 0} (value : F → Number) (limit : ℕ) (some : 1 ≤ limit) (small : limit < 2 ^ 127) (within : (x : F) → Fitting limit (value x)) where
  -- ---- levels

  level_within : (j : ℕ) (c : ℕ × form.Shift) (y : List Number) → BaseFits limit some c → All (Fitting limit) y → (level_step limit j c y).1 ≡ true → Fitting limit (form.shifted_back c y)
  level_within j (v, form.from_lower b) y base_fits h fit = sum_within limit b (value_of_column y v) small base_fits (number_within limit some y v h) fit
  level_within j (v, form.from_upper b) y base_fits h fit = difference_within limit b (value_of_column y v) small base_fits (number_within limit some y v h) fit
  level_within j (v, form.free) y base_fits h fit = difference_within limit (value_of_column y v) (value_of_column y (v + 1)) small (number_within limit some y v h) (number_within limit some y (v + 1) h) fit

  levels_from : (j : ℕ) (columns : List (ℕ × form.Shift)) (y : List Number) → All (BaseFits limit some) columns → All (Fitting limit) y → AllFit (map (λ (p : ℕ × (ℕ × form.Shift)). level_step limit p.0 p.1 y) (enumerate_from j columns)) → All (Fitting limit) (map (λ c. form.shifted_back c y) columns)
  levels_from j [] y bases h fit = All-nil (Fitting limit)
  levels_from j (c ∷ columns) y bases h fit =
      let here : ExpectedStep = level_step limit j c y in
      let rest : List ExpectedStep = map (λ (p : ℕ × (ℕ × form.Shift)). level_step limit p.0 p.1 y) (enumerate_from (j + 1) columns) in
      All-cons (Fitting limit) (form.shifted_back c y) (map (λ c. form.shifted_back c y) columns) (level_within j c y (All-head (BaseFits limit some) c columns bases) h (All-head Fit here rest fit))
      (levels_from (j + 1) columns y (All-tail (BaseFits limit some) c columns bases) h (All-tail Fit here rest fit))

  -- ---- row levels

  sum_from : (i e : ℕ) (s : Number) (entries : List (ℕ × F)) (x : List Number) → Fitting limit s → AllFit (row_level_steps value limit i e s entries x) → Fitting limit (s +ℚ row_sum value entries x)
  sum_from i e s [] x h fit =
      subst (Fitting limit) (sym (ap (λ t. s +ℚ t) (sum_by_ℚ-nil (λ (p : ℕ × F). value p.1 *ℚ value_of_column x p.0)) ∙ +ℚ-zero s)) h
  sum_from i e s (p ∷ entries) x h fit =
      let term : Number = value p.1 *ℚ value_of_column x p.0 in
      let product : ExpectedStep = (Recover 1 i e 0, product_fits limit (value p.1) (value_of_column x p.0)) in
      let total : ExpectedStep = (Recover 1 i e 1, sum_fits limit s term) in
      let rest : List ExpectedStep = row_level_steps value limit i (e + 1) (s +ℚ term) entries x in
      let following = All-tail Fit product (total ∷ rest) fit in
      let here = sum_within limit s term small h (All-head Fit product (total ∷ rest) fit) (All-head Fit total rest following) in
      subst (Fitting limit) (+ℚ_assoc s term (row_sum value entries x) ∙ ap (λ t. s +ℚ t) (sym (sum_by_ℚ-cons (λ (p : ℕ × F). value p.1 *ℚ value_of_column x p.0) p entries)))
      (sum_from i (e + 1) (s +ℚ term) entries x here (All-tail Fit total rest following))

  sums_from : (i : ℕ) (rows : List (Row F)) (x : List Number) → AllFit (flat_map (λ (p : ℕ × Row F). row_level_steps value limit p.0 0 (whole (pos 0)) p.1.entries x) (enumerate_from i rows)) → All (Fitting limit) (map (λ (row : Row F). row_sum value row.entries x) rows)
  sums_from i [] x fit = All-nil (Fitting limit)
  sums_from i (row ∷ rows) x fit =
      let here : List ExpectedStep = row_level_steps value limit i 0 (whole (pos 0)) row.entries x in
      let rest : List ExpectedStep = flat_map (λ (p : ℕ × Row F). row_level_steps value limit p.0 0 (whole (pos 0)) p.1.entries x) (enumerate_from (i + 1) rows) in
      All-cons (Fitting limit) (row_sum value row.entries x) (map (λ (r : Row F). row_sum value r.entries x) rows)
      (subst (Fitting limit) (zero-+ℚ (row_sum value row.entries x)) (sum_from i 0 (whole (pos 0)) row.entries x (fits-zero limit some) (All-append_left Fit here rest fit)))
      (sums_from (i + 1) rows x (All-append_right Fit here rest fit))

  -- ---- duals

  dual_within : (p : ℕ → Number) (i r : ℕ) (s : Sense) → ((r : ℕ) → Fitting limit (p r)) → AllFit (cond (form.rows_of_sense s == 2) ((Recover 2 i 0 1, difference_fits limit (p r) (p (r + 1))) ∷ []) []) → Fitting limit (form.dual_by_sense s p r)
  dual_within p i r sense.E h fit = difference_within limit (p r) (p (r + 1)) small (h r) (h (r + 1)) (All-head Fit (Recover 2 i 0 1, difference_fits limit (p r) (p (r + 1))) [] fit)
  dual_within p i r sense.L h fit = h r
  dual_within p i r sense.G h fit = neg_within limit (p r) (h r)
  dual_within p i r sense.N h fit = fits-zero limit some

  duals_from : (p : ℕ → Number) (i r : ℕ) (rows : List (Row F)) → ((r : ℕ) → Fitting limit (p r)) → AllFit (dual_steps limit p i r rows) → All (Fitting limit) (form.duals_from p r rows)
  duals_from p i r [] h fit = All-nil (Fitting limit)
  duals_from p i r (row ∷ rows) h fit =
      let here : List ExpectedStep = cond (form.rows_of_sense row.sense == 2) ((Recover 2 i 0 1, difference_fits limit (p r) (p (r + 1))) ∷ []) [] in
      let rest : List ExpectedStep = dual_steps limit p (i + 1) (r + form.rows_of_sense row.sense) rows in
      All-cons (Fitting limit) (form.dual_by_sense row.sense p r) (form.duals_from p (r + form.rows_of_sense row.sense) rows) (dual_within p i r row.sense h (All-append_left Fit here rest fit))
      (duals_from p (i + 1) (r + form.rows_of_sense row.sense) rows h (All-append_right Fit here rest fit))

  -- ---- reduced costs

  reduced_within : (costs : List Number) (p : ℕ → Number) (j v r : ℕ) (lower upper : Option F) → All (Fitting limit) costs → ((r : ℕ) → Fitting limit (p r)) → AllFit (cond (form.rows_of_bounds lower upper == 1) ((Recover 3 j 0 1, sum_fits limit (value_of_column costs v) (p r)) ∷ []) []) → Fitting limit (form.reduced_by_bounds costs p v r lower upper)
  reduced_within costs p j v r (Some l) (Some u) all h fit = sum_within limit (value_of_column costs v) (p r) small (number_within limit some costs v all) (h r) (All-head Fit (Recover 3 j 0 1, sum_fits limit (value_of_column costs v) (p r)) [] fit)
  reduced_within costs p j v r (Some l) None all h fit = number_within limit some costs v all
  reduced_within costs p j v r None (Some u) all h fit = neg_within limit (value_of_column costs v) (number_within limit some costs v all)
  reduced_within costs p j v r None None all h fit = fits-zero limit some

  reduced_from : (costs : List Number) (p : ℕ → Number) (j r : ℕ) (shifts : List (ℕ × form.Shift)) (columns : List (Column F)) → All (Fitting limit) costs → ((r : ℕ) → Fitting limit (p r)) → AllFit (reduced_steps limit costs p j r shifts columns) → All (Fitting limit) (form.reduced_from costs p r shifts columns)
  reduced_from costs p j r [] columns all h fit = All-nil (Fitting limit)
  reduced_from costs p j r (s ∷ shifts) [] all h fit = All-nil (Fitting limit)
  reduced_from costs p j r (s ∷ shifts) (column ∷ columns) all h fit =
      let here : List ExpectedStep = cond (form.rows_of_bounds column.lower column.upper == 1) ((Recover 3 j 0 1, sum_fits limit (value_of_column costs s.0) (p r)) ∷ []) [] in
      let rest : List ExpectedStep = reduced_steps limit costs p (j + 1) (r + form.rows_of_bounds column.lower column.upper) shifts columns in
      All-cons (Fitting limit) (form.reduced_by_bounds costs p s.0 r column.lower column.upper) (form.reduced_from costs p (r + form.rows_of_bounds column.lower column.upper) shifts columns)
      (reduced_within costs p j s.0 r column.lower column.upper all h (All-append_left Fit here rest fit))
      (reduced_from costs p (j + 1) (r + form.rows_of_bounds column.lower column.upper) shifts columns all h (All-append_right Fit here rest fit))

  -- ---- a ray

  change_within : (j : ℕ) (c : ℕ × form.Shift) (changes : List Number) → All (Fitting limit) changes → AllFit (ray_step limit j c changes) → Fitting limit (form.changed_back c changes)
  change_within j (v, form.from_lower b) changes all fit = number_within limit some changes v all
  change_within j (v, form.from_upper b) changes all fit = neg_within limit (value_of_column changes v) (number_within limit some changes v all)
  change_within j (v, form.free) changes all fit =
      difference_within limit (value_of_column changes v) (value_of_column changes (v + 1)) small (number_within limit some changes v all) (number_within limit some changes (v + 1) all) (All-head Fit (Recover 4 j 0 1, difference_fits limit (value_of_column changes v) (value_of_column changes (v + 1))) [] fit)

  changes_from : (j : ℕ) (columns : List (ℕ × form.Shift)) (changes : List Number) → All (Fitting limit) changes → AllFit (flat_map (λ (p : ℕ × (ℕ × form.Shift)). ray_step limit p.0 p.1 changes) (enumerate_from j columns)) → All (Fitting limit) (map (λ c. form.changed_back c changes) columns)
  changes_from j [] changes all fit = All-nil (Fitting limit)
  changes_from j (c ∷ columns) changes all fit =
      let here : List ExpectedStep = ray_step limit j c changes in
      let rest : List ExpectedStep = flat_map (λ (p : ℕ × (ℕ × form.Shift)). ray_step limit p.0 p.1 changes) (enumerate_from (j + 1) columns) in
      All-cons (Fitting limit) (form.changed_back c changes) (map (λ c. form.changed_back c changes) columns) (change_within j c changes all (All-append_left Fit here rest fit)) (changes_from (j + 1) columns changes all (All-append_right Fit here rest fit))

  -- ---- the lists of the recovery

  module _ (lp : Lp F) (last : form.Last) where
    multiplier_within : All (Fitting limit) last.costs → (r : ℕ) → Fitting limit (form.multiplier (form.variables_of value lp) last.costs r)
    multiplier_within all r =
        neg_within limit (value_of_column last.costs (form.variables_of value lp + 1 + r)) (number_within limit some last.costs (form.variables_of value lp + 1 + r) all)

    pub levels_back_within : All (Fitting limit) last.values → AllFit (levels_steps value limit lp last) → All (Fitting limit) (form.levels_back value lp last)
    levels_back_within all fit = levels_from 0 (form.columns_of value lp) last.values (bases_within value limit some small within 1 lp.columns) all fit

    pub row_sums_within : AllFit (row_levels_steps value limit lp last) → All (Fitting limit) (row_sums value lp (form.levels_back value lp last))
    row_sums_within fit = sums_from 0 lp.rows (form.levels_back value lp last) fit

    all_duals_within : All (Fitting limit) last.costs → AllFit (duals_steps value limit lp last) → All (Fitting limit) (form.duals_from (form.multiplier (form.variables_of value lp) last.costs) 0 lp.rows)
    all_duals_within all fit = duals_from (form.multiplier (form.variables_of value lp) last.costs) 0 0 lp.rows (multiplier_within all) fit

    pub duals_back_within : All (Fitting limit) last.costs → AllFit (duals_steps value limit lp last) → All (Fitting limit) (form.duals_back value lp last)
    duals_back_within all fit =
        let duals = form.duals_from (form.multiplier (form.variables_of value lp) last.costs) 0 lp.rows in
        All-map (Fitting limit) (form.directed lp.maximize) duals (All-weaker (Fitting limit) (λ y. Fitting limit (form.directed lp.maximize y)) (λ y h. directed_within limit lp.maximize y h) duals (all_duals_within all fit))

    pub farkas_back_within : All (Fitting limit) last.costs → AllFit (duals_steps value limit lp last) → All (Fitting limit) (form.farkas_back value lp last)
    farkas_back_within all fit =
        let duals = form.duals_from (form.multiplier (form.variables_of value lp) last.costs) 0 lp.rows in
        All-map (Fitting limit) neg_ℚ duals (All-weaker (Fitting limit) (λ y. Fitting limit (neg_ℚ y)) (λ y h. neg_within limit y h) duals (all_duals_within all fit))

    -- the columns' own rows come after those of the program's rows, however these are counted
    reduced_at : (r : ℕ) → All (Fitting limit) last.costs → AllFit (reduced_steps limit last.costs (form.multiplier (form.variables_of value lp) last.costs) 0 r (form.columns_of value lp) lp.columns) → All (Fitting limit) (map (form.directed lp.maximize) (form.reduced_from last.costs (form.multiplier (form.variables_of value lp) last.costs) r (form.columns_of value lp) lp.columns))
    reduced_at r all fit =
        let reduced = form.reduced_from last.costs (form.multiplier (form.variables_of value lp) last.costs) r (form.columns_of value lp) lp.columns in
        All-map (Fitting limit) (form.directed lp.maximize) reduced
        (All-weaker (Fitting limit) (λ y. Fitting limit (form.directed lp.maximize y)) (λ y h. directed_within limit lp.maximize y h) reduced (reduced_from last.costs (form.multiplier (form.variables_of value lp) last.costs) 0 r (form.columns_of value lp) lp.columns all (multiplier_within all) fit))

    pub reduced_back_within : All (Fitting limit) last.costs → AllFit (reduced_costs_steps value limit lp last) → All (Fitting limit) (form.reduced_back value lp last)
    reduced_back_within all fit = reduced_at (count_of_rows lp.rows) all fit

    pub ray_back_within : All (Fitting limit) last.changes → AllFit (ray_steps value limit lp last) → All (Fitting limit) (form.ray_back value lp last)
    ray_back_within all fit = changes_from 0 (form.columns_of value lp) last.changes all fit
