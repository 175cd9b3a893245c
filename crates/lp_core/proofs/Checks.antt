-- The steps of the check of a point, as the code takes them.
use Rattle.std.proofs.Common.{◌≡◌, ℕ, zero, suc, ◌+◌, ◌*◌, ◌<◌, true, false, ◌&&◌, cond, pos, List, [], ◌∷◌, length, map, get_or, drop, Ok, Err, refl, sym, ap, ◌∙◌, subst, arith}
use Rattle.gq_number.specs.Number.{Number, whole, ◌+ℚ◌, ◌*ℚ◌}
use Rattle.gq_field.specs.Fits.{fits, sum_fits}
use Rattle.lp_core.specs.declared.answer.StepName.{StepName}
use Rattle.lp_core.specs.declared.answer.StepName.TheVariants.{Check}
use Rattle.lp_core.specs.declared.program.Column.{Column}
use Rattle.lp_core.specs.declared.program.Row.{Row}
use Rattle.lp_core.specs.Sums.{value_of_column}
use Rattle.lp_core.specs.Feasible.{bound_value}
use Rattle.lp_core.specs.Steps.{checked_sum, keeps_lower, keeps_upper, bounds_hold, keeps_sense, asks_nothing, checked_rows, steps_of_rows}
use Rattle.lp_form.proofs.LoopSteps.{drop_item}

-- the value at a place of a point
pub number_of-map : {F : Type 0} (value : F → Number) (xs : List F) (j : ℕ) (x : F) → j < length xs → x ≡ get_or xs j x → value_of_column (map value xs) j ≡ value x
number_of-map value [] j x h e = absurd (omega arith)
number_of-map value (y ∷ ys) zero x h e = ap value (sym e)
number_of-map value (y ∷ ys) (suc j) x h e = number_of-map value ys j x (omega arith) e

-- ---- bounds

module _ {F : Type 0} (value : F → Number) (xs : List F) (columns : List (Column F)) (j : ℕ) (column : Column F) (x : F) (here : j < length columns) (sized : length xs ≡ length columns) (column_is : column ≡ get_or columns j column) (x_is : x ≡ get_or xs j x) where
  -- the check from a place on, by the column there
  bounds_here : bounds_hold value (map value xs) j (drop j columns) ≡ (keeps_lower (bound_value value column.lower) (value x) && keeps_upper (bound_value value column.upper) (value x) && bounds_hold value (map value xs) (j + 1) (drop (j + 1) columns))
  bounds_here =
      ap (bounds_hold value (map value xs) j) (drop_item columns j column here column_is)
      ∙ ap (λ v. keeps_lower (bound_value value column.lower) v && keeps_upper (bound_value value column.upper) v && bounds_hold value (map value xs) (j + 1) (drop (j + 1) columns)) (number_of-map value xs j x (omega arith) x_is)

  pub lower_fails : keeps_lower (bound_value value column.lower) (value x) ≡ false → bounds_hold value (map value xs) j (drop j columns) ≡ false
  lower_fails e = bounds_here ∙ rw e refl

  pub upper_fails : keeps_lower (bound_value value column.lower) (value x) ≡ true → keeps_upper (bound_value value column.upper) (value x) ≡ false → bounds_hold value (map value xs) j (drop j columns) ≡ false
  upper_fails e f = bounds_here ∙ rw (e, f) refl

  pub bounds_go : keeps_lower (bound_value value column.lower) (value x) ≡ true → keeps_upper (bound_value value column.upper) (value x) ≡ true → bounds_hold value (map value xs) j (drop j columns) ≡ bounds_hold value (map value xs) (j + 1) (drop (j + 1) columns)
  bounds_go e f = bounds_here ∙ rw (e, f) refl

-- ---- the sum of a row

module _ {F : Type 0} (value : F → Number) (limit : ℕ) (xs : List F) (entries : List (ℕ × F)) (i n : ℕ) (e : ℕ × F) (s x : F) (here : i < length entries) (e_is : e ≡ get_or entries i e) (there : e.0 < length xs) (x_is : x ≡ get_or xs e.0 x) where
  -- the rest of the sum, by the entry there
  sum_here : checked_sum value limit (map value xs) n (value s) (drop i entries) ≡ cond (fits limit (value e.1 *ℚ value x)) (cond (sum_fits limit (value s) (value e.1 *ℚ value x)) (checked_sum value limit (map value xs) (n + 2) (value s +ℚ value e.1 *ℚ value x) (drop (i + 1) entries)) (Err (Check (n + 1)))) (Err (Check n))
  sum_here =
      ap (checked_sum value limit (map value xs) n (value s)) (drop_item entries i e here e_is)
      ∙ ap (λ v. cond (fits limit (value e.1 *ℚ v)) (cond (sum_fits limit (value s) (value e.1 *ℚ v)) (checked_sum value limit (map value xs) (n + 2) (value s +ℚ value e.1 *ℚ v) (drop (i + 1) entries)) (Err (Check (n + 1)))) (Err (Check n))) (number_of-map value xs e.0 x there x_is)

  pub product_stops : fits limit (value e.1 *ℚ value x) ≡ false → checked_sum value limit (map value xs) n (value s) (drop i entries) ≡ Err (Check n)
  product_stops none = sum_here ∙ rw none refl

  pub sum_stops : (p : F) → (fits limit (value e.1 *ℚ value x) ≡ true) × (value p ≡ value e.1 *ℚ value x) → sum_fits limit (value s) (value p) ≡ false → checked_sum value limit (map value xs) n (value s) (drop i entries) ≡ Err (Check (n + 1))
  sum_stops p product none =
      let stops : sum_fits limit (value s) (value e.1 *ℚ value x) ≡ false = subst (λ v. sum_fits limit (value s) v ≡ false) product.1 none in
      sum_here ∙ rw (product.0, stops) refl

  pub sum_goes : (p q : F) → (fits limit (value e.1 *ℚ value x) ≡ true) × (value p ≡ value e.1 *ℚ value x) → (sum_fits limit (value s) (value p) ≡ true) × (value q ≡ value s +ℚ value p) → checked_sum value limit (map value xs) n (value s) (drop i entries) ≡ checked_sum value limit (map value xs) (n + 2) (value q) (drop (i + 1) entries)
  sum_goes p q product sum =
      let fit : sum_fits limit (value s) (value e.1 *ℚ value x) ≡ true = subst (λ v. sum_fits limit (value s) v ≡ true) product.1 sum.0 in
      sum_here ∙ rw (product.0, fit) (ap (λ v. checked_sum value limit (map value xs) (n + 2) v (drop (i + 1) entries)) (ap (λ v. value s +ℚ v) (sym product.1) ∙ sym sum.1))

-- ---- rows

module _ {F : Type 0} (value : F → Number) (limit : ℕ) (x : List Number) (rows : List (Row F)) (i n : ℕ) (row : Row F) (here : i < length rows) (row_is : row ≡ get_or rows i row) where
  row_here : checked_rows value limit x n (drop i rows) ≡ checked_rows value limit x n (row ∷ drop (i + 1) rows)
  row_here = ap (checked_rows value limit x n) (drop_item rows i row here row_is)

  -- the remaining steps, split at the row at this place
  pub steps_here : steps_of_rows (drop i rows) ≡ steps_of_rows (row ∷ drop (i + 1) rows)
  steps_here = ap steps_of_rows (drop_item rows i row here row_is)

  pub passed_over : asks_nothing row.sense ≡ true → (checked_rows value limit x n (drop i rows) ≡ checked_rows value limit x n (drop (i + 1) rows)) × (steps_of_rows (drop i rows) ≡ steps_of_rows (drop (i + 1) rows))
  passed_over none = (row_here ∙ rw none refl, steps_here ∙ rw none (omega arith))

  module _ (asks : asks_nothing row.sense ≡ false) where
    pub row_stops : (step : StepName) → checked_sum value limit x n (whole (pos 0)) row.entries ≡ Err step → checked_rows value limit x n (drop i rows) ≡ Err step
    row_stops step e = row_here ∙ rw (asks, e) refl

    pub row_fails : (s : Number) → checked_sum value limit x n (whole (pos 0)) row.entries ≡ Ok s → keeps_sense row.sense s (value row.right) ≡ false → checked_rows value limit x n (drop i rows) ≡ Ok false
    row_fails s e fails = row_here ∙ rw (asks, e, fails) refl

    pub row_goes : (s : Number) → checked_sum value limit x n (whole (pos 0)) row.entries ≡ Ok s → keeps_sense row.sense s (value row.right) ≡ true → checked_rows value limit x n (drop i rows) ≡ checked_rows value limit x (n + 2 * length row.entries) (drop (i + 1) rows)
    row_goes s e holds = row_here ∙ rw (asks, e, holds) refl

    pub steps_go : steps_of_rows (drop i rows) ≡ 2 * length row.entries + steps_of_rows (drop (i + 1) rows)
    steps_go = steps_here ∙ rw asks refl
