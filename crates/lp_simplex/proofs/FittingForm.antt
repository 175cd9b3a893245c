-- Where the steps of the standard form fit, each number of the first dictionary fits.
use Rattle.std.proofs.Common.{◌≡◌, ℕ, zero, suc, ◌+◌, ◌^◌, ◌<◌, ◌≤◌, ◌==◌, cond, Bool, true, inl, inr, pos, List, [], ◌∷◌, length, map, Option, Some, None, sym, subst, arith}
use Rattle.std.specs.Prelude.{slice_index_or, nat_lt}
use Rattle.std.specs.List.{All, range_with_len}
use Rattle.std.proofs.lemmas.Bool.{cases_eq}
use Rattle.std.proofs.lemmas.List.Elements.{All-nil, All-cons, All-head, All-tail, All-append, All-map}
use Rattle.gq_number.specs.Number.{Number, whole, ◌-ℚ◌, ◌*ℚ◌, neg_ℚ}
use Rattle.gq_number.proofs.Ring.{ring_ℚ}
use Rattle.gq_number.proofs.Sums.{sum_by_ℚ-nil}
use Rattle.lp_form.proofs.Zeros.{fits-zero}
use Rattle.lp_core.specs.declared.program.Sense.{Sense}
use Rattle.lp_core.specs.declared.program.Sense.TheVariants as sense
use Rattle.lp_core.specs.declared.program.Column.{Column}
use Rattle.lp_core.specs.declared.program.Row.{Row}
use Rattle.lp_core.specs.declared.program.Lp.{Lp}
use Rattle.lp_core.specs.Feasible.{bound_value}
use Rattle.lp_core.specs.WellFormed.{IsWellFormed}
use Rattle.lp_core.specs.StandardForm as form
use Rattle.lp_core.specs.Dictionary.{Dictionary, some_below, of_variable, first_row, first_objective, no_row, first_dictionary}
use Rattle.lp_core.specs.declared.answer.StepName.TheVariants.{Standard as StandardStep}
use Rattle.lp_core.specs.Steps.{ExpectedStep, AllFit, product_fits, difference_fits, shifting, row_steps, rows_steps, bound_step, bounds_steps, count_of_rows, standard_steps}
use Rattle.lp_std.specs.InnerSteps.{right_after, spread_entries, shifted_over, rows_over, bounds_over}
use Rattle.lp_std.proofs.Sums.{All-append_left, All-append_right}
use Rattle.lp_std.proofs.LoopSteps.{right_sum}
use Rattle.lp_fraction_dict.specs.First.{InOrder}
use Rattle.lp_fraction_dict.proofs.Filling.{of_later, of_first}
use Rattle.lp_fraction_dict.proofs.InForm.{form_in_order}
use Rattle.lp_simplex.proofs.Fitting.{Fitting, neg_within, difference_within, one_within, cond_within, directed_within, number_within, range_holds}

abbrev Fit : ExpectedStep → Type 0
Fit step = step.1 ≡ true

-- Each number of a dictionary fits: those of its rows and of its objective, at each of its columns.
pub record HasFitting (limit : ℕ) (d : Dictionary) : Type 0 where
  pub each : (k c : ℕ) → k < length d.basic + 1 → c < d.variables + 2 → Fitting limit (d.numbers k c)

module _ (limit : ℕ) (some : 1 ≤ limit) where
  abbrev pub EntryFits : ℕ × Number → Type 0
  EntryFits e = Fitting limit e.1

  -- each number of a row of the standard form fits
  abbrev pub RowFits : form.StandardRow → Type 0
  RowFits row = Fitting limit row.right × All EntryFits row.entries

  -- ---- what the entries for a variable add up to

  of_fits : (es : List (ℕ × Number)) (low high v : ℕ) → InOrder low high es → All EntryFits es → Fitting limit (of_variable es v)
  of_fits [] low high v h all = subst (Fitting limit) (sym (sum_by_ℚ-nil (λ (x : ℕ × Number). cond (x.0 == v) x.1 (whole (pos 0))))) (fits-zero limit some)
  of_fits (e ∷ es) low high v h all =
      elim (cases_eq e.0 v) [
        | inl same ↦ subst (λ w. Fitting limit (of_variable (e ∷ es) w)) same (subst (Fitting limit) (sym (of_first e es high h.2)) (All-head EntryFits e es all))
        | inr other ↦ subst (Fitting limit) (sym (of_later e es v other)) (of_fits es (e.0 + 1) high v h.2 (All-tail EntryFits e es all))
      ]

  spread_ordered : (v : ℕ) (s : form.Shift) (a : Number) → InOrder v (v + form.width s) (form.spread v s a)
  spread_ordered v (form.from_lower b) a = (omega arith, omega arith, tt)
  spread_ordered v (form.from_upper b) a = (omega arith, omega arith, tt)
  spread_ordered v form.free a = (omega arith, omega arith, (omega arith, omega arith, tt))

  spread_fits : (v : ℕ) (s : form.Shift) (a : Number) → Fitting limit a → All EntryFits (form.spread v s a)
  spread_fits v (form.from_lower b) a h = All-cons EntryFits (v, a) [] h (All-nil EntryFits)
  spread_fits v (form.from_upper b) a h = All-cons EntryFits (v, neg_ℚ a) [] (neg_within limit a h) (All-nil EntryFits)
  spread_fits v form.free a h =
      All-cons EntryFits (v, a) ((v + 1, neg_ℚ a) ∷ []) h (All-cons EntryFits (v + 1, neg_ℚ a) [] (neg_within limit a h) (All-nil EntryFits))

  negated_fit : (es : List (ℕ × Number)) → All EntryFits es → All EntryFits (map (λ (e : ℕ × Number). (e.0, neg_ℚ e.1)) es)
  negated_fit [] h = All-nil EntryFits
  negated_fit (e ∷ es) h =
      All-cons EntryFits (e.0, neg_ℚ e.1) (map (λ (e : ℕ × Number). (e.0, neg_ℚ e.1)) es) (neg_within limit e.1 (All-head EntryFits e es h)) (negated_fit es (All-tail EntryFits e es h))

  by_sense : (s : Sense) (i : ℕ) (row : form.StandardRow) → RowFits row → All RowFits (form.rows_by_sense s i row)
  by_sense sense.E i row h =
      All-cons RowFits row (form.negated_row i row ∷ []) h (All-cons RowFits (form.negated_row i row) [] (neg_within limit row.right h.0, negated_fit row.entries h.1) (All-nil RowFits))
  by_sense sense.L i row h = All-cons RowFits row [] h (All-nil RowFits)
  by_sense sense.G i row h = All-cons RowFits (form.negated_row i row) [] (neg_within limit row.right h.0, negated_fit row.entries h.1) (All-nil RowFits)
  by_sense sense.N i row h = All-nil RowFits

  -- ---- the shifts

  abbrev pub BaseFits : ℕ × form.Shift → Type 0
  BaseFits c = Fitting limit (form.base c.1)

  column_fits : (columns : List (ℕ × form.Shift)) (j : ℕ) → All BaseFits columns → BaseFits (form.column_at columns j)
  column_fits [] j h = fits-zero limit some
  column_fits (c ∷ columns) zero h = All-head BaseFits c columns h
  column_fits (c ∷ columns) (suc j) h = column_fits columns j (All-tail BaseFits c columns h)

  -- ---- the first dictionary

  row_fits : (needed : Bool) (slack low high : ℕ) (row : form.StandardRow) (c : ℕ) → InOrder low high row.entries → RowFits row → Fitting limit (first_row needed slack row c)
  row_fits needed slack low high row zero ordered h = h.0
  row_fits needed slack low high row (suc zero) ordered h =
      cond_within limit needed (neg_ℚ (whole (pos 1))) (whole (pos 0)) (neg_within limit (whole (pos 1)) (one_within limit some)) (fits-zero limit some)
  row_fits needed slack low high row (suc (suc v)) ordered h =
      cond_within limit (suc v == slack) (whole (pos 1)) (of_variable row.entries (suc v)) (one_within limit some) (of_fits row.entries low high (suc v) ordered h.1)

  objective_fits : (s : form.Standard) (c : ℕ) → Fitting limit s.constant → All (Fitting limit) s.objective → Fitting limit (first_objective s c)
  objective_fits s zero constant all = neg_within limit s.constant constant
  objective_fits s (suc zero) constant all = fits-zero limit some
  objective_fits s (suc (suc v)) constant all = number_within limit some s.objective v all

  row_at : (rows : List form.StandardRow) (k low high : ℕ) → All (λ (row : form.StandardRow). InOrder low high row.entries) rows → All RowFits rows → InOrder low high (slice_index_or rows k no_row).entries × RowFits (slice_index_or rows k no_row)
  row_at [] k low high ordered h = (tt, (fits-zero limit some, All-nil EntryFits))
  row_at (row ∷ rows) zero low high ordered h = (All-head (λ (r : form.StandardRow). InOrder low high r.entries) row rows ordered, All-head RowFits row rows h)
  row_at (row ∷ rows) (suc k) low high ordered h =
      row_at rows k low high (All-tail (λ (r : form.StandardRow). InOrder low high r.entries) row rows ordered) (All-tail RowFits row rows h)

  first_fits : (s : form.Standard) (low high : ℕ) → All (λ (row : form.StandardRow). InOrder low high row.entries) s.rows → All RowFits s.rows → Fitting limit s.constant → All (Fitting limit) s.objective → HasFitting limit (first_dictionary s)
  first_fits s low high ordered rows constant objective =
      record {
        each = λ k c less within.
            let row = row_at s.rows k low high ordered rows in
            cond_within limit (nat_lt k (length s.rows)) (first_row (some_below s) (length s.objective + 1 + k) (slice_index_or s.rows k no_row) c) (first_objective s c)
            (row_fits (some_below s) (length s.objective + 1 + k) low high (slice_index_or s.rows k no_row) c row.0 row.1) (objective_fits s c constant objective);
      }

-- ---- the standard form of a program

module _ {F : Type 0} (value : F → Number) (limit : ℕ) (some : 1 ≤ limit) (small : limit < 2 ^ 127) (within : (x : F) → Fitting limit (value x)) where
  shift_within : (lower upper : Option F) → Fitting limit (form.base (form.shift_of (bound_value value lower) (bound_value value upper)))
  shift_within (Some l) upper = within l
  shift_within None (Some u) = within u
  shift_within None None = fits-zero limit some

  pub bases_within : (n : ℕ) (columns : List (Column F)) → All (BaseFits limit some) (form.numbered n (map (λ (column : Column F). form.shift_of (bound_value value column.lower) (bound_value value column.upper)) columns))
  bases_within n [] = All-nil (BaseFits limit some)
  bases_within n (column ∷ columns) =
      let s = form.shift_of (bound_value value column.lower) (bound_value value column.upper) in
      All-cons (BaseFits limit some) (n, s) (form.numbered (n + form.width s) (map (λ (c : Column F). form.shift_of (bound_value value c.lower) (bound_value value c.upper)) columns)) (shift_within column.lower column.upper) (bases_within (n + form.width s) columns)

  -- ---- the right sides

  two_within : (r j : ℕ) (a b right : Number) → Fitting limit right → AllFit ((StandardStep r (j + 1) 0, product_fits limit a b) ∷ (StandardStep r (j + 1) 1, difference_fits limit right (a *ℚ b)) ∷ []) → Fitting limit (right -ℚ a *ℚ b)
  two_within r j a b right h fit =
      let product : ExpectedStep = (StandardStep r (j + 1) 0, product_fits limit a b) in
      let difference : ExpectedStep = (StandardStep r (j + 1) 1, difference_fits limit right (a *ℚ b)) in
      difference_within limit right (a *ℚ b) small h (All-head Fit product (difference ∷ []) fit) (All-head Fit difference [] (All-tail Fit product (difference ∷ []) fit))

  shifted_within : (r j : ℕ) (s : form.Shift) (a right : Number) → Fitting limit right → AllFit (shifting limit r j s a right) → Fitting limit (right -ℚ a *ℚ form.base s)
  shifted_within r j (form.from_lower b) a right h fit = two_within r j a b right h fit
  shifted_within r j (form.from_upper b) a right h fit = two_within r j a b right h fit
  shifted_within r j form.free a right h fit = subst (Fitting limit) (nothing right a) h
    where
      nothing : (x y : Number) → x ≡ x -ℚ y *ℚ whole (pos 0)
      nothing x y = simp ring_ℚ

  right_within : (columns : List (ℕ × form.Shift)) (r : ℕ) (right : Number) (entries : List (ℕ × F)) → Fitting limit right → AllFit (row_steps value limit columns r right entries) → Fitting limit (right_after value columns right entries)
  right_within columns r right [] h fit = h
  right_within columns r right (e ∷ entries) h fit =
      let c : ℕ × form.Shift = form.column_at columns e.0 in
      let next : Number = right -ℚ value e.1 *ℚ form.base c.1 in
      let here : List ExpectedStep = shifting limit r e.0 c.1 (value e.1) right in
      let rest : List ExpectedStep = row_steps value limit columns r next entries in
      right_within columns r next entries (shifted_within r e.0 c.1 (value e.1) right h (All-append_left Fit here rest fit)) (All-append_right Fit here rest fit)

  -- ---- the rows

  entries_within : (columns : List (ℕ × form.Shift)) (entries : List (ℕ × F)) → All (EntryFits limit some) (spread_entries value columns entries)
  entries_within columns [] = All-nil (EntryFits limit some)
  entries_within columns (e ∷ entries) =
      let c : ℕ × form.Shift = form.column_at columns e.0 in
      All-append (EntryFits limit some) (form.spread c.0 c.1 (value e.1)) (spread_entries value columns entries) (spread_fits limit some c.0 c.1 (value e.1) (within e.1)) (entries_within columns entries)

  row_within : (columns : List (ℕ × form.Shift)) (r i : ℕ) (row : Row F) → AllFit (row_steps value limit columns r (value row.right) row.entries) → RowFits limit some (shifted_over value columns i row)
  row_within columns r i row fit =
      (subst (Fitting limit) (right_sum value columns (value row.right) row.entries) (right_within columns r (value row.right) row.entries (within row.right) fit), entries_within columns row.entries)

  sense_within : (columns : List (ℕ × form.Shift)) (r i : ℕ) (row : Row F) (s : Sense) → AllFit (cond (form.rows_of_sense s == 0) [] (row_steps value limit columns r (value row.right) row.entries)) → All (RowFits limit some) (form.rows_by_sense s i (shifted_over value columns i row))
  sense_within columns r i row sense.E fit = by_sense limit some sense.E i (shifted_over value columns i row) (row_within columns r i row fit)
  sense_within columns r i row sense.L fit = by_sense limit some sense.L i (shifted_over value columns i row) (row_within columns r i row fit)
  sense_within columns r i row sense.G fit = by_sense limit some sense.G i (shifted_over value columns i row) (row_within columns r i row fit)
  sense_within columns r i row sense.N fit = All-nil (RowFits limit some)

  rows_within : (columns : List (ℕ × form.Shift)) (r i : ℕ) (rows : List (Row F)) → AllFit (rows_steps value limit columns r rows) → All (RowFits limit some) (rows_over value columns i rows)
  rows_within columns r i [] fit = All-nil (RowFits limit some)
  rows_within columns r i (row ∷ rows) fit =
      let here : List ExpectedStep = cond (form.rows_of_sense row.sense == 0) [] (row_steps value limit columns r (value row.right) row.entries) in
      let rest : List ExpectedStep = rows_steps value limit columns (r + form.rows_of_sense row.sense) rows in
      All-append (RowFits limit some) (form.rows_by_sense row.sense i (shifted_over value columns i row)) (rows_over value columns (i + 1) rows)
      (sense_within columns r i row row.sense (All-append_left Fit here rest fit)) (rows_within columns (r + form.rows_of_sense row.sense) (i + 1) rows (All-append_right Fit here rest fit))

  bound_within : (r j v : ℕ) (lower upper : Option F) → AllFit (bound_step limit r j (bound_value value lower) (bound_value value upper)) → All (RowFits limit some) (form.bound_rows j v (bound_value value lower) (bound_value value upper))
  bound_within r j v (Some l) (Some u) fit =
      let row : form.StandardRow = record { right = value u -ℚ value l; entries = (v, whole (pos 1)) ∷ []; origin = form.of_bound j } in
      All-cons (RowFits limit some) row []
      (difference_within limit (value u) (value l) small (within u) (within l) (All-head Fit (StandardStep r (j + 1) 1, difference_fits limit (value u) (value l)) [] fit), All-cons (EntryFits limit some) (v, whole (pos 1)) [] (one_within limit some) (All-nil (EntryFits limit some)))
      (All-nil (RowFits limit some))
  bound_within r j v (Some l) None fit = All-nil (RowFits limit some)
  bound_within r j v None (Some u) fit = All-nil (RowFits limit some)
  bound_within r j v None None fit = All-nil (RowFits limit some)

  bounds_within : (columns : List (ℕ × form.Shift)) (r j : ℕ) (bounded : List (Column F)) → AllFit (bounds_steps value limit r j bounded) → All (RowFits limit some) (bounds_over value columns j bounded)
  bounds_within columns r j [] fit = All-nil (RowFits limit some)
  bounds_within columns r j (column ∷ bounded) fit =
      let here : List ExpectedStep = bound_step limit r j (bound_value value column.lower) (bound_value value column.upper) in
      let rest : List ExpectedStep = bounds_steps value limit (r + form.rows_of_bounds column.lower column.upper) (j + 1) bounded in
      All-append (RowFits limit some) (form.bound_rows j (form.column_at columns j).0 (bound_value value column.lower) (bound_value value column.upper)) (bounds_over value columns (j + 1) bounded)
      (bound_within r j (form.column_at columns j).0 column.lower column.upper (All-append_left Fit here rest fit)) (bounds_within columns (r + form.rows_of_bounds column.lower column.upper) (j + 1) bounded (All-append_right Fit here rest fit))

  -- ---- the objective

  spread_objective : (count v : ℕ) (s : form.Shift) (a : Number) → Fitting limit a → All (Fitting limit) (form.objective_of count (form.spread v s a))
  spread_objective count v s a h =
      All-map (Fitting limit) (of_variable (form.spread v s a)) (range_with_len 1 count) (range_holds (λ w. Fitting limit (of_variable (form.spread v s a) w)) 1 count (λ w low high. of_fits limit some (form.spread v s a) v (v + form.width s) w (spread_ordered limit some v s a) (spread_fits limit some v s a h)))

  pub form_within : (lp : Lp F) → IsWellFormed value lp → AllFit (standard_steps value limit lp) → HasFitting limit (first_dictionary (form.standard_form value lp))
  form_within lp formed fit =
      let columns : List (ℕ × form.Shift) = form.columns_of value lp in
      let z : ℕ × form.Shift = form.column_at columns lp.objective in
      let first : List ExpectedStep = rows_steps value limit columns 1 lp.rows in
      let following : List ExpectedStep = bounds_steps value limit (1 + count_of_rows lp.rows) 0 lp.columns in
      let ordered = form_in_order value lp formed in
      first_fits limit some (form.standard_form value lp) 1 (length (form.standard_form value lp).objective + 1) ordered.rows
      (All-append (RowFits limit some) (rows_over value columns 0 lp.rows) (bounds_over value columns 0 lp.columns) (rows_within columns 1 0 lp.rows (All-append_left Fit first following fit)) (bounds_within columns (1 + count_of_rows lp.rows) 0 lp.columns (All-append_right Fit first following fit)))
      (directed_within limit lp.maximize (form.base z.1) (column_fits limit some columns lp.objective (bases_within 1 lp.columns)))
      (spread_objective (form.variables_of value lp) z.0 z.1 (form.directed lp.maximize (whole (pos 1))) (directed_within limit lp.maximize (whole (pos 1)) (one_within limit some)))
