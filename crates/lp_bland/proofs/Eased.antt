-- Steps that fit under a limit fit under a greater one.
use Rattle.std.proofs.Common.{◌≡◌, ℕ, ◌+◌, ◌≤◌, ◌==◌, Bool, true, false, cond, List, [], ◌∷◌, ◌++◌, length, map, filter, Option, Some, None, pos}
use Rattle.std.specs.Prelude.{flat_map, not}
use Rattle.std.specs.List.{enumerate_from, range_with_len}
use Rattle.std.specs.Ordering.{is_gt}
use Rattle.std.proofs.lemmas.List.Elements.{All-cons, All-head, All-tail, All-append}
use Rattle.gq_number.specs.Number.{Number, whole, ◌+ℚ◌, ◌-ℚ◌, ◌*ℚ◌, ◌/ℚ◌, neg_ℚ}
use Rattle.gq_number.specs.Order.{number_cmp}
use Rattle.gq_frac.proofs.Steps.{fits_more, sum_fits_more}
use Rattle.gq_field.specs.Fits.{sum_fits}
use Rattle.lp_core.specs.declared.answer.EndKind.{EndKind}
use Rattle.lp_core.specs.declared.answer.EndKind.TheVariants as kind
use Rattle.lp_core.specs.declared.answer.StepName.TheVariants.{Standard as StandardStep, Ratio, Exchange, Recover}
use Rattle.lp_core.specs.declared.program.Column.{Column}
use Rattle.lp_core.specs.declared.program.Row.{Row}
use Rattle.lp_core.specs.declared.program.Lp.{Lp}
use Rattle.lp_core.specs.Sums.{value_of_column}
use Rattle.lp_core.specs.Feasible.{bound_value}
use Rattle.lp_core.specs.StandardForm.{Shift, from_lower, from_upper, free, base, column_at, columns_of, variables_of, rows_of_sense, rows_of_bounds, multiplier, Last, levels_back}
use Rattle.lp_core.specs.Dictionary.{Dictionary, constant_at, entry_at, divided_entry}
use Rattle.lp_core.specs.Steps.{ExpectedStep, AllFit, product_fits, quotient_fits, difference_fits, shifting, row_steps, rows_steps, bound_step, bounds_steps, count_of_rows, standard_steps, ratio_steps, pivot_row_steps, other_row_steps, exchange_steps, level_step, row_level_steps, dual_steps, reduced_steps, ray_step, levels_steps, row_levels_steps, duals_steps, reduced_costs_steps, ray_steps, optimal_steps, infeasible_steps, unbounded_steps, interrupted_steps, steps_back}
use Rattle.lp_std.proofs.Sums.{All-append_left, All-append_right}

-- ---- lists of steps

abbrev pub Fit : ExpectedStep → Type 0
Fit step = step.1 ≡ true

-- where all of the first fit all of the second do
abbrev pub Eases : List ExpectedStep → List ExpectedStep → Type 0
Eases steps more = AllFit steps → AllFit more

eases_cons : (a b : ExpectedStep) (steps more : List ExpectedStep) → (a.1 ≡ true → b.1 ≡ true) → Eases steps more → Eases (a ∷ steps) (b ∷ more)
eases_cons a b steps more one rest fit = All-cons Fit b more (one (All-head Fit a steps fit)) (rest (All-tail Fit a steps fit))

eases_one : (a b : ExpectedStep) → (a.1 ≡ true → b.1 ≡ true) → Eases (a ∷ []) (b ∷ [])
eases_one a b one = eases_cons a b [] [] one (λ fit. fit)

eases_append : (a b c d : List ExpectedStep) → Eases a c → Eases b d → Eases (a ++ b) (c ++ d)
eases_append a b c d first second fit = All-append Fit c d (first (All-append_left Fit a b fit)) (second (All-append_right Fit a b fit))

eases_if : (test : Bool) (a b : List ExpectedStep) → Eases a b → Eases (cond test a []) (cond test b [])
eases_if true a b h = h
eases_if false a b h = λ fit. fit

eases_unless : (test : Bool) (a b : List ExpectedStep) → Eases a b → Eases (cond test [] a) (cond test [] b)
eases_unless true a b h = λ fit. fit
eases_unless false a b h = h

eases_map : {X : Type 0} (f g : X → ExpectedStep) (xs : List X) → ((x : X) → (f x).1 ≡ true → (g x).1 ≡ true) → Eases (map f xs) (map g xs)
eases_map f g [] each = λ fit. fit
eases_map f g (x ∷ xs) each = eases_cons (f x) (g x) (map f xs) (map g xs) (each x) (eases_map f g xs each)

eases_joined : {X : Type 0} (f g : X → List ExpectedStep) (xs : List X) → ((x : X) → Eases (f x) (g x)) → Eases (flat_map f xs) (flat_map g xs)
eases_joined f g [] each = λ fit. fit
eases_joined f g (x ∷ xs) each = eases_append (f x) (flat_map f xs) (g x) (flat_map g xs) (each x) (eases_joined f g xs each)

module _ (low high : ℕ) (less : low ≤ high) where
  -- ---- a pivot

  pub ratio_eased : (n : ℕ) (d : Dictionary) (q : ℕ) → Eases (ratio_steps low n d q) (ratio_steps high n d q)
  ratio_eased n d q =
      eases_map (λ i. (Ratio n (i + 1), quotient_fits low (constant_at d i) (entry_at d i q))) (λ i. (Ratio n (i + 1), quotient_fits high (constant_at d i) (entry_at d i q)))
      (filter (λ i. is_gt (number_cmp (entry_at d i q) (whole (pos 0)))) (range_with_len 0 (length d.basic))) (λ i. fits_more low high (constant_at d i /ℚ entry_at d i q) less)

  pivot_row_eased : (n : ℕ) (d : Dictionary) (q k : ℕ) → Eases (pivot_row_steps low n d q k) (pivot_row_steps high n d q k)
  pivot_row_eased n d q k =
      eases_map (λ c. (Exchange n (k + 1) c 0, quotient_fits low (d.numbers k c) (entry_at d k q))) (λ c. (Exchange n (k + 1) c 0, quotient_fits high (d.numbers k c) (entry_at d k q)))
      (range_with_len 0 (d.variables + 2)) (λ c. fits_more low high (d.numbers k c /ℚ entry_at d k q) less)

  abbrev two_steps : ℕ → ℕ → Dictionary → ℕ → ℕ → ℕ → ℕ → List ExpectedStep
  two_steps limit n d q k i c =
      (Exchange n (i + 1) c 0, product_fits limit (entry_at d i q) (divided_entry d q k c)) ∷ (Exchange n (i + 1) c 1, difference_fits limit (d.numbers i c) (entry_at d i q *ℚ divided_entry d q k c)) ∷ []

  other_row_eased : (n : ℕ) (d : Dictionary) (q k i : ℕ) → Eases (other_row_steps low n d q k i) (other_row_steps high n d q k i)
  other_row_eased n d q k i =
      eases_joined (two_steps low n d q k i) (two_steps high n d q k i) (range_with_len 0 (d.variables + 2))
      (λ c. eases_cons (Exchange n (i + 1) c 0, product_fits low (entry_at d i q) (divided_entry d q k c)) (Exchange n (i + 1) c 0, product_fits high (entry_at d i q) (divided_entry d q k c)) ((Exchange n (i + 1) c 1, difference_fits low (d.numbers i c) (entry_at d i q *ℚ divided_entry d q k c)) ∷ []) ((Exchange n (i + 1) c 1, difference_fits high (d.numbers i c) (entry_at d i q *ℚ divided_entry d q k c)) ∷ [])
      (fits_more low high (entry_at d i q *ℚ divided_entry d q k c) less)
      (eases_one (Exchange n (i + 1) c 1, difference_fits low (d.numbers i c) (entry_at d i q *ℚ divided_entry d q k c)) (Exchange n (i + 1) c 1, difference_fits high (d.numbers i c) (entry_at d i q *ℚ divided_entry d q k c)) (sum_fits_more low high (d.numbers i c) (neg_ℚ (entry_at d i q *ℚ divided_entry d q k c)) less)))

  pub exchange_eased : (n : ℕ) (d : Dictionary) (q k : ℕ) → Eases (exchange_steps low n d q k) (exchange_steps high n d q k)
  exchange_eased n d q k =
      let others : List ℕ = filter (λ i. not (i == k)) (range_with_len 0 (length d.basic + 1)) in
      eases_append (pivot_row_steps low n d q k) (flat_map (other_row_steps low n d q k) others) (pivot_row_steps high n d q k) (flat_map (other_row_steps high n d q k) others) (pivot_row_eased n d q k)
      (eases_joined (other_row_steps low n d q k) (other_row_steps high n d q k) others (λ i. other_row_eased n d q k i))

  -- ---- the standard form

  shifting_eased : (r j : ℕ) (s : Shift) (a right : Number) → Eases (shifting low r j s a right) (shifting high r j s a right)
  shifting_eased r j free a right = λ fit. fit
  shifting_eased r j (from_lower b) a right =
      eases_cons (StandardStep r (j + 1) 0, product_fits low a b) (StandardStep r (j + 1) 0, product_fits high a b) ((StandardStep r (j + 1) 1, difference_fits low right (a *ℚ b)) ∷ []) ((StandardStep r (j + 1) 1, difference_fits high right (a *ℚ b)) ∷ [])
      (fits_more low high (a *ℚ b) less) (eases_one (StandardStep r (j + 1) 1, difference_fits low right (a *ℚ b)) (StandardStep r (j + 1) 1, difference_fits high right (a *ℚ b)) (sum_fits_more low high right (neg_ℚ (a *ℚ b)) less))
  shifting_eased r j (from_upper b) a right =
      eases_cons (StandardStep r (j + 1) 0, product_fits low a b) (StandardStep r (j + 1) 0, product_fits high a b) ((StandardStep r (j + 1) 1, difference_fits low right (a *ℚ b)) ∷ []) ((StandardStep r (j + 1) 1, difference_fits high right (a *ℚ b)) ∷ [])
      (fits_more low high (a *ℚ b) less) (eases_one (StandardStep r (j + 1) 1, difference_fits low right (a *ℚ b)) (StandardStep r (j + 1) 1, difference_fits high right (a *ℚ b)) (sum_fits_more low high right (neg_ℚ (a *ℚ b)) less))

  module _ {F : Type 0} (value : F → Number) where
    row_eased : (columns : List (ℕ × Shift)) (r : ℕ) (right : Number) (entries : List (ℕ × F)) → Eases (row_steps value low columns r right entries) (row_steps value high columns r right entries)
    row_eased columns r right [] = λ fit. fit
    row_eased columns r right (e ∷ entries) =
        let more : Number = right -ℚ value e.1 *ℚ base (column_at columns e.0).1 in
        eases_append (shifting low r e.0 (column_at columns e.0).1 (value e.1) right) (row_steps value low columns r more entries) (shifting high r e.0 (column_at columns e.0).1 (value e.1) right) (row_steps value high columns r more entries)
        (shifting_eased r e.0 (column_at columns e.0).1 (value e.1) right) (row_eased columns r more entries)

    rows_eased : (columns : List (ℕ × Shift)) (r : ℕ) (rows : List (Row F)) → Eases (rows_steps value low columns r rows) (rows_steps value high columns r rows)
    rows_eased columns r [] = λ fit. fit
    rows_eased columns r (row ∷ rows) =
        eases_append (cond (rows_of_sense row.sense == 0) [] (row_steps value low columns r (value row.right) row.entries)) (rows_steps value low columns (r + rows_of_sense row.sense) rows)
        (cond (rows_of_sense row.sense == 0) [] (row_steps value high columns r (value row.right) row.entries)) (rows_steps value high columns (r + rows_of_sense row.sense) rows)
        (eases_unless (rows_of_sense row.sense == 0) (row_steps value low columns r (value row.right) row.entries) (row_steps value high columns r (value row.right) row.entries) (row_eased columns r (value row.right) row.entries))
        (rows_eased columns (r + rows_of_sense row.sense) rows)

    bound_eased : (r j : ℕ) (lower upper : Option Number) → Eases (bound_step low r j lower upper) (bound_step high r j lower upper)
    bound_eased r j (Some l) (Some u) = eases_one (StandardStep r (j + 1) 1, difference_fits low u l) (StandardStep r (j + 1) 1, difference_fits high u l) (sum_fits_more low high u (neg_ℚ l) less)
    bound_eased r j (Some l) None = λ fit. fit
    bound_eased r j None (Some u) = λ fit. fit
    bound_eased r j None None = λ fit. fit

    bounds_eased : (r j : ℕ) (columns : List (Column F)) → Eases (bounds_steps value low r j columns) (bounds_steps value high r j columns)
    bounds_eased r j [] = λ fit. fit
    bounds_eased r j (c ∷ columns) =
        eases_append (bound_step low r j (bound_value value c.lower) (bound_value value c.upper)) (bounds_steps value low (r + rows_of_bounds c.lower c.upper) (j + 1) columns)
        (bound_step high r j (bound_value value c.lower) (bound_value value c.upper)) (bounds_steps value high (r + rows_of_bounds c.lower c.upper) (j + 1) columns)
        (bound_eased r j (bound_value value c.lower) (bound_value value c.upper)) (bounds_eased (r + rows_of_bounds c.lower c.upper) (j + 1) columns)

    pub standard_eased : (lp : Lp F) → Eases (standard_steps value low lp) (standard_steps value high lp)
    standard_eased lp =
        eases_append (rows_steps value low (columns_of value lp) 1 lp.rows) (bounds_steps value low (1 + count_of_rows lp.rows) 0 lp.columns) (rows_steps value high (columns_of value lp) 1 lp.rows) (bounds_steps value high (1 + count_of_rows lp.rows) 0 lp.columns)
        (rows_eased (columns_of value lp) 1 lp.rows) (bounds_eased (1 + count_of_rows lp.rows) 0 lp.columns)

    -- ---- the recovery

    level_eased : (j : ℕ) (c : ℕ × Shift) (y : List Number) → (level_step low j c y).1 ≡ true → (level_step high j c y).1 ≡ true
    level_eased j (v, from_lower b) y = sum_fits_more low high b (value_of_column y v) less
    level_eased j (v, from_upper b) y = sum_fits_more low high b (neg_ℚ (value_of_column y v)) less
    level_eased j (v, free) y = sum_fits_more low high (value_of_column y v) (neg_ℚ (value_of_column y (v + 1))) less

    levels_eased : (lp : Lp F) (last : Last) → Eases (levels_steps value low lp last) (levels_steps value high lp last)
    levels_eased lp last =
        eases_map (λ (p : ℕ × (ℕ × Shift)). level_step low p.0 p.1 last.values) (λ (p : ℕ × (ℕ × Shift)). level_step high p.0 p.1 last.values) (enumerate_from 0 (columns_of value lp)) (λ p. level_eased p.0 p.1 last.values)

    row_level_eased : (i e : ℕ) (s : Number) (entries : List (ℕ × F)) (x : List Number) → Eases (row_level_steps value low i e s entries x) (row_level_steps value high i e s entries x)
    row_level_eased i e s [] x = λ fit. fit
    row_level_eased i e s (p ∷ entries) x =
        let term : Number = value p.1 *ℚ value_of_column x p.0 in
        eases_cons (Recover 1 i e 0, product_fits low (value p.1) (value_of_column x p.0)) (Recover 1 i e 0, product_fits high (value p.1) (value_of_column x p.0))
        ((Recover 1 i e 1, sum_fits low s term) ∷ row_level_steps value low i (e + 1) (s +ℚ term) entries x) ((Recover 1 i e 1, sum_fits high s term) ∷ row_level_steps value high i (e + 1) (s +ℚ term) entries x)
        (fits_more low high term less)
        (eases_cons (Recover 1 i e 1, sum_fits low s term) (Recover 1 i e 1, sum_fits high s term) (row_level_steps value low i (e + 1) (s +ℚ term) entries x) (row_level_steps value high i (e + 1) (s +ℚ term) entries x)
        (sum_fits_more low high s term less) (row_level_eased i (e + 1) (s +ℚ term) entries x))

    row_levels_eased : (lp : Lp F) (last : Last) → Eases (row_levels_steps value low lp last) (row_levels_steps value high lp last)
    row_levels_eased lp last =
        eases_joined (λ (p : ℕ × Row F). row_level_steps value low p.0 0 (whole (pos 0)) p.1.entries (levels_back value lp last)) (λ (p : ℕ × Row F). row_level_steps value high p.0 0 (whole (pos 0)) p.1.entries (levels_back value lp last)) (enumerate_from 0 lp.rows)
        (λ p. row_level_eased p.0 0 (whole (pos 0)) p.1.entries (levels_back value lp last))

    dual_eased : (p : ℕ → Number) (i r : ℕ) (rows : List (Row F)) → Eases (dual_steps low p i r rows) (dual_steps high p i r rows)
    dual_eased p i r [] = λ fit. fit
    dual_eased p i r (row ∷ rows) =
        eases_append (cond (rows_of_sense row.sense == 2) ((Recover 2 i 0 1, difference_fits low (p r) (p (r + 1))) ∷ []) []) (dual_steps low p (i + 1) (r + rows_of_sense row.sense) rows)
        (cond (rows_of_sense row.sense == 2) ((Recover 2 i 0 1, difference_fits high (p r) (p (r + 1))) ∷ []) []) (dual_steps high p (i + 1) (r + rows_of_sense row.sense) rows)
        (eases_if (rows_of_sense row.sense == 2) ((Recover 2 i 0 1, difference_fits low (p r) (p (r + 1))) ∷ []) ((Recover 2 i 0 1, difference_fits high (p r) (p (r + 1))) ∷ [])
        (eases_one (Recover 2 i 0 1, difference_fits low (p r) (p (r + 1))) (Recover 2 i 0 1, difference_fits high (p r) (p (r + 1))) (sum_fits_more low high (p r) (neg_ℚ (p (r + 1))) less)))
        (dual_eased p (i + 1) (r + rows_of_sense row.sense) rows)

    pub infeasible_eased : (lp : Lp F) (last : Last) → Eases (infeasible_steps value low lp last) (infeasible_steps value high lp last)
    infeasible_eased lp last = dual_eased (multiplier (variables_of value lp) last.costs) 0 0 lp.rows

    reduced_eased : (costs : List Number) (p : ℕ → Number) (j r : ℕ) (shifts : List (ℕ × Shift)) (columns : List (Column F)) → Eases (reduced_steps low costs p j r shifts columns) (reduced_steps high costs p j r shifts columns)
    reduced_eased costs p j r [] columns = λ fit. fit
    reduced_eased costs p j r (s ∷ shifts) [] = λ fit. fit
    reduced_eased costs p j r (s ∷ shifts) (c ∷ columns) =
        eases_append (cond (rows_of_bounds c.lower c.upper == 1) ((Recover 3 j 0 1, sum_fits low (value_of_column costs s.0) (p r)) ∷ []) []) (reduced_steps low costs p (j + 1) (r + rows_of_bounds c.lower c.upper) shifts columns)
        (cond (rows_of_bounds c.lower c.upper == 1) ((Recover 3 j 0 1, sum_fits high (value_of_column costs s.0) (p r)) ∷ []) []) (reduced_steps high costs p (j + 1) (r + rows_of_bounds c.lower c.upper) shifts columns)
        (eases_if (rows_of_bounds c.lower c.upper == 1) ((Recover 3 j 0 1, sum_fits low (value_of_column costs s.0) (p r)) ∷ []) ((Recover 3 j 0 1, sum_fits high (value_of_column costs s.0) (p r)) ∷ [])
        (eases_one (Recover 3 j 0 1, sum_fits low (value_of_column costs s.0) (p r)) (Recover 3 j 0 1, sum_fits high (value_of_column costs s.0) (p r)) (sum_fits_more low high (value_of_column costs s.0) (p r) less)))
        (reduced_eased costs p (j + 1) (r + rows_of_bounds c.lower c.upper) shifts columns)

    reduced_costs_eased : (lp : Lp F) (last : Last) → Eases (reduced_costs_steps value low lp last) (reduced_costs_steps value high lp last)
    reduced_costs_eased lp last = reduced_eased last.costs (multiplier (variables_of value lp) last.costs) 0 (count_of_rows lp.rows) (columns_of value lp) lp.columns

    ray_eased : (j : ℕ) (c : ℕ × Shift) (changes : List Number) → Eases (ray_step low j c changes) (ray_step high j c changes)
    ray_eased j (v, from_lower b) changes = λ fit. fit
    ray_eased j (v, from_upper b) changes = λ fit. fit
    ray_eased j (v, free) changes =
        eases_one (Recover 4 j 0 1, difference_fits low (value_of_column changes v) (value_of_column changes (v + 1))) (Recover 4 j 0 1, difference_fits high (value_of_column changes v) (value_of_column changes (v + 1))) (sum_fits_more low high (value_of_column changes v) (neg_ℚ (value_of_column changes (v + 1))) less)

    rays_eased : (lp : Lp F) (last : Last) → Eases (ray_steps value low lp last) (ray_steps value high lp last)
    rays_eased lp last =
        eases_joined (λ (p : ℕ × (ℕ × Shift)). ray_step low p.0 p.1 last.changes) (λ (p : ℕ × (ℕ × Shift)). ray_step high p.0 p.1 last.changes) (enumerate_from 0 (columns_of value lp)) (λ p. ray_eased p.0 p.1 last.changes)

    pub interrupted_eased : (lp : Lp F) (last : Last) → Eases (interrupted_steps value low lp last) (interrupted_steps value high lp last)
    interrupted_eased lp last =
        eases_append (levels_steps value low lp last) (row_levels_steps value low lp last) (levels_steps value high lp last) (row_levels_steps value high lp last) (levels_eased lp last) (row_levels_eased lp last)

    pub unbounded_eased : (lp : Lp F) (last : Last) → Eases (unbounded_steps value low lp last) (unbounded_steps value high lp last)
    unbounded_eased lp last =
        eases_append (interrupted_steps value low lp last) (ray_steps value low lp last) (interrupted_steps value high lp last) (ray_steps value high lp last) (interrupted_eased lp last) (rays_eased lp last)

    pub optimal_eased : (lp : Lp F) (last : Last) → Eases (optimal_steps value low lp last) (optimal_steps value high lp last)
    optimal_eased lp last =
        eases_append (interrupted_steps value low lp last ++ duals_steps value low lp last) (reduced_costs_steps value low lp last) (interrupted_steps value high lp last ++ duals_steps value high lp last) (reduced_costs_steps value high lp last)
        (eases_append (interrupted_steps value low lp last) (duals_steps value low lp last) (interrupted_steps value high lp last) (duals_steps value high lp last) (interrupted_eased lp last) (infeasible_eased lp last))
        (reduced_costs_eased lp last)

    -- the steps of the recovery of each kind of end
    pub steps_back_eased : (how : EndKind) (lp : Lp F) (last : Last) → Eases (steps_back value low lp how last) (steps_back value high lp how last)
    steps_back_eased kind.Optimal lp last = optimal_eased lp last
    steps_back_eased kind.Infeasible lp last = infeasible_eased lp last
    steps_back_eased kind.Unbounded lp last = unbounded_eased lp last
    steps_back_eased kind.Interrupted lp last = interrupted_eased lp last
