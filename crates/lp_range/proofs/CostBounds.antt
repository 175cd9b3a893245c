-- If a cost is within its range, there are duals whose bound for that cost equals the cost of the
-- listed levels.
use Rattle.std.proofs.Common.{◌≡◌, ℕ, zero, suc, ◌+◌, ◌-◌, ◌<◌, ◌≤◌, Bool, true, false, not, cond, inl, inr, pos, List, [], ◌∷◌, length, map, filter, get_or, Option, Some, None, refl, sym, ap, ap₂, ◌∙◌, subst, arith}
use Rattle.std.specs.Prelude.{slice_get, option_map, is_some, Contains}
use Rattle.std.specs.List.{All, zip, enumerate_from, range_with_len}
use Rattle.std.proofs.lemmas.Bool.{cases_eq}
use Rattle.std.proofs.lemmas.Option.{slice_get-map}
use Rattle.std.proofs.lemmas.List.{length-map, get_or_default}
use Rattle.std.proofs.lemmas.List.FromFn.{length-range_with_len, get_or-range_with_len}
use Rattle.std.proofs.lemmas.List.Elements.{All-nil, All-cons, All-head, All-tail, All-map}
use Rattle.gq_number.specs.Number.{Number, whole, ◌+ℚ◌, ◌-ℚ◌, ◌*ℚ◌, neg_ℚ}
use Rattle.gq_number.specs.Order.{◌≤ℚ◌, ◌<ℚ◌}
use Rattle.gq_number.specs.Sums.{sum_by_ℚ}
use Rattle.gq_number.proofs.Order
use Rattle.gq_number.proofs.Ring.{ring_ℚ, one-*ℚ}
use Rattle.gq_number.proofs.Linear.{≤ℚ_from}
use Rattle.gq_number.proofs.Signs.{neg-zero-≤ℚ}
use Rattle.gq_number.proofs.Sums.{sum_by_ℚ-+ℚ}
use Rattle.lp_core.specs.declared.program.Column.{Column}
use Rattle.lp_core.specs.declared.program.Row.{Row}
use Rattle.lp_core.specs.declared.program.Lp.{Lp}
use Rattle.lp_core.specs.Sums.{value_of_column}
use Rattle.lp_core.specs.Feasible.{bound_value, Feasible}
use Rattle.lp_core.specs.WellFormed.{IsWellFormed}
use Rattle.lp_core.specs.DualBound.{row_lower, row_upper, used, total, both, reduced_cost, low, high, objective_costs}
use Rattle.lp_core.specs.Proofs.{Crosses}
use Rattle.lp_core.specs.StandardForm as form
use Rattle.lp_core.specs.StandardForm.{Shift, Standard, base, width, changed_back, shifted_back, column_at, columns_of, variables_of, standard_form, point_of, directed, multiplier, duals_from, dual_by_sense, rows_of_sense, levels_back}
use Rattle.lp_core.specs.Dictionary.{Dictionary, constant_at, entry_at, InPhaseOne, OpeningIsRequired}
use Rattle.lp_core.specs.Pivots.{row_of_basic, last_of, NothingImproves}
use Rattle.lp_core.proofs.RowSums.{sum_by_same, unit_at, unit_sum}
use Rattle.lp_core.proofs.Duality.{low_at_most, high_at_least}
use Rattle.lp_std.specs.Points.{sum_at, objective_at}
use Rattle.lp_std.specs.Last.{IsDictionaryOf}
use Rattle.lp_std.proofs.Shapes.{All-from_map, columns_numbered}
use Rattle.lp_std.proofs.Basics.{row_none}
use Rattle.lp_std.proofs.First.{Within}
use Rattle.lp_std.proofs.Lasts.{Costs, priced_at, optimal_costs, values_objective}
use Rattle.lp_std.proofs.SamePoints.{base_and_change, number_of-map, columns_sized, same_objective}
use Rattle.lp_std.proofs.Totals.{directed-+ℚ}
use Rattle.lp_std.proofs.Proved.{directed_twice, bound_is}
use Rattle.lp_std.proofs.Ends.{within_form, count_is, point_feasible}
use Rattle.lp_fraction_dict.proofs.Equations.{eq_other, eq_same}
use Rattle.lp_fraction_dict.proofs.Kept.{contains_get}
use Rattle.lp_range.specs.declared.interval.Interval.{Interval}
use Rattle.lp_range.specs.Spans.{Gain, Span, IsInSpan, Stay, span}
use Rattle.lp_range.specs.Ranges.{interval_value, span_value, nonbasic_variables, column_change, cost_gain, cost_gains, costs}
use Rattle.lp_range.specs.Moved.{costs_with, cost_at, bound_of_costs, MeetsBoundWithCost}
use Rattle.lp_range.proofs.Spans.{AreAbove, within_stays}
use Rattle.lp_range.proofs.Raises.{column_entry, column_change_is, raised, raised_form, raised_count, raised_within, raised_of_form, nothing_raised, objective_raised, values_same}

-- ---- lists filtered

module _ {X : Type 0} (p : X → Bool) (P : X → Type 0) where
  all_filtered : (xs : List X) → ((k : ℕ) (d : X) → k < length xs → p (get_or xs k d) ≡ true → P (get_or xs k d)) → All P (filter p xs)
  all_filtered [] each = All-nil P
  all_filtered (x ∷ xs) each = by (p x) refl (all_filtered xs (λ k d less kept. each (suc k) d (omega arith) kept))
    where
      by : (b : Bool) → p x ≡ b → All P (filter p xs) → All P (cond b (x ∷ filter p xs) (filter p xs))
      by true e rest = All-cons P x (filter p xs) (each 0 x (omega arith) e) rest
      by false e rest = rest

  filtered_each : (xs : List X) → All P (filter p xs) → (k : ℕ) (d : X) → k < length xs → p (get_or xs k d) ≡ true → P (get_or xs k d)
  filtered_each [] all k d less kept = absurd (omega arith)
  filtered_each (x ∷ xs) all zero d less kept = here (p x) kept all
    where
      here : (b : Bool) → b ≡ true → All P (cond b (x ∷ filter p xs) (filter p xs)) → P x
      here true e all = All-head P x (filter p xs) all
      here false e all = absurd (cc)
  filtered_each (x ∷ xs) all (suc k) d less kept = filtered_each xs (rest (p x) all) k d (omega arith) kept
    where
      rest : (b : Bool) → All P (cond b (x ∷ filter p xs) (filter p xs)) → All P (filter p xs)
      rest true all = All-tail P x (filter p xs) all
      rest false all = all

-- ---- the variables that are not basic

no_row : (r : Option ℕ) → not (is_some r) ≡ true → r ≡ None
no_row None e = refl
no_row (Some k) e = absurd (cc)

is_kept : (r : Option ℕ) → r ≡ None → not (is_some r) ≡ true
is_kept None e = refl
is_kept (Some k) e = absurd (cc)

module _ (limit : ℕ) (d : Dictionary) where
  variable_is : (k e : ℕ) → k < d.variables → get_or (range_with_len 1 d.variables) k e ≡ 1 + k
  variable_is k e less = get_or-range_with_len 1 d.variables k e less

  -- what holds of each variable that is not basic holds of those that are listed
  all_others : (P : ℕ → Type 0) → ((q : ℕ) → 1 ≤ q → q ≤ d.variables → row_of_basic d q ≡ None → P q) → All P (nonbasic_variables limit d)
  all_others P each =
      all_filtered (λ v. not (is_some (row_of_basic d v))) P (range_with_len 1 d.variables)
      (λ k e less kept.
      let within : k < d.variables = omega (arith, less, length-range_with_len 1 d.variables) in
      let is = variable_is k e within in
      each (get_or (range_with_len 1 d.variables) k e) (omega (arith, is)) (omega (arith, is, within)) (no_row (row_of_basic d (get_or (range_with_len 1 d.variables) k e)) kept))

  -- they are variables
  pub other_there : (os : List ℕ) → os ≡ nonbasic_variables limit d → (k e : ℕ) → k < length os → get_or os k e ≤ d.variables
  other_there os same k e less = subst (All (λ q. q ≤ d.variables)) (sym same) (all_others (λ q. q ≤ d.variables) (λ q from to none. to)) k e less

  other_of_all : (P : ℕ → Type 0) → All P (nonbasic_variables limit d) → (q : ℕ) → 1 ≤ q → q ≤ d.variables → row_of_basic d q ≡ None → P q
  other_of_all P all q from to none =
      let within : q - 1 < d.variables = omega arith in
      let is : get_or (range_with_len 1 d.variables) (q - 1) 0 ≡ q = variable_is (q - 1) 0 within ∙ (let same : 1 + (q - 1) ≡ q = omega arith in same) in
      subst P is
      (filtered_each (λ v. not (is_some (row_of_basic d v))) P (range_with_len 1 d.variables) all (q - 1) 0 (omega (arith, within, length-range_with_len 1 d.variables))
      (subst (λ v. not (is_some (row_of_basic d v)) ≡ true) (sym is) (is_kept (row_of_basic d q) none)))

-- ---- duals in a direction

directed_times : (b : Bool) (m c : Number) → directed b (directed b m *ℚ c) ≡ m *ℚ c
directed_times true m c = refl
directed_times false m c = simp ring_ℚ

both_pick : {F : Type 0} (value : F → Number) (lp : Lp F) (prices : ℕ → Number) (factors : List Number) (b : Bool) (t : Number) → both (total (map (λ (q : Row F × Number). used q.1 (cond b (row_upper q.0.sense (value q.0.right)) (row_lower q.0.sense (value q.0.right))) (cond b (row_lower q.0.sense (value q.0.right)) (row_upper q.0.sense (value q.0.right)))) (zip lp.rows factors))) (total (map (λ (q : ℕ × Column F). used (reduced_cost value lp prices factors q.0) (cond b (bound_value value q.1.upper) (bound_value value q.1.lower)) (cond b (bound_value value q.1.lower) (bound_value value q.1.upper))) (enumerate_from 0 lp.columns))) ≡ Some t → cond b (high value lp prices factors) (low value lp prices factors) ≡ Some t
both_pick value lp prices factors true t e = e
both_pick value lp prices factors false t e = e

length-duals_from : {F : Type 0} (p : ℕ → Number) (r : ℕ) (rows : List (Row F)) → length (duals_from p r rows) ≡ length rows
length-duals_from p r [] = refl
length-duals_from p r (row ∷ rows) = ap (λ k. suc k) (length-duals_from p (r + rows_of_sense row.sense) rows)

-- ---- costs of which one is exchanged

prices_apart : {F : Type 0} (lp : Lp F) (j : ℕ) (cost : Number) (k : ℕ) → costs_with lp j cost k ≡ objective_costs lp k +ℚ unit_at j (cost -ℚ objective_costs lp j) k
prices_apart lp j cost k =
    elim (cases_eq j k) [
      | inl same ↦
          subst (λ n. costs_with lp j cost n ≡ objective_costs lp n +ℚ unit_at j (cost -ℚ objective_costs lp j) n) same
          (ap (λ b. cond b cost (objective_costs lp j)) (eq_same j) ∙ back cost (objective_costs lp j) ∙ ap (λ b. objective_costs lp j +ℚ cond b (cost -ℚ objective_costs lp j) (whole (pos 0))) (sym (eq_same j)))
      | inr other ↦
          ap (λ b. cond b cost (objective_costs lp k)) (eq_other j k other) ∙ nothing (objective_costs lp k) ∙ ap (λ b. objective_costs lp k +ℚ cond b (cost -ℚ objective_costs lp j) (whole (pos 0))) (sym (eq_other j k other))
    ]
  where
    back : (a b : Number) → a ≡ b +ℚ (a -ℚ b)
    back a b = simp ring_ℚ

    nothing : (a : Number) → a ≡ a +ℚ whole (pos 0)
    nothing a = simp ring_ℚ

module _ {F : Type 0} (lp : Lp F) (j : ℕ) (inside : j < length lp.columns) (cost : Number) (x : List Number) (there : lp.objective < length lp.columns) where
  -- the moved costs at the point: the objective, plus the move times the column's value
  prices_at : cost_at lp (costs_with lp j cost) x ≡ value_of_column x lp.objective +ℚ (cost -ℚ objective_costs lp j) *ℚ value_of_column x j
  prices_at =
      sum_by_same (λ (q : ℕ × Column F). costs_with lp j cost q.0 *ℚ value_of_column x q.0) (λ (q : ℕ × Column F). objective_costs lp q.0 *ℚ value_of_column x q.0 +ℚ unit_at j (cost -ℚ objective_costs lp j) q.0 *ℚ value_of_column x q.0) (enumerate_from 0 lp.columns)
      (λ q. ap (λ u. u *ℚ value_of_column x q.0) (prices_apart lp j cost q.0) ∙ apart (objective_costs lp q.0) (unit_at j (cost -ℚ objective_costs lp j) q.0) (value_of_column x q.0))
      ∙ sum_by_ℚ-+ℚ (λ (q : ℕ × Column F). objective_costs lp q.0 *ℚ value_of_column x q.0) (λ (q : ℕ × Column F). unit_at j (cost -ℚ objective_costs lp j) q.0 *ℚ value_of_column x q.0) (enumerate_from 0 lp.columns)
      ∙ ap₂ (λ a b. a +ℚ b)
      (unit_sum lp.objective (whole (pos 1)) (value_of_column x) 0 lp.columns (omega arith) (omega arith) ∙ one-*ℚ (value_of_column x lp.objective))
      (unit_sum j (cost -ℚ objective_costs lp j) (value_of_column x) 0 lp.columns (omega arith) (omega arith))
    where
      apart : (a b c : Number) → (a +ℚ b) *ℚ c ≡ a *ℚ c +ℚ b *ℚ c
      apart a b c = simp ring_ℚ

-- ---- what an amount asks

asked_below : (b : Bool) (c t g : Number) → whole (pos 0) ≤ℚ neg_ℚ c +ℚ t *ℚ neg_ℚ (directed b g) → c +ℚ directed b t *ℚ g ≤ℚ whole (pos 0)
asked_below true c t g h = ≤ℚ_from h (balanced c t g)
  where
    balanced : (c t g : Number) → (c +ℚ t *ℚ g) +ℚ (neg_ℚ c +ℚ t *ℚ neg_ℚ g) ≡ whole (pos 0) +ℚ whole (pos 0)
    balanced c t g = simp ring_ℚ
asked_below false c t g h = ≤ℚ_from h (balanced c t g)
  where
    balanced : (c t g : Number) → (c +ℚ neg_ℚ t *ℚ g) +ℚ (neg_ℚ c +ℚ t *ℚ neg_ℚ (neg_ℚ g)) ≡ whole (pos 0) +ℚ whole (pos 0)
    balanced c t g = simp ring_ℚ

module _ (limit : ℕ) (d : Dictionary) (second : ¬ (InPhaseOne d)) (nothing : NothingImproves d) (maximize : Bool) (c : ℕ × Shift) where
  -- no coefficient of a variable that is not basic is above 0
  coefficient_below : (q : ℕ) → 1 ≤ q → q ≤ d.variables → row_of_basic d q ≡ None → entry_at d (length d.basic) q ≤ℚ whole (pos 0)
  coefficient_below q from to none =
      Order.≤ℚ_from_not_above (entry_at d (length d.basic) q) (whole (pos 0))
      (λ above. nothing.1 q (record {
        other = omega arith;
        there = to;
        not_basic = λ basic. free q none basic;
        above = λ k priced. elim priced [
          | inl at ↦ absurd (second (contains_get d.basic k 0 at))
          | inr last ↦ subst (λ i. whole (pos 0) <ℚ entry_at d i q) (sym last.1) above
        ];
      }))
    where
      free : (q : ℕ) → row_of_basic d q ≡ None → Contains d.basic q → ⊥
      free q none basic = row_none d q none basic.0 basic.1 (get_or_default d.basic basic.0 0 q basic.1 ∙ basic.2)

  pub amounts_above : AreAbove (cost_gains limit d maximize c)
  amounts_above =
      All-map (λ (g : Gain). whole (pos 0) ≤ℚ g.amount) (cost_gain limit d maximize c) (nonbasic_variables limit d)
      (all_others limit d (λ q. whole (pos 0) ≤ℚ neg_ℚ (entry_at d (length d.basic) q)) (λ q from to none. neg-zero-≤ℚ (entry_at d (length d.basic) q) (coefficient_below q from to none)))

  pub stays_below : (t : Number) → Stay (cost_gains limit d maximize c) t → (q : ℕ) → 1 ≤ q → q ≤ d.variables → row_of_basic d q ≡ None → entry_at d (length d.basic) q +ℚ directed maximize t *ℚ column_entry d c q ≤ℚ whole (pos 0)
  stays_below t stay q from to none =
      let all = All-from_map (λ (g : Gain). whole (pos 0) ≤ℚ g.amount +ℚ t *ℚ g.each) (cost_gain limit d maximize c) (nonbasic_variables limit d) stay in
      subst (λ u. entry_at d (length d.basic) q +ℚ directed maximize t *ℚ u ≤ℚ whole (pos 0)) (sym (column_change_is d limit q none c))
      (asked_below maximize (entry_at d (length d.basic) q) t (column_change limit d c q)
      (other_of_all limit d (λ q. whole (pos 0) ≤ℚ neg_ℚ (entry_at d (length d.basic) q) +ℚ t *ℚ neg_ℚ (directed maximize (column_change limit d c q))) all q from to none))

-- ---- the theorem

module _ {F : Type 0} (value : F → Number) (limit : ℕ) (lp : Lp F) (formed : IsWellFormed value lp) (ordered : All (λ (column : Column F). ¬ (Crosses value column.lower column.upper)) lp.columns) (d : Dictionary) (is : IsDictionaryOf (standard_form value lp) d) (second : ¬ (InPhaseOne d)) (nothing : NothingImproves d) (j : ℕ) (inside : j < length lp.columns) (cost : Number) where
  abbrev s : Standard
  s = standard_form value lp

  abbrev c : ℕ × Shift
  c = column_at (columns_of value lp) j

  abbrev move : Number
  move = cost -ℚ objective_costs lp j

  abbrev t : Number
  t = directed lp.maximize move

  abbrev e : Dictionary
  e = raised d c t

  numbered : (1 ≤ c.0) × (c.0 + width c.1 ≤ 1 + variables_of value lp)
  numbered = columns_numbered value lp j (0, form.free) (omega (arith, inside, columns_sized value lp []))

  low_c : 1 ≤ c.0
  low_c = numbered.0

  high_c : c.0 + width c.1 ≤ 1 + length s.objective
  high_c = omega (arith, numbered.1, count_is value lp formed)

  inside_form : All (λ (row : form.StandardRow). Within (length s.objective) row.entries) s.rows
  inside_form = within_form value lp formed

  abbrev new : Standard
  new = raised_form d c t s is second nothing.0 low_c high_c inside_form

  of_form : IsDictionaryOf new e
  of_form = raised_of_form d c t s is second nothing.0 low_c high_c inside_form

  count : length new.objective ≡ length s.objective
  count = raised_count d c t s is second nothing.0 low_c high_c inside_form

  raised_at : (y : List Number) → objective_at new y ≡ objective_at s y +ℚ t *ℚ changed_back c y
  raised_at y = objective_raised d c t s is second nothing.0 low_c high_c inside_form y

  -- the start and the target, with the bound that the shift counts from
  abbrev start : Number
  start = constant_at e (length d.basic) -ℚ t *ℚ base c.1

  abbrev target : List Number → Number
  target y = objective_at new y +ℚ t *ℚ base c.1

  prices_here : (x : List Number) → cost_at lp (costs_with lp j cost) x ≡ value_of_column x lp.objective +ℚ move *ℚ value_of_column x j
  prices_here x = prices_at lp j inside cost x formed.objective

  -- the target is the value of the costs at the point
  aim : (y : List Number) → directed lp.maximize (target y) ≡ cost_at lp (costs_with lp j cost) (point_of s y)
  aim y =
      let x = point_of s y in
      let value_j : value_of_column x j ≡ base c.1 +ℚ changed_back c y = number_of-map (columns_of value lp) (λ k. shifted_back k y) j (omega (arith, inside, columns_sized value lp [])) ∙ base_and_change c y in
      ap (directed lp.maximize) (ap (λ u. u +ℚ t *ℚ base c.1) (raised_at y) ∙ joined (objective_at s y) t (changed_back c y) (base c.1) ∙ ap (λ u. objective_at s y +ℚ t *ℚ u) (sym value_j))
      ∙ directed-+ℚ lp.maximize (objective_at s y) (t *ℚ value_of_column x j)
      ∙ ap₂ (λ a b. a +ℚ b) (ap (directed lp.maximize) (same_objective value lp y formed) ∙ directed_twice lp.maximize (value_of_column x lp.objective)) (directed_times lp.maximize move (value_of_column x j))
      ∙ sym (prices_here x)
    where
      joined : (o t g b : Number) → (o +ℚ t *ℚ g) +ℚ t *ℚ b ≡ o +ℚ t *ℚ (b +ℚ g)
      joined o t g b = simp ring_ℚ

  module _ (stay : Stay (cost_gains limit d lp.maximize c) move) where
    improves_none : NothingImproves e
    improves_none = nothing_raised d c t second nothing.0 (stays_below limit d second nothing lp.maximize c move stay)

    not_required : ¬ (OpeningIsRequired e)
    not_required = improves_none.0

    inside_new : All (λ (row : form.StandardRow). Within (length new.objective) row.entries) new.rows
    inside_new = raised_within d c t s is second nothing.0 low_c high_c inside_form

    priced_new : Costs new (last_of e).costs (constant_at e (length d.basic)) (objective_at new)
    priced_new = optimal_costs new e of_form not_required inside_new second improves_none

    priced_same : (y : List Number) → priced_at s (last_of e).costs y ≡ priced_at new (last_of e).costs y
    priced_same y =
        ap (λ n. sum_by_ℚ (λ v. value_of_column (last_of e).costs v *ℚ value_of_column y v) (range_with_len 1 n) +ℚ sum_by_ℚ (λ (p : ℕ × form.StandardRow). value_of_column (last_of e).costs p.0 *ℚ (p.1.right -ℚ sum_at p.1.entries y)) (enumerate_from (n + 1) s.rows)) (sym count)

    priced : Costs s (last_of e).costs start target
    priced =
        record {
          sums = λ y sized zero_there. priced_same y ∙ priced_new.sums y (sized ∙ ap (λ n. n + 1) (sym count)) zero_there ∙ apart (constant_at e (length d.basic)) (objective_at new y) (t *ℚ base c.1);
          below = priced_new.below;
        }
      where
        apart : (k o b : Number) → k +ℚ o ≡ (k -ℚ b) +ℚ (o +ℚ b)
        apart k o b = simp ring_ℚ

    abbrev duals : List Number
    duals = map (directed lp.maximize) (duals_from (multiplier (variables_of value lp) (last_of e).costs) 0 lp.rows)

    abbrev levels : List Number
    levels = levels_back value lp (last_of d)

    feasible : Feasible value lp levels
    feasible = point_feasible value lp formed ordered d is nothing.0 second

    -- the value of the costs at the levels
    level_is : directed lp.maximize (cost_at lp (costs_with lp j cost) levels) ≡ neg_ℚ start
    level_is =
        let values = (last_of e).values in
        let at_values : target (last_of e).values ≡ neg_ℚ start = ap (λ u. u +ℚ t *ℚ base c.1) (values_objective new e of_form not_required inside_new second) ∙ turned (constant_at e (length d.basic)) (t *ℚ base c.1) in
        ap (λ vs. directed lp.maximize (cost_at lp (costs_with lp j cost) (point_of s vs))) (sym (values_same d c t))
        ∙ ap (directed lp.maximize) (sym (aim values)) ∙ directed_twice lp.maximize (target values) ∙ at_values
      where
        turned : (k b : Number) → (whole (pos 0) -ℚ k) +ℚ b ≡ neg_ℚ (k -ℚ b)
        turned k b = simp ring_ℚ

    bound_there : (u : Number) × (bound_of_costs value lp (costs_with lp j cost) duals ≡ Some u) × (directed lp.maximize u ≤ℚ neg_ℚ start)
    bound_there =
        let found = bound_is value lp (last_of e).costs formed start target priced lp.maximize (costs_with lp j cost) aim ordered in
        (found.0, both_pick value lp (costs_with lp j cost) duals lp.maximize found.0 found.1, found.2)

    bound_meets : (u : Number) → bound_of_costs value lp (costs_with lp j cost) duals ≡ Some u → (b : Bool) → lp.maximize ≡ b → directed b u ≤ℚ neg_ℚ start → directed b (cost_at lp (costs_with lp j cost) levels) ≡ neg_ℚ start → u ≡ cost_at lp (costs_with lp j cost) levels
    bound_meets u there true greatest most level =
        let is_high : high value lp (costs_with lp j cost) duals ≡ Some u = subst (λ b. cond b (high value lp (costs_with lp j cost) duals) (low value lp (costs_with lp j cost) duals) ≡ Some u) greatest there in
        Order.≤ℚ_antisymm u (cost_at lp (costs_with lp j cost) levels) (subst (λ z. u ≤ℚ z) (sym level) most) (high_at_least value lp duals levels (costs_with lp j cost) u formed feasible is_high)
    bound_meets u there false least most level =
        let is_low : low value lp (costs_with lp j cost) duals ≡ Some u = subst (λ b. cond b (high value lp (costs_with lp j cost) duals) (low value lp (costs_with lp j cost) duals) ≡ Some u) least there in
        Order.≤ℚ_antisymm u (cost_at lp (costs_with lp j cost) levels) (low_at_most value lp duals levels (costs_with lp j cost) u formed feasible is_low)
        (≤ℚ_from (subst (λ z. neg_ℚ u ≤ℚ z) (sym level) most) (balanced u (cost_at lp (costs_with lp j cost) levels)))
      where
        balanced : (u z : Number) → z +ℚ neg_ℚ z ≡ u +ℚ neg_ℚ u
        balanced u z = simp ring_ℚ

    pub meets_with : MeetsBoundWithCost value lp levels j cost
    meets_with =
        let found = bound_there in (
          duals,
          length-map (duals_from (multiplier (variables_of value lp) (last_of e).costs) 0 lp.rows) (directed lp.maximize) ∙ length-duals_from (multiplier (variables_of value lp) (last_of e).costs) 0 lp.rows,
          found.1 ∙ ap Some (bound_meets found.0 found.1 lp.maximize refl found.2 level_is),
        )

-- ---- the ranges of columns

spans_at : (f : ℕ × (ℕ × Shift) → Option Span) (n : ℕ) (cs : List (ℕ × Shift)) (j : ℕ) (o : Option Span) → slice_get (map f (enumerate_from n cs)) j ≡ Some o → (j < length cs) × (f (n + j, column_at cs j) ≡ o)
spans_at f n [] j o at = absurd (cc)
spans_at f n (c ∷ cs) zero o at = (omega arith, ap (λ k. f (k, c)) (let same : n + 0 ≡ n = omega arith in same) ∙ cc)
spans_at f n (c ∷ cs) (suc j) o at =
    let rest = spans_at f (n + 1) cs j o at in
    (omega (arith, rest.0), ap (λ k. f (k, column_at cs j)) (let same : n + suc j ≡ n + 1 + j = omega arith in same) ∙ rest.1)

module _ {F : Type 0} (value : F → Number) (limit : ℕ) (lp : Lp F) (d : Dictionary) (formed : IsWellFormed value lp) (none : All (λ (column : Column F). ¬ (Crosses value column.lower column.upper)) lp.columns) (is : IsDictionaryOf (standard_form value lp) d) (second : ¬ (InPhaseOne d)) (nothing : NothingImproves d) where
  pub costs_meet : (made : List (Option (Interval F))) (levels : List Number) → map (span_value value) made ≡ costs value limit lp d → levels ≡ levels_back value lp (last_of d) → (j : ℕ) (interval : Interval F) (cost : Number) → slice_get made j ≡ Some (Some interval) → IsInSpan (interval_value value interval) cost → MeetsBoundWithCost value lp levels j cost
  costs_meet made levels made_is levels_are j interval cost at within =
      let f : ℕ × (ℕ × Shift) → Option Span = λ p. span limit (objective_costs lp p.0) (cost_gains limit d lp.maximize p.1) in
      let there : slice_get (costs value limit lp d) j ≡ Some (Some (interval_value value interval)) =
      ap (λ l. slice_get l j) (sym made_is) ∙ slice_get-map (span_value value) made j ∙ ap (option_map (span_value value)) at in
      let found = spans_at (λ (p : ℕ × (ℕ × Shift)). span limit (objective_costs lp p.0) (cost_gains limit d lp.maximize p.1)) 0 (columns_of value lp) j (Some (interval_value value interval)) there in
      let place : 0 + j ≡ j = omega arith in
      let spanned : span limit (objective_costs lp j) (cost_gains limit d lp.maximize (column_at (columns_of value lp) j)) ≡ Some (interval_value value interval) =
      ap (λ k. span limit (objective_costs lp k) (cost_gains limit d lp.maximize (column_at (columns_of value lp) j))) (sym place) ∙ found.1 in
      let stay = within_stays limit (objective_costs lp j) cost (cost_gains limit d lp.maximize (column_at (columns_of value lp) j)) (interval_value value interval) (amounts_above limit d second nothing lp.maximize (column_at (columns_of value lp) j)) spanned within in
      subst (λ ls. MeetsBoundWithCost value lp ls j cost) (sym levels_are)
      (meets_with value limit lp formed none d is second nothing j (omega (arith, found.0, columns_sized value lp [])) cost stay)
