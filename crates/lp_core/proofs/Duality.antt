-- Weak duality: the bounds that the duals use, summed, against the costs at a feasible point.
use Rattle.std.proofs.Common.{◌≡◌, ℕ, ◌<◌, true, false, cond, pos, List, [], ◌∷◌, length, map, Option, Some, None, option_map, refl, sym, ap, ◌∙◌, subst, arith}
use Rattle.std.specs.declared.cmp.Ordering.{Ordering}
use Rattle.std.specs.declared.cmp.Ordering.TheVariants.{Less, Equal, Greater}
use Rattle.std.specs.Ordering.{MatchOrdering}
use Rattle.std.specs.List.{All, zip, enumerate_from}
use Rattle.std.proofs.lemmas.List.Elements.{All-head, All-tail, All-nil, All-cons, All-weaker}
use Rattle.gq_number.specs.Number.{Number, whole, ◌+ℚ◌, ◌-ℚ◌, ◌*ℚ◌}
use Rattle.gq_number.specs.Order.{◌≤ℚ◌, ◌<ℚ◌, number_cmp}
use Rattle.gq_number.specs.Sums.{sum_by_ℚ}
use Rattle.gq_number.proofs.Ring.{ring_ℚ, zero-*ℚ, one-*ℚ, -ℚ-*ℚ}
use Rattle.gq_number.proofs.Field.{*ℚ_comm, *ℚ_assoc}
use Rattle.gq_number.proofs.Order
use Rattle.gq_number.proofs.Signs.{*ℚ-≤ℚ_left, *ℚ-≤ℚ_turned}
use Rattle.gq_number.proofs.Compares.{number_ranks}
use Rattle.gq_number.proofs.Sums.{sum_by_ℚ-nil, sum_by_ℚ-cons, sum_by_ℚ-zero, sum_by_ℚ--ℚ, sum_by_ℚ-*ℚ, sum_by_ℚ-*ℚ_right, sum_by_ℚ_exchanged, sum_by_ℚ_same}
use Rattle.lp_core.specs.declared.program.Sense.{Sense}
use Rattle.lp_core.specs.declared.program.Sense.TheVariants as sense
use Rattle.lp_core.specs.declared.program.Column.{Column}
use Rattle.lp_core.specs.declared.program.Row.{Row}
use Rattle.lp_core.specs.declared.program.Lp.{Lp}
use Rattle.lp_core.specs.Sums.{value_of_column, column_coefficient, row_sum}
use Rattle.lp_core.specs.Feasible.{KeepsLower, KeepsUpper, KeepsSense, KeepsRow, KeepsBounds, bound_value, Feasible}
use Rattle.lp_core.specs.WellFormed.{AreRowEntries, IsWellFormed}
use Rattle.lp_core.specs.DualBound.{row_lower, row_upper, by_sign, used, total, both, reduced_cost, rows_low, columns_low, low, rows_high, columns_high, high, objective_costs, no_costs, dual_bound}
use Rattle.lp_core.proofs.RowSums.{sum_by_same, unit_sum, row_by_columns}

-- ---- one factor and its bounds

-- the first bound is one from below, and the second one from above
module _ (m s t : Number) where
  by_lower : (bound : Option Number) → option_map (λ b. m *ℚ b) bound ≡ Some t → KeepsLower bound s → whole (pos 0) <ℚ m → t ≤ℚ m *ℚ s
  by_lower None e keeps above = absurd (cc)
  by_lower (Some b) e keeps above =
      let is : m *ℚ b ≡ t = cc in
      subst (λ u. u ≤ℚ m *ℚ s) is (*ℚ-≤ℚ_left b s m (Order.≤ℚ_from_<ℚ (whole (pos 0)) m above) keeps)

  by_upper : (bound : Option Number) → option_map (λ b. m *ℚ b) bound ≡ Some t → KeepsUpper bound s → m <ℚ whole (pos 0) → t ≤ℚ m *ℚ s
  by_upper None e keeps below = absurd (cc)
  by_upper (Some b) e keeps below =
      let is : m *ℚ b ≡ t = cc in
      subst (λ u. u ≤ℚ m *ℚ s) (*ℚ_comm b m ∙ is) (subst (λ u. b *ℚ m ≤ℚ u) (*ℚ_comm s m) (*ℚ-≤ℚ_turned s b m (Order.≤ℚ_from_<ℚ m (whole (pos 0)) below) keeps))

  at_zero : Some (whole (pos 0)) ≡ Some t → m ≡ whole (pos 0) → m *ℚ s ≡ t
  at_zero e none =
      let is : whole (pos 0) ≡ t = cc in
      ap (λ u. u *ℚ s) none ∙ zero-*ℚ s ∙ is

  by_order : (lower upper : Option Number) (o : Ordering) → MatchOrdering o (m <ℚ whole (pos 0)) (m ≡ whole (pos 0)) (whole (pos 0) <ℚ m) → by_sign o m lower upper ≡ Some t → KeepsLower lower s → KeepsUpper upper s → t ≤ℚ m *ℚ s
  by_order lower upper Less h e keeps_lower keeps_upper = by_upper upper e keeps_upper h
  by_order lower upper Equal h e keeps_lower keeps_upper = Order.≤ℚ_from_≡ t (m *ℚ s) (sym (at_zero e h))
  by_order lower upper Greater h e keeps_lower keeps_upper = by_lower lower e keeps_lower h

  -- a factor times the bound that it uses is at most the factor times what keeps the bounds
  pub used_at_most : (lower upper : Option Number) → used m lower upper ≡ Some t → KeepsLower lower s → KeepsUpper upper s → t ≤ℚ m *ℚ s
  used_at_most lower upper e = by_order lower upper (number_cmp m (whole (pos 0))) (number_ranks m (whole (pos 0))) e

  over_upper : (bound : Option Number) → option_map (λ b. m *ℚ b) bound ≡ Some t → KeepsUpper bound s → whole (pos 0) <ℚ m → m *ℚ s ≤ℚ t
  over_upper None e keeps above = absurd (cc)
  over_upper (Some b) e keeps above =
      let is : m *ℚ b ≡ t = cc in
      subst (λ u. m *ℚ s ≤ℚ u) is (*ℚ-≤ℚ_left s b m (Order.≤ℚ_from_<ℚ (whole (pos 0)) m above) keeps)

  over_lower : (bound : Option Number) → option_map (λ b. m *ℚ b) bound ≡ Some t → KeepsLower bound s → m <ℚ whole (pos 0) → m *ℚ s ≤ℚ t
  over_lower None e keeps below = absurd (cc)
  over_lower (Some b) e keeps below =
      let is : m *ℚ b ≡ t = cc in
      subst (λ u. m *ℚ s ≤ℚ u) (*ℚ_comm b m ∙ is) (subst (λ u. u ≤ℚ b *ℚ m) (*ℚ_comm s m) (*ℚ-≤ℚ_turned b s m (Order.≤ℚ_from_<ℚ m (whole (pos 0)) below) keeps))

  over_order : (lower upper : Option Number) (o : Ordering) → MatchOrdering o (m <ℚ whole (pos 0)) (m ≡ whole (pos 0)) (whole (pos 0) <ℚ m) → by_sign o m upper lower ≡ Some t → KeepsLower lower s → KeepsUpper upper s → m *ℚ s ≤ℚ t
  over_order lower upper Less h e keeps_lower keeps_upper = over_lower lower e keeps_lower h
  over_order lower upper Equal h e keeps_lower keeps_upper = Order.≤ℚ_from_≡ (m *ℚ s) t (at_zero e h)
  over_order lower upper Greater h e keeps_lower keeps_upper = over_upper upper e keeps_upper h

  -- with the bounds exchanged it is at least that
  pub used_at_least : (lower upper : Option Number) → used m upper lower ≡ Some t → KeepsLower lower s → KeepsUpper upper s → m *ℚ s ≤ℚ t
  used_at_least lower upper e = over_order lower upper (number_cmp m (whole (pos 0))) (number_ranks m (whole (pos 0))) e

-- ---- sums of such terms

-- the parts of a sum that is there
pub parts_of_both : (a b : Option Number) (t : Number) → both a b ≡ Some t → (x y : Number) × (a ≡ Some x) × (b ≡ Some y) × (x +ℚ y ≡ t)
parts_of_both None b t e = absurd (cc)
parts_of_both (Some x) None t e = absurd (cc)
parts_of_both (Some x) (Some y) t e = (x, y, refl, refl, cc)

module _ {X : Type 0} (f : X → Option Number) (h : X → Number) where
  pub total_at_most : (xs : List X) (t : Number) → total (map f xs) ≡ Some t → All (λ x. (u : Number) → f x ≡ Some u → u ≤ℚ h x) xs → t ≤ℚ sum_by_ℚ h xs
  total_at_most [] t e terms =
      let is : whole (pos 0) ≡ t = cc in
      Order.≤ℚ_from_≡ t (sum_by_ℚ h []) (sym is ∙ sym (sum_by_ℚ-nil h))
  total_at_most (x ∷ xs) t e terms =
      let parts = parts_of_both (f x) (total (map f xs)) t e in
      let first = All-head (λ x. (u : Number) → f x ≡ Some u → u ≤ℚ h x) x xs terms parts.0 parts.2 in
      let rest = total_at_most xs parts.1 parts.3 (All-tail (λ x. (u : Number) → f x ≡ Some u → u ≤ℚ h x) x xs terms) in
      subst (λ u. u ≤ℚ sum_by_ℚ h (x ∷ xs)) parts.4 (subst (λ u. parts.0 +ℚ parts.1 ≤ℚ u) (sym (sum_by_ℚ-cons h x xs)) (Order.+ℚ-≤ℚ parts.0 (h x) parts.1 (sum_by_ℚ h xs) first rest))

  pub total_at_least : (xs : List X) (t : Number) → total (map f xs) ≡ Some t → All (λ x. (u : Number) → f x ≡ Some u → h x ≤ℚ u) xs → sum_by_ℚ h xs ≤ℚ t
  total_at_least [] t e terms =
      let is : whole (pos 0) ≡ t = cc in
      Order.≤ℚ_from_≡ (sum_by_ℚ h []) t (sum_by_ℚ-nil h ∙ is)
  total_at_least (x ∷ xs) t e terms =
      let parts = parts_of_both (f x) (total (map f xs)) t e in
      let first = All-head (λ x. (u : Number) → f x ≡ Some u → h x ≤ℚ u) x xs terms parts.0 parts.2 in
      let rest = total_at_least xs parts.1 parts.3 (All-tail (λ x. (u : Number) → f x ≡ Some u → h x ≤ℚ u) x xs terms) in
      subst (λ u. sum_by_ℚ h (x ∷ xs) ≤ℚ u) parts.4 (subst (λ u. u ≤ℚ parts.0 +ℚ parts.1) (sym (sum_by_ℚ-cons h x xs)) (Order.+ℚ-≤ℚ (h x) parts.0 (sum_by_ℚ h xs) parts.1 first rest))

-- what holds of the elements of a list holds of them in pairs
pub All-zip : {X Y : Type 0} (P : X → Type 0) (xs : List X) (ys : List Y) → All P xs → All (λ (p : X × Y). P p.0) (zip xs ys)
All-zip P [] ys all = All-nil (λ p. P p.0)
All-zip P (x ∷ xs) [] all = All-nil (λ p. P p.0)
All-zip P (x ∷ xs) (y ∷ ys) all = All-cons (λ p. P p.0) (x, y) (zip xs ys) (All-head P x xs all) (All-zip P xs ys (All-tail P x xs all))

-- ---- a program

-- a kept row keeps the bounds of its sum
row_bounds : (s : Sense) (sum right : Number) → KeepsSense s sum right → KeepsLower (row_lower s right) sum × KeepsUpper (row_upper s right) sum
row_bounds sense.E sum right h = (Order.≤ℚ_from_≡ right sum (sym h), Order.≤ℚ_from_≡ sum right h)
row_bounds sense.L sum right h = (tt, h)
row_bounds sense.G sum right h = (h, tt)
row_bounds sense.N sum right h = (tt, tt)

-- The objective is a column, and each entry names one.
pub record IsPlaced {F : Type 0} (lp : Lp F) : Type 0 where
  pub objective : lp.objective < length lp.columns
  pub entries : All (λ (row : Row F). All (λ (e : ℕ × F). e.0 < length lp.columns) row.entries) lp.rows

-- a well-formed program is placed so
formed-placed : {F : Type 0} (value : F → Number) (lp : Lp F) → IsWellFormed value lp → IsPlaced lp
formed-placed {F} value lp formed = record {
  objective = formed.objective;
  entries = All-weaker (λ (row : Row F). AreRowEntries value (length lp.columns) row.entries) (λ (row : Row F). All (λ (e : ℕ × F). e.0 < length lp.columns) row.entries) (λ row entries. entries.there) lp.rows formed.entries;
}

module _ {F : Type 0} (value : F → Number) (lp : Lp F) (duals x : List Number) where
  -- what the rows give at the point, each times its dual
  pub rows_at : Number
  rows_at = sum_by_ℚ (λ (p : Row F × Number). p.1 *ℚ row_sum value p.0.entries x) (zip lp.rows duals)

  -- the value of the costs at the point
  abbrev pub costs_at : (ℕ → Number) → Number
  costs_at costs = sum_by_ℚ (λ (q : ℕ × Column F). costs q.0 *ℚ value_of_column x q.0) (enumerate_from 0 lp.columns)

  -- the rows' part of the reduced costs, column by column, is the sum over rows
  rows_exchanged : All (λ (row : Row F). All (λ (e : ℕ × F). e.0 < length lp.columns) row.entries) lp.rows → sum_by_ℚ (λ (q : ℕ × Column F). sum_by_ℚ (λ (p : Row F × Number). p.1 *ℚ column_coefficient value p.0.entries q.0) (zip lp.rows duals) *ℚ value_of_column x q.0) (enumerate_from 0 lp.columns) ≡ rows_at
  unfolding rows_at
  rows_exchanged there =
      sum_by_same _ (λ (q : ℕ × Column F). sum_by_ℚ (λ (p : Row F × Number). p.1 *ℚ column_coefficient value p.0.entries q.0 *ℚ value_of_column x q.0) (zip lp.rows duals)) (enumerate_from 0 lp.columns)
      (λ q. sym (sum_by_ℚ-*ℚ_right (value_of_column x q.0) (λ (p : Row F × Number). p.1 *ℚ column_coefficient value p.0.entries q.0) (zip lp.rows duals)))
      ∙ sum_by_ℚ_exchanged (λ (q : ℕ × Column F) (p : Row F × Number). p.1 *ℚ column_coefficient value p.0.entries q.0 *ℚ value_of_column x q.0) (enumerate_from 0 lp.columns) (zip lp.rows duals)
      ∙ sum_by_ℚ_same _ (λ (p : Row F × Number). p.1 *ℚ row_sum value p.0.entries x) (zip lp.rows duals)
      (All-weaker (λ (p : Row F × Number). All (λ (e : ℕ × F). e.0 < length lp.columns) p.0.entries) _
      (λ p inside. sum_by_same _ (λ (q : ℕ × Column F). p.1 *ℚ (column_coefficient value p.0.entries q.0 *ℚ value_of_column x q.0)) (enumerate_from 0 lp.columns) (λ q. *ℚ_assoc p.1 (column_coefficient value p.0.entries q.0) (value_of_column x q.0)) ∙ sum_by_ℚ-*ℚ p.1 (λ (q : ℕ × Column F). column_coefficient value p.0.entries q.0 *ℚ value_of_column x q.0) (enumerate_from 0 lp.columns) ∙ ap (λ u. p.1 *ℚ u) (row_by_columns value lp.columns x p.0.entries inside))
      (zip lp.rows duals) (All-zip (λ (row : Row F). All (λ (e : ℕ × F). e.0 < length lp.columns) row.entries) lp.rows duals there))

  -- the rows' share and the reduced costs' share of a point's cost add up to the cost
  pub costs_split : (costs : ℕ → Number) → All (λ (row : Row F). All (λ (e : ℕ × F). e.0 < length lp.columns) row.entries) lp.rows → rows_at +ℚ sum_by_ℚ (λ (q : ℕ × Column F). reduced_cost value lp costs duals q.0 *ℚ value_of_column x q.0) (enumerate_from 0 lp.columns) ≡ costs_at costs
  costs_split costs there =
      let split = sum_by_same (λ (q : ℕ × Column F). reduced_cost value lp costs duals q.0 *ℚ value_of_column x q.0) (λ (q : ℕ × Column F). costs q.0 *ℚ value_of_column x q.0 -ℚ sum_by_ℚ (λ (p : Row F × Number). p.1 *ℚ column_coefficient value p.0.entries q.0) (zip lp.rows duals) *ℚ value_of_column x q.0) (enumerate_from 0 lp.columns)
      (λ q. -ℚ-*ℚ (costs q.0) (sum_by_ℚ (λ (p : Row F × Number). p.1 *ℚ column_coefficient value p.0.entries q.0) (zip lp.rows duals)) (value_of_column x q.0))
      ∙ sum_by_ℚ--ℚ (λ (q : ℕ × Column F). costs q.0 *ℚ value_of_column x q.0) (λ (q : ℕ × Column F). sum_by_ℚ (λ (p : Row F × Number). p.1 *ℚ column_coefficient value p.0.entries q.0) (zip lp.rows duals) *ℚ value_of_column x q.0) (enumerate_from 0 lp.columns)
      ∙ ap (λ u. costs_at costs -ℚ u) (rows_exchanged there) in
      ap (λ u. rows_at +ℚ u) split ∙ put_back rows_at (costs_at costs)
    where
      put_back : (a b : Number) → a +ℚ (b -ℚ a) ≡ b
      put_back a b = simp ring_ℚ

  -- the sum of the used lower bounds is at most the cost of a feasible point
  low-placed : (costs : ℕ → Number) (t : Number) → IsPlaced lp → Feasible value lp x → low value lp costs duals ≡ Some t → t ≤ℚ costs_at costs
  unfolding rows_at
  low-placed costs t placed feasible e =
      let parts = parts_of_both (rows_low value lp duals) (columns_low value lp costs duals) t e in
      let rows = total_at_most (λ (p : Row F × Number). used p.1 (row_lower p.0.sense (value p.0.right)) (row_upper p.0.sense (value p.0.right))) (λ (p : Row F × Number). p.1 *ℚ row_sum value p.0.entries x) (zip lp.rows duals) parts.0 parts.2
      (All-weaker (λ (p : Row F × Number). KeepsRow value p.0 x) (λ (p : Row F × Number). (u : Number) → used p.1 (row_lower p.0.sense (value p.0.right)) (row_upper p.0.sense (value p.0.right)) ≡ Some u → u ≤ℚ p.1 *ℚ row_sum value p.0.entries x) (λ p kept u is. let bounds = row_bounds p.0.sense (row_sum value p.0.entries x) (value p.0.right) kept in used_at_most p.1 (row_sum value p.0.entries x) u (row_lower p.0.sense (value p.0.right)) (row_upper p.0.sense (value p.0.right)) is bounds.0 bounds.1)
      (zip lp.rows duals) (All-zip (λ (row : Row F). KeepsRow value row x) lp.rows duals feasible.rows)) in
      let columns = total_at_most (λ (q : ℕ × Column F). used (reduced_cost value lp costs duals q.0) (bound_value value q.1.lower) (bound_value value q.1.upper)) (λ (q : ℕ × Column F). reduced_cost value lp costs duals q.0 *ℚ value_of_column x q.0) (enumerate_from 0 lp.columns) parts.1 parts.3
      (All-weaker (λ (q : ℕ × Column F). KeepsBounds value q.1 (value_of_column x q.0)) (λ (q : ℕ × Column F). (u : Number) → used (reduced_cost value lp costs duals q.0) (bound_value value q.1.lower) (bound_value value q.1.upper) ≡ Some u → u ≤ℚ reduced_cost value lp costs duals q.0 *ℚ value_of_column x q.0) (λ q kept u is. used_at_most (reduced_cost value lp costs duals q.0) (value_of_column x q.0) u (bound_value value q.1.lower) (bound_value value q.1.upper) is kept.0 kept.1) (enumerate_from 0 lp.columns) feasible.bounds) in
      subst (λ u. u ≤ℚ costs_at costs) parts.4 (subst (λ u. parts.0 +ℚ parts.1 ≤ℚ u) (costs_split costs placed.entries) (Order.+ℚ-≤ℚ parts.0 rows_at parts.1 _ rows columns))

  -- and with the bounds exchanged to no less
  high-placed : (costs : ℕ → Number) (t : Number) → IsPlaced lp → Feasible value lp x → high value lp costs duals ≡ Some t → costs_at costs ≤ℚ t
  unfolding rows_at
  high-placed costs t placed feasible e =
      let parts = parts_of_both (rows_high value lp duals) (columns_high value lp costs duals) t e in
      let rows = total_at_least (λ (p : Row F × Number). used p.1 (row_upper p.0.sense (value p.0.right)) (row_lower p.0.sense (value p.0.right))) (λ (p : Row F × Number). p.1 *ℚ row_sum value p.0.entries x) (zip lp.rows duals) parts.0 parts.2
      (All-weaker (λ (p : Row F × Number). KeepsRow value p.0 x) (λ (p : Row F × Number). (u : Number) → used p.1 (row_upper p.0.sense (value p.0.right)) (row_lower p.0.sense (value p.0.right)) ≡ Some u → p.1 *ℚ row_sum value p.0.entries x ≤ℚ u) (λ p kept u is. let bounds = row_bounds p.0.sense (row_sum value p.0.entries x) (value p.0.right) kept in used_at_least p.1 (row_sum value p.0.entries x) u (row_lower p.0.sense (value p.0.right)) (row_upper p.0.sense (value p.0.right)) is bounds.0 bounds.1)
      (zip lp.rows duals) (All-zip (λ (row : Row F). KeepsRow value row x) lp.rows duals feasible.rows)) in
      let columns = total_at_least (λ (q : ℕ × Column F). used (reduced_cost value lp costs duals q.0) (bound_value value q.1.upper) (bound_value value q.1.lower)) (λ (q : ℕ × Column F). reduced_cost value lp costs duals q.0 *ℚ value_of_column x q.0) (enumerate_from 0 lp.columns) parts.1 parts.3
      (All-weaker (λ (q : ℕ × Column F). KeepsBounds value q.1 (value_of_column x q.0)) (λ (q : ℕ × Column F). (u : Number) → used (reduced_cost value lp costs duals q.0) (bound_value value q.1.upper) (bound_value value q.1.lower) ≡ Some u → reduced_cost value lp costs duals q.0 *ℚ value_of_column x q.0 ≤ℚ u) (λ q kept u is. used_at_least (reduced_cost value lp costs duals q.0) (value_of_column x q.0) u (bound_value value q.1.lower) (bound_value value q.1.upper) is kept.0 kept.1) (enumerate_from 0 lp.columns) feasible.bounds) in
      subst (λ u. costs_at costs ≤ℚ u) parts.4 (subst (λ u. u ≤ℚ parts.0 +ℚ parts.1) (costs_split costs placed.entries) (Order.+ℚ-≤ℚ rows_at parts.0 _ parts.1 rows columns))

  -- the costs that are 1 at the objective's column and 0 elsewhere have its value
  objective_at : IsPlaced lp → costs_at (objective_costs lp) ≡ value_of_column x lp.objective
  objective_at placed = unit_sum lp.objective (whole (pos 1)) (value_of_column x) 0 lp.columns (omega arith) (omega (arith, placed.objective)) ∙ one-*ℚ (value_of_column x lp.objective)

  -- the costs that are 0 everywhere have the value 0
  no_costs_at : costs_at no_costs ≡ whole (pos 0)
  no_costs_at = sum_by_same (λ (q : ℕ × Column F). whole (pos 0) *ℚ value_of_column x q.0) (λ (q : ℕ × Column F). whole (pos 0)) (enumerate_from 0 lp.columns) (λ q. zero-*ℚ (value_of_column x q.0)) ∙ sum_by_ℚ-zero (enumerate_from 0 lp.columns)

  -- no feasible point is better than the bound that duals give
  pub below-placed : (t : Number) → IsPlaced lp → Feasible value lp x → lp.maximize ≡ false → dual_bound value lp duals ≡ Some t → t ≤ℚ value_of_column x lp.objective
  below-placed t placed feasible least e =
      let is : low value lp (objective_costs lp) duals ≡ Some t = subst (λ b. cond b (high value lp (objective_costs lp) duals) (low value lp (objective_costs lp) duals) ≡ Some t) least e in
      subst (λ u. t ≤ℚ u) (objective_at placed) (low-placed (objective_costs lp) t placed feasible is)

  pub above-placed : (t : Number) → IsPlaced lp → Feasible value lp x → lp.maximize ≡ true → dual_bound value lp duals ≡ Some t → value_of_column x lp.objective ≤ℚ t
  above-placed t placed feasible greatest e =
      let is : high value lp (objective_costs lp) duals ≡ Some t = subst (λ b. cond b (high value lp (objective_costs lp) duals) (low value lp (objective_costs lp) duals) ≡ Some t) greatest e in
      subst (λ u. u ≤ℚ t) (objective_at placed) (high-placed (objective_costs lp) t placed feasible is)

  -- if the lower bound of a combination of rows and bounds is above 0, no point is feasible
  pub none-placed : (t : Number) → IsPlaced lp → low value lp no_costs duals ≡ Some t → whole (pos 0) <ℚ t → ¬ (Feasible value lp x)
  none-placed t placed e above feasible =
      Order.<ℚ_irrefl (whole (pos 0)) (Order.<ℚ-≤ℚ_trans (whole (pos 0)) t (whole (pos 0)) above (subst (λ u. t ≤ℚ u) no_costs_at (low-placed no_costs t placed feasible e)))

  -- ---- well-formed programs

  pub low_at_most : (costs : ℕ → Number) (t : Number) → IsWellFormed value lp → Feasible value lp x → low value lp costs duals ≡ Some t → t ≤ℚ costs_at costs
  low_at_most costs t formed = low-placed costs t (formed-placed value lp formed)

  pub high_at_least : (costs : ℕ → Number) (t : Number) → IsWellFormed value lp → Feasible value lp x → high value lp costs duals ≡ Some t → costs_at costs ≤ℚ t
  high_at_least costs t formed = high-placed costs t (formed-placed value lp formed)

  pub bound_below : (t : Number) → IsWellFormed value lp → Feasible value lp x → lp.maximize ≡ false → dual_bound value lp duals ≡ Some t → t ≤ℚ value_of_column x lp.objective
  bound_below t formed = below-placed t (formed-placed value lp formed)

  pub bound_above : (t : Number) → IsWellFormed value lp → Feasible value lp x → lp.maximize ≡ true → dual_bound value lp duals ≡ Some t → value_of_column x lp.objective ≤ℚ t
  bound_above t formed = above-placed t (formed-placed value lp formed)

  pub none_feasible : (t : Number) → IsWellFormed value lp → low value lp no_costs duals ≡ Some t → whole (pos 0) <ℚ t → ¬ (Feasible value lp x)
  none_feasible t formed = none-placed t (formed-placed value lp formed)
