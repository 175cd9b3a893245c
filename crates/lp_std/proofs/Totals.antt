-- The bounds that duals and reduced costs use, and their sum.
use Rattle.std.proofs.Common.{◌≡◌, ℕ, suc, ◌+◌, ◌<◌, ◌≤◌, Bool, true, false, cond, pos, List, [], ◌∷◌, length, map, Option, Some, None, inl, inr, refl, sym, ap, ap₂, ◌∙◌, subst, arith}
use Rattle.std.specs.Prelude.{option_map, option_and_then}
use Rattle.std.specs.declared.cmp.Ordering.{Ordering}
use Rattle.std.specs.declared.cmp.Ordering.TheVariants.{Less, Equal, Greater}
use Rattle.std.specs.Ordering.{MatchOrdering}
use Rattle.std.specs.List.{All, zip, enumerate_from}
use Rattle.std.proofs.lemmas.List.Elements.{All-head, All-tail}
use Rattle.gq_number.specs.Number.{Number, whole, ◌+ℚ◌, ◌-ℚ◌, ◌*ℚ◌, neg_ℚ}
use Rattle.gq_number.specs.Order.{◌≤ℚ◌, ◌<ℚ◌, number_cmp}
use Rattle.gq_number.specs.Sums.{sum_by_ℚ}
use Rattle.gq_number.proofs.Order
use Rattle.gq_number.proofs.Ring.{ring_ℚ, zero-*ℚ}
use Rattle.gq_number.proofs.Linear.{≤ℚ_from}
use Rattle.gq_number.proofs.Signs.{below_from_neg, neg-zero-≤ℚ, *ℚ-≤ℚ_left, *ℚ-≤ℚ_turned}
use Rattle.gq_number.proofs.Compares.{number_ranks}
use Rattle.gq_number.proofs.Sums.{sum_by_ℚ-nil, sum_by_ℚ-cons}
use Rattle.lp_core.specs.declared.program.Sense.{Sense}
use Rattle.lp_core.specs.declared.program.Sense.TheVariants as sense
use Rattle.lp_core.specs.declared.program.Column.{Column}
use Rattle.lp_core.specs.declared.program.Row.{Row}
use Rattle.lp_core.specs.Sums.{value_of_column}
use Rattle.lp_core.specs.Feasible.{bound_value}
use Rattle.lp_core.specs.DualBound.{row_lower, row_upper, by_sign, used, total}
use Rattle.lp_core.specs.Proofs.{Crosses}
use Rattle.lp_core.specs.StandardForm as form
use Rattle.lp_std.proofs.Shapes.{shift_for}
use Rattle.lp_std.proofs.Lifts.{slope, second, constant, by_columns, plain}

-- a factor times the bound that it uses, where the one that its sign selects is this
used_is : (m c : Number) (f g : Option Number) → (whole (pos 0) <ℚ m → f ≡ Some c) → (m <ℚ whole (pos 0) → g ≡ Some c) → used m f g ≡ Some (m *ℚ c)
used_is m c f g above below = by (number_cmp m (whole (pos 0))) (number_ranks m (whole (pos 0)))
  where
    by : (o : Ordering) → MatchOrdering o (m <ℚ whole (pos 0)) (m ≡ whole (pos 0)) (whole (pos 0) <ℚ m) → by_sign o m f g ≡ Some (m *ℚ c)
    by Less h = ap (option_map (λ bound. m *ℚ bound)) (below h)
    by Equal h = ap Some (sym (ap (λ u. u *ℚ c) h ∙ zero-*ℚ c))
    by Greater h = ap (option_map (λ bound. m *ℚ bound)) (above h)

-- the same of a factor that is negated where the bound is one from below
directed_used : (b : Bool) (m c : Number) (lower upper : Option Number) → (whole (pos 0) <ℚ m → upper ≡ Some c) → (m <ℚ whole (pos 0) → lower ≡ Some c) → used (form.directed b m) (cond b upper lower) (cond b lower upper) ≡ Some (form.directed b m *ℚ c)
directed_used true m c lower upper above below = used_is m c upper lower above below
directed_used false m c lower upper above below =
    used_is (neg_ℚ m) c lower upper (λ h. below (below_from_neg m h)) (λ h. above (turned h))
  where
    turned : neg_ℚ m <ℚ whole (pos 0) → whole (pos 0) <ℚ m
    turned h = subst (λ u. whole (pos 0) <ℚ u) (back m) (Order.gap_<ℚ (neg_ℚ m) (whole (pos 0)) h)
      where
        back : (m : Number) → whole (pos 0) -ℚ neg_ℚ m ≡ m
        back m = simp ring_ℚ

-- a sum of terms that are there
total_cons : (term : Option Number) (terms : List (Option Number)) (a c : Number) → term ≡ Some a → total terms ≡ Some c → total (term ∷ terms) ≡ Some (a +ℚ c)
total_cons term terms a c e f = ap₂ (λ o t. option_and_then (λ a. option_map (λ b. a +ℚ b) t) o) e f

-- ---- rows

row_used : (b : Bool) (s : Sense) (p : ℕ → Number) (r : ℕ) (right : Number) → ((k : ℕ) → whole (pos 0) ≤ℚ p k) → used (form.directed b (form.dual_by_sense s p r)) (cond b (row_upper s right) (row_lower s right)) (cond b (row_lower s right) (row_upper s right)) ≡ Some (form.directed b (form.dual_by_sense s p r) *ℚ right)
row_used b sense.E p r right above = directed_used b (p r -ℚ p (r + 1)) right (Some right) (Some right) (λ _. refl) (λ _. refl)
row_used b sense.L p r right above = directed_used b (p r) right None (Some right) (λ _. refl) (λ h. absurd (Order.not_above (whole (pos 0)) (p r) (above r) h))
row_used b sense.G p r right above = directed_used b (neg_ℚ (p r)) right (Some right) None (λ h. absurd (Order.not_above (whole (pos 0)) (p r) (above r) (below_from_neg (p r) h))) (λ _. refl)
row_used b sense.N p r right above =
    directed_used b (whole (pos 0)) right None None (λ h. absurd (Order.<ℚ_irrefl (whole (pos 0)) h)) (λ h. absurd (Order.<ℚ_irrefl (whole (pos 0)) h))

module _ {F : Type 0} (value : F → Number) (b : Bool) where
  pub rows_total : (p : ℕ → Number) → ((k : ℕ) → whole (pos 0) ≤ℚ p k) → (r : ℕ) (rows : List (Row F)) → total (map (λ (q : Row F × Number). used q.1 (cond b (row_upper q.0.sense (value q.0.right)) (row_lower q.0.sense (value q.0.right))) (cond b (row_lower q.0.sense (value q.0.right)) (row_upper q.0.sense (value q.0.right)))) (zip rows (map (form.directed b) (form.duals_from p r rows)))) ≡ Some (sum_by_ℚ (λ (q : Row F × Number). q.1 *ℚ value q.0.right) (zip rows (map (form.directed b) (form.duals_from p r rows))))
  rows_total p above r [] = ap Some (sym (sum_by_ℚ-nil _))
  rows_total p above r (row ∷ rows) =
      let dual = form.directed b (form.dual_by_sense row.sense p r) in
      let rest = zip rows (map (form.directed b) (form.duals_from p (r + form.rows_of_sense row.sense) rows)) in
      total_cons (used dual (cond b (row_upper row.sense (value row.right)) (row_lower row.sense (value row.right))) (cond b (row_lower row.sense (value row.right)) (row_upper row.sense (value row.right)))) (map (λ (q : Row F × Number). used q.1 (cond b (row_upper q.0.sense (value q.0.right)) (row_lower q.0.sense (value q.0.right))) (cond b (row_lower q.0.sense (value q.0.right)) (row_upper q.0.sense (value q.0.right)))) rest) (dual *ℚ value row.right) (sum_by_ℚ (λ (q : Row F × Number). q.1 *ℚ value q.0.right) rest) (row_used b row.sense p r (value row.right) above) (rows_total p above (r + form.rows_of_sense row.sense) rows)
      ∙ ap Some (sym (sum_by_ℚ-cons _ (row, dual) rest))

-- ---- columns

directed_times : (b : Bool) (m c : Number) → form.directed b (form.directed b m *ℚ c) ≡ m *ℚ c
directed_times true m c = refl
directed_times false m c = simp ring_ℚ

pub directed-+ℚ : (b : Bool) (x y : Number) → form.directed b (x +ℚ y) ≡ form.directed b x +ℚ form.directed b y
directed-+ℚ true x y = refl
directed-+ℚ false x y = simp ring_ℚ

-- the bound that a column uses is at most the column's share of the constant
abbrev UsesAtMost : {F : Type 0} → (F → Number) → Bool → Number → Number → Option F → Option F → Type 0
UsesAtMost value b factor k lower upper = (u : Number) × (used (form.directed b factor) (cond b (bound_value value upper) (bound_value value lower)) (cond b (bound_value value lower) (bound_value value upper)) ≡ Some u) × (form.directed b u ≤ℚ neg_ℚ k)

module _ {F : Type 0} (value : F → Number) (b : Bool) (costs : List Number) (n : ℕ) where
  by_bound : (m c k : Number) (lower upper : Option F) → (whole (pos 0) <ℚ m → bound_value value upper ≡ Some c) → (m <ℚ whole (pos 0) → bound_value value lower ≡ Some c) → m *ℚ c ≤ℚ neg_ℚ k → UsesAtMost value b m k lower upper
  by_bound m c k lower upper above below most =
      (form.directed b m *ℚ c, directed_used b m c (bound_value value lower) (bound_value value upper) above below, subst (λ u. u ≤ℚ neg_ℚ k) (sym (directed_times b m c)) most)

  -- the coefficients of a column's variables
  column_used : (lower upper : Option F) (v r : ℕ) → value_of_column costs v ≤ℚ whole (pos 0) → value_of_column costs (v + 1) ≤ℚ whole (pos 0) → whole (pos 0) ≤ℚ form.multiplier n costs r → ¬ (Crosses value lower upper) → second value costs n v r lower upper ≡ whole (pos 0) → UsesAtMost value b (slope value costs n v r lower upper) (constant value costs n v r lower upper) lower upper
  column_used (Some l) (Some u) v r first next above ordered nothing =
      let k = value_of_column costs v in
      let p = form.multiplier n costs r in
      let gap : value l ≤ℚ value u = Order.≤ℚ_from_not_above (value l) (value u) ordered in
      elim (Order.≤ℚ_or_above (k +ℚ p) (whole (pos 0))) [
        | inl low ↦ by_bound (k +ℚ p) (value l) (neg_ℚ (k *ℚ value l +ℚ p *ℚ value u)) (Some l) (Some u) (λ h. absurd (Order.not_above (k +ℚ p) (whole (pos 0)) low h)) (λ _. refl) (≤ℚ_from (*ℚ-≤ℚ_left (value l) (value u) p above gap) (low_part k p (value l) (value u)))
        | inr high ↦ by_bound (k +ℚ p) (value u) (neg_ℚ (k *ℚ value l +ℚ p *ℚ value u)) (Some l) (Some u) (λ _. refl) (λ h. absurd (Order.<ℚ_irrefl (whole (pos 0)) (Order.<ℚ_trans (whole (pos 0)) (k +ℚ p) (whole (pos 0)) high h))) (≤ℚ_from (*ℚ-≤ℚ_turned (value l) (value u) k first gap) (high_part k p (value l) (value u)))
      ]
    where
      low_part : (k p l u : Number) → (k +ℚ p) *ℚ l +ℚ p *ℚ u ≡ neg_ℚ (neg_ℚ (k *ℚ l +ℚ p *ℚ u)) +ℚ p *ℚ l
      low_part k p l u = simp ring_ℚ

      high_part : (k p l u : Number) → (k +ℚ p) *ℚ u +ℚ l *ℚ k ≡ neg_ℚ (neg_ℚ (k *ℚ l +ℚ p *ℚ u)) +ℚ u *ℚ k
      high_part k p l u = simp ring_ℚ
  column_used (Some l) None v r first next above ordered nothing =
      let k = value_of_column costs v in
      by_bound k (value l) (neg_ℚ (k *ℚ value l)) (Some l) None (λ h. absurd (Order.not_above k (whole (pos 0)) first h)) (λ _. refl) (Order.≤ℚ_from_≡ (k *ℚ value l) (neg_ℚ (neg_ℚ (k *ℚ value l))) (twice (k *ℚ value l)))
    where
      twice : (a : Number) → a ≡ neg_ℚ (neg_ℚ a)
      twice a = simp ring_ℚ
  column_used None (Some u) v r first next above ordered nothing =
      let k = value_of_column costs v in
      by_bound (neg_ℚ k) (value u) (k *ℚ value u) None (Some u) (λ _. refl) (λ h. absurd (Order.not_above (whole (pos 0)) (neg_ℚ k) (neg-zero-≤ℚ k first) h)) (Order.≤ℚ_from_≡ (neg_ℚ k *ℚ value u) (neg_ℚ (k *ℚ value u)) (apart k (value u)))
    where
      apart : (a c : Number) → neg_ℚ a *ℚ c ≡ neg_ℚ (a *ℚ c)
      apart a c = simp ring_ℚ
  column_used None None v r first next above ordered nothing =
      let k = value_of_column costs v in
      let is : k ≡ whole (pos 0) = none k (value_of_column costs (v + 1)) first next nothing in
      by_bound k (whole (pos 0)) (whole (pos 0)) None None (λ h. absurd (Order.not_above k (whole (pos 0)) first h)) (λ h. absurd (Order.≢_from_<ℚ k (whole (pos 0)) h is)) (Order.≤ℚ_from_≡ (k *ℚ whole (pos 0)) (neg_ℚ (whole (pos 0))) (nothing_there k))
    where
      nothing_there : (a : Number) → a *ℚ whole (pos 0) ≡ neg_ℚ (whole (pos 0))
      nothing_there a = simp ring_ℚ

      none : (a c : Number) → a ≤ℚ whole (pos 0) → c ≤ℚ whole (pos 0) → a +ℚ c ≡ whole (pos 0) → a ≡ whole (pos 0)
      none a c low next e = Order.≤ℚ_antisymm a (whole (pos 0)) low (≤ℚ_from next (sum a c e))
        where
          two_zeros : whole (pos 0) +ℚ whole (pos 0) ≡ whole (pos 0)
          two_zeros = simp ring_ℚ

          sum : (a c : Number) → a +ℚ c ≡ whole (pos 0) → whole (pos 0) +ℚ whole (pos 0) ≡ a +ℚ c
          sum a c e = two_zeros ∙ sym e

  -- all columns, of which the first has place j
  pub columns_total : ((w : ℕ) → 1 ≤ w → value_of_column costs w ≤ℚ whole (pos 0)) → (reduced : ℕ → Number) (columns : List (Column F)) (v r j : ℕ) → 1 ≤ v → All (λ (column : Column F). ¬ (Crosses value column.lower column.upper)) columns → ((k : ℕ) → k < length columns → reduced (j + k) ≡ form.directed b (value_of_column (by_columns value costs n (slope value costs n) v r columns) k)) → ((k : ℕ) → k < length columns → value_of_column (by_columns value costs n (second value costs n) v r columns) k ≡ whole (pos 0)) → (u : Number) × (total (map (λ (q : ℕ × Column F). used (reduced q.0) (cond b (bound_value value q.1.upper) (bound_value value q.1.lower)) (cond b (bound_value value q.1.lower) (bound_value value q.1.upper))) (enumerate_from j columns)) ≡ Some u) × (form.directed b u ≤ℚ neg_ℚ (plain (by_columns value costs n (constant value costs n) v r columns)))
  columns_total below reduced [] v r j past ordered slopes seconds = (whole (pos 0), refl, Order.≤ℚ_from_≡ (form.directed b (whole (pos 0))) (neg_ℚ (plain [])) (none b ∙ sym (ap neg_ℚ (sum_by_ℚ-nil _))))
    where
      none : (b : Bool) → form.directed b (whole (pos 0)) ≡ neg_ℚ (whole (pos 0))
      none true = simp ring_ℚ
      none false = refl
  columns_total below reduced (column ∷ columns) v r j past ordered slopes seconds =
      let here = column_used column.lower column.upper v r (below v past) (below (v + 1) (omega arith)) (neg-zero-≤ℚ (value_of_column costs (n + 1 + r)) (below (n + 1 + r) (omega arith))) (All-head (λ (column : Column F). ¬ (Crosses value column.lower column.upper)) column columns ordered) (seconds 0 (omega arith)) in
      let w = form.width (shift_for value column) in
      let count = form.rows_of_bounds column.lower column.upper in
      let rest = columns_total below reduced columns (v + form.width (shift_for value column)) (r + form.rows_of_bounds column.lower column.upper) (j + 1) (omega arith) (All-tail (λ (column : Column F). ¬ (Crosses value column.lower column.upper)) column columns ordered) (λ k h. ap reduced (let c : j + 1 + k ≡ j + suc k = omega arith in c) ∙ slopes (suc k) (omega arith)) (λ k h. seconds (suc k) (omega arith)) in
      let term : ℕ × Column F → Option Number = λ (q : ℕ × Column F). used (reduced q.0) (cond b (bound_value value q.1.upper) (bound_value value q.1.lower)) (cond b (bound_value value q.1.lower) (bound_value value q.1.upper)) in
      let factor : reduced j ≡ form.directed b (slope value costs n v r column.lower column.upper) = ap reduced (let c : j ≡ j + 0 = omega arith in c) ∙ slopes 0 (omega arith) in
      let first : term (j, column) ≡ Some here.0 = ap (λ m. used m (cond b (bound_value value column.upper) (bound_value value column.lower)) (cond b (bound_value value column.lower) (bound_value value column.upper))) factor ∙ here.1 in (
        here.0 +ℚ rest.0,
        total_cons (term (j, column)) (map term (enumerate_from (j + 1) columns)) here.0 rest.0 first rest.1,
        subst (λ u. u ≤ℚ neg_ℚ (plain (by_columns value costs n (constant value costs n) v r (column ∷ columns)))) (sym (directed-+ℚ b here.0 rest.0))
            (≤ℚ_from (Order.+ℚ-≤ℚ (form.directed b here.0) (neg_ℚ (constant value costs n v r column.lower column.upper)) (form.directed b rest.0) (neg_ℚ (plain (by_columns value costs n (constant value costs n) (v + form.width (shift_for value column)) (r + form.rows_of_bounds column.lower column.upper) columns))) here.2 rest.2)
            (ap (λ s. form.directed b here.0 +ℚ form.directed b rest.0 +ℚ s) (joined _ _) ∙ reversed _ _ ∙ ap (λ s. neg_ℚ s +ℚ (form.directed b here.0 +ℚ form.directed b rest.0)) (sym (sum_by_ℚ-cons _ (constant value costs n v r column.lower column.upper) (by_columns value costs n (constant value costs n) (v + form.width (shift_for value column)) (r + form.rows_of_bounds column.lower column.upper) columns))))),
      )
    where
      joined : (a c : Number) → neg_ℚ a +ℚ neg_ℚ c ≡ neg_ℚ (a +ℚ c)
      joined a c = simp ring_ℚ

      reversed : (s a : Number) → s +ℚ neg_ℚ a ≡ neg_ℚ a +ℚ s
      reversed s a = simp ring_ℚ
