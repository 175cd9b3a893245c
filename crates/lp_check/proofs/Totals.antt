-- The sum of the parts of the bound, against the definition of the bound; nonbinding rows have
-- no part in it.
use Rattle.std.proofs.Common.{◌≡◌, ℕ, ◌+◌, ◌<◌, Bool, true, false, pos, List, [], ◌∷◌, length, map, get_or, suc, Option, Some, None, refl, sym, ap, ap₂, ◌∙◌, subst, arith, inl, inr}
use Rattle.std.specs.Prelude.{◌==◌, if◌then◌else◌, option_map, ⊤}
use Rattle.std.specs.List.{All, AllPairs, zip, enumerate_from}
use Rattle.std.specs.declared.cmp.Ordering.{Ordering}
use Rattle.std.specs.declared.cmp.Ordering.TheVariants.{Less, Equal, Greater}
use Rattle.std.proofs.lemmas.Bool.{cases_eq}
use Rattle.std.proofs.lemmas.Bool.Decides.{nat_tests}
use Rattle.std.proofs.lemmas.List.Elements.{All-head, All-tail}
use Rattle.gq_number.specs.Number.{Number, whole, ◌+ℚ◌, ◌-ℚ◌, ◌*ℚ◌}
use Rattle.gq_number.specs.Order.{number_cmp}
use Rattle.gq_number.specs.Sums.{sum_by_ℚ}
use Rattle.gq_number.proofs.Ring.{ring_ℚ, zero-+ℚ}
use Rattle.gq_number.proofs.Sums.{sum_by_ℚ-nil, sum_by_ℚ-cons}
use Rattle.gq_number.proofs.Compares.{number_cmp_decides}
use Rattle.lp_core.specs.declared.program.Sense.{Sense}
use Rattle.lp_core.specs.declared.program.Sense.TheVariants as sense
use Rattle.lp_core.specs.declared.program.Column.{Column}
use Rattle.lp_core.specs.declared.program.Row.{Row}
use Rattle.lp_core.specs.Sums.{column_coefficient}
use Rattle.lp_core.specs.Feasible.{bound_value}
use Rattle.lp_core.specs.DualBound.{row_lower, row_upper, by_sign, used, total}
use Rattle.lp_core.specs.Steps.{asks_nothing}
use Rattle.lp_core.proofs.Duality.{parts_of_both}
use Rattle.lp_check.specs.BoundSteps.{plus_product, less_product, bound_by_sign, bound_used, entry_of, row_bound, column_bound, rows_sum, columns_sum}
use Rattle.lp_check.specs.Partials.{reduced_sum}
use Rattle.lp_check.proofs.Found.{passed_over, taken_here}

plus_nothing : (s : Number) → s ≡ s +ℚ whole (pos 0)
plus_nothing s = simp ring_ℚ

less_nothing : (s : Number) → s ≡ s -ℚ whole (pos 0)
less_nothing s = simp ring_ℚ

less_zero_times : (s c : Number) → s ≡ s -ℚ whole (pos 0) *ℚ c
less_zero_times s c = simp ring_ℚ

less_both : (s a b : Number) → (s -ℚ a) -ℚ b ≡ s -ℚ (a +ℚ b)
less_both s a b = simp ring_ℚ

regrouped : (s a b : Number) → (s +ℚ a) +ℚ b ≡ s +ℚ (a +ℚ b)
regrouped s a b = simp ring_ℚ

-- ---- a factor times the bound that it uses

times_bound : (s f a : Number) (bound : Option Number) → option_map (λ b. f *ℚ b) bound ≡ Some a → plus_product s f bound ≡ s +ℚ a
times_bound s f a None e = absurd (cc)
times_bound s f a (Some b) e = let is : f *ℚ b ≡ a = cc in ap (λ n. s +ℚ n) is

added_by : (s f a : Number) (o : Ordering) (first second : Option Number) → by_sign o f first second ≡ Some a → plus_product s f (bound_by_sign o first second) ≡ s +ℚ a
added_by s f a Greater first second e = times_bound s f a first e
added_by s f a Equal first second e = let is : whole (pos 0) ≡ a = cc in plus_nothing s ∙ ap (λ n. s +ℚ n) is
added_by s f a Less first second e = times_bound s f a second e

pub added : (s f a : Number) (first second : Option Number) → used f first second ≡ Some a → plus_product s f (bound_used f first second) ≡ s +ℚ a
added s f a first second e = added_by s f a (number_cmp f (whole (pos 0))) first second e

zero_by : (f a : Number) (o : Ordering) → number_cmp f (whole (pos 0)) ≡ o → by_sign o f None None ≡ Some a → f ≡ whole (pos 0)
zero_by f a Greater is e = absurd (cc)
zero_by f a Equal is e = (number_cmp_decides f (whole (pos 0))).1.0 is
zero_by f a Less is e = absurd (cc)

-- a factor that uses no bound is 0
pub zero_without_bounds : (f a : Number) → used f None None ≡ Some a → f ≡ whole (pos 0)
zero_without_bounds f a e = zero_by f a (number_cmp f (whole (pos 0))) refl e

module _ {F : Type 0} (value : F → Number) where
  -- ---- the rows' parts

  abbrev pub row_used : Bool → Row F × Number → Option Number
  row_used true p = used p.1 (row_upper p.0.sense (value p.0.right)) (row_lower p.0.sense (value p.0.right))
  row_used false p = used p.1 (row_lower p.0.sense (value p.0.right)) (row_upper p.0.sense (value p.0.right))

  row_added : (above : Bool) (s a y : Number) (row : Row F) → row_used above (row, y) ≡ Some a → plus_product s y (row_bound value above row y) ≡ s +ℚ a
  row_added true s a y row e = added s y a (row_upper row.sense (value row.right)) (row_lower row.sense (value row.right)) e
  row_added false s a y row e = added s y a (row_lower row.sense (value row.right)) (row_upper row.sense (value row.right)) e

  pub rows_total : (above : Bool) (s v : Number) (rows : List (Row F)) (ys : List Number) → total (map (row_used above) (zip rows ys)) ≡ Some v → rows_sum value above s rows ys ≡ s +ℚ v
  rows_total above s v [] ys e = let is : whole (pos 0) ≡ v = cc in plus_nothing s ∙ ap (λ n. s +ℚ n) is
  rows_total above s v (row ∷ rows) [] e = let is : whole (pos 0) ≡ v = cc in plus_nothing s ∙ ap (λ n. s +ℚ n) is
  rows_total above s v (row ∷ rows) (y ∷ ys) e =
      let p = parts_of_both (row_used above (row, y)) (total (map (row_used above) (zip rows ys))) v e in
      ap (λ n. rows_sum value above n rows ys) (row_added above s p.0 y row p.2)
      ∙ rows_total above (s +ℚ p.0) p.1 rows ys p.3
      ∙ regrouped s p.0 p.1 ∙ ap (λ n. s +ℚ n) p.4

  -- each nonbinding row has the dual 0
  abbrev pub AreQuiet : List (Row F) → List Number → Type 0
  AreQuiet [] ys = ⊤
  AreQuiet (row ∷ rows) [] = ⊤
  AreQuiet (row ∷ rows) (y ∷ ys) = (asks_nothing row.sense ≡ true → y ≡ whole (pos 0)) × AreQuiet rows ys

  quiet_by : (above : Bool) (s : Sense) (right y a : Number) → (elim above [ true ↦ used y (row_upper s right) (row_lower s right) | false ↦ used y (row_lower s right) (row_upper s right) ]) ≡ Some a → asks_nothing s ≡ true → y ≡ whole (pos 0)
  quiet_by above sense.E right y a e asks = absurd (cc)
  quiet_by above sense.L right y a e asks = absurd (cc)
  quiet_by above sense.G right y a e asks = absurd (cc)
  quiet_by true sense.N right y a e asks = zero_without_bounds y a e
  quiet_by false sense.N right y a e asks = zero_without_bounds y a e

  quiet_here : (above : Bool) (row : Row F) (y a : Number) → row_used above (row, y) ≡ Some a → asks_nothing row.sense ≡ true → y ≡ whole (pos 0)
  quiet_here true row y a e = quiet_by true row.sense (value row.right) y a e
  quiet_here false row y a e = quiet_by false row.sense (value row.right) y a e

  pub quiet : (above : Bool) (v : Number) (rows : List (Row F)) (ys : List Number) → total (map (row_used above) (zip rows ys)) ≡ Some v → AreQuiet rows ys
  quiet above v [] ys e = tt
  quiet above v (row ∷ rows) [] e = tt
  quiet above v (row ∷ rows) (y ∷ ys) e =
      let p = parts_of_both (row_used above (row, y)) (total (map (row_used above) (zip rows ys))) v e in
      (quiet_here above row y p.0 p.2, quiet above p.1 rows ys p.3)

  -- ---- the columns' parts

  abbrev pub column_used : Bool → (ℕ → Number) → ℕ × Column F → Option Number
  column_used true d p = used (d p.0) (bound_value value p.1.upper) (bound_value value p.1.lower)
  column_used false d p = used (d p.0) (bound_value value p.1.lower) (bound_value value p.1.upper)

  column_added : (above : Bool) (d : ℕ → Number) (s a : Number) (j : ℕ) (column : Column F) → column_used above d (j, column) ≡ Some a → plus_product s (d j) (column_bound value above column (d j)) ≡ s +ℚ a
  column_added true d s a j column e = added s (d j) a (bound_value value column.upper) (bound_value value column.lower) e
  column_added false d s a j column e = added s (d j) a (bound_value value column.lower) (bound_value value column.upper) e

  pub columns_total : (above : Bool) (d : ℕ → Number) (s v : Number) (j : ℕ) (columns : List (Column F)) → total (map (column_used above d) (enumerate_from j columns)) ≡ Some v → columns_sum value above d s j columns ≡ s +ℚ v
  columns_total above d s v j [] e = let is : whole (pos 0) ≡ v = cc in plus_nothing s ∙ ap (λ n. s +ℚ n) is
  columns_total above d s v j (column ∷ columns) e =
      let p = parts_of_both (column_used above d (j, column)) (total (map (column_used above d) (enumerate_from (j + 1) columns))) v e in
      ap (λ n. columns_sum value above d n (j + 1) columns) (column_added above d s p.0 j column p.2)
      ∙ columns_total above d (s +ℚ p.0) p.1 (j + 1) columns p.3
      ∙ regrouped s p.0 p.1 ∙ ap (λ n. s +ℚ n) p.4

  -- ---- reduced costs

  -- the number of an entry, 0 where there is none
  abbrev pub or_zero : Option Number → Number
  or_zero None = whole (pos 0)
  or_zero (Some a) = a

  none_from : (j : ℕ) (entries : List (ℕ × F)) → ((k : ℕ) (d : ℕ × F) → k < length entries → j < (get_or entries k d).0) → column_coefficient value entries j ≡ whole (pos 0)
  none_from j [] later = sum_by_ℚ-nil _
  none_from j (e ∷ entries) later =
      let following : j < e.0 = later 0 e (omega arith) in
      let other : (e.0 == j) ≡ false = grind (arith, nat_tests) in
      sum_by_ℚ-cons _ e entries ∙ ap₂ (λ b n. (if b then value e.1 else whole (pos 0)) +ℚ n) other (none_from j entries (λ k d h. later (suc k) d (omega (arith, h)))) ∙ sym (plus_nothing (whole (pos 0)))

  -- what the entries for a column add up to is the one entry
  pub coefficient_is : (j : ℕ) (entries : List (ℕ × F)) → AllPairs (λ (a b : ℕ × F). a.0 < b.0) entries → column_coefficient value entries j ≡ or_zero (entry_of value entries j)
  coefficient_is j [] ascending = sum_by_ℚ-nil _
  coefficient_is j (e ∷ entries) ascending = elim (cases_eq e.0 j) [
    | inl same ↦
        let here : (e.0 == j) ≡ true = grind (arith, nat_tests) in
        sum_by_ℚ-cons _ e entries
        ∙ ap₂ (λ b n. (if b then value e.1 else whole (pos 0)) +ℚ n) here (none_from j entries (λ k d h. subst (λ n. n < (get_or entries k d).0) same (ascending 0 (suc k) d (omega arith) (omega (arith, h)))))
        ∙ sym (plus_nothing (value e.1)) ∙ sym (ap or_zero (taken_here value j e entries same))
    | inr differs ↦
        let other : (e.0 == j) ≡ false = grind (arith, nat_tests) in
        sum_by_ℚ-cons _ e entries
        ∙ ap₂ (λ b n. (if b then value e.1 else whole (pos 0)) +ℚ n) other (coefficient_is j entries (λ a b d less within. ascending (suc a) (suc b) d (omega (arith, less)) (omega (arith, within))))
        ∙ zero-+ℚ (or_zero (entry_of value entries j)) ∙ sym (ap or_zero (passed_over value j e entries differs))
  ]

  pub less_entry : (s y : Number) (entry : Option Number) → less_product s y entry ≡ s -ℚ y *ℚ or_zero entry
  less_entry s y None = simp ring_ℚ
  less_entry s y (Some a) = refl

  entry_taken : (j : ℕ) (s y : Number) (row : Row F) (asks : Bool) → asks_nothing row.sense ≡ asks → (asks_nothing row.sense ≡ true → y ≡ whole (pos 0)) → AllPairs (λ (a b : ℕ × F). a.0 < b.0) row.entries → less_product s y (if asks then None else entry_of value row.entries j) ≡ s -ℚ y *ℚ column_coefficient value row.entries j
  entry_taken j s y row true is zero ascending = less_zero_times s (column_coefficient value row.entries j) ∙ ap (λ n. s -ℚ n *ℚ column_coefficient value row.entries j) (sym (zero is))
  entry_taken j s y row false is zero ascending = less_entry s y (entry_of value row.entries j) ∙ ap (λ n. s -ℚ y *ℚ n) (sym (coefficient_is j row.entries ascending))

  -- a reduced cost taken row by row is the one of the definition
  pub reduced_is : (j : ℕ) (s : Number) (rows : List (Row F)) (ys : List Number) → AreQuiet rows ys → All (λ (row : Row F). AllPairs (λ (a b : ℕ × F). a.0 < b.0) row.entries) rows → reduced_sum value j s rows ys ≡ s -ℚ sum_by_ℚ (λ (p : Row F × Number). p.1 *ℚ column_coefficient value p.0.entries j) (zip rows ys)
  reduced_is j s [] ys silent ordered = less_nothing s ∙ ap (λ n. s -ℚ n) (sym (sum_by_ℚ-nil _))
  reduced_is j s (row ∷ rows) [] silent ordered = less_nothing s ∙ ap (λ n. s -ℚ n) (sym (sum_by_ℚ-nil _))
  reduced_is j s (row ∷ rows) (y ∷ ys) silent ordered =
      ap (λ n. reduced_sum value j n rows ys) (entry_taken j s y row (asks_nothing row.sense) refl silent.0 (All-head (λ (row : Row F). AllPairs (λ (a b : ℕ × F). a.0 < b.0) row.entries) row rows ordered))
      ∙ reduced_is j (s -ℚ y *ℚ column_coefficient value row.entries j) rows ys silent.1 (All-tail (λ (row : Row F). AllPairs (λ (a b : ℕ × F). a.0 < b.0) row.entries) row rows ordered)
      ∙ less_both s (y *ℚ column_coefficient value row.entries j) (sum_by_ℚ (λ (p : Row F × Number). p.1 *ℚ column_coefficient value p.0.entries j) (zip rows ys))
      ∙ ap (λ n. s -ℚ n) (sym (sum_by_ℚ-cons _ (row, y) (zip rows ys)))
