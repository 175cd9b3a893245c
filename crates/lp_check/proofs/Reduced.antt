-- Reduced costs of all columns at once: entries are taken as they come, row by row.
use Rattle.std.proofs.Common.{◌≡◌, ◌≢◌, ℕ, zero, suc, ◌+◌, ◌<◌, ◌≤◌, ◌==◌, inl, inr, pos, Bool, true, false, List, [], ◌∷◌, ◌++◌, length, map, take, drop, get_or, Some, None, refl, sym, ap, ap₂, ◌∙◌, subst, arith, add-one}
use Rattle.std.specs.Prelude.{slice_set, if◌then◌else◌}
use Rattle.std.specs.List.{AllPairs}
use Rattle.std.proofs.lemmas.Bool.{cases_eq}
use Rattle.std.proofs.lemmas.Bool.Decides.{nat_tests}
use Rattle.std.proofs.lemmas.List.{get_or-set_same, get_or-set_other, get_or-take, get_or_default, length-map, length-take-le, length-append, drop_all}
use Rattle.std.proofs.Math.Seq.{take-suc}
use Rattle.gq_number.specs.Number.{Number, whole}
use Rattle.lp_core.specs.declared.program.Row.{Row}
use Rattle.lp_core.specs.declared.program.Column.{Column}
use Rattle.lp_core.specs.Sums.{value_of_column}
use Rattle.lp_check.specs.BoundSteps.{less_steps, less_product, entry_of, entry_in, reduced_cost_bound_steps, all_reduced_steps, row_bound_steps, rows_sum, columns_steps, columns_sum}
use Rattle.lp_check.specs.Partials.{first_unfit, Lessened, reduced_sum, reduced_costs, costs_of, steps_over, sum_over}
use Rattle.lp_check.proofs.Fits.{none_both}
use Rattle.lp_check.proofs.Found.{passed_over, taken_here, not_there}
use Rattle.lp_check.proofs.StepSequences.{reduced_from, reduced_sum_from}

module _ {F : Type 0} (value : F → Number) where
  -- ---- a number for each column

  map-put : (xs : List F) (k : ℕ) (x : F) → map value (slice_set xs k x) ≡ slice_set (map value xs) k (value x)
  map-put [] k x = refl
  map-put (y ∷ xs) zero x = refl
  map-put (y ∷ xs) (suc k) x = ap (λ l. value y ∷ l) (map-put xs k x)

  pub put_number : (xs : List F) (k : ℕ) (x : F) → k < length xs → value_of_column (map value (slice_set xs k x)) k ≡ value x
  put_number xs k x less =
      let size = length-map xs value in
      ap (λ l. value_of_column l k) (map-put xs k x) ∙ get_or-set_same (map value xs) k (value x) (whole (pos 0)) (omega arith)

  pub other_number : (xs : List F) (k v : ℕ) (x : F) → v ≢ k → value_of_column (map value (slice_set xs k x)) v ≡ value_of_column (map value xs) v
  other_number xs k v x other = ap (λ l. value_of_column l v) (map-put xs k x) ∙ get_or-set_other (map value xs) k v (value x) (whole (pos 0)) other

  zero_pushed : (xs : List F) (x : F) (v : ℕ) → value x ≡ whole (pos 0) → ((w : ℕ) → value_of_column (map value xs) w ≡ whole (pos 0)) → value_of_column (map value (xs ++ x ∷ [])) v ≡ whole (pos 0)
  zero_pushed [] x zero none h = none
  zero_pushed [] x (suc v) none h = refl
  zero_pushed (y ∷ xs) x zero none h = h 0
  zero_pushed (y ∷ xs) x (suc v) none h = zero_pushed xs x v none (λ w. h (suc w))

  -- all of these numbers are 0
  abbrev pub AreZeros : List F → Type 0
  AreZeros list = (w : ℕ) → value_of_column (map value list) w ≡ whole (pos 0)

  pub one_more_zero : (list made : List F) (x : F) → AreZeros list → value x ≡ whole (pos 0) → made ≡ list ++ x ∷ [] → AreZeros made
  one_more_zero list made x h none is = λ w. ap (λ l. value_of_column (map value l) w) is ∙ zero_pushed list x w none h

  -- 1 is put at the objective
  pub objective_put : (list : List F) (column : ℕ) (x : F) → AreZeros list → column < length list → value x ≡ whole (pos 1) → (j : ℕ) → value_of_column (map value (slice_set list column x)) j ≡ costs_of (Some column) j
  objective_put list column x none less is = λ j. elim (cases_eq column j) [
    | inl same ↦
        let test : (column == j) ≡ true = grind (arith, nat_tests) in
        ap (λ i. value_of_column (map value (slice_set list column x)) i) (sym same) ∙ put_number list column x less ∙ is ∙ ap (λ b. if b then whole (pos 1) else whole (pos 0)) (sym test)
    | inr other ↦
        let test : (column == j) ≡ false = grind (arith, nat_tests) in
        other_number list column j x (λ same. other (sym same)) ∙ none j ∙ ap (λ b. if b then whole (pos 1) else whole (pos 0)) (sym test)
  ]

  -- ---- the entry of a column among the first ones

  after_other : (j : ℕ) (a : List (ℕ × F)) (e : ℕ × F) → e.0 ≢ j → entry_of value (a ++ e ∷ []) j ≡ entry_of value a j
  after_other j [] e other = passed_over value j e [] other
  after_other j (f ∷ a) e other = ap (λ o. if f.0 == j then Some (value f.1) else o) (after_other j a e other)

  some_not_none : (x : Number) → Some x ≢ None
  some_not_none x e = cc

  after_here : (a : List (ℕ × F)) (e : ℕ × F) → entry_of value a e.0 ≡ None → entry_of value (a ++ e ∷ []) e.0 ≡ Some (value e.1)
  after_here [] e none = taken_here value e.0 e [] refl
  after_here (f ∷ a) e none = elim (cases_eq f.0 e.0) [
    | inl same ↦ absurd (some_not_none (value f.1) (sym (taken_here value e.0 f a same) ∙ none))
    | inr other ↦ passed_over value e.0 f (a ++ e ∷ []) other ∙ after_here a e (sym (passed_over value e.0 f a other) ∙ none)
  ]

  module _ (entries : List (ℕ × F)) (k : ℕ) (e : ℕ × F) (ascending : AllPairs (λ (a b : ℕ × F). a.0 < b.0) entries) (here : k < length entries) (is : e ≡ get_or entries k e) where
    one_more : take (k + 1) entries ≡ take k entries ++ e ∷ []
    one_more = rw (add-one) (take-suc entries k e here ∙ ap (λ x. take k entries ++ x ∷ []) (sym is))

    none_before : entry_of value (take k entries) e.0 ≡ None
    none_before = not_there value e.0 (take k entries) (λ m d within same.
        let below : m < k = omega (arith, within, length-take-le k entries (omega (arith, here))) in
        let up : (get_or entries m e).0 < (get_or entries k e).0 = ascending m k e below here in
        let at : get_or (take k entries) m d ≡ get_or entries m e = get_or-take k entries m d below ∙ get_or_default entries m d e (omega (arith, below, here)) in
        let column : (get_or entries m e).0 ≡ e.0 = ap (λ (x : ℕ × F). x.0) (sym at) ∙ same in
        let own : e.0 ≡ (get_or entries k e).0 = ap (λ (x : ℕ × F). x.0) is in
        omega (arith, up, column, own))

    -- an entry more is taken away
    pub less_more : (limit : ℕ) (y : Number) (before : ℕ → Number) (numbers : List F) (x : F) → e.0 < length numbers → Lessened limit y (entry_of value (take k entries)) before (value_of_column (map value numbers)) → first_unfit (less_steps limit (value_of_column (map value numbers) e.0) y (Some (value e.1))) ≡ None → value x ≡ less_product (value_of_column (map value numbers) e.0) y (Some (value e.1)) → Lessened limit y (entry_of value (take (k + 1) entries)) before (value_of_column (map value (slice_set numbers e.0 x)))
    less_more limit y before numbers x there h fit made = λ j. elim (cases_eq e.0 j) [
      | inl same ↦ subst (λ i. (first_unfit (less_steps limit (before i) y (entry_of value (take (k + 1) entries) i)) ≡ None) × (value_of_column (map value (slice_set numbers e.0 x)) i ≡ less_product (before i) y (entry_of value (take (k + 1) entries) i))) same (at_own limit y before numbers x there h fit made)
      | inr other ↦
          let entry : entry_of value (take (k + 1) entries) j ≡ entry_of value (take k entries) j = ap (λ l. entry_of value l j) one_more ∙ after_other j (take k entries) e other in
          (ap (λ o. first_unfit (less_steps limit (before j) y o)) entry ∙ (h j).0, other_number numbers e.0 j x (λ same. other (sym same)) ∙ (h j).1 ∙ ap (less_product (before j) y) (sym entry))
    ]
      where
        at_own : (limit : ℕ) (y : Number) (before : ℕ → Number) (numbers : List F) (x : F) → e.0 < length numbers → Lessened limit y (entry_of value (take k entries)) before (value_of_column (map value numbers)) → first_unfit (less_steps limit (value_of_column (map value numbers) e.0) y (Some (value e.1))) ≡ None → value x ≡ less_product (value_of_column (map value numbers) e.0) y (Some (value e.1)) → (first_unfit (less_steps limit (before e.0) y (entry_of value (take (k + 1) entries) e.0)) ≡ None) × (value_of_column (map value (slice_set numbers e.0 x)) e.0 ≡ less_product (before e.0) y (entry_of value (take (k + 1) entries) e.0))
        at_own limit y before numbers x there h fit made =
            let entry : entry_of value (take (k + 1) entries) e.0 ≡ Some (value e.1) = ap (λ l. entry_of value l e.0) one_more ∙ after_here (take k entries) e none_before in
            let kept : value_of_column (map value numbers) e.0 ≡ before e.0 = (h e.0).1 ∙ ap (less_product (before e.0) y) none_before in
            (ap₂ (λ s o. first_unfit (less_steps limit s y o)) (sym kept) entry ∙ fit, put_number numbers e.0 x there ∙ made ∙ ap₂ (λ s o. less_product s y o) kept (sym entry))

  -- ---- rows

  -- what the rows before one left of the reduced costs, and that their steps fit
  pub record Lessening (limit : ℕ) (costs : ℕ → Number) (rows : List (Row F)) (duals : List Number) (i : ℕ) (now : ℕ → Number) : Type 0 where
    pub sums : (j : ℕ) → reduced_sum value j (costs j) rows duals ≡ reduced_sum value j (now j) (drop i rows) (drop i duals)
    pub fits : (j : ℕ) → first_unfit (reduced_cost_bound_steps value limit j (now j) (drop i rows) (drop i duals)) ≡ None → first_unfit (reduced_cost_bound_steps value limit j (costs j) rows duals) ≡ None

  pub lessening_begins : (limit : ℕ) (costs now : ℕ → Number) (rows : List (Row F)) (duals : List Number) → ((j : ℕ) → now j ≡ costs j) → Lessening limit costs rows duals 0 now
  lessening_begins limit costs now rows duals same =
      record {
        sums = λ j. ap (λ s. reduced_sum value j s rows duals) (sym (same j));
        fits = λ j h. ap (λ s. first_unfit (reduced_cost_bound_steps value limit j s rows duals)) (sym (same j)) ∙ h;
      }

  module _ (limit : ℕ) (costs : ℕ → Number) (rows : List (Row F)) (duals : List F) where
    pub lessening_on : (i : ℕ) (row : Row F) (y : F) → i < length rows → row ≡ get_or rows i row → i < length duals → y ≡ get_or duals i y → (now next : ℕ → Number) → Lessening limit costs rows (map value duals) i now → Lessened limit (value y) (λ j. entry_in value j row) now next → Lessening limit costs rows (map value duals) (i + 1) next
    lessening_on i row y here row_is there y_is now next h less =
        record {
          sums = λ j. h.sums j ∙ reduced_sum_from value limit rows duals i row y here row_is there y_is j (now j) (next j) (entry_in value j row) refl (less j).1;
          fits = λ j rest. h.fits j (ap first_unfit (reduced_from value limit rows duals i row y here row_is there y_is j (now j) (next j) (entry_in value j row) refl (less j).1) ∙ none_both (less_steps limit (now j) (value y) (entry_in value j row)) (reduced_cost_bound_steps value limit j (next j) (drop (i + 1) rows) (drop (i + 1) (map value duals))) (less j).0 rest);
        }

    module _ (i : ℕ) (now : ℕ → Number) (end : length rows ≤ i) (h : Lessening limit costs rows (map value duals) i now) where
      pub lessened_all : (j : ℕ) → now j ≡ reduced_sum value j (costs j) rows (map value duals)
      lessened_all j = sym (h.sums j ∙ ap (λ l. reduced_sum value j (now j) l (drop i (map value duals))) (drop_all i rows end))

      pub fitted_all : (j : ℕ) → first_unfit (reduced_cost_bound_steps value limit j (costs j) rows (map value duals)) ≡ None
      fitted_all j = h.fits j (ap (λ l. first_unfit (reduced_cost_bound_steps value limit j (now j) l (drop i (map value duals)))) (drop_all i rows end))

  -- the steps of all columns fit where those of each do
  pub all_fit : (limit : ℕ) (costs : ℕ → Number) (rows : List (Row F)) (ys : List Number) (j : ℕ) (columns : List (Column F)) → ((k : ℕ) → first_unfit (reduced_cost_bound_steps value limit k (costs k) rows ys) ≡ None) → first_unfit (all_reduced_steps value limit costs rows ys j columns) ≡ None
  all_fit limit costs rows ys j [] fits = refl
  all_fit limit costs rows ys j (column ∷ columns) fits =
      none_both (reduced_cost_bound_steps value limit j (costs j) rows ys) (all_reduced_steps value limit costs rows ys (j + 1) columns) (fits j) (all_fit limit costs rows ys (j + 1) columns fits)

-- ---- all steps of the bound, in three parts

module _ {F : Type 0} (value : F → Number) (limit : ℕ) (above : Bool) (costs : ℕ → Number) (rows : List (Row F)) (columns : List (Column F)) (ys : List Number) where
  abbrev by_reduced : List Bool
  by_reduced = all_reduced_steps value limit costs rows ys 0 columns

  abbrev by_rows : List Bool
  by_rows = row_bound_steps value limit above (whole (pos 0)) rows ys

  abbrev by_columns : (ℕ → Number) → Number → List Bool
  by_columns reduced s = columns_steps value limit above reduced s 0 columns

  abbrev all_over : List Bool
  all_over = steps_over value above costs rows columns ys limit

  module _ (reduced : ℕ → Number) (s : Number) (reduced_is : reduced ≡ reduced_costs value costs rows ys) (s_is : s ≡ rows_sum value above (whole (pos 0)) rows ys) where
    pub bound_for_columns : (taken : ℕ) → taken ≡ 0 + length by_rows → length all_over < 18446744073709551616 → taken + length (by_columns reduced s) < 18446744073709551616
    bound_for_columns taken is within_bound =
        let last = by_columns (reduced_costs value costs rows ys) (rows_sum value above (whole (pos 0)) rows ys) in
        rw (reduced_is, s_is) (omega (arith, within_bound, is, length-append (by_reduced ++ by_rows) last, length-append by_reduced by_rows))

    pub all_over_fit : first_unfit by_reduced ≡ None → first_unfit by_rows ≡ None → first_unfit (by_columns reduced s) ≡ None → first_unfit all_over ≡ None
    all_over_fit first second third =
        none_both (by_reduced ++ by_rows) (by_columns (reduced_costs value costs rows ys) (rows_sum value above (whole (pos 0)) rows ys)) (none_both by_reduced by_rows first second)
        (ap₂ (λ d n. first_unfit (by_columns d n)) (sym reduced_is) (sym s_is) ∙ third)

    pub sum_same : columns_sum value above reduced s 0 columns ≡ sum_over value above costs rows columns ys
    sum_same = ap₂ (λ d n. columns_sum value above d n 0 columns) reduced_is s_is
