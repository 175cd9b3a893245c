-- The first dictionary: what it keeps, and that the rows which are made are its rows.
use Rattle.std.proofs.Common.{◌≡◌, ◌≢◌, ℕ, zero, suc, ◌+◌, ◌-◌, ◌<◌, ◌≤◌, inl, inr, Bool, true, pos, cond, List, [], ◌∷◌, length, map, Some, refl, sym, ap, ap₂, ◌∙◌, subst, subst₂, arith}
use Rattle.std.specs.Prelude.{slice_get, slice_index_or}
use Rattle.std.specs.List.{All, list_any, range_with_len}
use Rattle.std.specs.Ordering.{is_lt}
use Rattle.std.proofs.lemmas.Bool.{cases_lt, lt-ltb, le-ltb, or_left, or_right}
use Rattle.std.proofs.lemmas.List.{length-map, get_or-map}
use mathlib.Core.Path.{fun_ext}
use Rattle.gq_number.specs.Number.{Number, whole, neg_ℚ}
use Rattle.gq_number.specs.Order.{◌<ℚ◌, number_cmp}
use Rattle.gq_number.proofs.Compares.{number_cmp_decides}
use Rattle.lp_core.specs.StandardForm as form
use Rattle.lp_core.specs.Dictionary.{Dictionary, OpeningIsRequired, some_below, first_row, first_objective, no_row, first_dictionary}
use Rattle.lp_std.specs.declared.types.Standard.{Standard}
use Rattle.lp_std.specs.declared.types.StdRow.{StdRow}
use Rattle.lp_std.specs.Meaning.{entries_value, row_value, standard_value}
use Rattle.lp_std.specs.Last.{IsDictionaryOf}
use Rattle.lp_fraction_dict.specs.Rows.{IsRow, number_in}
use Rattle.lp_fraction_dict.specs.Lines.{line}
use Rattle.lp_fraction_dict.specs.First.{InOrder, IsFilled, IsInForm, AreFirst}
use Rattle.lp_fraction_dict.specs.Tableau.{FractionTableau, fraction_dictionary, IsTableau}
use Rattle.lp_fraction_dict.specs.Pivots.{IsProper}
use Rattle.lp_fraction_dict.proofs.Rows.{row_to}
use Rattle.lp_fraction_dict.proofs.Kept.{index_default, index_past}
use Rattle.lp_fraction_dict.proofs.Filling.{of_above, in_order_to, filled_all, target_other, target_slack, target_past, objective_past}
use Rattle.lp_fraction_dict.proofs.OfForm.{of_form}

pub range_at : (a n k v : ℕ) → slice_get (range_with_len a n) k ≡ Some v → (k < n) × (v ≡ a + k)
range_at a zero k v at = absurd (cc)
range_at a (suc n) zero v at = let same : a ≡ v = some_is a v at in (omega arith, omega arith)
  where
    some_is : (x y : ℕ) → Some x ≡ Some y → x ≡ y
    some_is x y e = cc
range_at a (suc n) (suc k) v at =
    let rest = range_at (a + 1) n k v at in
    let less = rest.0 in
    let same = rest.1 in
    (omega arith, omega arith)

length-range : (a n : ℕ) → length (range_with_len a n) ≡ n
length-range a zero = refl
length-range a (suc n) = ap suc (length-range (a + 1) n)

any_at : {X : Type 0} (test : X → Bool) (xs : List X) (k : ℕ) (o : X) → k < length xs → test (slice_index_or xs k o) ≡ true → list_any test xs ≡ true
any_at test [] k o less passes = absurd (omega arith)
any_at test (x ∷ xs) zero o less passes = or_left (test x) (list_any test xs) passes
any_at test (x ∷ xs) (suc k) o less passes = or_right (test x) (list_any test xs) (any_at test xs k o (omega arith) passes)

module _ (s : form.Standard) (h : IsInForm s) where
  abbrev count : ℕ
  count = length s.objective

  abbrev slack : ℕ → ℕ
  slack k = length s.objective + 1 + k

  abbrev row_at_place : ℕ → form.StandardRow
  row_at_place k = slice_index_or s.rows k no_row

  in_order : (k : ℕ) → InOrder 1 (length s.objective + 1) (row_at_place k).entries
  in_order k =
      elim (cases_lt k (length s.rows)) [
        | inl less ↦ h.rows k no_row less
        | inr more ↦ subst (λ (r : form.StandardRow). InOrder 1 (length s.objective + 1) r.entries) (sym (index_past s.rows k no_row more)) tt
      ]

  pub numbers_of_row : (k c : ℕ) → k < length s.rows → (first_dictionary s).numbers k c ≡ first_row (some_below s) (slack k) (row_at_place k) c
  numbers_of_row k c less = ap (λ b. cond b (first_row (some_below s) (slack k) (row_at_place k) c) (first_objective s c)) (lt-ltb k (length s.rows) less)

  pub numbers_of_objective : (k c : ℕ) → length s.rows ≤ k → (first_dictionary s).numbers k c ≡ first_objective s c
  numbers_of_objective k c more = ap (λ b. cond b (first_row (some_below s) (slack k) (row_at_place k) c) (first_objective s c)) (le-ltb k (length s.rows) more)

  own_number : (k : ℕ) → k < length s.rows → (first_dictionary s).numbers k (slack k + 1) ≡ whole (pos 1)
  own_number k less = numbers_of_row k (slack k + 1) less ∙ target_slack (some_below s) (slack k) (row_at_place k) (omega arith)

  other_number : (k i : ℕ) → k < length s.rows → i ≢ k → (first_dictionary s).numbers i (slack k + 1) ≡ whole (pos 0)
  other_number k i less other =
      elim (cases_lt i (length s.rows)) [
        | inl row ↦ numbers_of_row i (slack k + 1) row ∙ target_other (some_below s) (slack i) (row_at_place i) (slack k) (omega arith) (λ same. other (omega arith)) ∙ of_above (row_at_place i).entries 1 (length s.objective + 1) (slack k) (in_order i) (omega arith)
        | inr past ↦ numbers_of_objective i (slack k + 1) past ∙ objective_past s (slack k + 1) (omega arith)
      ]

  is_below : (x : Number) → x <ℚ whole (pos 0) → is_lt (number_cmp x (whole (pos 0))) ≡ true
  is_below x less = ap is_lt ((number_cmp_decides x (whole (pos 0))).0.1 less)

  needed : OpeningIsRequired (first_dictionary s) → some_below s ≡ true
  needed required =
      let less : required.0 < length s.rows = subst (λ n. required.0 < n) (length-range (length s.objective + 1) (length s.rows)) required.1 in
      any_at (λ (row : form.StandardRow). is_lt (number_cmp row.right (whole (pos 0)))) s.rows required.0 no_row less (is_below (row_at_place required.0).right (subst (λ x. x <ℚ whole (pos 0)) (numbers_of_row required.0 0 less) required.2))

  pub first_proper : IsProper (first_dictionary s)
  first_proper =
      record {
        distinct = λ i j v at there.
            let a = (range_at (length s.objective + 1) (length s.rows) i v at).1 in
            let b = (range_at (length s.objective + 1) (length s.rows) j v there).1 in
            omega arith;
        there = λ k v at.
            let a = range_at (length s.objective + 1) (length s.rows) k v at in
            let less = a.0 in
            let same = a.1 in
            omega arith;
        own = λ k v at.
            let a = range_at (length s.objective + 1) (length s.rows) k v at in
            ap (λ w. (first_dictionary s).numbers k (w + 1)) a.1 ∙ own_number k a.0;
        apart = λ k i v at other.
            let a = range_at (length s.objective + 1) (length s.rows) k v at in
            ap (λ w. (first_dictionary s).numbers i (w + 1)) a.1 ∙ other_number k i a.0 other;
        opening = λ required k less.
            numbers_of_row k 1 (subst (λ n. k < n) (length-range (length s.objective + 1) (length s.rows)) less) ∙ ap (λ b. cond b (neg_ℚ (whole (pos 1))) (whole (pos 0))) (needed required);
        above = λ k at. let same = (range_at (length s.objective + 1) (length s.rows) k 0 at).1 in absurd (omega arith);
      }

  pub first_of_form : IsDictionaryOf s (first_dictionary s)
  first_of_form = of_form s (first_dictionary s) first_proper refl (length-range (length s.objective + 1) (length s.rows)) (λ x objective none. (λ m. m, λ m. m))

  -- ---- the rows that are made

  module _ {F : Type 0} (value : F → Number) (t : FractionTableau F) (variables_are : t.variables ≡ length s.objective + length s.rows) (basic_is : t.basic ≡ range_with_len (length s.objective + 1) (length s.rows)) (rows_are : AreFirst value (some_below s) (length s.objective + 1) s.rows t.rows (length s.rows)) (objective_is : IsFilled value (first_objective s) (length s.objective + 2) t.objective) where
    same_slack : (k : ℕ) → InOrder 1 (length s.objective + 1 + k) (row_at_place k).entries
    same_slack k = in_order_to (row_at_place k).entries 1 (length s.objective + 1) (length s.objective + 1 + k) (in_order k) (omega arith)

    numbers_are : (k c : ℕ) → number_in value (line t.rows t.objective k) c ≡ (first_dictionary s).numbers k c
    numbers_are k c =
        let size = rows_are.sized in
        elim (cases_lt k (length s.rows)) [
          | inl less ↦
              ap (λ r. number_in value r c) (index_default t.rows k t.objective [] (omega arith))
              ∙ filled_all value (first_row (some_below s) (slack k) (row_at_place k)) (slice_index_or t.rows k []) (slack k + 2) c (rows_are.each k less) (λ j past. target_past (some_below s) (slack k) (row_at_place k) j (omega arith) (same_slack k) past)
              ∙ sym (numbers_of_row k c less)
          | inr more ↦
              ap (λ r. number_in value r c) (index_past t.rows k t.objective (omega arith))
              ∙ filled_all value (first_objective s) t.objective (length s.objective + 2) c objective_is (λ j past. objective_past s j past)
              ∙ sym (numbers_of_objective k c more)
        ]

    abbrev made_of : ℕ → List ℕ → (ℕ → ℕ → Number) → Dictionary
    made_of variables basic numbers = record { variables = variables; basic = basic; numbers = numbers }

    pub first_is : fraction_dictionary value t ≡ first_dictionary s
    first_is =
        ap (λ v. made_of v t.basic (λ i c. number_in value (line t.rows t.objective i) c)) variables_are
        ∙ ap (λ b. made_of (length s.objective + length s.rows) b (λ i c. number_in value (line t.rows t.objective i) c)) basic_is
        ∙ ap (made_of (length s.objective + length s.rows) (range_with_len (length s.objective + 1) (length s.rows))) (fun_ext (λ i. fun_ext (λ c. numbers_are i c)))

    basic_size : length t.basic ≡ length s.rows
    basic_size = ap length basic_is ∙ length-range (length s.objective + 1) (length s.rows)

    row_is : (k : ℕ) → IsRow value 0 (t.variables + 2) (slice_index_or t.rows k [])
    row_is k =
        let size = rows_are.sized in
        let variables = variables_are in
        elim (cases_lt k (length s.rows)) [
          | inl less ↦ row_to value (slice_index_or t.rows k []) 0 (slack k + 2) (t.variables + 2) (rows_are.each k less).is_row (omega arith)
          | inr more ↦ subst (IsRow value 0 (t.variables + 2)) (sym (index_past t.rows k [] (omega arith))) tt
        ]

    pub first_tableau : IsTableau value t
    first_tableau =
        let variables = variables_are in
        let rows_few = h.rows_few in
        let variables_few = h.variables_few in
        let basic = basic_size in
        record {
          sized = omega arith;
          few = omega arith;
          paired = rows_are.sized ∙ sym basic_size;
          rows = row_is;
          objective = row_to value t.objective 0 (length s.objective + 2) (t.variables + 2) objective_is.is_row (omega arith);
          proper = subst IsProper (sym first_is) first_proper;
        }

    pub first_is_of_form : IsDictionaryOf s (fraction_dictionary value t)
    first_is_of_form = subst (IsDictionaryOf s) (sym first_is) first_of_form

-- ---- the dictionary as the code makes it

code_rows : {F : Type 0} (value : F → Number) (s : Standard F) → IsInForm (standard_value value s) → All (λ (row : StdRow F). InOrder 1 (length s.objective + 1) (entries_value value row.entries)) s.rows
code_rows value s h k o less =
    let sized = length-map s.rows (row_value value) in
    let count = length-map s.objective value in
    subst (λ n. InOrder 1 (n + 1) (entries_value value (slice_index_or s.rows k o).entries)) count
    (subst (λ (row : form.StandardRow). InOrder 1 (length (map value s.objective) + 1) row.entries) (get_or-map (row_value value) s.rows k o no_row less) (h.rows k no_row (omega arith)))

module _ {F : Type 0} (value : F → Number) (s : Standard F) (h : IsInForm (standard_value value s)) (rows : List (StdRow F)) (rows_is : rows ≡ s.rows) (count : ℕ) (count_is : count ≡ length s.objective) where
  pub code_few : (count ≤ 3000) × (length rows ≤ 1500)
  code_few =
      let variables = h.variables_few in
      let few = h.rows_few in
      let sized = length-map s.rows (row_value value) in
      let counted = length-map s.objective value in
      let same = ap length rows_is in
      (omega arith, omega arith)

  pub code_in_order : All (λ (row : StdRow F). InOrder 1 (count + 1) (entries_value value row.entries)) rows
  code_in_order =
      subst₂ (λ (rs : List (StdRow F)) n. All (λ (row : StdRow F). InOrder 1 (n + 1) (entries_value value row.entries)) rs) (sym rows_is) (sym count_is) (code_rows value s h)

  rows_count : length rows ≡ length (standard_value value s).rows
  rows_count = ap length rows_is ∙ sym (length-map s.rows (row_value value))

  objective_count : count ≡ length (standard_value value s).objective
  objective_count = count_is ∙ sym (length-map s.objective value)

  module _ (needed : Bool) (needed_is : needed ≡ list_any (λ (row : form.StandardRow). is_lt (number_cmp row.right (whole (pos 0)))) (map (row_value value) rows)) (t : FractionTableau F) (variables_are : t.variables ≡ count + 1 - 1 + length rows) (basic_is : t.basic ≡ range_with_len (count + 1) (length rows)) (rows_are : AreFirst value needed (count + 1) (map (row_value value) rows) t.rows (length rows)) (objective_is : IsFilled value (first_objective (standard_value value s)) (length s.objective + 2) t.objective) where
    all_variables_are : t.variables ≡ length (standard_value value s).objective + length (standard_value value s).rows
    all_variables_are =
        let a = rows_count in
        let b = objective_count in
        let c = variables_are in
        omega arith

    all_basic : t.basic ≡ range_with_len (length (standard_value value s).objective + 1) (length (standard_value value s).rows)
    all_basic = basic_is ∙ ap₂ (λ n m. range_with_len (n + 1) m) objective_count rows_count

    all_rows : AreFirst value (some_below (standard_value value s)) (length (standard_value value s).objective + 1) (standard_value value s).rows t.rows (length (standard_value value s).rows)
    all_rows =
        subst₂ (λ b n. AreFirst value b (n + 1) (standard_value value s).rows t.rows (length (standard_value value s).rows)) (needed_is ∙ ap (λ rs. list_any (λ (row : form.StandardRow). is_lt (number_cmp row.right (whole (pos 0)))) (map (row_value value) rs)) rows_is) objective_count
        (subst₂ (λ rs m. AreFirst value needed (count + 1) rs t.rows m) (ap (map (row_value value)) rows_is) rows_count rows_are)

    all_objective : IsFilled value (first_objective (standard_value value s)) (length (standard_value value s).objective + 2) t.objective
    all_objective = subst (λ n. IsFilled value (first_objective (standard_value value s)) (n + 2) t.objective) (sym (length-map s.objective value)) objective_is

    pub code_tableau : IsTableau value t
    code_tableau = first_tableau (standard_value value s) h value t all_variables_are all_basic all_rows all_objective

    pub code_first : fraction_dictionary value t ≡ first_dictionary (standard_value value s)
    code_first = first_is (standard_value value s) h value t all_variables_are all_basic all_rows all_objective

    pub code_of_form : IsDictionaryOf (standard_value value s) (fraction_dictionary value t)
    code_of_form = first_is_of_form (standard_value value s) h value t all_variables_are all_basic all_rows all_objective
