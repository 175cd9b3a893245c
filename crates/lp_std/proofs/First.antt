-- Values that meet the first dictionary of a standard form.
use Rattle.std.proofs.Common.{◌≡◌, ◌≢◌, ℕ, zero, suc, ◌+◌, ◌-◌, ◌<◌, ◌≤◌, Bool, true, false, cond, pos, List, [], ◌∷◌, ◌++◌, length, map, inl, inr, sym, ap, ap₂, ◌∙◌, subst, arith}
use Rattle.std.specs.Prelude.{nat_lt, slice_index_or, if◌then◌else◌, ◌==◌}
use Rattle.std.specs.List.{All, enumerate_from, range_with_len}
use Rattle.std.proofs.lemmas.Bool.{cases_eq}
use Rattle.std.proofs.lemmas.Bool.Decides.{nat_tests}
use Rattle.std.proofs.lemmas.List.{length-map, length-append, get_or-map, get_or_past, get_or_append_left, get_or-append-add}
use Rattle.std.proofs.lemmas.List.FromFn.{length-range_with_len}
use Rattle.std.proofs.lemmas.List.Elements.{All-nil, All-cons, All-head, All-tail, All-weaker}
use Rattle.gq_number.specs.Number.{Number, whole, ◌+ℚ◌, ◌-ℚ◌, ◌*ℚ◌, neg_ℚ}
use Rattle.gq_number.specs.Sums.{sum_by_ℚ}
use Rattle.gq_number.proofs.Ring.{ring_ℚ, *ℚ-zero, zero-*ℚ, zero-+ℚ}
use Rattle.gq_number.proofs.Field.{+ℚ-zero}
use Rattle.gq_number.proofs.Sums.{sum_by_ℚ-nil, sum_by_ℚ-cons, sum_by_ℚ-append, sum_by_ℚ-zero, sum_by_ℚ-+ℚ}
use Rattle.lp_core.specs.Sums.{value_of_column}
use Rattle.lp_core.specs.StandardForm as form
use Rattle.lp_core.specs.Dictionary.{entry_at, row_at, Meets, some_below, of_variable, first_row, first_objective, no_row, first_dictionary}
use Rattle.lp_std.specs.Points.{sum_at, objective_at}
use Rattle.lp_std.proofs.Sums.{unit_at, unit_here, unit_there, range-append, range_unit, range_entries}
use Rattle.lp_std.proofs.Basics.{range_same}

-- entries of variables that are no slacks
abbrev pub Within : ℕ → List (ℕ × Number) → Type 0
Within n entries = All (λ (e : ℕ × Number). (1 ≤ e.0) × (e.0 < 1 + n)) entries

of_none : (high v : ℕ) (entries : List (ℕ × Number)) → All (λ (e : ℕ × Number). (1 ≤ e.0) × (e.0 < high)) entries → high ≤ v → of_variable entries v ≡ whole (pos 0)
of_none high v [] within past = sum_by_ℚ-nil _
of_none high v (e ∷ entries) within past =
    let here = All-head (λ (e : ℕ × Number). (1 ≤ e.0) × (e.0 < high)) e entries within in
    let other : e.0 ≢ v = omega (arith, here.1) in
    sum_by_ℚ-cons _ e entries ∙ ap₂ (λ u w. u +ℚ w) (unit_there e.0 v e.1 other) (of_none high v entries (All-tail (λ (e : ℕ × Number). (1 ≤ e.0) × (e.0 < high)) e entries within) past) ∙ zero-+ℚ (whole (pos 0))

-- the number of a variable but 0 in a row
entry_past_zero : (needed : Bool) (slack : ℕ) (row : form.StandardRow) (v : ℕ) → 1 ≤ v → first_row needed slack row (v + 1) ≡ (if v == slack then whole (pos 1) else of_variable row.entries v)
entry_past_zero needed slack row zero h = absurd (omega arith)
entry_past_zero needed slack row (suc v) h = ap (first_row needed slack row) (let e : suc v + 1 ≡ suc (suc v) = omega arith in e)

slack_apart : (n slack : ℕ) (entries : List (ℕ × Number)) (f : ℕ → Number) → Within n entries → 1 + n ≤ slack → (v : ℕ) → (if v == slack then whole (pos 1) else of_variable entries v) *ℚ f v ≡ of_variable entries v *ℚ f v +ℚ unit_at slack (whole (pos 1)) v *ℚ f v
slack_apart n slack entries f within past v =
    elim (cases_eq v slack) [
      | inl e ↦
          ap (λ t. cond t (whole (pos 1)) (of_variable entries v) *ℚ f v) (let t : (v == slack) ≡ true = grind (arith, nat_tests) in t)
          ∙ here (f v)
          ∙ sym (ap₂ (λ u w. u *ℚ f v +ℚ w *ℚ f v) (of_none (1 + n) v entries within (omega arith)) (subst (λ j. unit_at slack (whole (pos 1)) j ≡ whole (pos 1)) (sym e) (unit_here slack (whole (pos 1)))))
      | inr other ↦
          ap (λ t. cond t (whole (pos 1)) (of_variable entries v) *ℚ f v) (let t : (v == slack) ≡ false = grind (arith, nat_tests) in t)
          ∙ there (of_variable entries v) (f v)
          ∙ sym (ap (λ w. of_variable entries v *ℚ f v +ℚ w *ℚ f v) (unit_there slack v (whole (pos 1)) (λ e. other (sym e))))
    ]
  where
    here : (x : Number) → whole (pos 1) *ℚ x ≡ whole (pos 0) *ℚ x +ℚ whole (pos 1) *ℚ x
    here x = simp ring_ℚ

    there : (a x : Number) → a *ℚ x ≡ a *ℚ x +ℚ whole (pos 0) *ℚ x
    there a x = simp ring_ℚ

-- a sum over all variables, without that of variable 0
pub without_zero : (k : ℕ) (g : ℕ → Number) → g 0 ≡ whole (pos 0) → sum_by_ℚ g (range_with_len 0 (k + 1)) ≡ sum_by_ℚ g (range_with_len 1 k)
without_zero k g nothing =
    ap (λ m. sum_by_ℚ g (range_with_len 0 m)) (let e : k + 1 ≡ suc k = omega arith in e)
    ∙ sum_by_ℚ-cons g 0 (range_with_len 1 k) ∙ ap (λ u. u +ℚ sum_by_ℚ g (range_with_len 1 k)) nothing ∙ zero-+ℚ (sum_by_ℚ g (range_with_len 1 k))

-- the coefficients of a list by places
listed : (f : ℕ → Number) (a : ℕ) (xs : List Number) → sum_by_ℚ (λ v. value_of_column xs (v - a) *ℚ f v) (range_with_len a (length xs)) ≡ sum_by_ℚ (λ (p : ℕ × Number). p.1 *ℚ f p.0) (enumerate_from a xs)
listed f a [] = sum_by_ℚ-nil _ ∙ sym (sum_by_ℚ-nil _)
listed f a (x ∷ xs) =
    sum_by_ℚ-cons _ a (range_with_len (a + 1) (length xs))
    ∙ ap₂ (λ u w. u *ℚ f a +ℚ w) (ap (value_of_column (x ∷ xs)) (let e : a - a ≡ 0 = omega arith in e)) (range_same (λ v. value_of_column (x ∷ xs) (v - a) *ℚ f v) (λ v. value_of_column xs (v - (a + 1)) *ℚ f v) (a + 1) (length xs) (λ v low high. ap (λ k. value_of_column (x ∷ xs) k *ℚ f v) (let e : v - a ≡ suc (v - (a + 1)) = omega arith in e)) ∙ listed f (a + 1) xs)
    ∙ sym (sum_by_ℚ-cons _ (a, x) (enumerate_from (a + 1) xs))

objective_past_zero : (s : form.Standard) (v : ℕ) → 1 ≤ v → first_objective s (v + 1) ≡ value_of_column s.objective (v - 1)
objective_past_zero s zero h = absurd (omega arith)
objective_past_zero s (suc v) h = ap (first_objective s) (let e : suc v + 1 ≡ suc (suc v) = omega arith in e) ∙ ap (value_of_column s.objective) (let e : v ≡ suc v - 1 = omega arith in e)

module _ (s : form.Standard) (x : List Number) where
  module _ (zero_there : value_of_column x 0 ≡ whole (pos 0)) where
    -- a row of the first dictionary
    pub first_row_at : (r : ℕ) → r < length s.rows → Within (length s.objective) (slice_index_or s.rows r no_row).entries → row_at (first_dictionary s) r x ≡ (sum_at (slice_index_or s.rows r no_row).entries x +ℚ value_of_column x (length s.objective + 1 + r)) -ℚ (slice_index_or s.rows r no_row).right
    first_row_at r here within =
        let row = slice_index_or s.rows r no_row in
        let n = length s.objective in
        let k = n + length s.rows in
        let test : nat_lt r (length s.rows) ≡ true = grind (arith, nat_tests) in
        let numbers : (c : ℕ) → (first_dictionary s).numbers r c ≡ first_row (some_below s) (n + 1 + r) row c = λ c. ap (λ t. cond t (first_row (some_below s) (n + 1 + r) row c) (first_objective s c)) test in
        let terms : sum_by_ℚ (λ v. entry_at (first_dictionary s) r v *ℚ value_of_column x v) (range_with_len 0 (k + 1)) ≡ sum_at row.entries x +ℚ value_of_column x (n + 1 + r) =
        without_zero k (λ v. entry_at (first_dictionary s) r v *ℚ value_of_column x v) (ap (λ u. entry_at (first_dictionary s) r 0 *ℚ u) zero_there ∙ *ℚ-zero (entry_at (first_dictionary s) r 0))
        ∙ range_same (λ v. entry_at (first_dictionary s) r v *ℚ value_of_column x v) (λ v. of_variable row.entries v *ℚ value_of_column x v +ℚ unit_at (n + 1 + r) (whole (pos 1)) v *ℚ value_of_column x v) 1 k
        (λ v low high. ap (λ u. u *ℚ value_of_column x v) (numbers (v + 1) ∙ entry_past_zero (some_below s) (n + 1 + r) row v low) ∙ slack_apart n (n + 1 + r) row.entries (value_of_column x) within (omega arith) v)
        ∙ sum_by_ℚ-+ℚ (λ v. of_variable row.entries v *ℚ value_of_column x v) (λ v. unit_at (n + 1 + r) (whole (pos 1)) v *ℚ value_of_column x v) (range_with_len 1 k)
        ∙ ap₂ (λ u w. u +ℚ w) (range_entries (value_of_column x) 1 k row.entries (All-weaker (λ (e : ℕ × Number). (1 ≤ e.0) × (e.0 < 1 + n)) (λ (e : ℕ × Number). (1 ≤ e.0) × (e.0 < 1 + k)) (λ e h. (h.0, omega (arith, h.1))) row.entries within)) (range_unit (n + 1 + r) (whole (pos 1)) (value_of_column x) 1 k (omega arith) (omega arith) ∙ one_times (value_of_column x (n + 1 + r))) in
        ap₂ (λ u w. u -ℚ w) terms (numbers 0)
      where
        one_times : (a : Number) → whole (pos 1) *ℚ a ≡ a
        one_times a = simp ring_ℚ

    -- its objective
    pub first_last_at : row_at (first_dictionary s) (length (first_dictionary s).basic) x ≡ objective_at s x
    first_last_at =
        let n = length s.objective in
        let m = length s.rows in
        let k = n + m in
        let test : nat_lt m m ≡ false = grind (arith, nat_tests) in
        let numbers : (c : ℕ) → (first_dictionary s).numbers m c ≡ first_objective s c = λ c. ap (λ t. cond t (first_row (some_below s) (n + 1 + m) (slice_index_or s.rows m no_row) c) (first_objective s c)) test in
        let terms : sum_by_ℚ (λ v. entry_at (first_dictionary s) m v *ℚ value_of_column x v) (range_with_len 0 (k + 1)) ≡ sum_at (enumerate_from 1 s.objective) x =
        without_zero k (λ v. entry_at (first_dictionary s) m v *ℚ value_of_column x v) (ap (λ u. entry_at (first_dictionary s) m 0 *ℚ u) zero_there ∙ *ℚ-zero (entry_at (first_dictionary s) m 0))
        ∙ range_same (λ v. entry_at (first_dictionary s) m v *ℚ value_of_column x v) (λ v. value_of_column s.objective (v - 1) *ℚ value_of_column x v) 1 k (λ v low high. ap (λ u. u *ℚ value_of_column x v) (numbers (v + 1) ∙ objective_past_zero s v low))
        ∙ ap (sum_by_ℚ (λ v. value_of_column s.objective (v - 1) *ℚ value_of_column x v)) (range-append 1 n m)
        ∙ sum_by_ℚ-append (λ v. value_of_column s.objective (v - 1) *ℚ value_of_column x v) (range_with_len 1 n) (range_with_len (1 + n) m)
        ∙ ap₂ (λ u w. u +ℚ w) (listed (value_of_column x) 1 s.objective) (range_same (λ v. value_of_column s.objective (v - 1) *ℚ value_of_column x v) (λ v. whole (pos 0)) (1 + n) m (λ v low high. ap (λ u. u *ℚ value_of_column x v) (get_or_past s.objective (v - 1) (whole (pos 0)) (omega arith)) ∙ zero-*ℚ (value_of_column x v)) ∙ sum_by_ℚ-zero (range_with_len (1 + n) m))
        ∙ +ℚ-zero (sum_at (enumerate_from 1 s.objective) x) in
        ap (λ i. row_at (first_dictionary s) i x) (length-range_with_len (n + 1) m) ∙ ap₂ (λ u w. u -ℚ w) terms (numbers 0) ∙ turned (sum_at (enumerate_from 1 s.objective) x) s.constant
      where
        turned : (a c : Number) → a -ℚ neg_ℚ c ≡ c +ℚ a
        turned a c = simp ring_ℚ

-- ---- values of the variables but the slacks, filled up

-- values with the slacks that the rows leave
abbrev pub filled : form.Standard → List Number → List Number
filled s y = y ++ map (λ (row : form.StandardRow). row.right -ℚ sum_at row.entries y) s.rows

module _ (s : form.Standard) (y : List Number) (sized : length y ≡ length s.objective + 1) where
  pub filled_slack : (r : ℕ) → r < length s.rows → value_of_column (filled s y) (length s.objective + 1 + r) ≡ (slice_index_or s.rows r no_row).right -ℚ sum_at (slice_index_or s.rows r no_row).entries y
  filled_slack r here =
      ap (λ n. value_of_column (filled s y) (n + r)) (sym sized)
      ∙ get_or-append-add y (map (λ (row : form.StandardRow). row.right -ℚ sum_at row.entries y) s.rows) r (whole (pos 0))
      ∙ get_or-map (λ (row : form.StandardRow). row.right -ℚ sum_at row.entries y) s.rows r no_row (whole (pos 0)) here

  pub filled_other : (v : ℕ) → v < length s.objective + 1 → value_of_column (filled s y) v ≡ value_of_column y v
  filled_other v h = get_or_append_left y (map (λ (row : form.StandardRow). row.right -ℚ sum_at row.entries y) s.rows) (whole (pos 0)) v (omega (arith, sized))

  pub filled_sum : (entries : List (ℕ × Number)) → Within (length s.objective) entries → sum_at entries (filled s y) ≡ sum_at entries y
  filled_sum [] within = sum_by_ℚ-nil _ ∙ sym (sum_by_ℚ-nil _)
  filled_sum (e ∷ entries) within =
      let here = All-head (λ (e : ℕ × Number). (1 ≤ e.0) × (e.0 < 1 + length s.objective)) e entries within in
      sum_by_ℚ-cons _ e entries
      ∙ ap₂ (λ u w. e.1 *ℚ u +ℚ w) (filled_other e.0 (omega (arith, here.1))) (filled_sum entries (All-tail (λ (e : ℕ × Number). (1 ≤ e.0) × (e.0 < 1 + length s.objective)) e entries within))
      ∙ sym (sum_by_ℚ-cons _ e entries)

  filled_enumerated : (a : ℕ) (xs : List Number) → 1 ≤ a → a + length xs ≤ 1 + length s.objective → Within (length s.objective) (enumerate_from a xs)
  filled_enumerated a [] low high = All-nil (λ (e : ℕ × Number). (1 ≤ e.0) × (e.0 < 1 + length s.objective))
  filled_enumerated a (x ∷ xs) low high =
      All-cons (λ (e : ℕ × Number). (1 ≤ e.0) × (e.0 < 1 + length s.objective)) (a, x) (enumerate_from (a + 1) xs) (omega arith, omega arith) (filled_enumerated (a + 1) xs (omega arith) (omega arith))

  module _ (zero_there : value_of_column y 0 ≡ whole (pos 0)) (within : All (λ (row : form.StandardRow). Within (length s.objective) row.entries) s.rows) where
    pub filled_zero : value_of_column (filled s y) 0 ≡ whole (pos 0)
    filled_zero = filled_other 0 (omega arith) ∙ zero_there

    pub filled_objective : objective_at s (filled s y) ≡ objective_at s y
    filled_objective = ap (λ u. s.constant +ℚ u) (filled_sum (enumerate_from 1 s.objective) (filled_enumerated 1 s.objective (omega arith) (omega arith)))

    -- they meet the first dictionary
    pub filled_meets : Meets (first_dictionary s) (filled s y) (objective_at s y)
    filled_meets =
        record {
          sized = length-append y (map (λ (row : form.StandardRow). row.right -ℚ sum_at row.entries y) s.rows) ∙ ap₂ (λ a b. a + b) sized (length-map s.rows (λ (row : form.StandardRow). row.right -ℚ sum_at row.entries y)) ∙ (let e : length s.objective + 1 + length s.rows ≡ length s.objective + length s.rows + 1 = omega arith in e);
          rows = λ r h.
              let here : r < length s.rows = omega (arith, h, length-range_with_len (length s.objective + 1) (length s.rows)) in
              let row = slice_index_or s.rows r no_row in
              first_row_at s (filled s y) filled_zero r here (within r no_row here)
              ∙ ap₂ (λ u w. (u +ℚ w) -ℚ row.right) (filled_sum row.entries (within r no_row here)) (filled_slack r here)
              ∙ nothing_left (sum_at row.entries y) row.right;
          objective_row = first_last_at s (filled s y) filled_zero ∙ filled_objective;
        }
      where
        nothing_left : (a b : Number) → (a +ℚ (b -ℚ a)) -ℚ b ≡ whole (pos 0)
        nothing_left a b = simp ring_ℚ
