-- A dictionary whose objective gains a multiple of a column is a dictionary of the standard form
-- whose objective does.
use Rattle.std.proofs.Common.{◌≡◌, ℕ, zero, suc, ◌+◌, ◌<◌, ◌≤◌, ◌==◌, true, cond, inl, inr, pos, List, [], ◌∷◌, length, map, Option, Some, None, refl, sym, ap, ap₂, ◌∙◌, subst, arith}
use mathlib.Core.Path.{fun_ext}
use Rattle.std.specs.Prelude.{slice_index_or, if◌then◌else◌}
use Rattle.std.specs.List.{All, enumerate_from, range_with_len}
use Rattle.std.proofs.lemmas.Bool.{cases_lt, cases_eq}
use Rattle.std.proofs.lemmas.List.FromFn.{length-map-range_with_len, length-range_with_len}
use Rattle.gq_number.specs.Number.{Number, whole, ◌+ℚ◌, ◌-ℚ◌, ◌*ℚ◌, neg_ℚ}
use Rattle.gq_number.specs.Order.{◌≤ℚ◌, ◌<ℚ◌}
use Rattle.gq_number.specs.Sums.{sum_by_ℚ}
use Rattle.gq_number.proofs.Order
use Rattle.gq_number.proofs.Ring.{ring_ℚ}
use Rattle.gq_number.proofs.Sums.{sum_by_ℚ-nil, sum_by_ℚ-cons, sum_by_ℚ-+ℚ, sum_by_ℚ--ℚ, sum_by_ℚ-neg, sum_by_ℚ-*ℚ}
use Rattle.lp_core.specs.Sums.{value_of_column}
use Rattle.lp_core.specs.StandardForm as form
use Rattle.lp_core.specs.StandardForm.{Shift, from_lower, from_upper, free, width, changed_back, spread, objective_of}
use Rattle.lp_core.specs.Dictionary.{Dictionary, basic_at, constant_at, entry_at, row_at, Meets, InPhaseOne, OpeningIsRequired, no_row, first_dictionary}
use Rattle.lp_core.specs.Pivots.{row_of_basic, value_by_row, change_by_row, all_variables, last_of, NothingImproves}
use Rattle.lp_core.proofs.RowSums.{sum_by_same}
use Rattle.lp_std.specs.Points.{sum_at, objective_at}
use Rattle.lp_std.specs.Last.{HasZero, IsDictionaryOf}
use Rattle.lp_std.proofs.Sums.{unit_at, unit_here, unit_there, range_unit}
use Rattle.lp_std.proofs.Basics.{row_none, row_some, one_place}
use Rattle.lp_std.proofs.SamePoints.{objective_sum}
use Rattle.lp_std.proofs.First.{Within, first_row_at, first_last_at}
use Rattle.lp_fraction_dict.proofs.Kept.{contains_get}
use Rattle.lp_fraction_dict.proofs.Lists.{no_place}
use Rattle.lp_fraction_dict.proofs.Equations.{eq_other, eq_same}
use Rattle.lp_range.specs.Ranges.{column_change}

-- ---- lists added place by place

abbrev pub summed : List Number → List Number → List Number
summed [] ys = []
summed (x ∷ xs) [] = x ∷ xs
summed (x ∷ xs) (y ∷ ys) = (x +ℚ y) ∷ summed xs ys

pub length-summed : (xs ys : List Number) → length (summed xs ys) ≡ length xs
length-summed [] ys = refl
length-summed (x ∷ xs) [] = refl
length-summed (x ∷ xs) (y ∷ ys) = ap (λ n. suc n) (length-summed xs ys)

sum_summed : (z : List Number) (j : ℕ) (xs ys : List Number) → length ys ≤ length xs → sum_at (enumerate_from j (summed xs ys)) z ≡ sum_at (enumerate_from j xs) z +ℚ sum_at (enumerate_from j ys) z
sum_summed z j [] [] few = sum_by_ℚ-nil _ ∙ sym (ap₂ (λ a b. a +ℚ b) (sum_by_ℚ-nil _) (sum_by_ℚ-nil _) ∙ simp ring_ℚ)
sum_summed z j [] (y ∷ ys) few = absurd (omega arith)
sum_summed z j (x ∷ xs) [] few = nothing (sum_at (enumerate_from j (x ∷ xs)) z) ∙ ap (λ u. sum_at (enumerate_from j (x ∷ xs)) z +ℚ u) (sym (sum_by_ℚ-nil _))
  where
    nothing : (a : Number) → a ≡ a +ℚ whole (pos 0)
    nothing a = simp ring_ℚ
sum_summed z j (x ∷ xs) (y ∷ ys) few =
    sum_by_ℚ-cons _ (j, x +ℚ y) (enumerate_from (j + 1) (summed xs ys))
    ∙ ap (λ u. (x +ℚ y) *ℚ value_of_column z j +ℚ u) (sum_summed z (j + 1) xs ys (omega arith))
    ∙ apart x y (value_of_column z j) (sum_at (enumerate_from (j + 1) xs) z) (sum_at (enumerate_from (j + 1) ys) z)
    ∙ sym (ap₂ (λ a b. a +ℚ b) (sum_by_ℚ-cons _ (j, x) (enumerate_from (j + 1) xs)) (sum_by_ℚ-cons _ (j, y) (enumerate_from (j + 1) ys)))
  where
    apart : (x y v s t : Number) → (x +ℚ y) *ℚ v +ℚ (s +ℚ t) ≡ (x *ℚ v +ℚ s) +ℚ (y *ℚ v +ℚ t)
    apart x y v s t = simp ring_ℚ

-- ---- a variable and a column as rows of a dictionary

module _ (d : Dictionary) where
  -- the numbers of a variable: it is itself, less its own equation where it is basic
  abbrev pub variable_entry : ℕ → Option ℕ → ℕ → Number
  variable_entry u None w = unit_at u (whole (pos 1)) w
  variable_entry u (Some k) w = unit_at u (whole (pos 1)) w -ℚ entry_at d k w

  abbrev pub variable_constant : Option ℕ → Number
  variable_constant None = whole (pos 0)
  variable_constant (Some k) = neg_ℚ (constant_at d k)

  -- the numbers of a column, without the bound that its shift counts from
  abbrev pub column_entry : ℕ × Shift → ℕ → Number
  column_entry (v, from_lower b) w = variable_entry v (row_of_basic d v) w
  column_entry (v, from_upper b) w = neg_ℚ (variable_entry v (row_of_basic d v) w)
  column_entry (v, free) w = variable_entry v (row_of_basic d v) w -ℚ variable_entry (v + 1) (row_of_basic d (v + 1)) w

  abbrev pub column_constant : ℕ × Shift → Number
  column_constant (v, from_lower b) = variable_constant (row_of_basic d v)
  column_constant (v, from_upper b) = neg_ℚ (variable_constant (row_of_basic d v))
  column_constant (v, free) = variable_constant (row_of_basic d v) -ℚ variable_constant (row_of_basic d (v + 1))

  module _ (x : List Number) (met : (k : ℕ) → k < length d.basic → row_at d k x ≡ whole (pos 0)) where
    variable_at : (u : ℕ) → u < d.variables + 1 → (r : Option ℕ) → row_of_basic d u ≡ r → sum_by_ℚ (λ w. variable_entry u r w *ℚ value_of_column x w) (range_with_len 0 (d.variables + 1)) -ℚ variable_constant r ≡ value_of_column x u
    variable_at u less None e = ap (λ s. s -ℚ whole (pos 0)) (range_unit u (whole (pos 1)) (value_of_column x) 0 (d.variables + 1) (omega arith) (omega arith)) ∙ alone (value_of_column x u)
      where
        alone : (a : Number) → whole (pos 1) *ℚ a -ℚ whole (pos 0) ≡ a
        alone a = simp ring_ℚ
    variable_at u less (Some k) e =
        let found = row_some d u k e in
        let own = sum_by_ℚ (λ w. entry_at d k w *ℚ value_of_column x w) (range_with_len 0 (d.variables + 1)) in
        ap (λ s. s -ℚ neg_ℚ (constant_at d k))
        (sum_by_same (λ w. (unit_at u (whole (pos 1)) w -ℚ entry_at d k w) *ℚ value_of_column x w) (λ w. unit_at u (whole (pos 1)) w *ℚ value_of_column x w -ℚ entry_at d k w *ℚ value_of_column x w) (range_with_len 0 (d.variables + 1)) (λ w. apart (unit_at u (whole (pos 1)) w) (entry_at d k w) (value_of_column x w))
        ∙ sum_by_ℚ--ℚ (λ w. unit_at u (whole (pos 1)) w *ℚ value_of_column x w) (λ w. entry_at d k w *ℚ value_of_column x w) (range_with_len 0 (d.variables + 1))
        ∙ ap (λ s. s -ℚ own) (range_unit u (whole (pos 1)) (value_of_column x) 0 (d.variables + 1) (omega arith) (omega arith)))
        ∙ turned (value_of_column x u) own (constant_at d k) ∙ ap (λ s. value_of_column x u -ℚ s) (met k found.0) ∙ less_nothing (value_of_column x u)
      where
        apart : (a b c : Number) → (a -ℚ b) *ℚ c ≡ a *ℚ c -ℚ b *ℚ c
        apart a b c = simp ring_ℚ

        turned : (a s c : Number) → (whole (pos 1) *ℚ a -ℚ s) -ℚ neg_ℚ c ≡ a -ℚ (s -ℚ c)
        turned a s c = simp ring_ℚ

        less_nothing : (a : Number) → a -ℚ whole (pos 0) ≡ a
        less_nothing a = simp ring_ℚ

    pub column_at : (c : ℕ × Shift) → c.0 + width c.1 ≤ d.variables + 1 → sum_by_ℚ (λ w. column_entry c w *ℚ value_of_column x w) (range_with_len 0 (d.variables + 1)) -ℚ column_constant c ≡ changed_back c x
    column_at (v, from_lower b) within_bound = let far : v + 1 ≤ d.variables + 1 = within_bound in variable_at v (omega arith) (row_of_basic d v) refl
    column_at (v, from_upper b) within_bound =
        let far : v + 1 ≤ d.variables + 1 = within_bound in
        ap (λ s. s -ℚ neg_ℚ (variable_constant (row_of_basic d v)))
        (sum_by_same (λ w. neg_ℚ (variable_entry v (row_of_basic d v) w) *ℚ value_of_column x w) (λ w. neg_ℚ (variable_entry v (row_of_basic d v) w *ℚ value_of_column x w)) (range_with_len 0 (d.variables + 1)) (λ w. turned (variable_entry v (row_of_basic d v) w) (value_of_column x w))
        ∙ sum_by_ℚ-neg (λ w. variable_entry v (row_of_basic d v) w *ℚ value_of_column x w) (range_with_len 0 (d.variables + 1)))
        ∙ joined (sum_by_ℚ (λ w. variable_entry v (row_of_basic d v) w *ℚ value_of_column x w) (range_with_len 0 (d.variables + 1))) (variable_constant (row_of_basic d v))
        ∙ ap neg_ℚ (variable_at v (omega arith) (row_of_basic d v) refl)
      where
        turned : (a b : Number) → neg_ℚ a *ℚ b ≡ neg_ℚ (a *ℚ b)
        turned a b = simp ring_ℚ

        joined : (s c : Number) → neg_ℚ s -ℚ neg_ℚ c ≡ neg_ℚ (s -ℚ c)
        joined s c = simp ring_ℚ
    column_at (v, free) within_bound =
        let far : v + 2 ≤ d.variables + 1 = within_bound in
        let f : ℕ → Number = λ w. variable_entry v (row_of_basic d v) w *ℚ value_of_column x w in
        let g : ℕ → Number = λ w. variable_entry (v + 1) (row_of_basic d (v + 1)) w *ℚ value_of_column x w in
        ap (λ s. s -ℚ (variable_constant (row_of_basic d v) -ℚ variable_constant (row_of_basic d (v + 1))))
        (sum_by_same (λ w. (variable_entry v (row_of_basic d v) w -ℚ variable_entry (v + 1) (row_of_basic d (v + 1)) w) *ℚ value_of_column x w) (λ w. f w -ℚ g w) (range_with_len 0 (d.variables + 1)) (λ w. apart (variable_entry v (row_of_basic d v) w) (variable_entry (v + 1) (row_of_basic d (v + 1)) w) (value_of_column x w))
        ∙ sum_by_ℚ--ℚ f g (range_with_len 0 (d.variables + 1)))
        ∙ joined (sum_by_ℚ f (range_with_len 0 (d.variables + 1))) (sum_by_ℚ g (range_with_len 0 (d.variables + 1))) (variable_constant (row_of_basic d v)) (variable_constant (row_of_basic d (v + 1)))
        ∙ ap₂ (λ a b. a -ℚ b) (variable_at v (omega arith) (row_of_basic d v) refl) (variable_at (v + 1) (omega arith) (row_of_basic d (v + 1)) refl)
      where
        apart : (a b c : Number) → (a -ℚ b) *ℚ c ≡ a *ℚ c -ℚ b *ℚ c
        apart a b c = simp ring_ℚ

        joined : (a b c e : Number) → (a -ℚ b) -ℚ (c -ℚ e) ≡ (a -ℚ c) -ℚ (b -ℚ e)
        joined a b c e = simp ring_ℚ

  -- at a variable that is not basic they are what the column gains where that variable rises
  module _ (limit q : ℕ) (other : row_of_basic d q ≡ None) where
    change_is : (v : ℕ) (r : Option ℕ) → row_of_basic d v ≡ r → variable_entry v r q ≡ change_by_row d q v r
    change_is v None e =
        elim (cases_eq q v) [
          | inl same ↦
              subst (λ k. unit_at v (whole (pos 1)) k ≡ whole (pos 1)) (sym same) (unit_here v (whole (pos 1)))
              ∙ sym (ap (λ b. cond b (whole (pos 1)) (whole (pos 0))) (subst (λ k. (q == k) ≡ true) same (eq_same q)))
          | inr apart ↦ unit_there v q (whole (pos 1)) (λ same. apart (sym same)) ∙ sym (ap (λ b. cond b (whole (pos 1)) (whole (pos 0))) (eq_other q v apart))
        ]
    change_is v (Some k) e =
        let found = row_some d v k e in
        ap (λ u. u -ℚ entry_at d k q) (unit_there v q (whole (pos 1)) (λ same. row_none d q other k found.0 (found.1 ∙ same))) ∙ turned (entry_at d k q)
      where
        turned : (a : Number) → whole (pos 0) -ℚ a ≡ neg_ℚ a
        turned a = simp ring_ℚ

    pub column_change_is : (c : ℕ × Shift) → column_entry c q ≡ column_change limit d c q
    column_change_is (v, from_lower b) = change_is v (row_of_basic d v) refl
    column_change_is (v, from_upper b) = ap neg_ℚ (change_is v (row_of_basic d v) refl)
    column_change_is (v, free) = ap₂ (λ a b. a -ℚ b) (change_is v (row_of_basic d v) refl) (change_is (v + 1) (row_of_basic d (v + 1)) refl)

  -- ---- the objective raised

  module _ (c : ℕ × Shift) (t : Number) where
    abbrev raised_last : ℕ → Number
    raised_last zero = constant_at d (length d.basic) +ℚ t *ℚ column_constant c
    raised_last (suc w) = d.numbers (length d.basic) (suc w) +ℚ t *ℚ column_entry c w

    -- the dictionary whose objective gains t times the column
    abbrev pub raised : Dictionary
    raised =
        record {
          variables = d.variables;
          basic = d.basic;
          numbers = λ k n. if k == length d.basic then raised_last n else d.numbers k n;
        }

    raised_row : (k n : ℕ) → k < length d.basic → raised.numbers k n ≡ d.numbers k n
    raised_row k n less = ap (λ b. cond b (raised_last n) (d.numbers k n)) (eq_other k (length d.basic) (omega arith))

    raised_constant : constant_at raised (length d.basic) ≡ constant_at d (length d.basic) +ℚ t *ℚ column_constant c
    raised_constant = ap (λ b. cond b (raised_last 0) (d.numbers (length d.basic) 0)) (eq_same (length d.basic))

    pub raised_entry : (w : ℕ) → entry_at raised (length d.basic) w ≡ entry_at d (length d.basic) w +ℚ t *ℚ column_entry c w
    raised_entry w =
        let next : w + 1 ≡ suc w = omega arith in
        ap (λ b. cond b (raised_last (w + 1)) (d.numbers (length d.basic) (w + 1))) (eq_same (length d.basic))
        ∙ ap raised_last next ∙ ap (λ n. d.numbers (length d.basic) n +ℚ t *ℚ column_entry c w) (sym next)

    row_same : (k : ℕ) (x : List Number) → k < length d.basic → row_at raised k x ≡ row_at d k x
    row_same k x less =
        ap₂ (λ a b. a -ℚ b)
        (sum_by_same (λ w. entry_at raised k w *ℚ value_of_column x w) (λ w. entry_at d k w *ℚ value_of_column x w) (range_with_len 0 (d.variables + 1)) (λ w. ap (λ u. u *ℚ value_of_column x w) (raised_row k (w + 1) less)))
        (raised_row k 0 less)

    pub raised_not_required : ¬ (OpeningIsRequired d) → ¬ (OpeningIsRequired raised)
    raised_not_required not_required required = not_required (required.0, required.1, subst (λ u. u <ℚ whole (pos 0)) (raised_row required.0 0 required.1) required.2)

    -- the values are the same
    value_same : (v : ℕ) (r : Option ℕ) → row_of_basic d v ≡ r → value_by_row raised r ≡ value_by_row d r
    value_same v None e = refl
    value_same v (Some k) e = raised_row k 0 (row_some d v k e).0

    pub values_same : (last_of raised).values ≡ (last_of d).values
    values_same = ap (λ (f : ℕ → Number). map f (all_variables d)) (fun_ext (λ v. value_same v (row_of_basic d v) refl))

    pub nothing_raised : ¬ (InPhaseOne d) → ¬ (OpeningIsRequired d) → ((q : ℕ) → 1 ≤ q → q ≤ d.variables → row_of_basic d q ≡ None → entry_at d (length d.basic) q +ℚ t *ℚ column_entry c q ≤ℚ whole (pos 0)) → NothingImproves raised
    nothing_raised second not_required below = (
      raised_not_required not_required,
      λ v better.
          let other = better.other in
          let above = better.above (length d.basic) (inr (second, refl)) in
          Order.not_above (entry_at d (length d.basic) v +ℚ t *ℚ column_entry c v) (whole (pos 0)) (below v (omega arith) better.there (no_place d.basic v better.not_basic)) (subst (λ u. whole (pos 0) <ℚ u) (raised_entry v) above),
    )

    module _ (s : form.Standard) (is : IsDictionaryOf s d) (second : ¬ (InPhaseOne d)) (not_required : ¬ (OpeningIsRequired d)) (low : 1 ≤ c.0) (high : c.0 + width c.1 ≤ 1 + length s.objective) (within : All (λ (row : form.StandardRow). Within (length s.objective) row.entries) s.rows) where
      -- the standard form whose objective gains t times the column's variables
      abbrev pub raised_form : form.Standard
      raised_form = record s { objective = summed s.objective (objective_of (length s.objective) (spread c.0 c.1 t)) }

      pub raised_count : length raised_form.objective ≡ length s.objective
      raised_count = length-summed s.objective (objective_of (length s.objective) (spread c.0 c.1 t))

      pub raised_within : All (λ (row : form.StandardRow). Within (length raised_form.objective) row.entries) s.rows
      raised_within = subst (λ n. All (λ (row : form.StandardRow). Within n row.entries) s.rows) (sym raised_count) within

      pub objective_raised : (y : List Number) → objective_at raised_form y ≡ objective_at s y +ℚ t *ℚ changed_back c y
      objective_raised y =
          let count : length (objective_of (length s.objective) (spread c.0 c.1 t)) ≡ length s.objective = length-map-range_with_len _ 1 (length s.objective) in
          ap (λ u. s.constant +ℚ u)
          (sum_summed y 1 s.objective (objective_of (length s.objective) (spread c.0 c.1 t)) (omega (arith, count)) ∙ ap (λ u. sum_at (enumerate_from 1 s.objective) y +ℚ u) (objective_sum (length s.objective) c t y low high))
          ∙ apart s.constant (sum_at (enumerate_from 1 s.objective) y) (t *ℚ changed_back c y)
        where
          apart : (a b e : Number) → a +ℚ (b +ℚ e) ≡ (a +ℚ b) +ℚ e
          apart a b e = simp ring_ℚ

      -- the objective's row of the raised dictionary
      last_raised : (x : List Number) → ((k : ℕ) → k < length d.basic → row_at d k x ≡ whole (pos 0)) → row_at raised (length d.basic) x ≡ row_at d (length d.basic) x +ℚ t *ℚ changed_back c x
      last_raised x met =
          let L = length d.basic in
          let f : ℕ → Number = λ w. entry_at d (length d.basic) w *ℚ value_of_column x w in
          let g : ℕ → Number = λ w. column_entry c w *ℚ value_of_column x w in
          let within_bound : c.0 + width c.1 ≤ d.variables + 1 = omega (arith, high, is.variables) in
          ap₂ (λ a b. a -ℚ b)
          (sum_by_same (λ w. entry_at raised (length d.basic) w *ℚ value_of_column x w) (λ w. f w +ℚ t *ℚ g w) (range_with_len 0 (d.variables + 1)) (λ w. ap (λ u. u *ℚ value_of_column x w) (raised_entry w) ∙ apart (entry_at d (length d.basic) w) t (column_entry c w) (value_of_column x w))
          ∙ sum_by_ℚ-+ℚ f (λ w. t *ℚ g w) (range_with_len 0 (d.variables + 1)) ∙ ap (λ u. sum_by_ℚ f (range_with_len 0 (d.variables + 1)) +ℚ u) (sum_by_ℚ-*ℚ t g (range_with_len 0 (d.variables + 1))))
          raised_constant
          ∙ joined (sum_by_ℚ f (range_with_len 0 (d.variables + 1))) t (sum_by_ℚ g (range_with_len 0 (d.variables + 1))) (constant_at d (length d.basic)) (column_constant c)
          ∙ ap (λ u. row_at d (length d.basic) x +ℚ t *ℚ u) (column_at x met c within_bound)
        where
          apart : (a t b x : Number) → (a +ℚ t *ℚ b) *ℚ x ≡ a *ℚ x +ℚ t *ℚ (b *ℚ x)
          apart a t b x = simp ring_ℚ

          joined : (a t b k e : Number) → (a +ℚ t *ℚ b) -ℚ (k +ℚ t *ℚ e) ≡ (a -ℚ k) +ℚ t *ℚ (b -ℚ e)
          joined a t b k e = simp ring_ℚ

      -- the numbers of a basic variable
      variable_basic : (k : ℕ) → k < length d.basic → (u : ℕ) (r : Option ℕ) → row_of_basic d u ≡ r → variable_entry u r (basic_at d k) ≡ whole (pos 0)
      variable_basic k here u None e = unit_there u (basic_at d k) (whole (pos 1)) (λ same. row_none d u e k here (sym same))
      variable_basic k here u (Some j) e =
          let found = row_some d u j e in
          elim (cases_eq j k) [
            | inl same ↦
                let at : u ≡ basic_at d k = sym found.1 ∙ ap (basic_at d) same in
                ap₂ (λ a b. a -ℚ b) (subst (λ w. unit_at u (whole (pos 1)) w ≡ whole (pos 1)) at (unit_here u (whole (pos 1)))) (ap (λ i. entry_at d i (basic_at d k)) same ∙ is.own k here) ∙ both
            | inr other ↦
                ap₂ (λ a b. a -ℚ b) (unit_there u (basic_at d k) (whole (pos 1)) (λ at. other (one_place s d is j k found.0 here (found.1 ∙ at)))) (is.alone j k (omega (arith, found.0)) here other) ∙ none
          ]
        where
          both : whole (pos 1) -ℚ whole (pos 1) ≡ whole (pos 0)
          both = simp ring_ℚ

          none : whole (pos 0) -ℚ whole (pos 0) ≡ whole (pos 0)
          none = simp ring_ℚ

      column_basic : (k : ℕ) → k < length d.basic → (c : ℕ × Shift) → column_entry c (basic_at d k) ≡ whole (pos 0)
      column_basic k here (v, from_lower b) = variable_basic k here v (row_of_basic d v) refl
      column_basic k here (v, from_upper b) = ap neg_ℚ (variable_basic k here v (row_of_basic d v) refl) ∙ simp ring_ℚ
      column_basic k here (v, free) = ap₂ (λ a b. a -ℚ b) (variable_basic k here v (row_of_basic d v) refl) (variable_basic k here (v + 1) (row_of_basic d (v + 1)) refl) ∙ simp ring_ℚ

      alone_raised : (i k : ℕ) → i ≤ length d.basic → k < length d.basic → (i ≡ k → ⊥) → entry_at raised i (basic_at d k) ≡ whole (pos 0)
      alone_raised i k most here other =
          elim (cases_lt i (length d.basic)) [
            | inl less ↦ raised_row i (basic_at d k + 1) less ∙ is.alone i k most here other
            | inr more ↦
                let same : length d.basic ≡ i = omega arith in
                subst (λ n. entry_at raised n (basic_at d k) ≡ whole (pos 0)) same
                (raised_entry (basic_at d k) ∙ ap₂ (λ a b. a +ℚ t *ℚ b) (is.alone (length d.basic) k (omega arith) here (λ e. absurd (omega arith))) (column_basic k here c) ∙ nothing t)
          ]
        where
          nothing : (t : Number) → whole (pos 0) +ℚ t *ℚ whole (pos 0) ≡ whole (pos 0)
          nothing t = simp ring_ℚ

      module _ (x : List Number) (zero_there : value_of_column x 0 ≡ whole (pos 0)) where
        row_first : (r : ℕ) → r < length s.rows → row_at (first_dictionary raised_form) r x ≡ row_at (first_dictionary s) r x
        row_first r here =
            let row = slice_index_or s.rows r no_row in
            first_row_at raised_form x zero_there r here (raised_within r no_row here)
            ∙ ap (λ n. (sum_at row.entries x +ℚ value_of_column x (n + 1 + r)) -ℚ row.right) raised_count
            ∙ sym (first_row_at s x zero_there r here (within r no_row here))

        of_first : (f : form.Standard) (r : ℕ) → r < length (first_dictionary f).basic → r < length f.rows
        of_first f r h = omega (arith, h, length-range_with_len (length f.objective + 1) (length f.rows))

        in_first : (f : form.Standard) (r : ℕ) → r < length f.rows → r < length (first_dictionary f).basic
        in_first f r h = omega (arith, h, length-range_with_len (length f.objective + 1) (length f.rows))

        to_first : (objective : Number) → Meets raised x objective → Meets (first_dictionary raised_form) x objective
        to_first objective m =
            let met : (k : ℕ) → k < length d.basic → row_at d k x ≡ whole (pos 0) = λ k h. sym (row_same k x h) ∙ m.rows k h in
            let f = (is.same x (row_at d (length d.basic) x) (λ _. zero_there)).0 (record { sized = m.sized; rows = met; objective_row = refl }) in
            record {
              sized = f.sized ∙ ap (λ n. n + length s.rows + 1) (sym raised_count);
              rows = λ r h. let here = of_first raised_form r h in row_first r here ∙ f.rows r (in_first s r here);
              objective_row =
                  first_last_at raised_form x zero_there ∙ objective_raised x ∙ ap (λ u. u +ℚ t *ℚ changed_back c x) (sym (first_last_at s x zero_there) ∙ f.objective_row) ∙ sym (last_raised x met) ∙ m.objective_row;
            }

        from_first : (objective : Number) → Meets (first_dictionary raised_form) x objective → Meets raised x objective
        from_first objective m =
            let g = (is.same x (objective_at s x) (λ _. zero_there)).1 (record {
              sized = m.sized ∙ ap (λ n. n + length s.rows + 1) raised_count;
              rows = λ r h. let here = of_first s r h in sym (row_first r here) ∙ m.rows r (in_first raised_form r here);
              objective_row = first_last_at s x zero_there;
            }) in
            record {
              sized = g.sized;
              rows = λ k h. row_same k x h ∙ g.rows k h;
              objective_row =
                  last_raised x g.rows ∙ ap (λ u. u +ℚ t *ℚ changed_back c x) g.objective_row ∙ sym (objective_raised x) ∙ sym (first_last_at raised_form x zero_there) ∙ m.objective_row;
            }

      none_zero : ¬ (HasZero raised)
      none_zero h = elim h [ inl phase ↦ second phase | inr required ↦ raised_not_required not_required required ]

      pub raised_of_form : IsDictionaryOf raised_form raised
      raised_of_form =
          record {
            variables = is.variables ∙ ap (λ n. n + length s.rows) (sym raised_count);
            sized = is.sized;
            there = is.there;
            own = λ k h. raised_row k (basic_at d k + 1) h ∙ is.own k h;
            alone = alone_raised;
            same = λ x objective zero_there. (to_first x (zero_there none_zero) objective, from_first x (zero_there none_zero) objective);
            zero_above = λ k at required. absurd (second (contains_get d.basic k 0 at));
          }
