-- A dictionary with moved constants is a dictionary of the standard form with the right sides so
-- moved.
use Rattle.std.proofs.Common.{◌≡◌, ℕ, zero, suc, ◌+◌, ◌<◌, ◌≤◌, inl, inr, pos, List, [], ◌∷◌, length, map, Option, Some, None, refl, sym, ap, ap₂, ◌∙◌, subst, arith}
use mathlib.Core.Path.{fun_ext}
use Rattle.std.specs.Prelude.{slice_index_or}
use Rattle.std.specs.List.{All, enumerate_from, range_with_len}
use Rattle.std.proofs.lemmas.List.FromFn.{length-map-range_with_len, length-range_with_len}
use Rattle.std.proofs.lemmas.List.Elements.{All-nil, All-cons, All-head, All-tail}
use Rattle.gq_number.specs.Number.{Number, whole, ◌+ℚ◌, ◌-ℚ◌, ◌*ℚ◌}
use Rattle.gq_number.specs.Order.{◌<ℚ◌}
use Rattle.gq_number.specs.Sums.{sum_by_ℚ}
use Rattle.gq_number.proofs.Ring.{ring_ℚ}
use Rattle.gq_number.proofs.Sums.{sum_by_ℚ-nil, sum_by_ℚ-cons, sum_by_ℚ--ℚ}
use Rattle.lp_core.specs.Sums.{value_of_column}
use Rattle.lp_core.specs.StandardForm as form
use Rattle.lp_core.specs.Dictionary.{Dictionary, basic_at, constant_at, entry_at, row_at, Meets, InPhaseOne, OpeningIsRequired, no_row, first_dictionary}
use Rattle.lp_core.specs.Pivots.{row_of_basic, cost_by_row, priced_row, all_variables, last_of, NothingImproves}
use Rattle.lp_core.proofs.RowSums.{sum_by_same}
use Rattle.lp_std.specs.Points.{sum_at}
use Rattle.lp_std.specs.Last.{HasZero, IsDictionaryOf}
use Rattle.lp_std.proofs.Basics.{range_same}
use Rattle.lp_std.proofs.Lasts.{listed_at}
use Rattle.lp_std.proofs.First.{Within, first_row_at, first_last_at}
use Rattle.lp_fraction_dict.proofs.Kept.{contains_get}

-- Two standard forms. The second has each right side moved by the push at the row's slack, and is
-- equal elsewhere; at the other variables the push is 0.
pub record IsMovedForm (push : ℕ → Number) (s t : form.Standard) : Type 0 where
  pub objective : t.objective ≡ s.objective
  pub constant : t.constant ≡ s.constant
  pub sized : length t.rows ≡ length s.rows
  pub entries : (r : ℕ) → r < length s.rows → (slice_index_or t.rows r no_row).entries ≡ (slice_index_or s.rows r no_row).entries
  pub right : (r : ℕ) → r < length s.rows → (slice_index_or t.rows r no_row).right ≡ (slice_index_or s.rows r no_row).right +ℚ push (length s.objective + 1 + r)
  pub quiet : (v : ℕ) → v < length s.objective + 1 → push v ≡ whole (pos 0)

-- entries of places from 1 on
pub enumerated_within : (n a : ℕ) (xs : List Number) → 1 ≤ a → a + length xs ≤ 1 + n → Within n (enumerate_from a xs)
enumerated_within n a [] low high = All-nil (λ (e : ℕ × Number). (1 ≤ e.0) × (e.0 < 1 + n))
enumerated_within n a (x ∷ xs) low high =
    All-cons (λ (e : ℕ × Number). (1 ≤ e.0) × (e.0 < 1 + n)) (a, x) (enumerate_from (a + 1) xs) (omega arith, omega arith) (enumerated_within n (a + 1) xs (omega arith) (omega arith))

module _ (push : ℕ → Number) (d : Dictionary) where
  -- what the constant of a row gains
  abbrev pub gained : ℕ → Number
  gained k = sum_by_ℚ (λ v. entry_at d k v *ℚ push v) (range_with_len 0 (d.variables + 1))

  abbrev pub moved_numbers : ℕ → ℕ → Number
  moved_numbers k zero = constant_at d k +ℚ gained k
  moved_numbers k (suc c) = d.numbers k (suc c)

  -- the dictionary with its constants moved
  abbrev pub moved : Dictionary
  moved = record { variables = d.variables; basic = d.basic; numbers = moved_numbers }

  pub entry_moved : (k v : ℕ) → entry_at moved k v ≡ entry_at d k v
  entry_moved k v = let e : v + 1 ≡ suc v = omega arith in ap (moved_numbers k) e ∙ ap (d.numbers k) (sym e)

  -- values less what is pushed
  abbrev pub shifted : List Number → List Number
  shifted x = map (λ v. value_of_column x v -ℚ push v) (range_with_len 0 (d.variables + 1))

  pub shifted_at : (x : List Number) (v : ℕ) → v < d.variables + 1 → value_of_column (shifted x) v ≡ value_of_column x v -ℚ push v
  shifted_at x v h = listed_at (λ v. value_of_column x v -ℚ push v) (d.variables + 1) v h

  pub row_moved : (k : ℕ) (x : List Number) → row_at moved k x ≡ row_at d k (shifted x)
  row_moved k x =
      let all = range_with_len 0 (d.variables + 1) in
      let split : sum_by_ℚ (λ v. entry_at d k v *ℚ value_of_column (shifted x) v) (range_with_len 0 (d.variables + 1)) ≡ sum_by_ℚ (λ v. entry_at d k v *ℚ value_of_column x v) (range_with_len 0 (d.variables + 1)) -ℚ gained k =
      range_same (λ v. entry_at d k v *ℚ value_of_column (shifted x) v) (λ v. entry_at d k v *ℚ value_of_column x v -ℚ entry_at d k v *ℚ push v) 0 (d.variables + 1) (λ v low high. ap (λ u. entry_at d k v *ℚ u) (shifted_at x v (omega arith)) ∙ apart (entry_at d k v) (value_of_column x v) (push v))
      ∙ sum_by_ℚ--ℚ (λ v. entry_at d k v *ℚ value_of_column x v) (λ v. entry_at d k v *ℚ push v) (range_with_len 0 (d.variables + 1)) in
      ap (λ u. u -ℚ (constant_at d k +ℚ gained k)) (sum_by_same (λ v. entry_at moved k v *ℚ value_of_column x v) (λ v. entry_at d k v *ℚ value_of_column x v) all (λ v. ap (λ u. u *ℚ value_of_column x v) (entry_moved k v)))
      ∙ turned (sum_by_ℚ (λ v. entry_at d k v *ℚ value_of_column x v) (range_with_len 0 (d.variables + 1))) (constant_at d k) (gained k)
      ∙ ap (λ u. u -ℚ constant_at d k) (sym split)
    where
      apart : (a x p : Number) → a *ℚ (x -ℚ p) ≡ a *ℚ x -ℚ a *ℚ p
      apart a x p = simp ring_ℚ

      turned : (s c g : Number) → s -ℚ (c +ℚ g) ≡ (s -ℚ g) -ℚ c
      turned s c g = simp ring_ℚ

  -- the coefficients are the same
  cost_same : (k v : ℕ) (r : Option ℕ) → cost_by_row moved k v r ≡ cost_by_row d k v r
  cost_same k v None = entry_moved k v
  cost_same k v (Some row) = refl

  pub costs_same : (last_of moved).costs ≡ (last_of d).costs
  costs_same = ap (λ (f : ℕ → Number). map f (all_variables d)) (fun_ext (λ v. cost_same (priced_row d) v (row_of_basic d v)))

  pub nothing_moved : ¬ (OpeningIsRequired moved) → NothingImproves d → NothingImproves moved
  nothing_moved not_required nothing = (
    not_required,
    λ v better. nothing.1 v (record {
      other = better.other;
      there = better.there;
      not_basic = better.not_basic;
      above = λ k priced. subst (λ u. whole (pos 0) <ℚ u) (entry_moved k v) (better.above k priced);
    }),
  )

  -- ---- against the two forms
  module _ (s t : form.Standard) (is : IsDictionaryOf s d) (form_moved : IsMovedForm push s t) (second : ¬ (InPhaseOne d)) (not_required : ¬ (OpeningIsRequired moved)) (within : All (λ (row : form.StandardRow). Within (length s.objective) row.entries) s.rows) where
    count_same : length t.objective ≡ length s.objective
    count_same = ap length form_moved.objective

    sum_shifted : (x : List Number) (entries : List (ℕ × Number)) → Within (length s.objective) entries → sum_at entries (shifted x) ≡ sum_at entries x
    sum_shifted x [] inside = sum_by_ℚ-nil _ ∙ sym (sum_by_ℚ-nil _)
    sum_shifted x (e ∷ entries) inside =
        let here = All-head (λ (e : ℕ × Number). (1 ≤ e.0) × (e.0 < 1 + length s.objective)) e entries inside in
        let low : e.0 < d.variables + 1 = omega (arith, here.1, is.variables) in
        let quiet : e.0 < length s.objective + 1 = omega (arith, here.1) in
        sum_by_ℚ-cons _ e entries
        ∙ ap₂ (λ u w. e.1 *ℚ u +ℚ w) (shifted_at x e.0 low ∙ ap (λ u. value_of_column x e.0 -ℚ u) (form_moved.quiet e.0 quiet) ∙ nothing (value_of_column x e.0)) (sum_shifted x entries (All-tail (λ (e : ℕ × Number). (1 ≤ e.0) × (e.0 < 1 + length s.objective)) e entries inside))
        ∙ sym (sum_by_ℚ-cons _ e entries)
      where
        nothing : (a : Number) → a -ℚ whole (pos 0) ≡ a
        nothing a = simp ring_ℚ

    module _ (x : List Number) (zero_there : value_of_column x 0 ≡ whole (pos 0)) where
      shifted_zero : value_of_column (shifted x) 0 ≡ whole (pos 0)
      shifted_zero = shifted_at x 0 (omega arith) ∙ ap₂ (λ u w. u -ℚ w) zero_there (form_moved.quiet 0 (omega arith)) ∙ simp ring_ℚ

      row_first : (r : ℕ) → r < length s.rows → row_at (first_dictionary t) r x ≡ row_at (first_dictionary s) r (shifted x)
      row_first r here =
          let row = slice_index_or s.rows r no_row in
          let new = slice_index_or t.rows r no_row in
          let inside : Within (length s.objective) row.entries = within r no_row here in
          let also : Within (length t.objective) new.entries = subst (λ n. Within n new.entries) (sym count_same) (subst (Within (length s.objective)) (sym (form_moved.entries r here)) inside) in
          let there : r < length t.rows = omega (arith, here, form_moved.sized) in
          let low : length s.objective + 1 + r < d.variables + 1 = omega (arith, here, is.variables) in
          first_row_at t x zero_there r there also
          ∙ ap₂ (λ es n. (sum_at es x +ℚ value_of_column x (n + 1 + r)) -ℚ new.right) (form_moved.entries r here) count_same
          ∙ ap (λ u. (sum_at row.entries x +ℚ value_of_column x (length s.objective + 1 + r)) -ℚ u) (form_moved.right r here)
          ∙ turned (sum_at row.entries x) (value_of_column x (length s.objective + 1 + r)) row.right (push (length s.objective + 1 + r))
          ∙ ap₂ (λ u w. (u +ℚ w) -ℚ row.right) (sym (sum_shifted x row.entries inside)) (sym (shifted_at x (length s.objective + 1 + r) low))
          ∙ sym (first_row_at s (shifted x) shifted_zero r here inside)
        where
          turned : (a y b p : Number) → (a +ℚ y) -ℚ (b +ℚ p) ≡ (a +ℚ (y -ℚ p)) -ℚ b
          turned a y b p = simp ring_ℚ

      last_first : row_at (first_dictionary t) (length (first_dictionary t).basic) x ≡ row_at (first_dictionary s) (length (first_dictionary s).basic) (shifted x)
      last_first =
          first_last_at t x zero_there
          ∙ ap₂ (λ k xs. k +ℚ sum_at (enumerate_from 1 xs) x) form_moved.constant form_moved.objective
          ∙ ap (λ u. s.constant +ℚ u) (sym (sum_shifted x (enumerate_from 1 s.objective) (enumerated_within (length s.objective) 1 s.objective (omega arith) (omega arith))))
          ∙ sym (first_last_at s (shifted x) shifted_zero)

      in_first : (f : form.Standard) (r : ℕ) → r < length f.rows → r < length (first_dictionary f).basic
      in_first f r h = omega (arith, h, length-range_with_len (length f.objective + 1) (length f.rows))

      of_first : (f : form.Standard) (r : ℕ) → r < length (first_dictionary f).basic → r < length f.rows
      of_first f r h = omega (arith, h, length-range_with_len (length f.objective + 1) (length f.rows))

      variables_are : d.variables ≡ length t.objective + length t.rows
      variables_are = is.variables ∙ ap₂ (λ a b. a + b) (sym count_same) (sym form_moved.sized)

      to_first : (objective : Number) → Meets moved x objective → Meets (first_dictionary t) x objective
      to_first objective m =
          let sized : length (shifted x) ≡ d.variables + 1 = length-map-range_with_len (λ v. value_of_column x v -ℚ push v) 0 (d.variables + 1) in
          let f = (is.same (shifted x) objective (λ _. shifted_zero)).0 (record { sized = sized; rows = λ k h. sym (row_moved k x) ∙ m.rows k h; objective_row = sym (row_moved (length d.basic) x) ∙ m.objective_row }) in
          record {
            sized = m.sized ∙ ap (λ n. n + 1) variables_are;
            rows = λ r h. let here : r < length s.rows = omega (arith, of_first t r h, form_moved.sized) in row_first r here ∙ f.rows r (in_first s r here);
            objective_row = last_first ∙ f.objective_row;
          }

      from_first : (objective : Number) → Meets (first_dictionary t) x objective → Meets moved x objective
      from_first objective m =
          let sized : length (shifted x) ≡ d.variables + 1 = length-map-range_with_len (λ v. value_of_column x v -ℚ push v) 0 (d.variables + 1) in
          let g = (is.same (shifted x) objective (λ _. shifted_zero)).1 (record {
            sized = sized ∙ ap (λ n. n + 1) is.variables;
            rows = λ r h. let here = of_first s r h in sym (row_first r here) ∙ m.rows r (in_first t r (omega (arith, here, form_moved.sized)));
            objective_row = sym last_first ∙ m.objective_row;
          }) in
          record {
            sized = m.sized ∙ ap (λ n. n + 1) (sym variables_are);
            rows = λ k h. row_moved k x ∙ g.rows k h;
            objective_row = row_moved (length d.basic) x ∙ g.objective_row;
          }

    none_zero : ¬ (HasZero moved)
    none_zero h = elim h [ inl phase ↦ second phase | inr required ↦ not_required required ]

    pub moved_of_form : IsDictionaryOf t moved
    moved_of_form =
        record {
          variables = is.variables ∙ ap₂ (λ a b. a + b) (sym count_same) (sym form_moved.sized);
          sized = is.sized ∙ sym form_moved.sized;
          there = is.there;
          own = λ k h. entry_moved k (basic_at d k) ∙ is.own k h;
          alone = λ i k most here other. entry_moved i (basic_at d k) ∙ is.alone i k most here other;
          same = λ x objective zero_there. (to_first x (zero_there none_zero) objective, from_first x (zero_there none_zero) objective);
          zero_above = λ k at required. absurd (second (contains_get d.basic k 0 at));
        }
