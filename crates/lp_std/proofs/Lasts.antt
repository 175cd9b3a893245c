-- What is read from a final dictionary, against the standard form.
use Rattle.std.proofs.Common.{◌≡◌, ◌≢◌, ℕ, zero, suc, ◌+◌, ◌-◌, ◌<◌, ◌≤◌, ◌==◌, Bool, true, false, cond, pos, List, [], ◌∷◌, length, map, get_or, Option, Some, None, inl, inr, refl, sym, ap, ap₂, ◌∙◌, subst, arith}
use Rattle.std.specs.Prelude.{slice_index_or, slice_get, unwrap_or}
use Rattle.std.specs.List.{All, enumerate_from, range_with_len}
use Rattle.std.proofs.lemmas.Bool.{cases_lt}
use Rattle.std.proofs.lemmas.List.{get_or_past, get_or_default, get_or-append-add}
use Rattle.std.proofs.lemmas.List.FromFn.{length-map-range_with_len, length-range_with_len, get_or-map-range_with_len}
use Rattle.std.proofs.lemmas.Option.{slice_get-get_or}
use Rattle.std.proofs.lemmas.List.Elements.{All-nil, All-cons, All-head, All-tail, All-map, All-from_get_or}
use Rattle.gq_number.specs.Number.{Number, whole, ◌+ℚ◌, ◌-ℚ◌, ◌*ℚ◌}
use Rattle.gq_number.specs.Order.{◌≤ℚ◌, ◌<ℚ◌}
use Rattle.gq_number.specs.Sums.{sum_by_ℚ}
use Rattle.gq_number.proofs.Order
use Rattle.gq_number.proofs.Ring.{ring_ℚ, *ℚ-zero}
use Rattle.gq_number.proofs.Linear.{≤ℚ_from}
use Rattle.gq_number.proofs.Signs.{neg-zero-≤ℚ, zero-≤ℚ-one}
use Rattle.gq_number.proofs.Sums.{sum_by_ℚ-nil, sum_by_ℚ-cons, sum_by_ℚ-append, sum_by_ℚ-+ℚ}
use Rattle.lp_core.specs.declared.answer.Rule.TheVariants.{Legal}
use Rattle.lp_core.specs.Ends.{IsUnlimited}
use Rattle.lp_core.specs.Sums.{value_of_column}
use Rattle.lp_core.specs.StandardForm as form
use Rattle.lp_core.specs.Dictionary.{Dictionary, basic_at, constant_at, entry_at, row_at, Meets, InPhaseOne, OpeningIsRequired, IsPriced, no_row, first_dictionary}
use Rattle.lp_core.specs.Pivots.{row_of_basic, value_by_row, change_by_row, cost_by_row, priced_row, all_variables, NothingImproves}
use Rattle.lp_core.proofs.RowSums.{sum_by_same}
use Rattle.lp_std.specs.Last.{IsDictionaryOf}
use Rattle.lp_std.specs.Points.{AreAtLeastZero, sum_at, KeepsRows, objective_at}
use Rattle.lp_std.proofs.Sums.{range-append}
use Rattle.lp_std.proofs.Basics.{range_same, equal_numbers, row_none, row_some, no_row_of, own_row, one_place, value_of, change_of, values_in_row, values_in_last, changes_in_row, changes_in_last}
use Rattle.lp_std.proofs.First.{Within, without_zero, first_row_at, first_last_at, filled, filled_zero, filled_meets, filled_other}

-- the list of a function of the variables
pub listed_at : (f : ℕ → Number) (n v : ℕ) → v < n → value_of_column (map f (range_with_len 0 n)) v ≡ f v
listed_at f n v h = get_or-map-range_with_len f 0 n v v (whole (pos 0)) h (omega arith)

-- what a function has at each number holds of the list, and past its end of 0
pub listed_above : (f : ℕ → Number) (n : ℕ) → ((v : ℕ) → whole (pos 0) ≤ℚ f v) → AreAtLeastZero (map f (range_with_len 0 n))
listed_above f n above = All-map (λ x. whole (pos 0) ≤ℚ x) f (range_with_len 0 n) (λ k d h. above (get_or (range_with_len 0 n) k d))

-- a row of a dictionary at such a list
row_at_listed : (d : Dictionary) (i : ℕ) (f : ℕ → Number) → row_at d i (map f (range_with_len 0 (d.variables + 1))) ≡ sum_by_ℚ (λ v. entry_at d i v *ℚ f v) (range_with_len 0 (d.variables + 1)) -ℚ constant_at d i
row_at_listed d i f =
    ap (λ u. u -ℚ constant_at d i) (range_same (λ v. entry_at d i v *ℚ value_of_column (map f (range_with_len 0 (d.variables + 1))) v) (λ v. entry_at d i v *ℚ f v) 0 (d.variables + 1) (λ v low high. ap (λ u. entry_at d i v *ℚ u) (listed_at f (d.variables + 1) v (omega arith))))

-- the values of entries of two lists added
added_sum : (f g : ℕ → Number) (n k : ℕ) (entries : List (ℕ × Number)) → Within n entries → 1 + n ≤ k → sum_at entries (map (λ v. f v +ℚ g v) (range_with_len 0 k)) ≡ sum_at entries (map f (range_with_len 0 k)) +ℚ sum_at entries (map g (range_with_len 0 k))
added_sum f g n k [] within within_bound = sum_by_ℚ-nil _ ∙ sym (ap₂ (λ u w. u +ℚ w) (sum_by_ℚ-nil _) (sum_by_ℚ-nil _) ∙ simp ring_ℚ)
added_sum f g n k (e ∷ entries) within within_bound =
    let here = All-head (λ (e : ℕ × Number). (1 ≤ e.0) × (e.0 < 1 + n)) e entries within in
    let low : e.0 < k = omega (arith, here.1) in
    sum_by_ℚ-cons _ e entries
    ∙ ap₂ (λ u w. e.1 *ℚ u +ℚ w) (listed_at (λ v. f v +ℚ g v) k e.0 low) (added_sum f g n k entries (All-tail (λ (e : ℕ × Number). (1 ≤ e.0) × (e.0 < 1 + n)) e entries within) within_bound)
    ∙ apart e.1 (f e.0) (g e.0) (sum_at entries (map f (range_with_len 0 k))) (sum_at entries (map g (range_with_len 0 k)))
    ∙ ap₂ (λ u w. u +ℚ w) (ap (λ u. e.1 *ℚ u +ℚ sum_at entries (map f (range_with_len 0 k))) (sym (listed_at f k e.0 low)) ∙ sym (sum_by_ℚ-cons _ e entries)) (ap (λ u. e.1 *ℚ u +ℚ sum_at entries (map g (range_with_len 0 k))) (sym (listed_at g k e.0 low)) ∙ sym (sum_by_ℚ-cons _ e entries))
  where
    apart : (a x y s t : Number) → a *ℚ (x +ℚ y) +ℚ (s +ℚ t) ≡ (a *ℚ x +ℚ s) +ℚ (a *ℚ y +ℚ t)
    apart a x y s t = simp ring_ℚ

-- coefficients of rows by their places
placed_sum : {X : Type 0} (g : ℕ → Number) (f : X → Number) (a : ℕ) (xs : List X) → sum_by_ℚ (λ v. g v *ℚ value_of_column (map f xs) (v - a)) (range_with_len a (length xs)) ≡ sum_by_ℚ (λ (p : ℕ × X). g p.0 *ℚ f p.1) (enumerate_from a xs)
placed_sum g f a [] = sum_by_ℚ-nil _ ∙ sym (sum_by_ℚ-nil _)
placed_sum g f a (x ∷ xs) =
    sum_by_ℚ-cons _ a (range_with_len (a + 1) (length xs))
    ∙ ap₂ (λ u w. g a *ℚ u +ℚ w) (ap (value_of_column (f x ∷ map f xs)) (let e : a - a ≡ 0 = omega arith in e)) (range_same (λ v. g v *ℚ value_of_column (f x ∷ map f xs) (v - a)) (λ v. g v *ℚ value_of_column (map f xs) (v - (a + 1))) (a + 1) (length xs) (λ v low high. ap (λ k. g v *ℚ value_of_column (f x ∷ map f xs) k) (let e : v - a ≡ suc (v - (a + 1)) = omega arith in e)) ∙ placed_sum g f (a + 1) xs)
    ∙ sym (sum_by_ℚ-cons _ (a, x) (enumerate_from (a + 1) xs))

-- the value of coefficients at values of the variables, with the slacks that these determine
abbrev pub priced_at : form.Standard → List Number → List Number → Number
priced_at s costs y =
    sum_by_ℚ (λ v. value_of_column costs v *ℚ value_of_column y v) (range_with_len 1 (length s.objective))
    +ℚ sum_by_ℚ (λ (p : ℕ × form.StandardRow). value_of_column costs p.0 *ℚ (p.1.right -ℚ sum_at p.1.entries y)) (enumerate_from (length s.objective + 1) s.rows)

-- Coefficients of the priced row: their value at values of the variables, and that none is above 0.
pub record Costs (s : form.Standard) (costs : List Number) (start : Number) (target : List Number → Number) : Type 0 where
  pub sums : (y : List Number) → length y ≡ length s.objective + 1 → value_of_column y 0 ≡ whole (pos 0) → priced_at s costs y ≡ start +ℚ target y
  pub below : (v : ℕ) → 1 ≤ v → value_of_column costs v ≤ℚ whole (pos 0)

-- an element that is got
got : (xs : List ℕ) (k v d : ℕ) → slice_get xs k ≡ Some v → (k < length xs) × (slice_index_or xs k d ≡ v)
got [] k v d e = absurd (cc)
got (x ∷ xs) zero v d e =
    let same : x ≡ v = cc in
    (omega arith, same)
got (x ∷ xs) (suc k) v d e =
    let rest = got xs k v d e in
    (omega (arith, rest.0), rest.1)

moved_over : (a c t : Number) → a -ℚ c ≡ t → a ≡ c +ℚ t
moved_over a c t e = apart a c ∙ ap (λ u. c +ℚ u) e
  where
    apart : (a c : Number) → a ≡ c +ℚ (a -ℚ c)
    apart a c = simp ring_ℚ

module _ (s : form.Standard) (d : Dictionary) (is : IsDictionaryOf s d) (not_required : ¬ (OpeningIsRequired d)) (within : All (λ (row : form.StandardRow). Within (length s.objective) row.entries) s.rows) where
  abbrev pub values : List Number
  values = map (λ v. value_by_row d (row_of_basic d v)) (all_variables d)

  pub values_above : AreAtLeastZero values
  values_above = listed_above (value_of s d is) (d.variables + 1) (λ v. by v (row_of_basic d v) refl)
    where
      by : (v : ℕ) (r : Option ℕ) → row_of_basic d v ≡ r → whole (pos 0) ≤ℚ value_by_row d r
      by v None e = Order.≤ℚ_refl (whole (pos 0))
      by v (Some k) e = Order.≤ℚ_from_not_above (whole (pos 0)) (constant_at d k) (λ below. not_required (k, (row_some d v k e).0, below))

  values_meet : Meets d values (whole (pos 0) -ℚ constant_at d (length d.basic))
  values_meet =
      record {
        sized = length-map-range_with_len (λ v. value_by_row d (row_of_basic d v)) 0 (d.variables + 1);
        rows = λ k h. row_at_listed d k (λ v. value_by_row d (row_of_basic d v)) ∙ ap (λ u. u -ℚ constant_at d k) (values_in_row s d is k h) ∙ itself (constant_at d k);
        objective_row = row_at_listed d (length d.basic) (λ v. value_by_row d (row_of_basic d v)) ∙ ap (λ u. u -ℚ constant_at d (length d.basic)) (values_in_last s d is);
      }
    where
      itself : (a : Number) → a -ℚ a ≡ whole (pos 0)
      itself a = simp ring_ℚ

  -- ---- phase 2
  module _ (second : ¬ (InPhaseOne d)) where
    not_basic : row_of_basic d 0 ≡ None
    not_basic = no_row_of d 0 (λ k h at. second (k, h, at))

    values_zero : value_of_column values 0 ≡ whole (pos 0)
    values_zero = listed_at (λ v. value_by_row d (row_of_basic d v)) (d.variables + 1) 0 (omega arith) ∙ ap (value_by_row d) not_basic

    values_first : Meets (first_dictionary s) values (whole (pos 0) -ℚ constant_at d (length d.basic))
    values_first = (is.same values (whole (pos 0) -ℚ constant_at d (length d.basic)) (λ _. values_zero)).0 values_meet

    pub values_keep : KeepsRows s values
    values_keep =
        All-from_get_or (λ (row : form.StandardRow). sum_at row.entries values ≤ℚ row.right) s.rows no_row
        (λ r h.
        let row = slice_index_or s.rows r no_row in
        let slack = value_of_column values (length s.objective + 1 + r) in
        let equal = sym (first_row_at s values values_zero r h (within r no_row h)) ∙ values_first.rows r (omega (arith, length-range_with_len (length s.objective + 1) (length s.rows))) in
        ≤ℚ_from (at_least (length s.objective + 1 + r)) (balanced (sum_at row.entries values) slack row.right equal))
      where
        at_least : (v : ℕ) → whole (pos 0) ≤ℚ value_of_column values v
        at_least v =
            elim (cases_lt v (length values)) [
              | inl h ↦ values_above v (whole (pos 0)) h
              | inr h ↦ subst (λ x. whole (pos 0) ≤ℚ x) (sym (get_or_past values v (whole (pos 0)) h)) (Order.≤ℚ_refl (whole (pos 0)))
            ]

        balanced : (a b c : Number) → (a +ℚ b) -ℚ c ≡ whole (pos 0) → a +ℚ b ≡ c +ℚ whole (pos 0)
        balanced a b c e = apart a b c ∙ ap (λ u. u +ℚ c) e ∙ joined c
          where
            apart : (a b c : Number) → a +ℚ b ≡ ((a +ℚ b) -ℚ c) +ℚ c
            apart a b c = simp ring_ℚ

            joined : (c : Number) → whole (pos 0) +ℚ c ≡ c +ℚ whole (pos 0)
            joined c = simp ring_ℚ

    pub values_objective : objective_at s values ≡ whole (pos 0) -ℚ constant_at d (length d.basic)
    values_objective = sym (first_last_at s values values_zero) ∙ values_first.objective_row

    -- ---- a ray
    module _ (q : ℕ) (unlimited : IsUnlimited Legal d q) where
      abbrev pub changes : List Number
      changes = map (λ v. change_by_row d q v (row_of_basic d v)) (all_variables d)

      free_q : (k : ℕ) → k < length d.basic → basic_at d k ≢ q
      free_q k h at = unlimited.1.not_basic (k, h, get_or_default d.basic k q 0 h ∙ at)

      pub changes_above : AreAtLeastZero changes
      changes_above = listed_above (change_of s d is q) (d.variables + 1) (λ v. by v (row_of_basic d v) refl)
        where
          test : (t : Bool) → whole (pos 0) ≤ℚ cond t (whole (pos 1)) (whole (pos 0))
          test true = zero-≤ℚ-one
          test false = Order.≤ℚ_refl (whole (pos 0))

          by : (v : ℕ) (r : Option ℕ) → row_of_basic d v ≡ r → whole (pos 0) ≤ℚ change_by_row d q v r
          by v None e = test (q == v)
          by v (Some k) e = neg-zero-≤ℚ (entry_at d k q) (Order.≤ℚ_from_not_above (entry_at d k q) (whole (pos 0)) (λ above. unlimited.2 k ((row_some d v k e).0, above)))

      abbrev moved : List Number
      moved = map (λ v. value_by_row d (row_of_basic d v) +ℚ change_by_row d q v (row_of_basic d v)) (all_variables d)

      both_sums : (i : ℕ) → sum_by_ℚ (λ v. entry_at d i v *ℚ (value_by_row d (row_of_basic d v) +ℚ change_by_row d q v (row_of_basic d v))) (range_with_len 0 (d.variables + 1)) ≡ sum_by_ℚ (λ v. entry_at d i v *ℚ value_by_row d (row_of_basic d v)) (range_with_len 0 (d.variables + 1)) +ℚ sum_by_ℚ (λ v. entry_at d i v *ℚ change_by_row d q v (row_of_basic d v)) (range_with_len 0 (d.variables + 1))
      both_sums i =
          sum_by_same (λ v. entry_at d i v *ℚ (value_by_row d (row_of_basic d v) +ℚ change_by_row d q v (row_of_basic d v))) (λ v. entry_at d i v *ℚ value_by_row d (row_of_basic d v) +ℚ entry_at d i v *ℚ change_by_row d q v (row_of_basic d v)) (range_with_len 0 (d.variables + 1)) (λ v. apart (entry_at d i v) (value_by_row d (row_of_basic d v)) (change_by_row d q v (row_of_basic d v)))
          ∙ sum_by_ℚ-+ℚ (λ v. entry_at d i v *ℚ value_by_row d (row_of_basic d v)) (λ v. entry_at d i v *ℚ change_by_row d q v (row_of_basic d v)) (range_with_len 0 (d.variables + 1))
        where
          apart : (a x y : Number) → a *ℚ (x +ℚ y) ≡ a *ℚ x +ℚ a *ℚ y
          apart a x y = simp ring_ℚ

      moved_meet : Meets d moved ((whole (pos 0) +ℚ entry_at d (length d.basic) q) -ℚ constant_at d (length d.basic))
      moved_meet =
          record {
            sized = length-map-range_with_len (λ v. value_by_row d (row_of_basic d v) +ℚ change_by_row d q v (row_of_basic d v)) 0 (d.variables + 1);
            rows = λ k h.
                row_at_listed d k (λ v. value_by_row d (row_of_basic d v) +ℚ change_by_row d q v (row_of_basic d v))
                ∙ ap (λ u. u -ℚ constant_at d k) (both_sums k ∙ ap₂ (λ u w. u +ℚ w) (values_in_row s d is k h) (changes_in_row s d is q free_q unlimited.1.there k h))
                ∙ itself (constant_at d k);
            objective_row =
                row_at_listed d (length d.basic) (λ v. value_by_row d (row_of_basic d v) +ℚ change_by_row d q v (row_of_basic d v))
                ∙ ap (λ u. u -ℚ constant_at d (length d.basic)) (both_sums (length d.basic) ∙ ap₂ (λ u w. u +ℚ w) (values_in_last s d is) (changes_in_last s d is q free_q unlimited.1.there));
          }
        where
          itself : (a : Number) → (a +ℚ whole (pos 0)) -ℚ a ≡ whole (pos 0)
          itself a = simp ring_ℚ

      changes_zero : value_of_column changes 0 ≡ whole (pos 0)
      changes_zero =
          listed_at (λ v. change_by_row d q v (row_of_basic d v)) (d.variables + 1) 0 (omega arith) ∙ ap (change_by_row d q 0) not_basic ∙ by (q == 0) refl
        where
          by : (t : Bool) → (q == 0) ≡ t → cond t (whole (pos 1)) (whole (pos 0)) ≡ whole (pos 0)
          by true e = absurd (unlimited.1.other (equal_numbers q 0 e))
          by false e = refl

      moved_zero : value_of_column moved 0 ≡ whole (pos 0)
      moved_zero =
          listed_at (λ v. value_by_row d (row_of_basic d v) +ℚ change_by_row d q v (row_of_basic d v)) (d.variables + 1) 0 (omega arith)
          ∙ ap₂ (λ u w. u +ℚ w) (sym (listed_at (λ v. value_by_row d (row_of_basic d v)) (d.variables + 1) 0 (omega arith)) ∙ values_zero) (sym (listed_at (λ v. change_by_row d q v (row_of_basic d v)) (d.variables + 1) 0 (omega arith)) ∙ changes_zero)
          ∙ simp ring_ℚ

      moved_first : Meets (first_dictionary s) moved ((whole (pos 0) +ℚ entry_at d (length d.basic) q) -ℚ constant_at d (length d.basic))
      moved_first = (is.same moved ((whole (pos 0) +ℚ entry_at d (length d.basic) q) -ℚ constant_at d (length d.basic)) (λ _. moved_zero)).0 moved_meet

      -- what the ray does to each row, and to the objective
      row_along : (r : ℕ) → r < length s.rows → sum_at (slice_index_or s.rows r no_row).entries changes +ℚ value_of_column changes (length s.objective + 1 + r) ≡ whole (pos 0)
      row_along r h =
          let row = slice_index_or s.rows r no_row in
          let v = length s.objective + 1 + r in
          let low : v < d.variables + 1 = omega (arith, is.variables) in
          let in_first : r < length (first_dictionary s).basic = omega (arith, length-range_with_len (length s.objective + 1) (length s.rows)) in
          let at_values = sym (first_row_at s values values_zero r h (within r no_row h)) ∙ values_first.rows r in_first in
          let at_moved = sym (first_row_at s moved moved_zero r h (within r no_row h)) ∙ moved_first.rows r in_first in
          let sums = added_sum (λ v. value_by_row d (row_of_basic d v)) (λ v. change_by_row d q v (row_of_basic d v)) (length s.objective) (d.variables + 1) row.entries (within r no_row h) (omega (arith, is.variables)) in
          let slacks : value_of_column moved v ≡ value_of_column values v +ℚ value_of_column changes v = listed_at (λ v. value_by_row d (row_of_basic d v) +ℚ change_by_row d q v (row_of_basic d v)) (d.variables + 1) v low ∙ sym (ap₂ (λ u w. u +ℚ w) (listed_at (λ v. value_by_row d (row_of_basic d v)) (d.variables + 1) v low) (listed_at (λ v. change_by_row d q v (row_of_basic d v)) (d.variables + 1) v low)) in
          apart (sum_at row.entries values) (value_of_column values v) (sum_at row.entries changes) (value_of_column changes v) row.right
          ∙ ap₂ (λ u w. (u +ℚ w) -ℚ row.right -ℚ ((sum_at row.entries values +ℚ value_of_column values v) -ℚ row.right)) (sym sums) (sym slacks)
          ∙ ap₂ (λ u w. u -ℚ w) at_moved at_values
          ∙ simp ring_ℚ
        where
          apart : (a b x y c : Number) → x +ℚ y ≡ ((a +ℚ x) +ℚ (b +ℚ y)) -ℚ c -ℚ ((a +ℚ b) -ℚ c)
          apart a b x y c = simp ring_ℚ

      pub rows_along : All (λ (row : form.StandardRow). sum_at row.entries changes ≤ℚ whole (pos 0)) s.rows
      rows_along =
          All-from_get_or (λ (row : form.StandardRow). sum_at row.entries changes ≤ℚ whole (pos 0)) s.rows no_row
          (λ r h. let row = slice_index_or s.rows r no_row in ≤ℚ_from (at_least (length s.objective + 1 + r)) (balanced (sum_at row.entries changes) (value_of_column changes (length s.objective + 1 + r)) (row_along r h)))
        where
          at_least : (v : ℕ) → whole (pos 0) ≤ℚ value_of_column changes v
          at_least v =
              elim (cases_lt v (length changes)) [
                | inl h ↦ changes_above v (whole (pos 0)) h
                | inr h ↦ subst (λ x. whole (pos 0) ≤ℚ x) (sym (get_or_past changes v (whole (pos 0)) h)) (Order.≤ℚ_refl (whole (pos 0)))
              ]

          balanced : (a b : Number) → a +ℚ b ≡ whole (pos 0) → a +ℚ b ≡ whole (pos 0) +ℚ whole (pos 0)
          balanced a b e = e ∙ simp ring_ℚ

      enumerated_within : (a : ℕ) (xs : List Number) → 1 ≤ a → a + length xs ≤ 1 + length s.objective → Within (length s.objective) (enumerate_from a xs)
      enumerated_within a [] low high = All-nil (λ (e : ℕ × Number). (1 ≤ e.0) × (e.0 < 1 + length s.objective))
      enumerated_within a (x ∷ xs) low high =
          All-cons (λ (e : ℕ × Number). (1 ≤ e.0) × (e.0 < 1 + length s.objective)) (a, x) (enumerate_from (a + 1) xs) (omega arith, omega arith) (enumerated_within (a + 1) xs (omega arith) (omega arith))

      pub objective_along : whole (pos 0) <ℚ sum_at (enumerate_from 1 s.objective) changes
      objective_along =
          let entries = enumerate_from 1 s.objective in
          let e = entry_at d (length d.basic) q in
          let c = constant_at d (length d.basic) in
          let at_moved = sym (first_last_at s moved moved_zero) ∙ moved_first.objective_row in
          let sums = added_sum (λ v. value_by_row d (row_of_basic d v)) (λ v. change_by_row d q v (row_of_basic d v)) (length s.objective) (d.variables + 1) entries (enumerated_within 1 s.objective (omega arith) (omega arith)) (omega (arith, is.variables)) in
          let is_entry : sum_at entries changes ≡ e = apart s.constant (sum_at entries values) (sum_at entries changes) ∙ ap₂ (λ u w. u -ℚ w) (ap (λ u. s.constant +ℚ u) (sym sums) ∙ at_moved) values_objective ∙ rest e c in
          subst (λ u. whole (pos 0) <ℚ u) (sym is_entry) (unlimited.1.above (length d.basic) (inr (second, refl)))
        where
          apart : (k a x : Number) → x ≡ (k +ℚ (a +ℚ x)) -ℚ (k +ℚ a)
          apart k a x = simp ring_ℚ

          rest : (e c : Number) → ((whole (pos 0) +ℚ e) -ℚ c) -ℚ (whole (pos 0) -ℚ c) ≡ e
          rest e c = simp ring_ℚ

  -- ---- coefficients of the priced row
  abbrev pub costs : List Number
  costs = map (λ v. cost_by_row d (priced_row d) v (row_of_basic d v)) (all_variables d)

  module _ (priced : ℕ) (row_is : priced_row d ≡ priced) (within_bound : priced ≤ length d.basic) (own : (k : ℕ) → k < length d.basic → priced ≡ k → basic_at d k ≡ 0) where
    cost_is : (v : ℕ) → 1 ≤ v → v < d.variables + 1 → value_of_column costs v ≡ entry_at d priced v
    cost_is v past low = listed_at (λ v. cost_by_row d (priced_row d) v (row_of_basic d v)) (d.variables + 1) v low ∙ ap (λ k. cost_by_row d k v (row_of_basic d v)) row_is ∙ by (row_of_basic d v) refl
      where
        by : (r : Option ℕ) → row_of_basic d v ≡ r → cost_by_row d priced v r ≡ entry_at d priced v
        by None e = refl
        by (Some k) e =
            let found = row_some d v k e in
            let other : priced ≢ k = λ same. absurd (let clash : v ≡ 0 = sym found.1 ∙ own k found.0 same in omega arith) in
            sym (ap (entry_at d priced) (sym found.1) ∙ is.alone priced k within_bound found.0 other)

    -- the value of the coefficients, if the values extend to a list whose sum in the priced row is
    -- known
    pub priced_sum : (y : List Number) (total : Number) (sized : length y ≡ length s.objective + 1) → value_of_column y 0 ≡ whole (pos 0) → sum_by_ℚ (λ v. entry_at d priced v *ℚ value_of_column (filled s y) v) (range_with_len 0 (d.variables + 1)) ≡ total → priced_at s costs y ≡ total
    priced_sum y total sized zero_there e =
        let n = length s.objective in
        let m = length s.rows in
        let g = λ (v : ℕ). value_of_column costs v *ℚ value_of_column (filled s y) v in
        let all : sum_by_ℚ g (range_with_len 1 (n + m)) ≡ total =
        range_same g (λ v. entry_at d priced v *ℚ value_of_column (filled s y) v) 1 (n + m) (λ v low high. ap (λ u. u *ℚ value_of_column (filled s y) v) (cost_is v low (omega (arith, is.variables))))
        ∙ sym (without_zero (n + m) (λ v. entry_at d priced v *ℚ value_of_column (filled s y) v) (ap (λ u. entry_at d priced 0 *ℚ u) (filled_zero s y sized zero_there within) ∙ *ℚ-zero (entry_at d priced 0)))
        ∙ ap (λ k. sum_by_ℚ (λ v. entry_at d priced v *ℚ value_of_column (filled s y) v) (range_with_len 0 (k + 1))) (sym is.variables)
        ∙ e in
        ap₂ (λ u w. u +ℚ w)
        (range_same (λ v. value_of_column costs v *ℚ value_of_column y v) g 1 n (λ v low high. ap (λ u. value_of_column costs v *ℚ u) (sym (filled_other s y sized v (omega arith)))))
        (sym (placed_sum (value_of_column costs) (λ (row : form.StandardRow). row.right -ℚ sum_at row.entries y) (n + 1) s.rows)
        ∙ range_same (λ v. value_of_column costs v *ℚ value_of_column (map (λ (row : form.StandardRow). row.right -ℚ sum_at row.entries y) s.rows) (v - (n + 1))) g (n + 1) m (λ v low high. ap (λ u. value_of_column costs v *ℚ u) (following v low (omega arith)))
        ∙ ap (λ a. sum_by_ℚ g (range_with_len a m)) (let c : n + 1 ≡ 1 + n = omega arith in c))
        ∙ sym (sum_by_ℚ-append g (range_with_len 1 n) (range_with_len (1 + n) m)) ∙ ap (sum_by_ℚ g) (sym (range-append 1 n m)) ∙ all
      where
        following : (v : ℕ) → length s.objective + 1 ≤ v → v < length s.objective + 1 + length s.rows → value_of_column (map (λ (row : form.StandardRow). row.right -ℚ sum_at row.entries y) s.rows) (v - (length s.objective + 1)) ≡ value_of_column (filled s y) v
        following v low high =
            let r = v - (length s.objective + 1) in
            sym (ap (λ k. value_of_column (filled s y) k) (let c : v ≡ length y + r = omega (arith, sized) in c) ∙ get_or-append-add y (map (λ (row : form.StandardRow). row.right -ℚ sum_at row.entries y) s.rows) r (whole (pos 0)))

    -- no coefficient is above 0
    pub costs_below : NothingImproves d → ((k : ℕ) → IsPriced d k → k ≡ priced) → (v : ℕ) → 1 ≤ v → value_of_column costs v ≤ℚ whole (pos 0)
    costs_below nothing only v past =
        elim (cases_lt v (d.variables + 1)) [
          | inl low ↦ subst (λ u. u ≤ℚ whole (pos 0)) (sym (cost_is v past low)) (by low (row_of_basic d v) refl)
          | inr high ↦ subst (λ u. u ≤ℚ whole (pos 0)) (sym (get_or_past costs v (whole (pos 0)) (omega (arith, length-map-range_with_len (λ v. cost_by_row d (priced_row d) v (row_of_basic d v)) 0 (d.variables + 1))))) (Order.≤ℚ_refl (whole (pos 0)))
        ]
      where
        by : v < d.variables + 1 → (r : Option ℕ) → row_of_basic d v ≡ r → entry_at d priced v ≤ℚ whole (pos 0)
        by low None e =
            Order.≤ℚ_from_not_above (entry_at d priced v) (whole (pos 0))
            (λ above. nothing.1 v (record {
              other = omega arith;
              there = omega arith;
              not_basic = λ basic. row_none d v e basic.0 basic.1 (get_or_default d.basic basic.0 0 v basic.1 ∙ basic.2);
              above = λ k h. subst (λ j. whole (pos 0) <ℚ entry_at d j v) (sym (only k h)) above;
            }))
        by low (Some k) e =
            let found = row_some d v k e in
            let other : priced ≢ k = λ same. absurd (let clash : v ≡ 0 = sym found.1 ∙ own k found.0 same in omega arith) in
            Order.≤ℚ_from_≡ (entry_at d priced v) (whole (pos 0)) (ap (entry_at d priced) (sym found.1) ∙ is.alone priced k within_bound found.0 other)

  -- in phase 2 the priced row is the objective
  pub optimal_costs : ¬ (InPhaseOne d) → NothingImproves d → Costs s costs (constant_at d (length d.basic)) (objective_at s)
  optimal_costs second nothing =
      let last = length d.basic in
      let row_is : priced_row d ≡ length d.basic = ap (λ r. unwrap_or r (length d.basic)) (not_basic second) in
      let own : (k : ℕ) → k < length d.basic → length d.basic ≡ k → basic_at d k ≡ 0 = λ k h same. absurd (omega arith) in
      record {
        sums = λ y sized zero_there.
            let x = filled s y in
            let met = (is.same x (objective_at s y) (λ _. filled_zero s y sized zero_there within)).1 (filled_meets s y sized zero_there within) in
            priced_sum (length d.basic) row_is (omega arith) own y (constant_at d (length d.basic) +ℚ objective_at s y) sized zero_there (moved_over _ (constant_at d (length d.basic)) (objective_at s y) met.objective_row);
        below = costs_below (length d.basic) row_is (omega arith) own nothing (λ k h. by k h);
      }
    where
      by : (k : ℕ) → IsPriced d k → k ≡ length d.basic
      by k (inl at) =
          let found = got d.basic k 0 0 at in
          absurd (second (k, found.0, found.1))
      by k (inr h) = h.1

  -- in phase 1 that of variable 0
  pub infeasible_costs : (phase : InPhaseOne d) → NothingImproves d → Costs s costs (constant_at d phase.0) (λ y. whole (pos 0))
  infeasible_costs phase nothing =
      let k0 = phase.0 in
      let row_is : priced_row d ≡ phase.0 = ap (λ r. unwrap_or r (length d.basic)) (subst (λ v. row_of_basic d v ≡ Some phase.0) phase.2 (own_row s d is phase.0 phase.1)) in
      let own : (k : ℕ) → k < length d.basic → phase.0 ≡ k → basic_at d k ≡ 0 = λ k h same. ap (basic_at d) (sym same) ∙ phase.2 in
      record {
        sums = λ y sized zero_there.
            let met = (is.same (filled s y) (objective_at s y) (λ _. filled_zero s y sized zero_there within)).1 (filled_meets s y sized zero_there within) in
            priced_sum phase.0 row_is (omega (arith, phase.1)) own y (constant_at d phase.0 +ℚ whole (pos 0)) sized zero_there (moved_over _ (constant_at d phase.0) (whole (pos 0)) (met.rows phase.0 phase.1));
        below = costs_below phase.0 row_is (omega (arith, phase.1)) own nothing (λ k h. by k h);
      }
    where
      by : (k : ℕ) → IsPriced d k → k ≡ phase.0
      by k (inl at) =
          let found = got d.basic k 0 0 at in
          one_place s d is k phase.0 found.0 phase.1 (found.1 ∙ sym phase.2)
      by k (inr h) = absurd (h.0 phase)

  pub infeasible_above : (phase : InPhaseOne d) → whole (pos 0) <ℚ constant_at d phase.0
  infeasible_above phase = is.zero_above phase.0 (slice_get-get_or d.basic phase.0 0 phase.1 ∙ ap Some phase.2) not_required
