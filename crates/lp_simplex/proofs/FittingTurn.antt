-- If the steps of an exchange fit, each number of the next dictionary fits; and so do the numbers
-- that are read from a final dictionary.
use Rattle.std.proofs.Common.{◌≡◌, ◌≢◌, ℕ, zero, suc, ◌+◌, ◌^◌, ◌<◌, ◌≤◌, ◌==◌, ◌&&◌, cond, not, Bool, true, true≢false, inl, inr, pos, List, [], ◌∷◌, ◌++◌, length, map, Option, Some, None, refl, sym, ◌∙◌, subst, arith}
use Rattle.std.specs.Prelude.{flat_map, filter, unwrap_or, slice_set}
use Rattle.std.specs.List.{All, range_with_len}
use Rattle.std.proofs.lemmas.Bool.{cases_Bool, cases_eq, eq-eqb, ne_eqb, not_from_false}
use Rattle.std.proofs.lemmas.List.Elements.{All-head, All-tail, All-map}
use Rattle.std.proofs.lemmas.List.Quantifiers.{position-Some}
use Rattle.gq_number.specs.Number.{whole, ◌-ℚ◌, ◌*ℚ◌}
use Rattle.lp_form.proofs.Zeros.{fits-zero}
use Rattle.lp_core.specs.declared.answer.StepName.TheVariants.{Exchange}
use Rattle.lp_core.specs.Dictionary.{Dictionary, basic_at, entry_at, divided_entry, exchanged_numbers, exchanged}
use Rattle.lp_core.specs.Steps.{ExpectedStep, AllFit, quotient_fits, product_fits, difference_fits, pivot_row_steps, other_row_steps, exchange_steps}
use Rattle.lp_core.specs.Pivots.{row_of_basic, value_by_row, change_by_row, cost_by_row, priced_row, all_variables, last_of, last_along}
use Rattle.lp_std.proofs.Sums.{All-append_left, All-append_right}
use Rattle.lp_fraction_dict.proofs.Exchanging.{length-put}
use Rattle.lp_simplex.proofs.Fitting.{Fitting, neg_within, difference_within, one_within, cond_within, range_holds}
use Rattle.lp_simplex.proofs.FittingForm.{HasFitting}

abbrev Fit : ExpectedStep → Type 0
Fit step = step.1 ≡ true

-- ---- steps for each number of a range

map_each : (f : ℕ → ExpectedStep) (a n i : ℕ) → AllFit (map f (range_with_len a n)) → a ≤ i → i < a + n → (f i).1 ≡ true
map_each f a zero i fit low high = absurd (omega arith)
map_each f a (suc n) i fit low high =
    elim (cases_eq a i) [
      | inl same ↦ subst (λ k. (f k).1 ≡ true) same (All-head Fit (f a) (map f (range_with_len (a + 1) n)) fit)
      | inr other ↦ map_each f (a + 1) n i (All-tail Fit (f a) (map f (range_with_len (a + 1) n)) fit) (omega arith) (omega arith)
    ]

joined_each : (f : ℕ → List ExpectedStep) (a n i : ℕ) → AllFit (flat_map f (range_with_len a n)) → a ≤ i → i < a + n → AllFit (f i)
joined_each f a zero i fit low high = absurd (omega arith)
joined_each f a (suc n) i fit low high =
    elim (cases_eq a i) [
      | inl same ↦ subst (λ k. AllFit (f k)) same (All-append_left Fit (f a) (flat_map f (range_with_len (a + 1) n)) fit)
      | inr other ↦ joined_each f (a + 1) n i (All-append_right Fit (f a) (flat_map f (range_with_len (a + 1) n)) fit) (omega arith) (omega arith)
    ]

-- the same of those numbers that pass a test
passing_each : (f : ℕ → List ExpectedStep) (p : ℕ → Bool) (a n i : ℕ) → AllFit (flat_map f (filter p (range_with_len a n))) → a ≤ i → i < a + n → p i ≡ true → AllFit (f i)
passing_each f p a zero i fit low high passes = absurd (omega arith)
passing_each f p a (suc n) i fit low high passes =
    let rest : List ℕ = filter p (range_with_len (a + 1) n) in
    elim (cases_Bool (p a)) [
      | inl is_true ↦
          let both : AllFit (f a ++ flat_map f rest) = subst (λ b. AllFit (flat_map f (cond b (a ∷ rest) rest))) is_true fit in
          elim (cases_eq a i) [
            | inl same ↦ subst (λ k. AllFit (f k)) same (All-append_left Fit (f a) (flat_map f rest) both)
            | inr other ↦ passing_each f p (a + 1) n i (All-append_right Fit (f a) (flat_map f rest) both) (omega arith) (omega arith) passes
          ]
      | inr is_false ↦
          let following : AllFit (flat_map f rest) = subst (λ b. AllFit (flat_map f (cond b (a ∷ rest) rest))) is_false fit in
          elim (cases_eq a i) [
            | inl same ↦ absurd (true≢false (sym (subst (λ k. p k ≡ true) (sym same) passes) ∙ is_false))
            | inr other ↦ passing_each f p (a + 1) n i following (omega arith) (omega arith) passes
          ]
    ]

-- ---- the exchange

module _ (limit : ℕ) (some : 1 ≤ limit) (small : limit < 2 ^ 127) (n : ℕ) (d : Dictionary) (q k : ℕ) (h : HasFitting limit d) (fit : AllFit (exchange_steps limit n d q k)) where
  abbrev others : List ExpectedStep
  others = flat_map (other_row_steps limit n d q k) (filter (λ i. not (i == k)) (range_with_len 0 (length d.basic + 1)))

  divided_within : (c : ℕ) → c < d.variables + 2 → Fitting limit (divided_entry d q k c)
  divided_within c less =
      map_each (λ c. (Exchange n (k + 1) c 0, quotient_fits limit (d.numbers k c) (entry_at d k q))) 0 (d.variables + 2) c (All-append_left Fit (pivot_row_steps limit n d q k) others fit) (omega arith) (omega arith)

  abbrev step_pair : ℕ → ℕ → List ExpectedStep
  step_pair i c =
      (Exchange n (i + 1) c 0, product_fits limit (entry_at d i q) (divided_entry d q k c))
      ∷ (Exchange n (i + 1) c 1, difference_fits limit (d.numbers i c) (entry_at d i q *ℚ divided_entry d q k c)) ∷ []

  lessened_within : (i c : ℕ) → i < length d.basic + 1 → i ≢ k → c < d.variables + 2 → Fitting limit (d.numbers i c -ℚ entry_at d i q *ℚ divided_entry d q k c)
  lessened_within i c within other less =
      let row : AllFit (other_row_steps limit n d q k i) =
      passing_each (other_row_steps limit n d q k) (λ i. not (i == k)) 0 (length d.basic + 1) i (All-append_right Fit (pivot_row_steps limit n d q k) others fit) (omega arith) (omega arith) (not_from_false (i == k) (ne_eqb i k other)) in
      let both : AllFit (step_pair i c) = joined_each (step_pair i) 0 (d.variables + 2) c row (omega arith) (omega arith) in
      let product : ExpectedStep = (Exchange n (i + 1) c 0, product_fits limit (entry_at d i q) (divided_entry d q k c)) in
      let difference : ExpectedStep = (Exchange n (i + 1) c 1, difference_fits limit (d.numbers i c) (entry_at d i q *ℚ divided_entry d q k c)) in
      difference_within limit (d.numbers i c) (entry_at d i q *ℚ divided_entry d q k c) small (h.each i c within less) (All-head Fit product (difference ∷ []) both) (All-head Fit difference [] (All-tail Fit product (difference ∷ []) both))

  numbers_within : (i c : ℕ) → i < length d.basic + 1 → c < d.variables + 2 → Fitting limit (exchanged_numbers d q k i c)
  numbers_within i c within less =
      elim (cases_eq i k) [
        | inl same ↦ subst (λ b. Fitting limit (cond b (divided_entry d q k c) (d.numbers i c -ℚ entry_at d i q *ℚ divided_entry d q k c))) (sym (eq-eqb i k same)) (divided_within c less)
        | inr other ↦ subst (λ b. Fitting limit (cond b (divided_entry d q k c) (d.numbers i c -ℚ entry_at d i q *ℚ divided_entry d q k c))) (sym (ne_eqb i k other)) (lessened_within i c within other less)
      ]

  pub turn_within : HasFitting limit (exchanged d q k)
  turn_within =
      let size : length (slice_set d.basic k q) ≡ length d.basic = length-put d.basic k q in
      record {
        each = λ i c within less.
            cond_within limit (basic_at d k == 0 && c == 1) (whole (pos 0)) (exchanged_numbers d q k i c) (fits-zero limit some) (numbers_within i c (omega arith) less);
      }

-- ---- what is read from a final dictionary

module _ (limit : ℕ) (some : 1 ≤ limit) (d : Dictionary) (h : HasFitting limit d) where
  row_there : (v k : ℕ) → row_of_basic d v ≡ Some k → k < length d.basic
  row_there v k at = (position-Some (λ b. b == v) d.basic k 0 at).0

  priced_there : (o : Option ℕ) → row_of_basic d 0 ≡ o → unwrap_or o (length d.basic) < length d.basic + 1
  priced_there None none = omega arith
  priced_there (Some k) at = let within = row_there 0 k at in omega arith

  value_within : (v : ℕ) (o : Option ℕ) → row_of_basic d v ≡ o → Fitting limit (value_by_row d o)
  value_within v None none = fits-zero limit some
  value_within v (Some k) at = let within = row_there v k at in h.each k 0 (omega arith) (omega arith)

  cost_within : (v : ℕ) (o : Option ℕ) → v < d.variables + 1 → Fitting limit (cost_by_row d (priced_row d) v o)
  cost_within v None less = h.each (priced_row d) (v + 1) (priced_there (row_of_basic d 0) refl) (omega arith)
  cost_within v (Some k) less = fits-zero limit some

  change_within : (q v : ℕ) (o : Option ℕ) → row_of_basic d v ≡ o → q < d.variables + 1 → Fitting limit (change_by_row d q v o)
  change_within q v None none less = cond_within limit (q == v) (whole (pos 1)) (whole (pos 0)) (one_within limit some) (fits-zero limit some)
  change_within q v (Some k) at less = let within = row_there v k at in neg_within limit (entry_at d k q) (h.each k (q + 1) (omega arith) (omega arith))

  pub values_within : All (Fitting limit) (last_of d).values
  values_within =
      All-map (Fitting limit) (λ v. value_by_row d (row_of_basic d v)) (all_variables d) (range_holds (λ v. Fitting limit (value_by_row d (row_of_basic d v))) 0 (d.variables + 1) (λ v low high. value_within v (row_of_basic d v) refl))

  pub costs_within : All (Fitting limit) (last_of d).costs
  costs_within =
      All-map (Fitting limit) (λ v. cost_by_row d (priced_row d) v (row_of_basic d v)) (all_variables d) (range_holds (λ v. Fitting limit (cost_by_row d (priced_row d) v (row_of_basic d v))) 0 (d.variables + 1) (λ v low high. cost_within v (row_of_basic d v) (omega arith)))

  pub changes_within : (q : ℕ) → q ≤ d.variables → All (Fitting limit) (last_along d q).changes
  changes_within q there =
      All-map (Fitting limit) (λ v. change_by_row d q v (row_of_basic d v)) (all_variables d) (range_holds (λ v. Fitting limit (change_by_row d q v (row_of_basic d v))) 0 (d.variables + 1) (λ v low high. change_within q v (row_of_basic d v) refl (omega arith)))
