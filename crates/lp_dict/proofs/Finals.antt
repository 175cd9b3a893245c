-- What is read off a dictionary is what its definition says.
use Rattle.std.proofs.Common.{◌≡◌, ◌≢◌, ℕ, ◌+◌, ◌<◌, ◌≤◌, inl, inr, pos, cond, List, [], ◌∷◌, ◌++◌, length, map, Some, None, sym, ap, ◌∙◌, subst, arith}
use Rattle.std.specs.Prelude.{slice_get, slice_set, Contains, unwrap_or}
use Rattle.std.proofs.lemmas.Bool.{cases_eq, cases_lt, eq-eqb, ne_eqb}
use Rattle.std.proofs.lemmas.List.{length-map, length_push, map_push}
use Rattle.gq_number.specs.Number.{Number, whole, neg_ℚ}
use Rattle.gq_number.proofs.Ring.{neg-zero}
use Rattle.lp_core.specs.Sums.{value_of_column}
use Rattle.lp_core.specs.Dictionary.{Dictionary, entry_at, IsPriced}
use Rattle.lp_core.specs.Pivots.{row_of_basic, value_by_row, change_by_row, cost_by_row, priced_row, last_of, last_along}
use Rattle.lp_fraction_dict.specs.Pivots.{IsProper}
use Rattle.lp_fraction_dict.specs.Reading.{AreNumbers, AreChanges}
use Rattle.lp_fraction_dict.proofs.Kept.{get_within, contains_get}
use Rattle.lp_fraction_dict.proofs.Improving.{found_or_not}
use Rattle.lp_fraction_dict.proofs.Exchanging.{length-put}
use Rattle.lp_fraction_dict.proofs.Filling.{push_here, push_other}
use Rattle.lp_fraction_dict.proofs.Lists.{list_is, place_is, no_place, put_number, other_number}
use Rattle.lp_dict.specs.InnerReading.{AreByVariable, AreOfRow}

some_is : (a b : ℕ) → Some a ≡ Some b → a ≡ b
some_is a b e = cc

module _ (d : Dictionary) (proper : IsProper d) where
  place : (k v : ℕ) → slice_get d.basic k ≡ Some v → row_of_basic d v ≡ Some k
  place k v at = place_is d.basic k v proper.distinct at

  no_row : (v : ℕ) → ¬ (Contains d.basic v) → row_of_basic d v ≡ None
  no_row v none = no_place d.basic v none

  -- ---- the row by which pivots are chosen

  pub priced_of_place : (k : ℕ) → slice_get d.basic k ≡ Some 0 → priced_row d ≡ k
  priced_of_place k at = ap (λ o. unwrap_or o (length d.basic)) (place k 0 at)

  pub priced_after : ¬ (Contains d.basic 0) → priced_row d ≡ length d.basic
  priced_after none = ap (λ o. unwrap_or o (length d.basic)) (no_row 0 none)

  pub priced_is : (k : ℕ) → IsPriced d k → priced_row d ≡ k
  priced_is k (inl at) = priced_of_place k at
  priced_is k (inr following) = priced_after following.0 ∙ sym following.1

  pub priced_within : priced_row d ≤ length d.basic
  priced_within =
      elim (found_or_not d.basic 0) [
        | inl found ↦ let within = get_within d.basic found.0 0 found.1 in let same = priced_of_place found.0 found.1 in omega arith
        | inr none ↦ let same = priced_after none in omega arith
      ]

  -- ---- lists with a number for each variable

  module _ {F : Type 0} (value : F → Number) where
    pub variables_begin : (list : List F) (count column : ℕ) → AreNumbers value count list → AreByVariable value d count column 0 list
    variables_begin list count column h =
        record { sized = h.sized; here = λ k v less at. absurd (omega arith); elsewhere = λ v none. h.zeros v }

    pub variables_more : (list made : List F) (count column n w : ℕ) (x : F) → AreByVariable value d count column n list → slice_get d.basic n ≡ Some w → w < count → value x ≡ d.numbers n column → made ≡ slice_set list w x → AreByVariable value d count column (n + 1) made
    variables_more list made count column n w x h at less is made_is =
        let size = h.sized in
        record {
          sized = ap length made_is ∙ length-put list w x ∙ h.sized;
          here = λ k v to there. elim (cases_eq v w) [
            | inl same ↦
                let row : k ≡ n = proper.distinct k n v there (at ∙ ap Some (sym same)) in
                ap (λ l. value_of_column (map value l) v) made_is ∙ ap (value_of_column (map value (slice_set list w x))) same ∙ put_number value list w x (omega arith) ∙ is ∙ ap (λ i. d.numbers i column) (sym row)
            | inr other ↦ ap (λ l. value_of_column (map value l) v) made_is ∙ other_number value list w v x other ∙ h.here k v (earlier k v to there other) there
          ];
          elsewhere = λ v none. ap (λ l. value_of_column (map value l) v) made_is ∙ other_number value list w v x (λ same. none n (omega arith) (at ∙ ap Some (sym same))) ∙ h.elsewhere v (λ k to. none k (omega arith));
        }
      where
        earlier : (k v : ℕ) → k < n + 1 → slice_get d.basic k ≡ Some v → v ≢ w → k < n
        earlier k v to there other =
            elim (cases_lt k n) [ inl before ↦ before | inr here ↦ let same : k ≡ n = omega arith in absurd (other (some_is v w (sym there ∙ ap (slice_get d.basic) same ∙ at))) ]

    -- a row, number by number
    pub row_begins : (row : ℕ) (list : List F) → list ≡ [] → AreOfRow value d row 0 list
    row_begins row list none = record { sized = ap length none; each = λ v less. absurd (omega arith) }

    pub row_more : (row n : ℕ) (list made : List F) (x : F) → AreOfRow value d row n list → value x ≡ entry_at d row n → made ≡ list ++ x ∷ [] → AreOfRow value d row (n + 1) made
    row_more row n list made x h is made_is =
        let size = h.sized in
        let mapped : map value made ≡ map value list ++ value x ∷ [] = ap (map value) made_is ∙ map_push value list x in
        let counted = length-map list value in
        record {
          sized = ap length made_is ∙ length_push list x ∙ ap (λ m. m + 1) h.sized;
          each = λ v less. elim (cases_lt v n) [
            | inl early ↦ ap (λ l. value_of_column l v) mapped ∙ push_other (map value list) (value x) (whole (pos 0)) v (omega arith) ∙ h.each v early
            | inr late ↦
                let same : n ≡ v = omega arith in
                subst (λ i. value_of_column (map value made) i ≡ entry_at d row i) same (ap (λ l. value_of_column l n) mapped ∙ push_here (map value list) (value x) (whole (pos 0)) n (omega arith) ∙ is)
          ];
        }

    pub values_are : (list : List F) → AreByVariable value d (d.variables + 1) 0 (length d.basic) list → map value list ≡ (last_of d).values
    values_are list h =
        list_is (map value list) (d.variables + 1) (λ v. value_by_row d (row_of_basic d v)) (length-map list value ∙ h.sized) (λ v less. elim (found_or_not d.basic v) [
          | inl found ↦ h.here found.0 v (get_within d.basic found.0 v found.1) found.1 ∙ sym (ap (value_by_row d) (place found.0 v found.1))
          | inr none ↦ h.elsewhere v (λ k to at. none (contains_get d.basic k v at)) ∙ sym (ap (value_by_row d) (no_row v none))
        ])

    -- ---- the costs

    abbrev cost : ℕ → ℕ → Number
    cost k v = cost_by_row d k v (row_of_basic d v)

    basic_costs : (k i v : ℕ) → slice_get d.basic k ≡ Some v → cost i v ≡ whole (pos 0)
    basic_costs k i v at = ap (cost_by_row d i v) (place k v at)

    other_costs : (i v : ℕ) → ¬ (Contains d.basic v) → cost i v ≡ entry_at d i v
    other_costs i v none = ap (cost_by_row d i v) (no_row v none)

    -- the numbers of the priced row, at variables that are not basic in it
    numbers_of_costs : (list : List F) → AreOfRow value d (priced_row d) (d.variables + 1) list → (v : ℕ) → v < d.variables + 1 → ((k : ℕ) → slice_get d.basic k ≡ Some v → priced_row d ≢ k) → value_of_column (map value list) v ≡ cost (priced_row d) v
    numbers_of_costs list h v less apart =
        h.each v less ∙ elim (found_or_not d.basic v) [
          | inl found ↦ proper.apart found.0 (priced_row d) v found.1 (apart found.0 found.1) ∙ sym (basic_costs found.0 (priced_row d) v found.1)
          | inr free ↦ sym (other_costs (priced_row d) v free)
        ]

    pub costs_of_objective : (list : List F) → length d.basic ≤ priced_row d → AreOfRow value d (priced_row d) (d.variables + 1) list → map value list ≡ (last_of d).costs
    costs_of_objective list following h =
        list_is (map value list) (d.variables + 1) (cost (priced_row d)) (length-map list value ∙ h.sized) (λ v less. numbers_of_costs list h v less (λ k at same. let within = get_within d.basic k v at in absurd (omega arith)))

    zero_there : priced_row d < length d.basic → slice_get d.basic (priced_row d) ≡ Some 0
    zero_there less =
        elim (found_or_not d.basic 0) [
          | inl found ↦ subst (λ k. slice_get d.basic k ≡ Some 0) (sym (priced_of_place found.0 found.1)) found.1
          | inr none ↦ let same = priced_after none in absurd (omega arith)
        ]

    pub costs_of_row : (list made : List F) (x : F) → priced_row d < length d.basic → AreOfRow value d (priced_row d) (d.variables + 1) list → value x ≡ whole (pos 0) → made ≡ slice_set list 0 x → map value made ≡ (last_of d).costs
    costs_of_row list made x within h none made_is =
        let size = h.sized in
        list_is (map value made) (d.variables + 1) (cost (priced_row d)) (length-map made value ∙ ap length made_is ∙ length-put list 0 x ∙ h.sized) (λ v less. elim (cases_eq v 0) [
          | inl same ↦
              ap (λ l. value_of_column (map value l) v) made_is ∙ ap (value_of_column (map value (slice_set list 0 x))) same ∙ put_number value list 0 x (omega arith) ∙ none
              ∙ sym (basic_costs (priced_row d) (priced_row d) v (zero_there within ∙ ap Some (sym same)))
          | inr other ↦
              ap (λ l. value_of_column (map value l) v) made_is ∙ other_number value list 0 v x other
              ∙ numbers_of_costs list h v less (λ k at same. other (some_is v 0 (sym at ∙ ap (slice_get d.basic) (sym same) ∙ zero_there within)))
        ])

    -- ---- the ray

    abbrev change : ℕ → ℕ → Number
    change q v = change_by_row d q v (row_of_basic d v)

    pub changes_are : (q : ℕ) (numbers list : List F) → ¬ (Contains d.basic q) → AreByVariable value d (d.variables + 1) (q + 1) (length d.basic) numbers → AreChanges value numbers q list → map value list ≡ (last_along d q).changes
    changes_are q numbers list none h ch =
        list_is (map value list) (d.variables + 1) (change q) (length-map list value ∙ ch.sized ∙ h.sized) (λ v less. elim (found_or_not d.basic v) [
          | inl found ↦
              ch.others v (λ same. none (contains_get d.basic found.0 q (found.1 ∙ ap Some same)))
              ∙ ap neg_ℚ (h.here found.0 v (get_within d.basic found.0 v found.1) found.1) ∙ sym (ap (change_by_row d q v) (place found.0 v found.1))
          | inr free ↦ elim (cases_eq v q) [
            | inl same ↦
                ap (value_of_column (map value list)) same ∙ ch.enters ∙ sym (ap (change_by_row d q v) (no_row v free) ∙ ap (λ b. cond b (whole (pos 1)) (whole (pos 0))) (eq-eqb q v (sym same)))
            | inr other ↦
                ch.others v other ∙ ap neg_ℚ (h.elsewhere v (λ k to at. free (contains_get d.basic k v at))) ∙ neg-zero
                ∙ sym (ap (change_by_row d q v) (no_row v free) ∙ ap (λ b. cond b (whole (pos 1)) (whole (pos 0))) (ne_eqb q v (λ same. other (sym same))))
          ]
        ])
