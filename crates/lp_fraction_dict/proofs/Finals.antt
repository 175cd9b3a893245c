-- What is read from a final dictionary is what its definition states.
use Rattle.std.proofs.Common.{◌≡◌, ◌≢◌, ℕ, ◌+◌, ◌<◌, inl, inr, Bool, false, pos, cond, List, [], length, map, Option, Some, None, refl, sym, ap, ap₂, ◌∙◌, arith}
use Rattle.std.specs.Prelude.{slice_get, slice_set, slice_index_or, Contains, unwrap_or, is_some}
use Rattle.std.proofs.lemmas.Bool.{cases_eq, eq-eqb, ne_eqb}
use Rattle.std.proofs.lemmas.List.{length-map}
use Rattle.gq_number.specs.Number.{Number, whole, neg_ℚ}
use Rattle.gq_number.proofs.Ring.{neg-zero}
use Rattle.lp_core.specs.Sums.{value_of_column}
use Rattle.lp_core.specs.StandardForm.{Last}
use Rattle.lp_core.specs.Dictionary.{Dictionary, entry_at, InPhaseOne, OpeningIsRequired, Improves}
use Rattle.lp_core.specs.Pivots.{row_of_basic, value_by_row, change_by_row, cost_by_row, priced_row, last_of, last_along, NothingImproves}
use Rattle.lp_core.specs.declared.answer.EndKind.TheVariants as kind
use Rattle.lp_std.specs.Last.{IsReadAt}
use Rattle.lp_fraction_dict.specs.Rows.{number_in}
use Rattle.lp_fraction_dict.specs.Lines.{line}
use Rattle.lp_fraction_dict.specs.Tableau.{FractionTableau, fraction_dictionary, IsTableau}
use Rattle.lp_fraction_dict.specs.Reading.{AreByVariable, AreByColumn, AreChanges, IsDone, last_with}
use Rattle.lp_fraction_dict.proofs.Kept.{get_within, index_default, index_past, contains_get}
use Rattle.lp_fraction_dict.proofs.Improving.{found_or_not}
use Rattle.lp_fraction_dict.proofs.Exchanging.{length-put}
use Rattle.lp_fraction_dict.proofs.Lists.{list_is, place_is, no_place, put_number, other_number, columns_end}

module _ {F : Type 0} (value : F → Number) (t : FractionTableau F) (inv : IsTableau value t) where
  abbrev d : Dictionary
  d = fraction_dictionary value t

  row_there : (k v : ℕ) → slice_get t.basic k ≡ Some v → slice_index_or t.rows k [] ≡ line t.rows t.objective k
  row_there k v at =
      let within = get_within t.basic k v at in
      let paired = inv.paired in
      index_default t.rows k [] t.objective (omega arith)

  place : (k v : ℕ) → slice_get t.basic k ≡ Some v → row_of_basic (fraction_dictionary value t) v ≡ Some k
  place k v at = place_is t.basic k v inv.proper.distinct at

  no_row : (v : ℕ) → ¬ (Contains t.basic v) → row_of_basic (fraction_dictionary value t) v ≡ None
  no_row v none = no_place t.basic v none

  pub basic_below : (k v : ℕ) → slice_get t.basic k ≡ Some v → v < t.variables + 1
  basic_below k v at = let most = inv.proper.there k v at in omega arith

  pub values_are : (list : List F) (n : ℕ) → n ≡ length t.basic → AreByVariable value t.rows t.basic (t.variables + 1) 0 n list → map value list ≡ (last_of (fraction_dictionary value t)).values
  values_are list n all h =
      list_is (map value list) (t.variables + 1) (λ v. value_by_row (fraction_dictionary value t) (row_of_basic (fraction_dictionary value t) v)) (length-map list value ∙ h.sized) (λ v less. elim (found_or_not t.basic v) [
        | inl found ↦
            h.here found.0 v (let within = get_within t.basic found.0 v found.1 in omega arith) found.1 ∙ ap (λ r. number_in value r 0) (row_there found.0 v found.1)
            ∙ sym (ap (value_by_row (fraction_dictionary value t)) (place found.0 v found.1))
        | inr none ↦ h.elsewhere v (λ k to at. none (contains_get t.basic k v at)) ∙ sym (ap (value_by_row (fraction_dictionary value t)) (no_row v none))
      ])

  -- ---- the costs

  abbrev cost : ℕ → ℕ → Number
  cost k v = cost_by_row (fraction_dictionary value t) k v (row_of_basic (fraction_dictionary value t) v)

  basic_costs : (k i v : ℕ) → slice_get t.basic k ≡ Some v → cost i v ≡ whole (pos 0)
  basic_costs k i v at = ap (cost_by_row (fraction_dictionary value t) i v) (place k v at)

  other_costs : (i v : ℕ) → ¬ (Contains t.basic v) → cost i v ≡ entry_at (fraction_dictionary value t) i v
  other_costs i v none = ap (cost_by_row (fraction_dictionary value t) i v) (no_row v none)

  pub costs_of_row : (k : ℕ) (list made : List F) (x : F) → slice_get t.basic k ≡ Some 0 → AreByColumn value (slice_index_or t.rows k []) (t.variables + 1) (length (slice_index_or t.rows k [])) list → value x ≡ whole (pos 0) → made ≡ slice_set list 0 x → map value made ≡ (last_of (fraction_dictionary value t)).costs
  costs_of_row k list made x at h none made_is =
      let priced : priced_row (fraction_dictionary value t) ≡ k = ap (λ o. unwrap_or o (length t.basic)) (place k 0 at) in
      let size = h.sized in
      list_is (map value made) (t.variables + 1) (cost (priced_row (fraction_dictionary value t))) (length-map made value ∙ ap length made_is ∙ length-put list 0 x ∙ h.sized) (λ v less. elim (cases_eq v 0) [
        | inl same ↦
            ap (λ l. value_of_column (map value l) v) made_is ∙ ap (value_of_column (map value (slice_set list 0 x))) same ∙ put_number value list 0 x (omega arith) ∙ none
            ∙ sym (basic_costs k (priced_row (fraction_dictionary value t)) v (at ∙ ap Some (sym same)))
        | inr other ↦
            ap (λ l. value_of_column (map value l) v) made_is ∙ other_number value list 0 v x other ∙ columns_end value (slice_index_or t.rows k []) (t.variables + 1) list v h less
            ∙ ap (λ r. number_in value r (v + 1)) (row_there k 0 at) ∙ elim (found_or_not t.basic v) [
              | inl found ↦ inv.proper.apart found.0 k v found.1 (λ same. other (some_is v 0 (sym found.1 ∙ ap (slice_get t.basic) (sym same) ∙ at))) ∙ sym (basic_costs found.0 (priced_row (fraction_dictionary value t)) v found.1)
              | inr free ↦ ap (λ i. entry_at (fraction_dictionary value t) i v) (sym priced) ∙ sym (other_costs (priced_row (fraction_dictionary value t)) v free)
            ]
      ])
    where
      some_is : (a b : ℕ) → Some a ≡ Some b → a ≡ b
      some_is a b e = cc

  pub costs_of_objective : (list : List F) → ¬ (Contains t.basic 0) → AreByColumn value t.objective (t.variables + 1) (length t.objective) list → map value list ≡ (last_of (fraction_dictionary value t)).costs
  costs_of_objective list none h =
      let priced : priced_row (fraction_dictionary value t) ≡ length t.basic = ap (λ o. unwrap_or o (length t.basic)) (no_row 0 none) in
      let paired = inv.paired in
      let following : line t.rows t.objective (length t.basic) ≡ t.objective = index_past t.rows (length t.basic) t.objective (omega arith) in
      list_is (map value list) (t.variables + 1) (cost (priced_row (fraction_dictionary value t))) (length-map list value ∙ h.sized) (λ v less.
      columns_end value t.objective (t.variables + 1) list v h less ∙ ap (λ r. number_in value r (v + 1)) (sym following) ∙ elim (found_or_not t.basic v) [
        | inl found ↦ inv.proper.apart found.0 (length t.basic) v found.1 (λ same. let within = get_within t.basic found.0 v found.1 in absurd (omega arith)) ∙ sym (basic_costs found.0 (priced_row (fraction_dictionary value t)) v found.1)
        | inr free ↦ ap (λ i. entry_at (fraction_dictionary value t) i v) (sym priced) ∙ sym (other_costs (priced_row (fraction_dictionary value t)) v free)
      ])

  -- ---- the ray

  abbrev change : ℕ → ℕ → Number
  change q v = change_by_row (fraction_dictionary value t) q v (row_of_basic (fraction_dictionary value t) v)

  pub changes_are : (q n : ℕ) (numbers list : List F) → q < t.variables + 1 → ¬ (Contains t.basic q) → n ≡ length t.basic → AreByVariable value t.rows t.basic (t.variables + 1) (q + 1) n numbers → AreChanges value numbers q list → map value list ≡ (last_along (fraction_dictionary value t) q).changes
  changes_are q n numbers list within none all h ch =
      list_is (map value list) (t.variables + 1) (change q) (length-map list value ∙ ch.sized ∙ h.sized) (λ v less. elim (found_or_not t.basic v) [
        | inl found ↦
            ch.others v (λ same. none (contains_get t.basic found.0 q (found.1 ∙ ap Some same)))
            ∙ ap neg_ℚ (h.here found.0 v (let there = get_within t.basic found.0 v found.1 in omega arith) found.1)
            ∙ ap (λ r. neg_ℚ (number_in value r (q + 1))) (row_there found.0 v found.1) ∙ sym (ap (change_by_row (fraction_dictionary value t) q v) (place found.0 v found.1))
        | inr free ↦ elim (cases_eq v q) [
          | inl same ↦
              ap (value_of_column (map value list)) same ∙ ch.enters ∙ sym (ap (change_by_row (fraction_dictionary value t) q v) (no_row v free) ∙ ap (λ b. cond b (whole (pos 1)) (whole (pos 0))) (eq-eqb q v (sym same)))
          | inr other ↦
              ch.others v other ∙ ap neg_ℚ (h.elsewhere v (λ k to at. free (contains_get t.basic k v at))) ∙ neg-zero
              ∙ sym (ap (change_by_row (fraction_dictionary value t) q v) (no_row v free) ∙ ap (λ b. cond b (whole (pos 1)) (whole (pos 0))) (ne_eqb q v (λ same. other (sym same))))
        ]
      ])

-- ---- the end

abbrev last_from : List Number → List Number → List Number → Last
last_from values costs changes = record { values = values; costs = costs; changes = changes }

same_last : (d : Dictionary) (values costs changes : List Number) → values ≡ (last_of d).values → costs ≡ (last_of d).costs → changes ≡ [] → last_from values costs changes ≡ last_of d
same_last d values costs changes v c none = ap₂ (λ x y. last_from x y changes) v c ∙ ap (last_from (last_of d).values (last_of d).costs) none

same_along : (d : Dictionary) (q : ℕ) (values costs changes : List Number) → values ≡ (last_of d).values → costs ≡ (last_of d).costs → changes ≡ (last_along d q).changes → last_from values costs changes ≡ last_along d q
same_along d q values costs changes v c ray = ap₂ (λ x y. last_from x y changes) v c ∙ ap (last_from (last_of d).values (last_of d).costs) ray

-- values, coefficients and changes that are each as they are read there are what is read there
pub read_is : (d : Dictionary) (enter : Option ℕ) (values costs changes : List Number) → values ≡ (last_of d).values → costs ≡ (last_of d).costs → changes ≡ (last_with d enter).changes → last_from values costs changes ≡ last_with d enter
read_is d None values costs changes v c none = same_last d values costs changes v c none
read_is d (Some q) values costs changes v c ray = same_along d q values costs changes v c ray

-- the kind
pub done_in_one : (d : Dictionary) (enter : Option ℕ) → IsDone d enter → enter ≡ None → InPhaseOne d → NothingImproves d
done_in_one d (Some q) done none phase = absurd (cc)
done_in_one d None done none phase = elim done [ inl nothing ↦ nothing | inr broken ↦ absurd (broken.0 phase) ]

pub done_not_required : (d : Dictionary) (enter : Option ℕ) → IsDone d enter → ¬ (OpeningIsRequired d)
done_not_required d (Some q) done required = done.1.0 required
done_not_required d None done required = elim done [ inl nothing ↦ nothing.0 required | inr broken ↦ broken.1 required ]

pub read_along : (d : Dictionary) (enter : Option ℕ) → IsDone d enter → enter ≢ None → IsReadAt d kind.Unbounded (last_with d enter)
read_along d (Some q) done some = (done.0, (q, done.1, refl))
read_along d None done some = absurd (some refl)

pub read_in_one : (d : Dictionary) (enter : Option ℕ) → IsDone d enter → enter ≡ None → InPhaseOne d → IsReadAt d kind.Infeasible (last_with d enter)
read_in_one d enter done none phase = (phase, done_in_one d enter done none phase, ap (last_with d) none)

pub read_at_best : (d : Dictionary) (enter : Option ℕ) → IsDone d enter → enter ≡ None → ¬ (InPhaseOne d) → ((v : ℕ) → ¬ (Improves d v)) → IsReadAt d kind.Optimal (last_with d enter)
read_at_best d enter done none phase nothing = (phase, (done_not_required d enter done, nothing), ap (last_with d) none)

pub read_on_the_way : (d : Dictionary) (enter : Option ℕ) (q : ℕ) → IsDone d enter → enter ≡ None → ¬ (InPhaseOne d) → Improves d q → IsReadAt d kind.Interrupted (last_with d enter)
read_on_the_way d enter q done none phase improves = (phase, done_not_required d enter done, (q, improves), ap (last_with d) none)

pub none_from : (o : Option ℕ) (b : Bool) → b ≡ is_some o → b ≡ false → o ≡ None
none_from None b is none = refl
none_from (Some x) b is none = absurd (cc)
