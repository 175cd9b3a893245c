-- The first variable of a row whose number is above 0.
use Rattle.std.proofs.Common.{◌≡◌, ◌≢◌, ℕ, zero, suc, ◌+◌, ◌<◌, ◌≤◌, inl, inr, pos, List, [], ◌∷◌, ◌++◌, length, take, drop, get_or, Option, Some, None, refl, sym, ap, ◌∙◌, subst, arith}
use Rattle.std.specs.Prelude.{slice_get, MatchOption}
use Rattle.std.proofs.lemmas.Bool.{cases_lt, cases_eq}
use Rattle.std.proofs.lemmas.List.{take_more, take_all, take-append-drop, drop_more}
use Rattle.gq_number.specs.Number.{Number, whole}
use Rattle.gq_number.specs.Order.{◌<ℚ◌}
use Rattle.gq_number.proofs.Order.{<ℚ_irrefl}
use Rattle.lp_fraction_dict.specs.declared.row.Entry.{Entry}
use Rattle.lp_core.specs.Dictionary.{entry_at, IsPriced, Improves}
use Rattle.lp_fraction_dict.specs.Rows.{IsRow, number_in}
use Rattle.lp_fraction_dict.specs.Lines.{line}
use Rattle.lp_fraction_dict.specs.Tableau.{FractionTableau, fraction_dictionary, IsTableau}
use Rattle.lp_fraction_dict.specs.InnerPricing.{IsFirstAbove}
use Rattle.lp_fraction_dict.proofs.Kept.{get_within, index_get, contains_get, read_past}
use Rattle.lp_fraction_dict.proofs.Rows.{number_first, number_later, number_below, number_after, number_before, row_prefix, row_back}

-- of the first n entries none has a variable from 1 on with a number above 0
pub record NoneAbove {F : Type 0} (value : F → Number) (row : List (Entry F)) (n : ℕ) : Type 0 where
  pub none : (v : ℕ) → 1 ≤ v → ¬ (whole (pos 0) <ℚ number_in value (take n row) (v + 1))

module _ {F : Type 0} (value : F → Number) (row : List (Entry F)) where
  pub none_begins : NoneAbove value row 0
  none_begins = record { none = λ v some above. <ℚ_irrefl (whole (pos 0)) above }

  module _ (n : ℕ) (e : Entry F) (low high : ℕ) (ordered : IsRow value low high row) (less : n < length row) (is : e ≡ get_or row n e) where
    more : take (n + 1) row ≡ take n row ++ e ∷ []
    more = take_more row n e less ∙ ap (λ x. take n row ++ x ∷ []) (sym is)

    parts : row ≡ take n row ++ e ∷ drop (n + 1) row
    parts = sym (take-append-drop n row) ∙ ap (λ l. take n row ++ l) (drop_more row n e less ∙ ap (λ x. x ∷ drop (n + 1) row) (sym is))

    in_parts : IsRow value low high (take n row ++ e ∷ drop (n + 1) row)
    in_parts = subst (IsRow value low high) parts ordered

    pub prefix : IsRow value low e.column (take n row)
    prefix = (row_prefix value (take n row) e (drop (n + 1) row) low high in_parts).0

    pub number_here : number_in value (take (n + 1) row) e.column ≡ value e.number
    number_here = ap (λ r. number_in value r e.column) more ∙ number_after value (take n row) (e ∷ []) low e.column e.column prefix (omega arith) ∙ number_first value e [] e.column refl

    pub number_other : (c : ℕ) → e.column ≢ c → number_in value (take (n + 1) row) c ≡ number_in value (take n row) c
    number_other c other = ap (λ r. number_in value r c) more ∙ number_before value (take n row) (e ∷ []) c (number_later value e [] c other)

    -- the number at the entry's column in the whole row
    number_there : number_in value row e.column ≡ value e.number
    number_there = ap (λ r. number_in value r e.column) parts ∙ number_after value (take n row) (e ∷ drop (n + 1) row) low e.column e.column prefix (omega arith) ∙ number_first value e (drop (n + 1) row) e.column refl

    -- before it the number is that of the first entries
    number_early : (c : ℕ) → c < e.column → number_in value row c ≡ number_in value (take n row) c
    number_early c early =
        ap (λ r. number_in value r c) parts
        ∙ number_before value (take n row) (e ∷ drop (n + 1) row) c (number_later value e (drop (n + 1) row) c (λ same. absurd (omega arith)) ∙ number_below value (drop (n + 1) row) (e.column + 1) high c (row_back value (take n row) e (drop (n + 1) row) low high in_parts) (omega arith))

    module _ (h : NoneAbove value row n) where
      pub none_goes : ((2 ≤ e.column) → ¬ (whole (pos 0) <ℚ value e.number)) → NoneAbove value row (n + 1)
      none_goes not_here =
          record {
            none = λ v some above. elim (cases_eq e.column (v + 1)) [
              | inl same ↦ not_here (omega arith) (subst (λ x. whole (pos 0) <ℚ x) (ap (number_in value (take (n + 1) row)) (sym same) ∙ number_here) above)
              | inr other ↦ h.none v some (subst (λ x. whole (pos 0) <ℚ x) (number_other (v + 1) other) above)
            ];
          }

      pub found_above : (q : ℕ) → 2 ≤ e.column → q + 1 ≡ e.column → whole (pos 0) <ℚ value e.number → (1 ≤ q) × (whole (pos 0) <ℚ number_in value row (q + 1)) × ((v : ℕ) → 1 ≤ v → whole (pos 0) <ℚ number_in value row (v + 1) → q ≤ v)
      found_above q two column above = (
        omega arith,
        subst (λ x. whole (pos 0) <ℚ x) (sym (ap (number_in value row) column ∙ number_there)) above,
        λ v some over. elim (cases_lt v q) [
          | inl early ↦ absurd (h.none v some (subst (λ x. whole (pos 0) <ℚ x) (number_early (v + 1) (omega arith)) over))
          | inr late ↦ late
        ],
      )

  pub none_ends : (n : ℕ) → length row ≤ n → NoneAbove value row n → (v : ℕ) → 1 ≤ v → ¬ (whole (pos 0) <ℚ number_in value row (v + 1))
  none_ends n all h v some above = h.none v some (subst (λ r. whole (pos 0) <ℚ number_in value r (v + 1)) (sym (take_all n row all)) above)

-- ---- the row by which pivots are chosen

module _ {F : Type 0} (value : F → Number) (t : FractionTableau F) (inv : IsTableau value t) (k : ℕ) (priced : IsPriced (fraction_dictionary value t) k) (row : List (Entry F)) (row_is : row ≡ line t.rows t.objective k) where
  pub entry_is : (v : ℕ) → number_in value row (v + 1) ≡ entry_at (fraction_dictionary value t) k v
  entry_is v = ap (λ r. number_in value r (v + 1)) row_is

  pub same_priced : (j : ℕ) → IsPriced (fraction_dictionary value t) j → k ≡ j
  same_priced j (inl there) = elim priced [ inl at ↦ inv.proper.distinct k j 0 at there | inr past ↦ absurd (past.0 (contains_get t.basic j 0 there)) ]
  same_priced j (inr none) = elim priced [ inl at ↦ absurd (none.0 (contains_get t.basic k 0 at)) | inr past ↦ past.1 ∙ sym none.1 ]

  basic_is_zero : (j v : ℕ) → slice_get t.basic j ≡ Some v → 1 ≤ v → entry_at (fraction_dictionary value t) k v ≡ whole (pos 0)
  basic_is_zero j v at some =
      inv.proper.apart j k v at (λ same. elim priced [
        | inl zero_at ↦ let none = some_is 0 v (sym zero_at ∙ ap (slice_get t.basic) same ∙ at) in absurd (omega arith)
        | inr past ↦ let within = get_within t.basic j v at in let following = past.1 in absurd (omega arith)
      ])
    where
      some_is : (a b : ℕ) → Some a ≡ Some b → a ≡ b
      some_is a b e = cc

  not_zero_and_above : (x : Number) → x ≡ whole (pos 0) → ¬ (whole (pos 0) <ℚ x)
  not_zero_and_above x none above = <ℚ_irrefl (whole (pos 0)) (subst (λ y. whole (pos 0) <ℚ y) none above)

  pub improves_from : (v : ℕ) → 1 ≤ v → whole (pos 0) <ℚ number_in value row (v + 1) → Improves (fraction_dictionary value t) v
  improves_from v some above =
      let over : whole (pos 0) <ℚ entry_at (fraction_dictionary value t) k v = subst (λ x. whole (pos 0) <ℚ x) (entry_is v) above in
      record {
        other = λ none. absurd (omega arith);
        there = elim (cases_lt t.variables v) [ inl past ↦ absurd (not_zero_and_above (entry_at (fraction_dictionary value t) k v) (read_past value t inv k v past) over) | inr most ↦ most ];
        not_basic = λ h. not_zero_and_above (entry_at (fraction_dictionary value t) k v) (basic_is_zero h.0 v (index_get t.basic h.0 v v h.1 h.2) some) over;
        above = λ j other. subst (λ i. whole (pos 0) <ℚ entry_at (fraction_dictionary value t) i v) (same_priced j other) over;
      }

  pub some_number : (v : ℕ) → v ≢ 0 → 1 ≤ v
  some_number zero other = absurd (other refl)
  some_number (suc v) other = omega arith

  pub entering_tells : (r : Option ℕ) → IsFirstAbove value row r → MatchOption r ((v : ℕ) → ¬ (Improves (fraction_dictionary value t) v)) (λ q. Improves (fraction_dictionary value t) q × ((v : ℕ) → Improves (fraction_dictionary value t) v → q ≤ v))
  entering_tells None h = λ v i. h v (some_number v i.other) (subst (λ x. whole (pos 0) <ℚ x) (sym (entry_is v)) (i.above k priced))
  entering_tells (Some q) h =
      (improves_from q h.0 h.1, λ v i. h.2 v (some_number v i.other) (subst (λ x. whole (pos 0) <ℚ x) (sym (entry_is v)) (i.above k priced)))
