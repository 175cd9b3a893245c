-- The variable of a row whose number is greatest.
use Rattle.std.proofs.Common.{◌≡◌, ◌≢◌, ℕ, ◌+◌, ◌-◌, ◌<◌, ◌≤◌, ◌⊎◌, inl, inr, Bool, true, pos, List, length, take, get_or, Option, Some, None, refl, sym, ap, ◌∙◌, subst, arith}
use Rattle.std.specs.Prelude.{MatchOption, ◌↔◌, IsTrue}
use Rattle.std.specs.declared.cmp.Ordering.{Ordering}
use Rattle.std.specs.declared.cmp.Ordering.TheVariants.{Less, Equal, Greater}
use Rattle.std.specs.Ordering.{is_gt}
use Rattle.std.proofs.lemmas.Bool.{cases_lt, cases_eq}
use Rattle.std.proofs.lemmas.List.{take_all}
use Rattle.gq_number.specs.Number.{Number, whole}
use Rattle.gq_number.specs.Order.{◌<ℚ◌, ◌≤ℚ◌, number_cmp}
use Rattle.gq_number.proofs.Order.{<ℚ_irrefl, <ℚ_trans, ≤ℚ_or_above, ≤ℚ_antisymm, ≤ℚ_from_<ℚ, ≤ℚ_from_≡}
use Rattle.gq_number.proofs.Compares.{number_cmp_decides}
use Rattle.lp_core.specs.Dictionary.{entry_at, IsPriced, Improves}
use Rattle.lp_core.specs.LargestCoefficient.{HasGreatest}
use Rattle.lp_fraction_dict.specs.declared.row.Entry.{Entry}
use Rattle.lp_fraction_dict.specs.Rows.{IsRow, number_in}
use Rattle.lp_fraction_dict.specs.Lines.{line}
use Rattle.lp_fraction_dict.specs.InnerPricing.{IsBetter, IsBest, IsGreatestAbove}
use Rattle.lp_fraction_dict.specs.Tableau.{FractionTableau, fraction_dictionary, IsTableau}
use Rattle.lp_fraction_dict.proofs.Rows.{number_above}
use Rattle.lp_fraction_dict.proofs.Pricing.{prefix, number_here, number_other, entry_is, same_priced, improves_from, some_number}

abbrev Zero : Number
Zero = whole (pos 0)

greater_is : (r : Ordering) → is_gt r ≡ true → r ≡ Greater
greater_is Less h = absurd (cc)
greater_is Equal h = absurd (cc)
greater_is Greater h = refl

-- an entry of a variable from 1 on is better where its number compares so
pub better_by_cmp : {F : Type 0} (value : F → Number) (entry best : Entry F) (o : Option (Entry F)) (r : Ordering) (b : Bool) → o ≡ Some best → 2 ≤ entry.column → r ≡ number_cmp (value entry.number) (value best.number) → b ≡ is_gt r → IsTrue b ↔ IsBetter value entry o
better_by_cmp value entry best o r b some two is told =
    let decides = (number_cmp_decides (value entry.number) (value best.number)).2 in (
      λ t. subst (IsBetter value entry) (sym some) (two, decides.0 (sym is ∙ greater_is r (sym told ∙ t))),
      λ better. told ∙ ap is_gt (is ∙ decides.1 (subst (IsBetter value entry) some better).1),
    )

-- of the first n entries this is the best, if any has a variable from 1 on with a number above 0
abbrev Best : {F : Type 0} → (F → Number) → List (Entry F) → Option (Entry F) → Type 0
Best value part None = (v : ℕ) → 1 ≤ v → ¬ (Zero <ℚ number_in value part (v + 1))
Best value part (Some b) =
    (2 ≤ b.column) × (Zero <ℚ value b.number) × (number_in value part b.column ≡ value b.number)
    × ((v : ℕ) → 1 ≤ v → Zero <ℚ number_in value part (v + 1) → (number_in value part (v + 1) <ℚ value b.number) ⊎ ((number_in value part (v + 1) ≡ value b.number) × (b.column ≤ v + 1)))

pub record BestOf {F : Type 0} (value : F → Number) (row : List (Entry F)) (n : ℕ) (best : Option (Entry F)) : Type 0 where
  pub is : Best value (take n row) best

not_below : (x y : Number) → ¬ (x <ℚ y) → (y <ℚ x) ⊎ (y ≡ x)
not_below x y none =
    elim (≤ℚ_or_above x y) [
      | inl less ↦ elim (≤ℚ_or_above y x) [ inl more ↦ inr (≤ℚ_antisymm y x more less) | inr above ↦ absurd (none above) ]
      | inr below ↦ inl below
    ]

module _ {F : Type 0} (value : F → Number) (row : List (Entry F)) where
  pub best_begins : BestOf value row 0 None
  best_begins = record { is = λ v some above. <ℚ_irrefl Zero above }

  module _ (n : ℕ) (e : Entry F) (low high : ℕ) (ordered : IsRow value low high row) (less : n < length row) (e_is : e ≡ get_or row n e) where
    here : number_in value (take (n + 1) row) e.column ≡ value e.number
    here = number_here value row n e low high ordered less e_is

    other : (c : ℕ) → e.column ≢ c → number_in value (take (n + 1) row) c ≡ number_in value (take n row) c
    other c apart = number_other value row n e low high ordered less e_is c apart

    -- an entry found earlier is at a lesser column
    earlier : (b : Entry F) → Zero <ℚ value b.number → number_in value (take n row) b.column ≡ value b.number → b.column < e.column
    earlier b above there =
        elim (cases_lt b.column e.column) [
          | inl before ↦ before
          | inr following ↦ absurd (<ℚ_irrefl Zero (subst (λ x. Zero <ℚ x) (sym there ∙ number_above value (take n row) low e.column b.column (prefix value row n e low high ordered less e_is) following) above))
        ]

    entry_best : 2 ≤ e.column → Zero <ℚ value e.number → ((v : ℕ) → 1 ≤ v → Zero <ℚ number_in value (take n row) (v + 1) → number_in value (take n row) (v + 1) <ℚ value e.number) → BestOf value row (n + 1) (Some e)
    entry_best two above rest =
        record {
          is = (
            two,
            above,
            here,
            λ v some over. elim (cases_eq e.column (v + 1)) [
              | inl same ↦ inr (ap (number_in value (take (n + 1) row)) (sym same) ∙ here, omega arith)
              | inr apart ↦ inl (subst (λ x. x <ℚ value e.number) (sym (other (v + 1) apart)) (rest v some (subst (λ x. Zero <ℚ x) (other (v + 1) apart) over)))
            ],
          );
        }

    better_one : (best : Option (Entry F)) → BestOf value row n best → IsBetter value e best → BestOf value row (n + 1) (Some e)
    better_one None h b = entry_best b.0 b.1 (λ v some over. absurd (h.is v some over))
    better_one (Some best) h b =
        entry_best b.0 (<ℚ_trans Zero (value best.number) (value e.number) h.is.1 b.1) (λ v some over. elim (h.is.3 v some over) [
          | inl below ↦ <ℚ_trans (number_in value (take n row) (v + 1)) (value best.number) (value e.number) below b.1
          | inr same ↦ subst (λ x. x <ℚ value e.number) (sym same.0) b.1
        ])

    no_better : (best : Option (Entry F)) → BestOf value row n best → ¬ (IsBetter value e best) → BestOf value row (n + 1) best
    no_better None h none =
        record {
          is = λ v some over. elim (cases_eq e.column (v + 1)) [
            | inl same ↦ none (omega arith, subst (λ x. Zero <ℚ x) (ap (number_in value (take (n + 1) row)) (sym same) ∙ here) over)
            | inr apart ↦ h.is v some (subst (λ x. Zero <ℚ x) (other (v + 1) apart) over)
          ];
        }
    no_better (Some best) h none =
        let before = earlier best h.is.1 h.is.2 in
        record {
          is = (
            h.is.0,
            h.is.1,
            other best.column (λ same. absurd (omega arith)) ∙ h.is.2,
            λ v some over. elim (cases_eq e.column (v + 1)) [
              | inl same ↦
                  let is : number_in value (take (n + 1) row) (v + 1) ≡ value e.number = ap (number_in value (take (n + 1) row)) (sym same) ∙ here in
                  elim (not_below (value best.number) (value e.number) (λ less. none (omega arith, less))) [
                    | inl below ↦ inl (subst (λ x. x <ℚ value best.number) (sym is) below)
                    | inr equal ↦ inr (is ∙ equal, omega arith)
                  ]
              | inr apart ↦
                  let is = other (v + 1) apart in
                  elim (h.is.3 v some (subst (λ x. Zero <ℚ x) is over)) [
                    | inl below ↦ inl (subst (λ x. x <ℚ value best.number) (sym is) below)
                    | inr equal ↦ inr (is ∙ equal.0, equal.1)
                  ]
            ],
          );
        }

    pub best_goes : (best r : Option (Entry F)) → BestOf value row n best → IsBest value best e r → BestOf value row (n + 1) r
    best_goes best r h step =
        elim step [
          | inl taken ↦ subst (BestOf value row (n + 1)) (sym taken.0) (better_one best h taken.1)
          | inr kept ↦ subst (BestOf value row (n + 1)) (sym kept.0) (no_better best h kept.1)
        ]

  module _ (n : ℕ) (all : length row ≤ n) where
    whole_row : (c : ℕ) → number_in value (take n row) c ≡ number_in value row c
    whole_row c = ap (λ r. number_in value r c) (take_all n row all)

    pub none_best : BestOf value row n None → IsGreatestAbove value row None
    none_best h v some above = h.is v some (subst (λ x. Zero <ℚ x) (sym (whole_row (v + 1))) above)

    pub some_best : (b : Entry F) (q : ℕ) → q ≡ b.column - 1 → BestOf value row n (Some b) → IsGreatestAbove value row (Some q)
    some_best b q q_is h =
        let two = h.is.0 in
        let column : b.column ≡ q + 1 = omega arith in
        let is : number_in value row (q + 1) ≡ value b.number = sym (whole_row (q + 1)) ∙ ap (number_in value (take n row)) (sym column) ∙ h.is.2 in (
          omega arith,
          subst (λ x. Zero <ℚ x) (sym is) h.is.1,
          λ v some above. elim (h.is.3 v some (subst (λ x. Zero <ℚ x) (sym (whole_row (v + 1))) above)) [
            | inl below ↦ inl (subst (λ x. number_in value row (v + 1) <ℚ x) (sym is) (subst (λ x. x <ℚ value b.number) (whole_row (v + 1)) below))
            | inr equal ↦ let later = equal.1 in inr (sym (whole_row (v + 1)) ∙ equal.0 ∙ sym is, omega arith)
          ],
        )

-- ---- the row by which pivots are chosen

module _ {F : Type 0} (value : F → Number) (t : FractionTableau F) (inv : IsTableau value t) (k : ℕ) (priced : IsPriced (fraction_dictionary value t) k) (row : List (Entry F)) (row_is : row ≡ line t.rows t.objective k) where
  above_of : (v : ℕ) → Improves (fraction_dictionary value t) v → Zero <ℚ number_in value row (v + 1)
  above_of v i = subst (λ x. Zero <ℚ x) (sym (entry_is value t inv k priced row row_is v)) (i.above k priced)

  pub greatest_tells : (r : Option ℕ) → IsGreatestAbove value row r → MatchOption r ((v : ℕ) → ¬ (Improves (fraction_dictionary value t) v)) (HasGreatest (fraction_dictionary value t))
  greatest_tells None h = λ v i. h v (some_number value t inv k priced row row_is v i.other) (above_of v i)
  greatest_tells (Some q) h =
      record {
        improves = improves_from value t inv k priced row row_is q h.0 h.1;
        greatest = λ v j i other. subst (λ m. entry_at (fraction_dictionary value t) m v ≤ℚ entry_at (fraction_dictionary value t) m q) (same_priced value t inv k priced row row_is j other) (at_most v i);
        least = λ v j i other same. by_least v i (subst (λ m. entry_at (fraction_dictionary value t) m v ≡ entry_at (fraction_dictionary value t) m q) (sym (same_priced value t inv k priced row row_is j other)) same);
      }
    where
      is : (v : ℕ) → number_in value row (v + 1) ≡ entry_at (fraction_dictionary value t) k v
      is v = entry_is value t inv k priced row row_is v

      compared : (v : ℕ) → Improves (fraction_dictionary value t) v → (entry_at (fraction_dictionary value t) k v <ℚ entry_at (fraction_dictionary value t) k q) ⊎ ((entry_at (fraction_dictionary value t) k v ≡ entry_at (fraction_dictionary value t) k q) × (q ≤ v))
      compared v i =
          elim (h.2 v (some_number value t inv k priced row row_is v i.other) (above_of v i)) [
            | inl below ↦ inl (subst (λ x. x <ℚ entry_at (fraction_dictionary value t) k q) (is v) (subst (λ x. number_in value row (v + 1) <ℚ x) (is q) below))
            | inr equal ↦ inr (sym (is v) ∙ equal.0 ∙ is q, equal.1)
          ]

      at_most : (v : ℕ) → Improves (fraction_dictionary value t) v → entry_at (fraction_dictionary value t) k v ≤ℚ entry_at (fraction_dictionary value t) k q
      at_most v i =
          elim (compared v i) [
            | inl below ↦ ≤ℚ_from_<ℚ (entry_at (fraction_dictionary value t) k v) (entry_at (fraction_dictionary value t) k q) below
            | inr equal ↦ ≤ℚ_from_≡ (entry_at (fraction_dictionary value t) k v) (entry_at (fraction_dictionary value t) k q) equal.0
          ]

      by_least : (v : ℕ) → Improves (fraction_dictionary value t) v → entry_at (fraction_dictionary value t) k v ≡ entry_at (fraction_dictionary value t) k q → q ≤ v
      by_least v i same =
          elim (compared v i) [
            | inl below ↦ absurd (<ℚ_irrefl (entry_at (fraction_dictionary value t) k q) (subst (λ x. x <ℚ entry_at (fraction_dictionary value t) k q) same below))
            | inr equal ↦ equal.1
          ]
