-- The cases at a dictionary, by a choice of the entering variable: nothing improves, or no row
-- limits the chosen one, or a step of the ratio test does not fit, or a pivot is allowed.
use Rattle.std.proofs.Common.{◌≡◌, ℕ, zero, suc, ◌+◌, ◌<◌, ◌≤◌, ◌⊎◌, inl, inr, pos, length, Option, Some, None, refl, sym, ◌∙◌, subst, arith}
use Rattle.std.specs.Prelude.{slice_get}
use Rattle.std.proofs.lemmas.Bool.{cases_lt}
use Rattle.gq_number.specs.Number.{Number, whole}
use Rattle.gq_number.specs.Order.{◌≤ℚ◌, ◌<ℚ◌}
use Rattle.gq_number.proofs.Order.{≤ℚ_refl, ≤ℚ_trans, ≤ℚ_or_above, ≤ℚ_from_<ℚ, not_above, ≤ℚ-<ℚ_trans, <ℚ-≤ℚ_trans}
use Rattle.lp_core.specs.declared.answer.Pivot.{Pivot}
use Rattle.lp_core.specs.declared.answer.StepName.{StepName}
use Rattle.lp_core.specs.Dictionary.{Dictionary, basic_at, constant_at, entry_at, OpeningIsRequired, IsPriced, Improves, Limits, ratio_at, IsLeast, IsOpening}
use Rattle.lp_core.specs.Steps.{AllFit, FirstStop, ratio_steps}
use Rattle.lp_core.specs.Pivots.{IsAllowedBy, NothingImproves, TestFits}
use Rattle.lp_std.specs.InnerSteps.{first_stop}
use Rattle.lp_std.proofs.Stops.{all_fit, stops_first}
use Rattle.lp_fraction_dict.specs.Pivots.{IsProper, IsLeaving}
use Rattle.lp_fraction_dict.proofs.Improving.{same_or_not, found_or_not, priced_there}
use Rattle.lp_fraction_dict.proofs.Kept.{index_get, contains_get}
use Rattle.lp_simplex.proofs.PivotSteps.{turn_of, opening_is_required, step_is_required}

-- ---- the least of the first n numbers of which something holds

-- The number k is the first below n at which P holds: none has a smaller measure, and none with the
-- same measure has a smaller variable.
pub record IsFirst (P : ℕ → Type 0) (measure : ℕ → Number) (variable : ℕ → ℕ) (n k : ℕ) : Type 0 where
  pub below : k < n
  pub holds : P k
  pub least : (i : ℕ) → i < n → P i → measure k ≤ℚ measure i
  pub first : (i : ℕ) → i < n → P i → measure i ≤ℚ measure k → variable k ≤ variable i

module _ (P : ℕ → Type 0) (decide : (i : ℕ) → P i ⊎ ¬ (P i)) where
  pub least_below : (n : ℕ) → ((q : ℕ) × P q × ((v : ℕ) → P v → q ≤ v)) ⊎ ((v : ℕ) → v < n → ¬ (P v))
  least_below zero = inr (λ v less p. absurd (omega arith))
  least_below (suc n) =
      elim (least_below n) [
        | inl found ↦ inl found
        | inr none ↦ elim (decide n) [
          | inl here ↦ inl (n, here, λ v p. elim (cases_lt v n) [ inl early ↦ absurd (none v early p) | inr late ↦ late ])
          | inr not_here ↦ inr (λ v less p. elim (cases_lt v n) [
            | inl early ↦ none v early p
            | inr late ↦ let same : v ≡ n = omega arith in not_here (subst P same p)
          ])
        ]
      ]

  module _ (measure : ℕ → Number) (variable : ℕ → ℕ) where
    -- the new one comes first
    takes : (n k : ℕ) → P n → IsFirst P measure variable n k → measure n ≤ℚ measure k → (measure k ≤ℚ measure n → variable n ≤ variable k) → IsFirst P measure variable (suc n) n
    takes n k here h less before =
        record {
          below = omega arith;
          holds = here;
          least = λ i within p. elim (cases_lt i n) [
            | inl early ↦ ≤ℚ_trans (measure n) (measure k) (measure i) less (h.least i early p)
            | inr late ↦ let same : n ≡ i = omega arith in subst (λ j. measure n ≤ℚ measure j) same (≤ℚ_refl (measure n))
          ];
          first = λ i within p most. elim (cases_lt i n) [
            | inl early ↦
                let following = h.first i early p (≤ℚ_trans (measure i) (measure n) (measure k) most less) in
                let ahead = before (≤ℚ_trans (measure k) (measure i) (measure n) (h.least i early p) most) in
                omega arith
            | inr late ↦ let same : n ≡ i = omega arith in subst (λ j. variable n ≤ variable j) same (omega arith)
          ];
        }

    -- the old one stays first
    keeps : (n k : ℕ) → IsFirst P measure variable n k → (P n → (measure k ≤ℚ measure n) × (measure n ≤ℚ measure k → variable k ≤ variable n)) → IsFirst P measure variable (suc n) k
    keeps n k h new =
        let within_old = h.below in
        record {
          below = omega arith;
          holds = h.holds;
          least = λ i within p. elim (cases_lt i n) [
            | inl early ↦ h.least i early p
            | inr late ↦ let same : n ≡ i = omega arith in subst (λ j. measure k ≤ℚ measure j) same (new (subst P (sym same) p)).0
          ];
          first = λ i within p most. elim (cases_lt i n) [
            | inl early ↦ h.first i early p most
            | inr late ↦
                let same : n ≡ i = omega arith in
                subst (λ j. variable k ≤ variable j) same ((new (subst P (sym same) p)).1 (subst (λ j. measure j ≤ℚ measure k) (sym same) most))
          ];
        }

    either : (n k : ℕ) → P n → IsFirst P measure variable n k → (j : ℕ) × IsFirst P measure variable (suc n) j
    either n k here h =
        elim (≤ℚ_or_above (measure k) (measure n)) [
          | inr above ↦ (n, takes n k here h (≤ℚ_from_<ℚ (measure n) (measure k) above) (λ most. absurd (not_above (measure k) (measure n) most above)))
          | inl most ↦ elim (cases_lt (variable n) (variable k)) [
            | inr later ↦ (k, keeps n k h (λ p. (most, λ less. later)))
            | inl earlier ↦ elim (≤ℚ_or_above (measure n) (measure k)) [
              | inl less ↦ (n, takes n k here h less (λ more. let e = earlier in omega arith))
              | inr above ↦ (k, keeps n k h (λ p. (most, λ less. absurd (not_above (measure n) (measure k) less above))))
            ]
          ]
        ]

    pub first_below : (n : ℕ) → ((k : ℕ) × IsFirst P measure variable n k) ⊎ ((i : ℕ) → i < n → ¬ (P i))
    first_below zero = inr (λ i less p. absurd (omega arith))
    first_below (suc n) =
        elim (decide n) [
          | inl here ↦ elim (first_below n) [
            | inl found ↦ inl (either n found.0 here found.1)
            | inr none ↦ inl (
              n,
              record {
                below = omega arith;
                holds = here;
                least = λ i within p. elim (cases_lt i n) [ inl early ↦ absurd (none i early p) | inr late ↦ let same : n ≡ i = omega arith in subst (λ j. measure n ≤ℚ measure j) same (≤ℚ_refl (measure n)) ];
                first = λ i within p most. elim (cases_lt i n) [ inl early ↦ absurd (none i early p) | inr late ↦ let same : n ≡ i = omega arith in subst (λ j. variable n ≤ variable j) same (omega arith) ];
              },
            )
          ]
          | inr not_here ↦ elim (first_below n) [
            | inl found ↦ inl (found.0, keeps n found.0 found.1 (λ p. absurd (not_here p)))
            | inr none ↦ inr (λ i less p. elim (cases_lt i n) [
              | inl early ↦ none i early p
              | inr late ↦ let same : i ≡ n = omega arith in not_here (subst P same p)
            ])
          ]
        ]

-- ---- numbers against 0

above_or_not : (x : Number) → (whole (pos 0) <ℚ x) ⊎ ¬ (whole (pos 0) <ℚ x)
above_or_not x = elim (≤ℚ_or_above x (whole (pos 0))) [ inl most ↦ inr (not_above x (whole (pos 0)) most) | inr above ↦ inl above ]

below_or_not : (x : Number) → (x <ℚ whole (pos 0)) ⊎ ¬ (x <ℚ whole (pos 0))
below_or_not x = elim (≤ℚ_or_above (whole (pos 0)) x) [ inl least ↦ inr (not_above (whole (pos 0)) x least) | inr below ↦ inl below ]

-- the variable of a row
at_row : (d : Dictionary) (k : ℕ) → k < length d.basic → slice_get d.basic k ≡ Some (basic_at d k)
at_row d k less = index_get d.basic k (basic_at d k) 0 less refl

-- ---- the opening pivot

abbrev IsBelow : Dictionary → ℕ → Type 0
IsBelow d i = constant_at d i <ℚ whole (pos 0)

module _ (d : Dictionary) (k : ℕ) (h : IsFirst (IsBelow d) (constant_at d) (basic_at d) (length d.basic) k) where
  least_constant : IsLeast d k
  least_constant = (
    h.below,
    λ i less. elim (≤ℚ_or_above (whole (pos 0)) (constant_at d i)) [
      | inl above ↦ ≤ℚ_from_<ℚ (constant_at d k) (constant_at d i) (<ℚ-≤ℚ_trans (constant_at d k) (whole (pos 0)) (constant_at d i) h.holds above)
      | inr below ↦ h.least i less below
    ],
  )

  opening_there : IsOpening d (turn_of 0 (basic_at d k)) k
  opening_there = record { required = (k, h.below, h.holds); enters = refl; leaves = at_row d k h.below; least = least_constant }

  opening_least : (i : ℕ) → IsLeast d i → basic_at d k ≤ basic_at d i
  opening_least i least =
      let most = least.1 k h.below in
      h.first i least.0 (≤ℚ-<ℚ_trans (constant_at d i) (constant_at d k) (whole (pos 0)) most h.holds) most

pub required_or_not : (d : Dictionary) → ((k : ℕ) × IsFirst (IsBelow d) (constant_at d) (basic_at d) (length d.basic) k) ⊎ ¬ (OpeningIsRequired d)
required_or_not d =
    elim (first_below (IsBelow d) (λ i. below_or_not (constant_at d i)) (constant_at d) (basic_at d) (length d.basic)) [
      | inl found ↦ inl found
      | inr none ↦ inr (λ required. none required.0 required.1 required.2)
    ]

-- ---- the variable that improves

pub priced_once : (d : Dictionary) (proper : IsProper d) (j k : ℕ) → IsPriced d j → IsPriced d k → j ≡ k
priced_once d proper j k (inl one) (inl two) = proper.distinct j k 0 one two
priced_once d proper j k (inl one) (inr two) = absurd (two.0 (contains_get d.basic j 0 one))
priced_once d proper j k (inr one) (inl two) = absurd (one.0 (contains_get d.basic k 0 two))
priced_once d proper j k (inr one) (inr two) = one.1 ∙ sym two.1

pub improves_or_not : (d : Dictionary) → IsProper d → (v : ℕ) → Improves d v ⊎ ¬ (Improves d v)
improves_or_not d proper v =
    let priced = priced_there d in
    elim (same_or_not v 0) [
      | inl same ↦ inr (λ i. i.other same)
      | inr other ↦ elim (cases_lt d.variables v) [
        | inl past ↦ inr (λ i. let most = i.there in absurd (omega arith))
        | inr there ↦ elim (found_or_not d.basic v) [
          | inl found ↦ inr (λ i. i.not_basic (contains_get d.basic found.0 v found.1))
          | inr not_basic ↦ elim (above_or_not (entry_at d priced.0 v)) [
            | inl above ↦ inl (record {
              other = other;
              there = there;
              not_basic = not_basic;
              above = λ j also. subst (λ i. whole (pos 0) <ℚ entry_at d i v) (priced_once d proper priced.0 j priced.1 also) above;
            })
            | inr none ↦ inr (λ i. none (i.above priced.0 priced.1))
          ]
        ]
      ]
    ]

-- a variable improves, of which none is less; or there is none
pub least_or_none : (d : Dictionary) → IsProper d → ((q : ℕ) × Improves d q × ((v : ℕ) → Improves d v → q ≤ v)) ⊎ ((v : ℕ) → ¬ (Improves d v))
least_or_none d proper =
    elim (least_below (Improves d) (improves_or_not d proper) (d.variables + 1)) [
      | inl found ↦ inl found
      | inr none ↦ inr (λ v i. let most = i.there in none v (omega arith) i)
    ]

-- ---- the variable that leaves

abbrev IsAbove : Dictionary → ℕ → ℕ → Type 0
IsAbove d q i = whole (pos 0) <ℚ entry_at d i q

leaves_first : (d : Dictionary) (q k : ℕ) → IsFirst (IsAbove d q) (ratio_at d q) (basic_at d) (length d.basic) k → IsLeaving d q (Some (basic_at d k))
leaves_first d q k h = (
  (k, at_row d k h.below, record { limits = (h.below, h.holds); least = λ i limits. h.least i limits.0 limits.1 }),
  λ i ties. h.first i ties.limits.0 ties.limits.1 (ties.least k (h.below, h.holds)),
)

-- ---- the cases

-- what is the case at a dictionary before the n-th pivot
pub data Case (Chosen : ℕ → Type 0) (limit n : ℕ) (d : Dictionary) : Type 0 where
  nothing_improves : NothingImproves d → Case Chosen limit n d
  none_limits : (q : ℕ) → ¬ (OpeningIsRequired d) → Chosen q → ((k : ℕ) → ¬ (Limits d q k)) → Case Chosen limit n d
  test_stops : (q : ℕ) → ¬ (OpeningIsRequired d) → Chosen q → (name : StepName) → FirstStop (ratio_steps limit n d q) name → Case Chosen limit n d
  pivot_is_required : (p : Pivot) (k : ℕ) → IsAllowedBy Chosen d p k → TestFits limit n d p → Case Chosen limit n d

module _ (Chosen : ℕ → Type 0) (limit n : ℕ) (d : Dictionary) (improves : (q : ℕ) → Chosen q → Improves d q) where
  with_leaving : (q : ℕ) → ¬ (OpeningIsRequired d) → Chosen q → AllFit (ratio_steps limit n d q) → Case Chosen limit n d
  with_leaving q none chosen fit =
      elim (first_below (IsAbove d q) (λ i. above_or_not (entry_at d i q)) (ratio_at d q) (basic_at d) (length d.basic)) [
        | inl found ↦
            let required = step_is_required Chosen limit n d q (basic_at d found.0) none (improves q chosen) chosen (leaves_first d q found.0 found.1) fit in
            pivot_is_required (turn_of q (basic_at d found.0)) required.0 required.1 required.2
        | inr free ↦ none_limits q none chosen (λ k limits. free k limits.0 limits.1)
      ]

  with_entering : (q : ℕ) → ¬ (OpeningIsRequired d) → Chosen q → (o : Option StepName) → first_stop (ratio_steps limit n d q) ≡ o → Case Chosen limit n d
  with_entering q none chosen None fit = with_leaving q none chosen (all_fit (ratio_steps limit n d q) fit)
  with_entering q none chosen (Some name) stops = test_stops q none chosen name (stops_first (ratio_steps limit n d q) name stops)

  pub case_at : ((q : ℕ) × Chosen q) ⊎ ((v : ℕ) → ¬ (Improves d v)) → Case Chosen limit n d
  case_at some =
      elim (required_or_not d) [
        | inl found ↦
            let p : Pivot = turn_of 0 (basic_at d found.0) in
            let required = opening_is_required Chosen limit n d p (found.0, opening_there d found.0 found.1) (opening_least d found.0 found.1) in
            pivot_is_required p required.0 required.1 required.2
        | inr none ↦ elim some [
          | inl found ↦ with_entering found.0 none found.1 (first_stop (ratio_steps limit n d found.0)) refl
          | inr nothing_there ↦ nothing_improves (none, nothing_there)
        ]
      ]
