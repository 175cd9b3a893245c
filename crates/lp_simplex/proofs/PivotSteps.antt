-- What is required at a dictionary, and where pivots lead.
use Rattle.std.proofs.Common.{◌≡◌, ℕ, zero, suc, ◌+◌, ◌<◌, ◌≤◌, ◌⊎◌, inl, inr, pos, List, [], ◌∷◌, ◌++◌, append_assoc, append-nil, length, Some, None, refl, sym, ap, ◌∙◌, subst, subst₂, arith}
use Rattle.std.specs.Prelude.{slice_get, unwrap_or}
use Rattle.std.proofs.lemmas.Bool.{cases_lt}
use Rattle.gq_number.specs.Number.{Number, whole}
use Rattle.gq_number.specs.Order.{◌<ℚ◌}
use Rattle.gq_number.proofs.Order.{≤ℚ_or_above, not_above}
use Rattle.lp_core.specs.declared.answer.Pivot.{Pivot}
use Rattle.lp_core.specs.Ends.{IsUnfinishedBy}
use Rattle.lp_core.specs.declared.answer.StepName.{StepName}
use Rattle.lp_core.specs.Dictionary.{Dictionary, entry_at, InPhaseOne, OpeningIsRequired, Improves, Limits, IsOpening, IsStep, IsLegal, IsLeast, basic_at, exchanged}
use Rattle.lp_core.specs.Steps.{AllFit, FirstStop, ratio_steps, exchange_steps}
use Rattle.lp_core.specs.Pivots.{TestFits, IsTaken, IsAllowedBy, LeadsWithin}
use Rattle.lp_core.specs.Choices.{leaving_row, after_pivot, reached}
use Rattle.lp_fraction_dict.specs.Pivots.{IsProper, IsLeaving}
use Rattle.lp_fraction_dict.proofs.Kept.{get_within, get_index}
use Rattle.lp_fraction_dict.proofs.Improving.{found_or_not}
use Rattle.lp_fraction_dict.proofs.Lists.{place_is}
use Rattle.lp_fraction_dict.proofs.Steps.{ratios_fit}
use Rattle.lp_simplex.specs.InnerStates.{NothingIsNext, StopsBy}
use Rattle.lp_simplex.proofs.Stops.{fit_or_stop}

-- ---- a legal pivot

-- the row of a legal pivot is that of the variable that leaves
pub leaves_row : (d : Dictionary) (p : Pivot) (k : ℕ) → IsLegal d p k → slice_get d.basic k ≡ Some p.leave
leaves_row d p k legal = elim legal [ inl opening ↦ opening.leaves | inr step ↦ step.leaves ]

-- ---- what is required

pub opening_is_required : (Chosen : ℕ → Type 0) (limit n : ℕ) (d : Dictionary) (p : Pivot) → ((k : ℕ) × IsOpening d p k) → ((i : ℕ) → IsLeast d i → p.leave ≤ basic_at d i) → (k : ℕ) × IsAllowedBy Chosen d p k × TestFits limit n d p
opening_is_required Chosen limit n d p opening fewest =
    let taken : IsTaken Chosen d p = record { enters = λ none. absurd (none opening.1.required); leaves = λ i none ties. absurd (none opening.1.required); opens = λ i required least. fewest i least } in
    (opening.0, (inl opening.1, taken), λ none. absurd (none opening.1.required))

abbrev pub turn_of : ℕ → ℕ → Pivot
turn_of q v = record { enter = q; leave = v }

-- the least of the tied variables leaves
step_is : (d : Dictionary) (q v : ℕ) (leaving : IsLeaving d q (Some v)) → ¬ (OpeningIsRequired d) → Improves d q → IsStep d (turn_of q v) leaving.0.0
step_is d q v leaving none improves =
    record {
      not_required = none;
      improves = improves;
      leaves = leaving.0.1;
      ties = leaving.0.2;
      zero_first = λ i at ties. let most = leaving.1 i ties in let here = get_index d.basic i 0 0 at in omega arith;
    }

step_taken : (Chosen : ℕ → Type 0) (d : Dictionary) (q v : ℕ) → IsLeaving d q (Some v) → ¬ (OpeningIsRequired d) → Chosen q → IsTaken Chosen d (turn_of q v)
step_taken Chosen d q v leaving none chosen = record { enters = λ no. chosen; leaves = λ i no ties. leaving.1 i ties; opens = λ i required least. absurd (none required) }

pub step_is_required : (Chosen : ℕ → Type 0) (limit n : ℕ) (d : Dictionary) (q v : ℕ) → ¬ (OpeningIsRequired d) → Improves d q → Chosen q → IsLeaving d q (Some v) → AllFit (ratio_steps limit n d q) → (k : ℕ) × IsAllowedBy Chosen d (turn_of q v) k × TestFits limit n d (turn_of q v)
step_is_required Chosen limit n d q v none improves chosen leaving fit =
    (leaving.0.0, (inr (step_is d q v leaving none improves), step_taken Chosen d q v leaving none chosen), λ no. fit)

-- in phase 1 the row of variable 0 limits whatever improves
pub limits_in_one : (d : Dictionary) (q : ℕ) → Improves d q → ((k : ℕ) → ¬ (Limits d q k)) → ¬ (InPhaseOne d)
limits_in_one d q improves none phase =
    elim (found_or_not d.basic 0) [
      | inl found ↦ none found.0 (get_within d.basic found.0 0 found.1, improves.above found.0 (inl found.1))
      | inr free ↦ free phase
    ]

pub none_is_required : (Chosen : ℕ → Type 0) (d : Dictionary) (q : ℕ) → ¬ (OpeningIsRequired d) → Improves d q → Chosen q → IsLeaving d q None → NothingIsNext Chosen d (Some q)
none_is_required Chosen d q none improves chosen leaving = (limits_in_one d q improves leaving, (none, chosen, leaving))

-- ---- a step of the ratio test that does not fit is that of a row which limits

above_or_not : (x : Number) → (whole (pos 0) <ℚ x) ⊎ ¬ (whole (pos 0) <ℚ x)
above_or_not x = elim (≤ℚ_or_above x (whole (pos 0))) [ inl most ↦ inr (not_above x (whole (pos 0)) most) | inr above ↦ inl above ]

limited_below : (d : Dictionary) (q n : ℕ) → ((k : ℕ) × (k < n) × (whole (pos 0) <ℚ entry_at d k q)) ⊎ ((k : ℕ) → k < n → ¬ (whole (pos 0) <ℚ entry_at d k q))
limited_below d q zero = inr (λ k less. absurd (omega arith))
limited_below d q (suc n) =
    elim (above_or_not (entry_at d n q)) [
      | inl above ↦ inl (n, omega arith, above)
      | inr not_here ↦ elim (limited_below d q n) [
        | inl found ↦ inl (let before = found.1 in (found.0, omega arith, found.2))
        | inr none ↦ inr (λ k less. elim (cases_lt k n) [
          | inl before ↦ none k before
          | inr here ↦ let same : n ≡ k = omega arith in subst (λ j. ¬ (whole (pos 0) <ℚ entry_at d j q)) same not_here
        ])
      ]
    ]

pub some_limits : (limit n : ℕ) (d : Dictionary) (q : ℕ) (name : StepName) → FirstStop (ratio_steps limit n d q) name → (k : ℕ) × Limits d q k
some_limits limit n d q name stop =
    elim (limited_below d q (length d.basic)) [
      | inl found ↦ (found.0, (found.1, found.2))
      | inr none ↦ absurd (fit_or_stop (ratio_steps limit n d q) name (ratios_fit limit n d q (λ i less above. absurd (none i less above))) stop)
    ]

pub ratio_stops : (Chosen : ℕ → Type 0) (limit n : ℕ) (d : Dictionary) (q : ℕ) (name : StepName) → ¬ (OpeningIsRequired d) → Chosen q → FirstStop (ratio_steps limit n d q) name → StopsBy Chosen limit n d name
ratio_stops Chosen limit n d q name none chosen stop =
    let row = some_limits limit n d q name stop in
    inl (none, (q, row.0, chosen, row.1, stop))

-- ---- a further pivot is required

pub goes_on_by_pivot : (Chosen : ℕ → Type 0) (d : Dictionary) (p : Pivot) (k : ℕ) → IsAllowedBy Chosen d p k → IsUnfinishedBy Chosen d
goes_on_by_pivot Chosen d p k allowed =
    elim allowed.0 [
      | inl opening ↦ inl opening.required
      | inr step ↦ inr (step.not_required, (p.enter, k, allowed.1.enters step.not_required, step.ties.limits))
    ]

pub goes_on_by_stop : (Chosen : ℕ → Type 0) (limit n : ℕ) (d : Dictionary) (name : StepName) → StopsBy Chosen limit n d name → IsUnfinishedBy Chosen d
goes_on_by_stop Chosen limit n d name stops =
    elim stops [
      | inl ratio ↦ inr (ratio.0, (ratio.1.0, ratio.1.1, ratio.1.2, ratio.1.3))
      | inr exchange ↦ goes_on_by_pivot Chosen d exchange.0 exchange.1 exchange.2
    ]

-- ---- pivots in turn

module _ (Allowed : List Pivot → Dictionary → Pivot → ℕ → Type 0) where
  -- one pivot more
  pub way_more : (limit m n : ℕ) (done : List Pivot) (d : Dictionary) (pivots : List Pivot) (last new : Dictionary) (p : Pivot) (k : ℕ) → m ≡ n + length pivots → LeadsWithin Allowed limit n done d pivots last → Allowed (done ++ pivots) last p k → TestFits limit m last p → AllFit (exchange_steps limit m last p.enter k) → new ≡ exchanged last p.enter k → LeadsWithin Allowed limit n done d (pivots ++ p ∷ []) new
  way_more limit m n done d [] last new p k at way allowed tested fit is =
      let same : m ≡ n = omega arith in
      let here : last ≡ d = way.0 in
      let begun : Allowed done d p k = subst₂ (λ l e. Allowed l e p k) (append-nil done) here allowed in
      ((k, begun, is ∙ ap (λ e. exchanged e p.enter k) here), (subst₂ (λ j e. TestFits limit j e p) same here tested, subst₂ (λ j e. AllFit (exchange_steps limit j e p.enter k)) same here fit, tt))
  way_more limit m n done d (q ∷ pivots) last new p k at way allowed tested fit is =
      let later : Allowed ((done ++ q ∷ []) ++ pivots) last p k = subst (λ l. Allowed l last p k) (sym (append_assoc done (q ∷ []) pivots)) allowed in
      let rest = way_more limit m (n + 1) (done ++ q ∷ []) (exchanged d q.enter way.0.0) pivots last new p k (omega arith) (way.0.2, way.1.2) later tested fit is in
      ((way.0.0, way.0.1, rest.0), (way.1.0, way.1.1, rest.1))

-- ---- where pivots lead

-- the row of a pivot is that of the variable that leaves
pub row_is_leaving : (d : Dictionary) (p : Pivot) (k : ℕ) → IsProper d → slice_get d.basic k ≡ Some p.leave → leaving_row d p ≡ k
row_is_leaving d p k proper leaves = ap (λ r. unwrap_or r 0) (place_is d.basic k p.leave proper.distinct leaves)

pub after_is : (d : Dictionary) (p : Pivot) (k : ℕ) → IsProper d → slice_get d.basic k ≡ Some p.leave → exchanged d p.enter k ≡ after_pivot d p
after_is d p k proper leaves = ap (exchanged d p.enter) (sym (row_is_leaving d p k proper leaves))

pub reached_append : (d : Dictionary) (ps qs : List Pivot) → reached d (ps ++ qs) ≡ reached (reached d ps) qs
reached_append d [] qs = refl
reached_append d (p ∷ ps) qs = reached_append (after_pivot d p) ps qs
