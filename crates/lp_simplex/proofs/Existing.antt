-- That a program has an answer by a choice that always finds a variable, for each limit of pivots.
use Rattle.std.proofs.Common.{◌≡◌, ℕ, zero, suc, ◌+◌, ◌^◌, ◌<◌, ◌≤◌, ◌⊎◌, inl, inr, true, pos, List, [], ◌∷◌, ◌++◌, append_assoc, append-nil, length, map, replicate, Option, Some, None, refl, sym, ap, subst, subst₂, arith}
use Rattle.std.specs.Prelude.{slice_index_or}
use Rattle.std.specs.List.{All, AllWithin}
use Rattle.std.proofs.lemmas.List.Elements.{All-nil, All-cons, All-replicate}
use Rattle.gq_number.specs.Number.{Number, whole}
use Rattle.gq_number.proofs.Order.{≤ℚ_or_above, not_above}
use Rattle.lp_form.proofs.Zeros.{fits-zero}
use Rattle.lp_core.specs.declared.answer.Answer.{Answer}
use Rattle.lp_core.specs.declared.answer.End.{End}
use Rattle.lp_core.specs.declared.answer.End.TheVariants.{Optimal, Infeasible, Unbounded, Interrupted, Refused}
use Rattle.lp_core.specs.declared.answer.Pivot.{Pivot}
use Rattle.lp_core.specs.declared.answer.Rule.TheVariants.{Legal}
use Rattle.lp_core.specs.declared.answer.StepName.{StepName}
use Rattle.lp_core.specs.declared.program.Column.{Column}
use Rattle.lp_core.specs.declared.program.Lp.{Lp}
use Rattle.lp_core.specs.WellFormed.{IsWellFormed}
use Rattle.lp_core.specs.Proofs.{Crosses, FirstCrossed, row_sums}
use Rattle.lp_core.specs.StandardForm.{standard_form, levels_back, duals_back, reduced_back, farkas_back, ray_back}
use Rattle.lp_core.specs.Dictionary.{Dictionary, InPhaseOne, OpeningIsRequired, Improves, Limits, first_dictionary, exchanged}
use Rattle.lp_core.specs.Steps.{ExpectedStep, AllFit, standard_steps, exchange_steps, levels_steps, row_levels_steps, duals_steps, reduced_costs_steps, ray_steps, optimal_steps, infeasible_steps, unbounded_steps, interrupted_steps}
use Rattle.lp_core.specs.Pivots.{IsAllowedBy, NothingImproves, TestFits, ByRule, ByChoice, Leads, LeadsWithin, last_of, last_along}
use Rattle.lp_core.specs.Ends.{IsUnlimitedBy, IsUnfinishedBy, IsPhase, LeadsTo, EndsWith, EndsSoBy, ends_by_kind, limit_is_met, step_stops}
use Rattle.lp_core.specs.Answers.{bounds_cross, form_stops, search_ends, IsAnswerByChoice}
use Rattle.lp_core.specs.declared.answer.EndKind.TheVariants as kind
use Rattle.lp_std.specs.InnerSteps.{first_stop}
use Rattle.lp_std.proofs.Ends.{proved_at}
use Rattle.lp_std.proofs.Stops.{all_fit, stops_first}
use Rattle.lp_std.proofs.Sums.{All-append_left, All-append_right}
use Rattle.lp_fraction_dict.specs.Pivots.{IsProper}
use Rattle.lp_fraction_dict.proofs.Improving.{found_or_not}
use Rattle.lp_fraction_dict.proofs.Kept.{contains_get}
use Rattle.lp_fraction_dict.proofs.Proper.{proper_after}
use Rattle.lp_simplex.proofs.ProgramDictionaries.{Occurs, first_occurs, occurs_after}
use Rattle.lp_simplex.proofs.PivotSteps.{some_limits, limits_in_one, goes_on_by_pivot}
use Rattle.lp_simplex.specs.Choices.{ChoosesImproving, AlwaysChooses}
use Rattle.lp_simplex.proofs.Deciding.{Case, nothing_improves, none_limits, test_stops, pivot_is_required, required_or_not, least_or_none, case_at}
use Rattle.lp_simplex.proofs.Fitting.{Fitting, all_meant}
use Rattle.lp_simplex.proofs.FittingForm.{HasFitting, form_within}
use Rattle.lp_simplex.proofs.FittingTurn.{turn_within, values_within, costs_within, changes_within}
use Rattle.lp_simplex.proofs.FittingBack.{levels_back_within, row_sums_within, duals_back_within, reduced_back_within, farkas_back_within, ray_back_within}

-- one pivot more
pub leads_more : (Allowed : List Pivot → Dictionary → Pivot → ℕ → Type 0) (done : List Pivot) (d : Dictionary) (pivots : List Pivot) (last : Dictionary) (p : Pivot) (k : ℕ) → Leads Allowed done d pivots last → Allowed (done ++ pivots) last p k → Leads Allowed done d (pivots ++ p ∷ []) (exchanged last p.enter k)
leads_more Allowed done d [] last p k way allowed =
    (k, subst₂ (λ (l : List Pivot) (e : Dictionary). Allowed l e p k) (append-nil done) way allowed, ap (λ (e : Dictionary). exchanged e p.enter k) way)
leads_more Allowed done d (q ∷ pivots) last p k way allowed =
    (way.0, way.1, leads_more Allowed (done ++ q ∷ []) (exchanged d q.enter way.0) pivots last p k way.2 (subst (λ (l : List Pivot). Allowed l last p k) (sym (append_assoc done (q ∷ []) pivots)) allowed))

-- where legal pivots lead the dictionary is proper
pub proper_there : (done : List Pivot) (first : Dictionary) (pivots : List Pivot) (d : Dictionary) → IsProper first → Leads (ByRule Legal) done first pivots d → IsProper d
proper_there done first [] d proper way = subst IsProper (sym way) proper
proper_there done first (p ∷ pivots) d proper way = proper_there (done ++ p ∷ []) (exchanged first p.enter way.0) pivots d (proper_after first p way.0 proper way.1) way.2

abbrev Fit : ExpectedStep → Type 0
Fit step = step.1 ≡ true

-- the phase of a dictionary
phase_at : (d : Dictionary) → IsPhase d 1 ⊎ (IsPhase d 2 × ¬ (OpeningIsRequired d) × ¬ (InPhaseOne d))
phase_at d =
    elim (required_or_not d) [
      | inl found ↦ inl (inl (refl, inl (found.0, found.1.below, found.1.holds)))
      | inr none ↦ elim (found_or_not d.basic 0) [
        | inl found ↦ inl (inl (refl, inr (contains_get d.basic found.0 0 found.1)))
        | inr away ↦ inr (inr (refl, none, away), none, away)
      ]
    ]

module _ {F : Type 0} (value : F → Number) (limit : ℕ) (some : 1 ≤ limit) (small : limit < 2 ^ 127) (within : (x : F) → Fitting limit (value x)) (each : (x : Number) → Fitting limit x → (y : F) × (value y ≡ x)) (lp : Lp F) (formed : IsWellFormed value lp) (iterlim : ℕ) (ordered : FirstCrossed value lp.columns None) where
  meant : (xs : List Number) → All (Fitting limit) xs → (ys : List F) × (map value ys ≡ xs)
  meant xs h = all_meant value limit each xs h

  -- ---- the ends recovered from a final dictionary

  module _ (d : Dictionary) (occurs : Occurs (standard_form value lp) d) (fitting : HasFitting limit d) where
    levels_meant : AllFit (levels_steps value limit lp (last_of d)) → (xs : List F) × (map value xs ≡ levels_back value lp (last_of d))
    levels_meant fit = meant (levels_back value lp (last_of d)) (levels_back_within value limit some small within lp (last_of d) (values_within limit some d fitting) fit)

    sums_meant : AllFit (row_levels_steps value limit lp (last_of d)) → (xs : List F) × (map value xs ≡ row_sums value lp (levels_back value lp (last_of d)))
    sums_meant fit = meant (row_sums value lp (levels_back value lp (last_of d))) (row_sums_within value limit some small within lp (last_of d) fit)

    optimal_end : ¬ (InPhaseOne d) → NothingImproves d → (o : Option StepName) → first_stop (optimal_steps value limit lp (last_of d)) ≡ o → (end : End F) × EndsWith value limit lp kind.Optimal (last_of d) end
    optimal_end away none (Some step) stops = (Refused step, inr (step, refl, stops_first (optimal_steps value limit lp (last_of d)) step stops))
    optimal_end away none None fits =
        let first : List ExpectedStep = levels_steps value limit lp (last_of d) in
        let second : List ExpectedStep = row_levels_steps value limit lp (last_of d) in
        let third : List ExpectedStep = duals_steps value limit lp (last_of d) in
        let fourth : List ExpectedStep = reduced_costs_steps value limit lp (last_of d) in
        let fit : AllFit (first ++ second ++ third ++ fourth) = all_fit (optimal_steps value limit lp (last_of d)) fits in
        let prefix : AllFit (first ++ second ++ third) = All-append_left Fit (first ++ second ++ third) fourth fit in
        let point : AllFit (first ++ second) = All-append_left Fit (first ++ second) third prefix in
        let costs = costs_within limit some d fitting in
        let xs = levels_meant (All-append_left Fit first second point) in
        let sums = sums_meant (All-append_right Fit first second point) in
        let ys = meant (duals_back value lp (last_of d)) (duals_back_within value limit some small within lp (last_of d) costs (All-append_right Fit (first ++ second) third prefix)) in
        let rs = meant (reduced_back value lp (last_of d)) (reduced_back_within value limit some small within lp (last_of d) costs (All-append_right Fit (first ++ second ++ third) fourth fit)) in
        let told : LeadsTo value lp kind.Optimal (last_of d) (Optimal xs.0 sums.0 ys.0 rs.0) = (xs.1, sums.1, ys.1, rs.1) in
        (Optimal xs.0 sums.0 ys.0 rs.0, inl (told, fit, proved_at value lp formed ordered d occurs.of_form kind.Optimal (last_of d) (away, none, refl) (Optimal xs.0 sums.0 ys.0 rs.0) told))

    infeasible_end : InPhaseOne d → NothingImproves d → (o : Option StepName) → first_stop (infeasible_steps value limit lp (last_of d)) ≡ o → (end : End F) × EndsWith value limit lp kind.Infeasible (last_of d) end
    infeasible_end phase none (Some step) stops = (Refused step, inr (step, refl, stops_first (infeasible_steps value limit lp (last_of d)) step stops))
    infeasible_end phase none None fits =
        let fit : AllFit (infeasible_steps value limit lp (last_of d)) = all_fit (infeasible_steps value limit lp (last_of d)) fits in
        let ys = meant (farkas_back value lp (last_of d)) (farkas_back_within value limit some small within lp (last_of d) (costs_within limit some d fitting) fit) in
        let told : LeadsTo value lp kind.Infeasible (last_of d) (Infeasible ys.0 None) = (ys.1, refl) in
        (Infeasible ys.0 None, inl (told, fit, proved_at value lp formed ordered d occurs.of_form kind.Infeasible (last_of d) (phase, none, refl) (Infeasible ys.0 None) told))

    unbounded_end : (q : ℕ) → ¬ (InPhaseOne d) → IsUnlimitedBy (Improves d) d q → (o : Option StepName) → first_stop (unbounded_steps value limit lp (last_along d q)) ≡ o → (end : End F) × EndsWith value limit lp kind.Unbounded (last_along d q) end
    unbounded_end q away along (Some step) stops = (Refused step, inr (step, refl, stops_first (unbounded_steps value limit lp (last_along d q)) step stops))
    unbounded_end q away along None fits =
        let first : List ExpectedStep = levels_steps value limit lp (last_along d q) in
        let second : List ExpectedStep = row_levels_steps value limit lp (last_along d q) in
        let third : List ExpectedStep = ray_steps value limit lp (last_along d q) in
        let fit : AllFit (first ++ second ++ third) = all_fit (unbounded_steps value limit lp (last_along d q)) fits in
        let point : AllFit (first ++ second) = All-append_left Fit (first ++ second) third fit in
        let xs = levels_meant (All-append_left Fit first second point) in
        let sums = sums_meant (All-append_right Fit first second point) in
        let rs = meant (ray_back value lp (last_along d q)) (ray_back_within value limit some small within lp (last_along d q) (changes_within limit some d fitting q along.1.there) (All-append_right Fit (first ++ second) third fit)) in
        let told : LeadsTo value lp kind.Unbounded (last_along d q) (Unbounded xs.0 sums.0 rs.0) = (xs.1, sums.1, rs.1) in
        (Unbounded xs.0 sums.0 rs.0, inl (told, fit, proved_at value lp formed ordered d occurs.of_form kind.Unbounded (last_along d q) (away, (q, along, refl)) (Unbounded xs.0 sums.0 rs.0) told))

    interrupted_end : ¬ (OpeningIsRequired d) → ¬ (InPhaseOne d) → ((q : ℕ) × Improves d q) → (o : Option StepName) → first_stop (interrupted_steps value limit lp (last_of d)) ≡ o → (end : End F) × EndsWith value limit lp kind.Interrupted (last_of d) end
    interrupted_end none away more (Some step) stops = (Refused step, inr (step, refl, stops_first (interrupted_steps value limit lp (last_of d)) step stops))
    interrupted_end none away more None fits =
        let first : List ExpectedStep = levels_steps value limit lp (last_of d) in
        let second : List ExpectedStep = row_levels_steps value limit lp (last_of d) in
        let fit : AllFit (first ++ second) = all_fit (interrupted_steps value limit lp (last_of d)) fits in
        let xs = levels_meant (All-append_left Fit first second fit) in
        let sums = sums_meant (All-append_right Fit first second fit) in
        let told : LeadsTo value lp kind.Interrupted (last_of d) (Interrupted 2 xs.0 sums.0) = (refl, xs.1, sums.1) in
        (Interrupted 2 xs.0 sums.0, inl (told, fit, proved_at value lp formed ordered d occurs.of_form kind.Interrupted (last_of d) (away, none, more, refl) (Interrupted 2 xs.0 sums.0) told))

    -- ---- the end of the search here

    module _ (Chosen : ℕ → Type 0) (improves : (q : ℕ) → Chosen q → Improves d q) (pivots : ℕ) where
      abbrev So : End F → Type 0
      So end = EndsSoBy value limit lp iterlim (IsAllowedBy Chosen d) Chosen pivots d end

      ends_nothing : NothingImproves d → (end : End F) × So end
      ends_nothing none =
          elim (found_or_not d.basic 0) [
            | inl found ↦
                let phase : InPhaseOne d = contains_get d.basic found.0 0 found.1 in
                let made = infeasible_end phase none (first_stop (infeasible_steps value limit lp (last_of d))) refl in
                (made.0, ends_by_kind kind.Infeasible (last_of d) (phase, none, refl) made.1)
            | inr away ↦
                let made = optimal_end away none (first_stop (optimal_steps value limit lp (last_of d))) refl in
                (made.0, ends_by_kind kind.Optimal (last_of d) (away, none, refl) made.1)
          ]

      ends_unlimited : (q : ℕ) → ¬ (OpeningIsRequired d) → Chosen q → ((k : ℕ) → ¬ (Limits d q k)) → (end : End F) × So end
      ends_unlimited q none chosen free =
          let away = limits_in_one d q (improves q chosen) free in
          let made = unbounded_end q away (none, improves q chosen, free) (first_stop (unbounded_steps value limit lp (last_along d q))) refl in
          (made.0, ends_by_kind kind.Unbounded (last_along d q) (away, (q, (none, chosen, free), refl)) made.1)

      -- where the limit of pivots is met
      ends_broken : pivots ≡ iterlim → IsUnfinishedBy Chosen d → (end : End F) × So end
      ends_broken most goes =
          elim (phase_at d) [
            | inl one ↦ (Interrupted 1 [] [], limit_is_met most one goes refl)
            | inr two ↦
                let more : (q : ℕ) × Improves d q = elim goes [ inl required ↦ absurd (two.1 required) | inr on ↦ (on.1.0, improves on.1.0 on.1.2) ] in
                let made = interrupted_end two.1 two.2 more (first_stop (interrupted_steps value limit lp (last_of d))) refl in
                (made.0, ends_by_kind kind.Interrupted (last_of d) (two.2, two.1, (most, goes), refl) made.1)
          ]

      -- where no further pivot may be taken
      ends_at_limit : pivots ≡ iterlim → Case Chosen limit (pivots + 1) d → (end : End F) × So end
      ends_at_limit most (nothing_improves none) = ends_nothing none
      ends_at_limit most (none_limits q none chosen free) = ends_unlimited q none chosen free
      ends_at_limit most (test_stops q none chosen name stops) =
          let row = some_limits limit (pivots + 1) d q name stops in
          ends_broken most (inr (none, (q, row.0, chosen, row.1)))
      ends_at_limit most (pivot_is_required p k allowed tested) = ends_broken most (goes_on_by_pivot Chosen d p k allowed)

  -- ---- the run of pivots

  module _ (choice : Dictionary → List Pivot → Dictionary → ℕ → Type 0) (improves : ChoosesImproving choice) (always : AlwaysChooses choice) where
    abbrev First : Dictionary
    First = first_dictionary (standard_form value lp)

    abbrev Chosen : List Pivot → Dictionary → ℕ → Type 0
    Chosen done d = choice First done d

    abbrev Ended : List Pivot → ℕ → Dictionary → End F → Type 0
    Ended done n d end = EndsSoBy value limit lp iterlim (IsAllowedBy (Chosen done d) d) (Chosen done d) n d end

    -- at most `left` pivots from a dictionary, to which `count` others have led, and an end
    abbrev Goes : ℕ → ℕ → List Pivot → Dictionary → Type 0
    Goes left count done d =
        (pivots : List Pivot) × (length pivots ≤ left) × ((last : Dictionary) × LeadsWithin (ByChoice choice First) limit (count + 1) done d pivots last
        × ((end : End F) × Ended (done ++ pivots) (count + length pivots) last end))

    ends_now : (left count : ℕ) (done : List Pivot) (d : Dictionary) → ((end : End F) × Ended done count d end) → Goes left count done d
    ends_now left count done d made =
        let same : count ≡ count + length {A = Pivot} [] = omega arith in
        ([], omega arith, (d, (refl, tt), (made.0, subst₂ (λ (l : List Pivot) n. Ended l n d made.0) (sym (append-nil done)) same made.1)))

    goes_more : (left count : ℕ) (done : List Pivot) (d : Dictionary) (p : Pivot) (k : ℕ) → IsAllowedBy (Chosen done d) d p k → TestFits limit (count + 1) d p → AllFit (exchange_steps limit (count + 1) d p.enter k) → Goes left (count + 1) (done ++ p ∷ []) (exchanged d p.enter k) → Goes (suc left) count done d
    goes_more left count done d p k allowed tested fit (pivots, few, (last, way, (end, ends))) =
        let same : count + 1 + length pivots ≡ count + length (p ∷ pivots) = omega arith in
        (p ∷ pivots, omega arith, (last, ((k, allowed, way.0), (tested, fit, way.1)), (end, subst₂ (λ (l : List Pivot) n. Ended l n last end) (append_assoc done (p ∷ []) pivots) same ends)))

    -- a further pivot is allowed: all its steps fit, or there is a first that does not
    turns : (left count : ℕ) (done : List Pivot) (d : Dictionary) (p : Pivot) (k : ℕ) → count < iterlim → IsAllowedBy (Chosen done d) d p k → TestFits limit (count + 1) d p → (AllFit (exchange_steps limit (count + 1) d p.enter k) → Goes left (count + 1) (done ++ p ∷ []) (exchanged d p.enter k)) → (o : Option StepName) → first_stop (exchange_steps limit (count + 1) d p.enter k) ≡ o → Goes (suc left) count done d
    turns left count done d p k less allowed tested next None fits =
        let fit : AllFit (exchange_steps limit (count + 1) d p.enter k) = all_fit (exchange_steps limit (count + 1) d p.enter k) fits in
        goes_more left count done d p k allowed tested fit (next fit)
    turns left count done d p k less allowed tested next (Some name) stops =
        ends_now (suc left) count done d (Refused name, step_stops less name refl (inr (p, k, allowed, tested, stops_first (exchange_steps limit (count + 1) d p.enter k) name stops)))

    abbrev Next : ℕ → ℕ → List Pivot → Dictionary → Type 0
    Next left count done d =
        (p : Pivot) (k : ℕ) → IsAllowedBy (Chosen done d) d p k → AllFit (exchange_steps limit (count + 1) d p.enter k) → Goes left (count + 1) (done ++ p ∷ []) (exchanged d p.enter k)

    by_case : (left count : ℕ) (done : List Pivot) (d : Dictionary) → count < iterlim → Occurs (standard_form value lp) d → HasFitting limit d → Next left count done d → Case (Chosen done d) limit (count + 1) d → Goes (suc left) count done d
    by_case left count done d less occurs fitting next (nothing_improves none) = ends_now (suc left) count done d (ends_nothing d occurs fitting (Chosen done d) (improves First done d) count none)
    by_case left count done d less occurs fitting next (none_limits q none chosen free) = ends_now (suc left) count done d (ends_unlimited d occurs fitting (Chosen done d) (improves First done d) count q none chosen free)
    by_case left count done d less occurs fitting next (test_stops q none chosen name stops) =
        let row = some_limits limit (count + 1) d q name stops in
        ends_now (suc left) count done d (Refused name, step_stops less name refl (inl (none, (q, row.0, chosen, row.1, stops))))
    by_case left count done d less occurs fitting next (pivot_is_required p k allowed tested) =
        turns left count done d p k less allowed tested (λ fit. next p k allowed fit) (first_stop (exchange_steps limit (count + 1) d p.enter k)) refl

    case_here : (count : ℕ) (done : List Pivot) (d : Dictionary) → IsProper First → IsProper d → Leads (ByRule Legal) [] First done d → Case (Chosen done d) limit (count + 1) d
    case_here count done d first proper led =
        case_at (Chosen done d) limit (count + 1) d (improves First done d)
        (elim (least_or_none d proper) [
          | inl found ↦ inl (always First done d first led (found.0, found.1))
          | inr none ↦ inr none
        ])

    goes : (left count : ℕ) (done : List Pivot) (d : Dictionary) → count + left ≡ iterlim → IsProper First → Leads (ByRule Legal) [] First done d → Occurs (standard_form value lp) d → HasFitting limit d → Goes left count done d
    goes zero count done d all first led occurs fitting =
        ends_now zero count done d (ends_at_limit d occurs fitting (Chosen done d) (improves First done d) count (omega arith) (case_here count done d first occurs.proper led))
    goes (suc left) count done d all first led occurs fitting =
        by_case left count done d (omega arith) occurs fitting
        (λ p k allowed fit. goes left (count + 1) (done ++ p ∷ []) (exchanged d p.enter k) (omega arith) first (leads_more (ByRule Legal) [] First done d p k led allowed.0) (occurs_after (standard_form value lp) d p k occurs allowed.0) (turn_within limit some small (count + 1) d p.enter k fitting fit)) (case_here count done d first occurs.proper led)

    made_answer : AllFit (standard_steps value limit lp) → Goes iterlim 0 [] First → (answer : Answer F) × IsAnswerByChoice value limit lp iterlim choice answer
    made_answer fit (pivots, few, (last, way, (end, ends))) =
        let same : 0 + length pivots ≡ length pivots = omega arith in
        (record { pivots = pivots; end = end }, search_ends ordered fit few last way (subst (λ n. Ended pivots n last end) same ends))

    -- the answer where the steps of the standard form fit
    pub run_of_pivots : AllFit (standard_steps value limit lp) → (answer : Answer F) × IsAnswerByChoice value limit lp iterlim choice answer
    run_of_pivots fit =
        let begun = first_occurs value lp formed in
        made_answer fit (goes iterlim 0 [] First (omega arith) begun.proper refl begun (form_within value limit some small within lp formed fit))

-- ---- columns whose bounds cross

module _ {F : Type 0} (value : F → Number) where
  crosses_or_not : (lower upper : Option F) → Crosses value lower upper ⊎ ¬ (Crosses value lower upper)
  crosses_or_not (Some l) (Some u) = elim (≤ℚ_or_above (value l) (value u)) [ inl less ↦ inr (not_above (value l) (value u) less) | inr above ↦ inl above ]
  crosses_or_not (Some l) None = inr (λ h. h)
  crosses_or_not None (Some u) = inr (λ h. h)
  crosses_or_not None None = inr (λ h. h)

  abbrev Ordered : Column F → Type 0
  Ordered column = ¬ (Crosses value column.lower column.upper)

  first_later : (column : Column F) (columns : List (Column F)) (j : ℕ) → Ordered column → AllWithin Ordered columns 0 j → (k : ℕ) (d : Column F) → k < suc j → Ordered (slice_index_or (column ∷ columns) k d)
  first_later column columns j here rest zero d less = here
  first_later column columns j here rest (suc k) d less = rest k d (omega arith) (omega arith)

  crossed_or_none : (columns : List (Column F)) → ((j : ℕ) × FirstCrossed value columns (Some j)) ⊎ FirstCrossed value columns None
  crossed_or_none [] = inr (All-nil Ordered)
  crossed_or_none (column ∷ columns) =
      elim (crosses_or_not column.lower column.upper) [
        | inl crosses ↦ inl (0, ((column, refl, crosses), λ k d low high. absurd (omega arith)))
        | inr none ↦ elim (crossed_or_none columns) [
          | inl found ↦ inl (suc found.0, (found.1.0, λ k d low high. first_later column columns found.0 none found.1.1 k d high))
          | inr rest ↦ inr (All-cons Ordered column columns none rest)
        ]
      ]

-- ---- the answer

module _ {F : Type 0} (value : F → Number) (limit : ℕ) (some : 1 ≤ limit) (small : limit < 2 ^ 127) (within : (x : F) → Fitting limit (value x)) (each : (x : Number) → Fitting limit x → (y : F) × (value y ≡ x)) (lp : Lp F) (formed : IsWellFormed value lp) (iterlim : ℕ) (choice : Dictionary → List Pivot → Dictionary → ℕ → Type 0) (improves : ChoosesImproving choice) (always : AlwaysChooses choice) where
  crossed_answer : (j : ℕ) → FirstCrossed value lp.columns (Some j) → (answer : Answer F) × IsAnswerByChoice value limit lp iterlim choice answer
  crossed_answer j first =
      let zeros = all_meant value limit each (replicate (length lp.rows) (whole (pos 0))) (All-replicate (Fitting limit) (length lp.rows) (whole (pos 0)) (fits-zero limit some)) in
      (record { pivots = []; end = Infeasible zeros.0 (Some j) }, bounds_cross refl (zeros.0, j, refl, record { first = first; duals_zero = zeros.1 }))

  formed_answer : FirstCrossed value lp.columns None → (o : Option StepName) → first_stop (standard_steps value limit lp) ≡ o → (answer : Answer F) × IsAnswerByChoice value limit lp iterlim choice answer
  formed_answer ordered None fits = run_of_pivots value limit some small within each lp formed iterlim ordered choice improves always (all_fit (standard_steps value limit lp) fits)
  formed_answer ordered (Some step) stops =
      (record { pivots = []; end = Refused step }, form_stops refl (ordered, (step, refl, stops_first (standard_steps value limit lp) step stops)))

  pub some_answer : (answer : Answer F) × IsAnswerByChoice value limit lp iterlim choice answer
  some_answer =
      elim (crossed_or_none value lp.columns) [
        | inl found ↦ crossed_answer found.0 found.1
        | inr ordered ↦ formed_answer ordered (first_stop (standard_steps value limit lp)) refl
      ]
