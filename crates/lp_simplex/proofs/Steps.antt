-- The functions of the pivot loop compute what their definitions state.
use Rattle.std.proofs.Common.{◌≡◌, ℕ, ◌+◌, ◌-◌, ◌^◌, ◌<◌, ◌≤◌, inr, List, [], ◌∷◌, ◌++◌, length, Option, Some, None, sym, ap, ◌∙◌, subst, arith, min}
use Rattle.std.specs.Prelude.{slice_get}
use Rattle.std.proofs.lemmas.List.{length-append}
use Rattle.gq_number.specs.Number.{Number}
use Rattle.lp_core.specs.declared.answer.Pivot.{Pivot}
use Rattle.lp_core.specs.declared.answer.StepName.{StepName}
use Rattle.lp_core.specs.StandardForm.{Standard}
use Rattle.lp_core.specs.Dictionary.{Dictionary, OpeningIsRequired, Improves, IsLegal, exchanged}
use Rattle.lp_core.specs.Steps.{AllFit, FirstStop, ratio_steps, exchange_steps}
use Rattle.lp_core.specs.Pivots.{TestFits, IsTaken, ByChoice}
use Rattle.lp_std.specs.Last.{IsDictionaryOf}
use Rattle.lp_fraction_dict.specs.Pivots.{IsProper, IsLeaving}
use Rattle.lp_dict.specs.Tableau.{Tableau, dictionary}
use Rattle.lp_fraction_dict.proofs.Proper.{proper_after}
use Rattle.lp_simplex.specs.declared.pivoting.NextStep.{NextStep}
use Rattle.lp_simplex.specs.declared.pivoting.Halt.{Halt}
use Rattle.lp_simplex.specs.declared.pivoting.Halt.TheVariants as halt
use Rattle.lp_simplex.specs.declared.pivoting.Step.TheVariants as step
use Rattle.lp_simplex.specs.declared.pivoting.PivotRun.{PivotRun}
use Rattle.lp_simplex.specs.InnerStates.{next_with, IsNextStep, IsAfter, IsSoFar, StopsBy, StepsTo, HaltsAtLimit, HaltsAt, IsPivotRun}
use Rattle.lp_simplex.proofs.PivotSteps.{step_is_required, none_is_required, leaves_row, way_more}

-- what is required if this variable leaves, or if none does
pub required_by : (limit : ℕ) (Chosen : ℕ → Type 0) (n : ℕ) (d : Dictionary) (q : ℕ) (leave : Option ℕ) (r : NextStep) → ¬ (OpeningIsRequired d) → Improves d q → Chosen q → IsLeaving d q leave → AllFit (ratio_steps limit n d q) → r ≡ next_with q leave → IsNextStep limit Chosen n d r
required_by limit Chosen n d q None r none improves chosen leaving fit is = subst (IsNextStep limit Chosen n d) (sym is) (none_is_required Chosen d q none improves chosen leaving)
required_by limit Chosen n d q (Some v) r none improves chosen leaving fit is = subst (IsNextStep limit Chosen n d) (sym is) (step_is_required Chosen limit n d q v none improves chosen leaving fit)

module _ {F : Type 0} (value : F → Number) (limit : ℕ) (before : Tableau F) (p : Pivot) (legal : (k : ℕ) × IsLegal (dictionary value before) p k × TestFits limit before.upcoming (dictionary value before) p) where
  pub pivot_legal : (k : ℕ) × IsLegal (dictionary value before) p k
  pivot_legal = (legal.0, legal.1)

  pub row_leaves : slice_get before.basic legal.0 ≡ Some p.leave
  row_leaves = leaves_row (dictionary value before) p legal.0 legal.1

  pub pivot_after : (Chosen : ℕ → Type 0) (Known : Dictionary → Type 0) (after : Tableau F) → IsTaken Chosen (dictionary value before) p → Known (exchanged (dictionary value before) p.enter legal.0) → ((k : ℕ) → slice_get before.basic k ≡ Some p.leave → dictionary value after ≡ exchanged (dictionary value before) p.enter k) → ((k : ℕ) → slice_get before.basic k ≡ Some p.leave → AllFit (exchange_steps limit before.upcoming (dictionary value before) p.enter k))
      → ((s : Standard) → IsDictionaryOf s (dictionary value before) → IsDictionaryOf s (dictionary value after)) → after.upcoming ≡ min (before.upcoming + 1) (2 ^ 64 - 1) → IsAfter limit value Chosen Known before p after
  pivot_after Chosen Known after taken known is fit of_form upcoming =
      record {
        row = legal.0;
        allowed = (legal.1, taken);
        tested = legal.2;
        fit = fit legal.0 row_leaves;
        is_exchanged = is legal.0 row_leaves;
        of_form = of_form;
        upcoming = upcoming;
        known = subst Known (sym (is legal.0 row_leaves)) known;
      }

  pub pivot_stops : (Chosen : ℕ → Type 0) (name : StepName) → IsTaken Chosen (dictionary value before) p → ((k : ℕ) → slice_get before.basic k ≡ Some p.leave → FirstStop (exchange_steps limit before.upcoming (dictionary value before) p.enter k) name) → StopsBy Chosen limit before.upcoming (dictionary value before) name
  pivot_stops Chosen name taken stop = inr (p, legal.0, (legal.1, taken), legal.2, stop legal.0 row_leaves)

-- ---- the run so far

module _ {F : Type 0} (value : F → Number) (limit : ℕ) (choice : Dictionary → List Pivot → Dictionary → ℕ → Type 0) (Known : List Pivot → Dictionary → Type 0) (first : Dictionary) where
  pub begins : (at : Tableau F) → dictionary value at ≡ first → at.upcoming ≡ 1 → IsProper first → Known [] first → IsSoFar limit value choice Known first [] at
  begins at is upcoming proper known =
      record {
        leads = (is, tt);
        proper = subst IsProper (sym is) proper;
        of_form = λ s h. subst (IsDictionaryOf s) (sym is) h;
        upcoming = next at.upcoming upcoming;
        known = subst (Known []) (sym is) known;
      }
    where
      next : (u : ℕ) → u ≡ 1 → u ≡ min (length {A = Pivot} [] + 1) (2 ^ 64 - 1)
      next u one = omega arith

  pub continues : (Before : List Pivot → Dictionary → Type 0) (pivots more : List Pivot) (before after : Tableau F) (p : Pivot) → length pivots + 1 < 2 ^ 64 → more ≡ pivots ++ p ∷ [] → IsSoFar limit value choice Before first pivots before → IsAfter limit value (choice first pivots (dictionary value before)) (Known (pivots ++ p ∷ [])) before p after → IsSoFar limit value choice Known first more after
  continues Before pivots more before after p few more_is so_far step_is =
      let count = so_far.upcoming in
      let next : before.upcoming ≡ 1 + length pivots = omega arith in
      let way = way_more (ByChoice choice first) limit before.upcoming 1 [] first pivots (dictionary value before) (dictionary value after) p step_is.row next so_far.leads step_is.allowed step_is.tested step_is.fit step_is.is_exchanged in
      subst (λ (l : List Pivot). IsSoFar limit value choice Known first l after) (sym more_is) (record {
        leads = way;
        proper = subst IsProper (sym step_is.is_exchanged) (proper_after (dictionary value before) p step_is.row so_far.proper step_is.allowed.0);
        of_form = λ s h. step_is.of_form s (so_far.of_form s h);
        upcoming = counted (length pivots) (length (pivots ++ p ∷ [])) before.upcoming after.upcoming few (length-append pivots (p ∷ [])) next step_is.upcoming;
        known = step_is.known;
      })
    where
      counted : (n m u v : ℕ) → n + 1 < 2 ^ 64 → m ≡ n + 1 → u ≡ 1 + n → v ≡ min (u + 1) (2 ^ 64 - 1) → v ≡ min (m + 1) (2 ^ 64 - 1)
      counted n m u v few m_is u_is v_is = omega arith

pub count_more : (pivots more : List Pivot) (p : Pivot) (n : ℕ) → more ≡ pivots ++ p ∷ [] → length pivots ≡ n → length more ≡ n + 1
count_more pivots more p n more_is count = ap length more_is ∙ length-append pivots (p ∷ []) ∙ ap (λ m. m + 1) count

-- ---- where it halts

module _ {F : Type 0} (value : F → Number) (limit : ℕ) (Chosen : ℕ → Type 0) (Known : List Pivot → Dictionary → Type 0) (pivots : List Pivot) (iterlim n : ℕ) (before : Tableau F) where
  pub halts_early : (h : Halt F) → before.upcoming ≡ n + 1 → n < iterlim → StepsTo limit value Chosen Known pivots before (step.Halted h) → HaltsAt limit value Chosen iterlim n (dictionary value before) h
  halts_early (halt.Ended d enter) next less h = (ap (dictionary value) h.0, h.1)
  halts_early (halt.Interrupted d) next less h = absurd h
  halts_early (halt.Refused name) next less h = (less, subst (λ c. StopsBy Chosen limit c (dictionary value before) name) next h)

  pub halts_at_limit : (h : Halt F) → n ≡ iterlim → HaltsAtLimit limit value Chosen before h → HaltsAt limit value Chosen iterlim n (dictionary value before) h
  halts_at_limit (halt.Ended d enter) most h = (ap (dictionary value) h.0, h.1)
  halts_at_limit (halt.Interrupted d) most h = (ap (dictionary value) h.0, most, h.1)
  halts_at_limit (halt.Refused name) most h = absurd h

-- a run that halted
pub pivot_run_is : {F : Type 0} (value : F → Number) (limit : ℕ) (choice : Dictionary → List Pivot → Dictionary → ℕ → Type 0) (Known : List Pivot → Dictionary → Type 0) (first : Dictionary) (iterlim : ℕ) (pivot_run : PivotRun F) (at : Tableau F) → length pivot_run.pivots.items ≤ iterlim → IsSoFar limit value choice Known first pivot_run.pivots.items at → HaltsAt limit value (choice first pivot_run.pivots.items (dictionary value at)) iterlim (length pivot_run.pivots.items) (dictionary value at) pivot_run.halt → IsPivotRun limit value choice first iterlim pivot_run
pivot_run_is value limit choice Known first iterlim pivot_run at few so_far halts =
    record { last = dictionary value at; few = few; leads = so_far.leads; of_form = so_far.of_form; halts = halts }
