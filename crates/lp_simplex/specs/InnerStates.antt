-- What the functions of the pivot loop promise each other (Chvatal, Linear Programming, chapters 2,
-- 3 and 8).
use Rattle.std.specs.Prelude.{◌≡◌, ℕ, ◌+◌, ◌<◌, ◌≤◌, List, [], ◌∷◌, ◌++◌, length, Option, Some, None}
use Rattle.gq_number.specs.Number.{Number}
use Rattle.lp_core.specs.Counts.{counted}
use Rattle.lp_core.specs.declared.answer.Pivot.{Pivot}
use Rattle.lp_core.specs.Ends.{IsUnlimitedBy, IsUnfinishedBy, PivotStopsBy}
use Rattle.lp_core.specs.declared.answer.StepName.{StepName}
use Rattle.lp_core.specs.StandardForm.{Standard}
use Rattle.lp_core.specs.Dictionary.{Dictionary, InPhaseOne, exchanged, IsDictionaryOf, IsProper}
use Rattle.lp_core.specs.Steps.{AllFit, exchange_steps}
use Rattle.lp_core.specs.Pivots.{NothingImproves, TestFits, IsAllowedBy, ByChoice, LeadsWithin}
use Rattle.lp_dict.specs.Tableau.{Tableau, dictionary}
use Rattle.lp_simplex.specs.declared.pivoting.NextStep.{NextStep}
use Rattle.lp_simplex.specs.declared.pivoting.NextStep.TheVariants as required
use Rattle.lp_simplex.specs.declared.pivoting.Halt.{Halt}
use Rattle.lp_simplex.specs.declared.pivoting.Halt.TheVariants as halt
use Rattle.lp_simplex.specs.declared.pivoting.Step.{Step}
use Rattle.lp_simplex.specs.declared.pivoting.Step.TheVariants as step
use Rattle.lp_simplex.specs.declared.pivoting.PivotRun.{PivotRun}

-- what follows when this variable enters: a pivot with the variable that leaves, or an end if none
-- leaves
abbrev pub next_with : ℕ → Option ℕ → NextStep
next_with enter None = required.End (Some enter)
next_with enter (Some leave) = required.Pivot (record { enter = enter; leave = leave })

-- no pivot is required: nothing improves; or this chosen variable improves in phase 2 and no row
-- limits it
abbrev pub NothingIsNext : (ℕ → Type 0) → Dictionary → Option ℕ → Type 0
NothingIsNext Chosen d None = NothingImproves d
NothingIsNext Chosen d (Some q) = ¬ (InPhaseOne d) × IsUnlimitedBy Chosen d q

-- a step of the n-th pivot that does not fit, where `Chosen` are the variables that may enter
abbrev pub StopsBy : (ℕ → Type 0) → ℕ → ℕ → Dictionary → StepName → Type 0
StopsBy Chosen limit n d name = PivotStopsBy (IsAllowedBy Chosen d) Chosen limit n d name

module _ (limit : ℕ) where
  -- what follows at a dictionary before the n-th pivot, where `Chosen` are the variables that may
  -- enter
  abbrev pub IsNextStep : (ℕ → Type 0) → ℕ → Dictionary → NextStep → Type 0
  IsNextStep Chosen n d (required.Pivot p) = (k : ℕ) × IsAllowedBy Chosen d p k × TestFits limit n d p
  IsNextStep Chosen n d (required.Stop name) = StopsBy Chosen limit n d name
  IsNextStep Chosen n d (required.End enter) = NothingIsNext Chosen d enter

  module _ {F : Type 0} (value : F → Number) where
    -- A pivot leads from one dictionary to the next: the choice allows it, all its steps fit, and
    -- the result is the exchange, of which `Known` holds.
    pub record IsAfter (Chosen : ℕ → Type 0) (Known : Dictionary → Type 0) (before : Tableau F) (p : Pivot) (after : Tableau F) : Type 0 where
      pub row : ℕ
      pub allowed : IsAllowedBy Chosen (dictionary value before) p row
      pub tested : TestFits limit before.upcoming (dictionary value before) p
      pub fit : AllFit (exchange_steps limit before.upcoming (dictionary value before) p.enter row)
      pub is_exchanged : dictionary value after ≡ exchanged (dictionary value before) p.enter row
      pub of_form : (s : Standard) → IsDictionaryOf s (dictionary value before) → IsDictionaryOf s (dictionary value after)
      pub upcoming : after.upcoming ≡ counted (before.upcoming + 1)
      pub known : Known (dictionary value after)

    -- A run so far: the pivots of the choice lead from a first dictionary to the present one, and
    -- all their steps fit.
    pub record IsSoFar (choice : Dictionary → List Pivot → Dictionary → ℕ → Type 0) (Known : List Pivot → Dictionary → Type 0) (first : Dictionary) (pivots : List Pivot) (at : Tableau F) : Type 0 where
      pub leads : LeadsWithin (ByChoice choice first) limit 1 [] first pivots (dictionary value at)
      pub proper : IsProper (dictionary value at)
      pub of_form : (s : Standard) → IsDictionaryOf s first → IsDictionaryOf s (dictionary value at)
      pub upcoming : at.upcoming ≡ counted (length pivots + 1)
      pub known : Known pivots (dictionary value at)

    -- the result of one pivot after others, by the choice, and what is then known of all the pivots
    abbrev pub StepsTo : (ℕ → Type 0) → (List Pivot → Dictionary → Type 0) → List Pivot → Tableau F → Step F → Type 0
    StepsTo Chosen Known pivots before (step.Pivoted p after) = IsAfter Chosen (Known (pivots ++ p ∷ [])) before p after
    StepsTo Chosen Known pivots before (step.Halted (halt.Ended d enter)) = (d ≡ before) × NothingIsNext Chosen (dictionary value before) enter
    StepsTo Chosen Known pivots before (step.Halted (halt.Interrupted d)) = ⊥
    StepsTo Chosen Known pivots before (step.Halted (halt.Refused name)) = StopsBy Chosen limit before.upcoming (dictionary value before) name

    -- where a run halts that may make no further pivot
    abbrev pub HaltsAtLimit : (ℕ → Type 0) → Tableau F → Halt F → Type 0
    HaltsAtLimit Chosen before (halt.Ended d enter) = (d ≡ before) × NothingIsNext Chosen (dictionary value before) enter
    HaltsAtLimit Chosen before (halt.Interrupted d) = (d ≡ before) × IsUnfinishedBy Chosen (dictionary value before)
    HaltsAtLimit Chosen before (halt.Refused name) = ⊥

    -- where a run halted, by its final dictionary and the number of its pivots, of at most
    -- `iterlim`
    abbrev pub HaltsAt : (ℕ → Type 0) → ℕ → ℕ → Dictionary → Halt F → Type 0
    HaltsAt Chosen iterlim pivots last (halt.Ended d enter) = (dictionary value d ≡ last) × NothingIsNext Chosen last enter
    HaltsAt Chosen iterlim pivots last (halt.Interrupted d) = (dictionary value d ≡ last) × (pivots ≡ iterlim) × IsUnfinishedBy Chosen last
    HaltsAt Chosen iterlim pivots last (halt.Refused name) = (pivots < iterlim) × StopsBy Chosen limit (pivots + 1) last name

    -- A run from a first dictionary: the pivots of the choice lead to the dictionary at which it
    -- halts, and all their steps fit.
    pub record IsPivotRun (choice : Dictionary → List Pivot → Dictionary → ℕ → Type 0) (first : Dictionary) (iterlim : ℕ) (pivot_run : PivotRun F) : Type 0 where
      pub last : Dictionary
      pub few : length pivot_run.pivots.items ≤ iterlim
      pub leads : LeadsWithin (ByChoice choice first) limit 1 [] first pivot_run.pivots.items last
      pub of_form : (s : Standard) → IsDictionaryOf s first → IsDictionaryOf s last
      pub halts : HaltsAt (choice first pivot_run.pivots.items last) iterlim (length pivot_run.pivots.items) last pivot_run.halt
