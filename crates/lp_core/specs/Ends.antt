-- How a search ends at a dictionary: the condition of each kind of end, what the recovery gives,
-- and which step may refuse it (Chvatal, Linear Programming, chapters 2, 3 and 8). Steps defines
-- the steps of the recovery, and Proofs the certificates of ends.
use Rattle.std.specs.Prelude.{◌≡◌, ℕ, ◌+◌, ◌<◌, ◌⊎◌, [], map, Option, Some, None}
use Rattle.gq_number.specs.Number.{Number}
use Rattle.lp_core.specs.declared.answer.Pivot.{Pivot}
use Rattle.lp_core.specs.declared.answer.Rule.{Rule}
use Rattle.lp_core.specs.declared.answer.Rule.TheVariants.{Legal}
use Rattle.lp_core.specs.declared.answer.StepName.{StepName}
use Rattle.lp_core.specs.declared.answer.EndKind.{EndKind}
use Rattle.lp_core.specs.declared.answer.EndKind.TheVariants as kind
use Rattle.lp_core.specs.declared.answer.End.{End}
use Rattle.lp_core.specs.declared.answer.End.TheVariants.{Optimal, Infeasible, Unbounded, Interrupted, Refused}
use Rattle.lp_core.specs.declared.program.Lp.{Lp}
use Rattle.lp_core.specs.Proofs.{row_sums, IsProved}
use Rattle.lp_core.specs.StandardForm.{Last, levels_back, duals_back, reduced_back, farkas_back, ray_back}
use Rattle.lp_core.specs.Dictionary.{Dictionary, OpeningIsRequired, InPhaseOne, Improves, Limits}
use Rattle.lp_core.specs.Steps.{AllFit, FirstStop, ratio_steps, exchange_steps, steps_back}
use Rattle.lp_core.specs.Pivots.{IsChosen, NothingImproves, TestFits, last_of, last_along}

-- q is a variable that may enter (`Chosen`) and that no row limits, at a dictionary where the
-- opening pivot of phase 1, in which variable 0 enters, is not required
abbrev pub IsUnlimitedBy : (ℕ → Type 0) → Dictionary → ℕ → Type 0
IsUnlimitedBy Chosen d q = ¬ (OpeningIsRequired d) × Chosen q × ((k : ℕ) → ¬ (Limits d q k))

-- a further pivot is required: the opening one of phase 1, in which variable 0 enters, or else one
-- in which a chosen variable enters that some row limits
abbrev pub IsUnfinishedBy : (ℕ → Type 0) → Dictionary → Type 0
IsUnfinishedBy Chosen d = OpeningIsRequired d ⊎ (¬ (OpeningIsRequired d) × ((q k : ℕ) × Chosen q × Limits d q k))

-- the phase of a dictionary: 1 while variable 0 is basic or has to enter in the opening pivot, else
-- 2
abbrev pub IsPhase : Dictionary → ℕ → Type 0
IsPhase d phase = ((phase ≡ 1) × (OpeningIsRequired d ⊎ InPhaseOne d)) ⊎ ((phase ≡ 2) × ¬ (OpeningIsRequired d) × ¬ (InPhaseOne d))

-- In the n-th pivot, at the dictionary d, `step` computes a numerator or denominator above `limit`.
-- It is the first such step of the ratio test of some `Chosen` variable that a row limits, if no
-- opening pivot is required, or the first such step of the exchange of some `Allowed` pivot whose
-- ratio test has none. An opening pivot has no ratio test.
abbrev pub PivotStopsBy : (Pivot → ℕ → Type 0) → (ℕ → Type 0) → ℕ → ℕ → Dictionary → StepName → Type 0
PivotStopsBy Allowed Chosen limit n d step =
    (¬ (OpeningIsRequired d) × ((q k : ℕ) × Chosen q × Limits d q k × FirstStop (ratio_steps limit n d q) step))
    ⊎ ((p : Pivot) × (k : ℕ) × Allowed p k × TestFits limit n d p × FirstStop (exchange_steps limit n d p.enter k) step)

-- at the dictionary d the opening pivot is not required, variable q may enter by the rule
-- (`IsChosen`), and no row limits q
abbrev pub IsUnlimited : Rule → Dictionary → ℕ → Type 0
IsUnlimited rule d q = IsUnlimitedBy (IsChosen rule d) d q

-- ---- the kinds of ends

-- A search ends at the dictionary d with this kind. No opening pivot, in which variable 0 enters,
-- is required. Optimal: variable 0 is not basic, and no variable improves. Infeasible: variable 0
-- is basic, and no variable improves. Unbounded: variable 0 is not basic, and some variable q that
-- may enter (`Chosen`) is limited by no row. Interrupted: variable 0 is not basic, and the
-- condition `BrokenOff` holds. `last` has, by variable, the values in d, the coefficients (0 for a
-- basic variable) in the row of variable 0 for Infeasible, else in the objective, and for Unbounded
-- the ray along which q rises.
abbrev pub EndsAt : (ℕ → Type 0) → Type 0 → Dictionary → EndKind → Last → Type 0
EndsAt Chosen BrokenOff d kind.Optimal last = ¬ (InPhaseOne d) × NothingImproves d × (last ≡ last_of d)
EndsAt Chosen BrokenOff d kind.Infeasible last = InPhaseOne d × NothingImproves d × (last ≡ last_of d)
EndsAt Chosen BrokenOff d kind.Unbounded last = ¬ (InPhaseOne d) × ((q : ℕ) × IsUnlimitedBy Chosen d q × (last ≡ last_along d q))
EndsAt Chosen BrokenOff d kind.Interrupted last = ¬ (InPhaseOne d) × ¬ (OpeningIsRequired d) × BrokenOff × (last ≡ last_of d)

-- A search in which each improving variable may enter may end at the dictionary with this kind.
-- `last` is read from the dictionary, as `EndsAt` states. Interrupted requires phase 2 and some
-- variable that improves.
abbrev pub IsReadAt : Dictionary → EndKind → Last → Type 0
IsReadAt d kind last = EndsAt (Improves d) ((q : ℕ) × Improves d q) d kind last

-- A search may end at the dictionary, in which no constant is below 0. None: no variable improves
-- (Optimal, or Infeasible if variable 0 is basic), or variable 0 is not basic and some variable
-- improves (Interrupted). Some q: variable 0 is not basic, variable q improves, and no row limits q
-- (Unbounded).
abbrev pub IsDone : Dictionary → Option ℕ → Type 0
IsDone d None = NothingImproves d ⊎ (¬ (InPhaseOne d) × ¬ (OpeningIsRequired d) × ((q : ℕ) × Improves d q))
IsDone d (Some q) = ¬ (InPhaseOne d) × IsUnlimited Legal d q

-- what is read from a final dictionary: the value of each variable; its coefficient in the priced
-- row, that of variable 0 while it is basic, else the objective; and for Some q the ray along which
-- variable q rises, for None no ray
abbrev pub last_with : Dictionary → Option ℕ → Last
last_with d None = last_of d
last_with d (Some q) = last_along d q

module _ {F : Type 0} (value : F → Number) (lp : Lp F) where
  -- The end is of this kind, and its lists are those that the recovery computes for the columns
  -- and rows of the program, from `last`, which is read from the final dictionary. Infeasible
  -- names no crossed column, and Interrupted is of phase 2.
  abbrev pub LeadsTo : EndKind → Last → End F → Type 0
  LeadsTo kind.Optimal last (Optimal levels row_levels duals reduced) =
      (map value levels ≡ levels_back value lp last) × (map value row_levels ≡ row_sums value lp (levels_back value lp last))
      × (map value duals ≡ duals_back value lp last) × (map value reduced ≡ reduced_back value lp last)
  LeadsTo kind.Infeasible last (Infeasible duals crossed) = (map value duals ≡ farkas_back value lp last) × (crossed ≡ None)
  LeadsTo kind.Unbounded last (Unbounded levels row_levels ray) =
      (map value levels ≡ levels_back value lp last) × (map value row_levels ≡ row_sums value lp (levels_back value lp last))
      × (map value ray ≡ ray_back value lp last)
  LeadsTo kind.Interrupted last (Interrupted phase levels row_levels) =
      (phase ≡ 2) × (map value levels ≡ levels_back value lp last) × (map value row_levels ≡ row_sums value lp (levels_back value lp last))
  LeadsTo other last end = ⊥

module _ {F : Type 0} (value : F → Number) (limit : ℕ) (lp : Lp F) where
  -- The recovery computes an end of the kind `how` for the program from `last`, which is read from
  -- the final dictionary. Either all its steps fit, and `end` has the lists that they compute,
  -- which prove the end (`IsProved`); or `end` is Refused with the first step that does not fit: a
  -- numerator or denominator that it computes exceeds `limit`.
  abbrev pub EndsWith : EndKind → Last → End F → Type 0
  EndsWith how last end =
      (LeadsTo value lp how last end × AllFit (steps_back value limit lp how last) × IsProved value lp end)
      ⊎ ((step : StepName) × (end ≡ Refused step) × FirstStop (steps_back value limit lp how last) step)

module _ {F : Type 0} (value : F → Number) (limit : ℕ) (lp : Lp F) (iterlim : ℕ) (Allowed : Pivot → ℕ → Type 0) (Chosen : ℕ → Type 0) where
  -- The end of a search at the dictionary d after this number of pivots, of which `iterlim` is the
  -- limit. `Allowed` says which pivots may be made, each with the row of its leaving variable, and
  -- `Chosen` which variables may enter. A step fits if no numerator or denominator that it computes
  -- exceeds `limit`.
  pub data EndsSoBy (pivots : ℕ) (d : Dictionary) (end : End F) : Type 0 where
    -- the end has the kind `how`; Interrupted needs that `pivots` is `iterlim` and a further pivot
    -- is required
    ends_by_kind : (how : EndKind) (last : Last) →
        EndsAt Chosen ((pivots ≡ iterlim) × IsUnfinishedBy Chosen d) d how last → EndsWith value limit lp how last end → EndsSoBy pivots d end
    -- the limit of pivots is met in phase 1, and a further pivot is required: the end is
    -- Interrupted with empty lists
    limit_is_met : pivots ≡ iterlim → IsPhase d 1 → IsUnfinishedBy Chosen d → end ≡ Interrupted 1 [] [] → EndsSoBy pivots d end
    -- the limit of pivots is not met, but a step of the next pivot does not fit: the end is Refused
    -- with the first such step
    step_stops : pivots < iterlim → (step : StepName) → end ≡ Refused step → PivotStopsBy Allowed Chosen limit (pivots + 1) d step → EndsSoBy pivots d end
