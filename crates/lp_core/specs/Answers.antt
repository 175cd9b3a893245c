-- When an answer is an answer of a program, under a limit of pivots and a rule (Chvatal, Linear
-- Programming, chapters 2, 3 and 8).
use Rattle.std.specs.Prelude.{◌≡◌, ℕ, ◌≤◌, List, [], length, map, Some, None}
use Rattle.gq_number.specs.Number.{Number}
use Rattle.lp_core.specs.declared.answer.Pivot.{Pivot}
use Rattle.lp_core.specs.declared.answer.Rule.{Rule}
use Rattle.lp_core.specs.declared.answer.StepName.{StepName}
use Rattle.lp_core.specs.declared.answer.End.{End}
use Rattle.lp_core.specs.declared.answer.End.TheVariants.{Infeasible, Refused}
use Rattle.lp_core.specs.declared.answer.Answer.{Answer}
use Rattle.lp_core.specs.declared.program.Lp.{Lp}
use Rattle.lp_core.specs.Proofs.{FirstCrossed, ProvesCrossed}
use Rattle.lp_core.specs.StandardForm.{standard_form}
use Rattle.lp_core.specs.Dictionary.{Dictionary, first_dictionary}
use Rattle.lp_core.specs.Steps.{AllFit, FirstStop, standard_steps}
use Rattle.lp_core.specs.Pivots.{IsChosen, ByRule, ByChoice, LeadsWithin}
use Rattle.lp_core.specs.Ends.{EndsSoBy}

-- the end is Infeasible with the first column j whose lower bound exceeds its upper bound, and with
-- the factor 0 for each row
abbrev pub EndsCrossed : {F : Type 0} → (F → Number) → Lp F → End F → Type 0
EndsCrossed {F} value lp end = (duals : List F) × (j : ℕ) × (end ≡ Infeasible duals (Some j)) × ProvesCrossed value lp j (map value duals)

-- No bounds cross, but a step that computes the standard form does not fit: a numerator or
-- denominator that it computes exceeds `limit`. The end is Refused with the first such step.
abbrev pub EndsUnformed : {F : Type 0} → (F → Number) → ℕ → Lp F → End F → Type 0
EndsUnformed value limit lp end =
    FirstCrossed value lp.columns None × ((step : StepName) × (end ≡ Refused step) × FirstStop (standard_steps value limit lp) step)

module _ {F : Type 0} (value : F → Number) (limit : ℕ) (lp : Lp F) (iterlim : ℕ) where
  -- An answer of the linear program `lp` with at most `iterlim` pivots. `Allowed` says which pivots
  -- may be made, each with the row of its leaving variable, `Chosen` which variables may enter,
  -- both by the pivots so far and the dictionary they lead to. A step fits if no numerator or
  -- denominator that it computes exceeds `limit`.
  pub data IsAnswerBy (Allowed : List Pivot → Dictionary → Pivot → ℕ → Type 0) (Chosen : List Pivot → Dictionary → ℕ → Type 0) (answer : Answer F) : Type 0 where
    -- the bounds of a column cross
    bounds_cross : answer.pivots ≡ [] → EndsCrossed value lp answer.end → IsAnswerBy Allowed Chosen answer
    -- none cross, and a step of the standard form does not fit
    form_stops : answer.pivots ≡ [] → EndsUnformed value limit lp answer.end → IsAnswerBy Allowed Chosen answer
    -- none cross, the steps fit, at most `iterlim` allowed pivots, numbered from 1, lead from the
    -- first dictionary to a final one with all their steps fitting, and the search ends there
    search_ends : FirstCrossed value lp.columns None → AllFit (standard_steps value limit lp) → length answer.pivots ≤ iterlim →
        (last : Dictionary) → LeadsWithin Allowed limit 1 [] (first_dictionary (standard_form value lp)) answer.pivots last →
        EndsSoBy value limit lp iterlim (Allowed answer.pivots last) (Chosen answer.pivots last) (length answer.pivots) last answer.end →
        IsAnswerBy Allowed Chosen answer

  -- an answer under a rule, by which the next pivot does not depend on the pivots so far
  abbrev pub IsAnswer : Rule → Answer F → Type 0
  IsAnswer rule answer = IsAnswerBy (ByRule rule) (λ done d. IsChosen rule d) answer

  -- An answer in which `choice` says which variables may enter. `choice` depends on the first
  -- dictionary, the pivots so far, and the dictionary they lead to. Of the variables that may
  -- leave, the one with the least number leaves.
  abbrev pub IsAnswerByChoice : (Dictionary → List Pivot → Dictionary → ℕ → Type 0) → Answer F → Type 0
  IsAnswerByChoice choice answer =
      let first : Dictionary = first_dictionary (standard_form value lp) in
      IsAnswerBy (ByChoice choice first) (choice first) answer
