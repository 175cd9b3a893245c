-- Which events are valid, so that they can be listed: displays with at most 8 decimals, and solves
-- that are answered.
use Rattle.std.specs.Prelude.{◌≡◌, ◌≤◌, ℕ, List, ◌++◌, slice_get, Some, All}
use Rattle.gq_number.specs.Number.{Number}
use Rattle.gms_store.specs.declared.settings.Settings.{Settings}
use Rattle.gms_event.specs.declared.event.Event.{Event}
use Rattle.gms_event.specs.declared.event.Event.TheVariants as event
use Rattle.gms_event.specs.declared.event.Shown.{Shown}
use Rattle.lp_core.specs.declared.answer.Answer.{Answer}
use Rattle.lp_slot.specs.declared.solver.SolverRule.{SolverRule}
use Rattle.lp_core.specs.declared.program.Lp.{Lp}
use Rattle.lp_slot.specs.Under.{IsAnswerUnder}
use Rattle.lp_core.specs.WellFormed.{IsWellFormed}

module _ {F : Type 0} (value : F → Number) (limit : ℕ) (rules : List SolverRule) (answers : List (Answer F)) where
  -- A shown solve has a well-formed linear program. At the index `place` of the list `answers` is
  -- an answer of this program, under `iterlim`, the limit of pivots in the solve's settings, and by
  -- the pivot rule of the solver that these settings choose. `rules` has the rule of each solver,
  -- and `limit` is the limit of the size of numbers.
  pub record IsValidSolve (lp : Lp F) (place : ℕ) (settings : Settings) : Type 0 where
    pub formed : IsWellFormed value lp
    pub given : Answer F
    pub occurs : slice_get answers place ≡ Some given
    pub rule : SolverRule
    pub chosen : slice_get rules settings.solver ≡ Some rule
    pub is_answer : IsAnswerUnder value limit lp settings.iterlim rule given

  -- the event is valid: each item that a display or an abort shows has at most 8 decimals, a solve
  -- is as `IsValidSolve` states, and any fault is valid
  abbrev pub IsValidEvent : Event F → Type 0
  IsValidEvent (event.Display line items) = All (λ (item : Shown F). item.decimals ≤ 8) items
  IsValidEvent (event.Abort line items) = All (λ (item : Shown F). item.decimals ≤ 8) items
  IsValidEvent (event.Fault stop) = Unit {0}
  IsValidEvent (event.Solve line model equations lp answer solver settings level) = IsValidSolve lp answer settings

  -- The new events are the old ones followed by valid ones.
  pub record ShowsValidEvents (old new : List (Event F)) : Type 0 where
    pub shown : List (Event F)
    pub events : new ≡ old ++ shown
    pub valid : All IsValidEvent shown
