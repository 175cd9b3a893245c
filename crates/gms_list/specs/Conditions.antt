-- Which events can be listed: each displayed item has at most 8 decimals, and a solve has a
-- well-formed linear program and an answer with a certificate.
use Rattle.std.specs.Prelude.{◌≡◌, ◌≤◌, ℕ, List, map, slice_get, Some, None, All, IfSome, length}
use Rattle.gq_number.specs.Number.{Number}
use Rattle.gms_event.specs.declared.event.Event.{Event}
use Rattle.gms_event.specs.declared.event.Event.TheVariants.{Display, Solve, Abort, Fault}
use Rattle.gms_event.specs.declared.event.Shown.{Shown}
use Rattle.lp_core.specs.declared.answer.Answer.{Answer}
use Rattle.lp_core.specs.declared.answer.End.{End}
use Rattle.lp_core.specs.declared.answer.End.TheVariants.{Optimal, Infeasible, Unbounded, Interrupted, Refused}
use Rattle.lp_core.specs.declared.program.Lp.{Lp}
use Rattle.lp_core.specs.Proofs.{ProvesOptimal, ProvesInfeasible, ProvesCrossed, ProvesUnbounded}
use Rattle.lp_core.specs.WellFormed.{IsWellFormed}

module _ {F : Type 0} (value : F → Number) (lp : Lp F) where
  -- An optimal, infeasible or unbounded end of an answer has a certificate for the linear program.
  -- Infeasible with Some j has this one: j is the first column whose lower bound is above its upper
  -- bound, and all duals are 0. An end that was interrupted in phase 2 has one level for each
  -- column and each row. Nothing is required of other ends. `value` gives the number that a value
  -- of type F means.
  abbrev pub HasProof : End F → Type 0
  HasProof (Optimal levels row_levels duals reduced) = ProvesOptimal value lp (map value levels) (map value row_levels) (map value duals) (map value reduced)
  HasProof (Infeasible duals None) = ProvesInfeasible value lp (map value duals)
  HasProof (Infeasible duals (Some j)) = ProvesCrossed value lp j (map value duals)
  HasProof (Unbounded levels row_levels ray) = ProvesUnbounded value lp (map value levels) (map value row_levels) (map value ray)
  HasProof (Interrupted phase levels row_levels) = phase ≡ 2 → (length levels ≡ length lp.columns) × (length row_levels ≡ length lp.rows)
  HasProof (Refused step) = Unit {0}

module _ {F : Type 0} (value : F → Number) (answers : List (Answer F)) where
  -- a solve can be listed: its linear program is well-formed, and if there is an answer at the
  -- index `answer` of the list `answers`, the end of this answer satisfies `HasProof`
  pub record IsListableSolve (lp : Lp F) (answer : ℕ) : Type 0 where
    pub formed : IsWellFormed value lp
    pub occurs : IfSome (slice_get answers answer) (λ a. HasProof value lp a.end)

  -- an event can be listed: each item that a display or an abort shows has at most 8 decimals, and
  -- a solve satisfies `IsListableSolve`; of a fault nothing is required
  abbrev pub IsListable : Event F → Type 0
  IsListable (Display line items) = All (λ (item : Shown F). item.decimals ≤ 8) items
  IsListable (Abort line items) = All (λ (item : Shown F). item.decimals ≤ 8) items
  IsListable (Fault stop) = Unit {0}
  IsListable (Solve line model equations lp answer solver settings objective_level) = IsListableSolve lp answer
