-- An answer of a program proves its end, unless it is refused or interrupted in phase 1.
use Rattle.std.proofs.Common.{◌≡◌, ℕ, inl, inr, map, sym, subst, arith}
use Rattle.gq_number.specs.Number.{Number}
use Rattle.lp_core.specs.declared.answer.Answer.{Answer}
use Rattle.lp_core.specs.declared.answer.End.{End}
use Rattle.lp_core.specs.declared.answer.End.TheVariants.{Optimal, Infeasible, Unbounded, Interrupted, Refused}
use Rattle.lp_core.specs.declared.answer.Pivot.{Pivot}
use Rattle.lp_core.specs.declared.answer.Rule.{Rule}
use Rattle.lp_core.specs.declared.program.Lp.{Lp}
use Rattle.lp_core.specs.Answers.{IsAnswer, bounds_cross, form_stops, search_ends}
use Rattle.lp_core.specs.Dictionary.{Dictionary}
use Rattle.lp_core.specs.Ends.{EndsSoBy, ends_by_kind, limit_is_met, step_stops}
use Rattle.lp_core.specs.Feasible.{Feasible}
use Rattle.lp_core.specs.Pivots.{IsChosen, ByRule}
use Rattle.lp_core.specs.Proofs.{IsProved}

module _ {F : Type 0} (value : F → Number) (lp : Lp F) where
  -- what an end proves
  abbrev pub Proves : End F → Type 0
  Proves (Interrupted phase levels row_levels) = phase ≡ 2 → Feasible value lp (map value levels)
  Proves (Refused step) = Unit {0}
  Proves end = IsProved value lp end

  -- a proved end proves that
  proved : (end : End F) → IsProved value lp end → Proves end
  proved (Optimal levels row_levels duals reduced) is = is
  proved (Infeasible duals crossed) is = is
  proved (Unbounded levels row_levels ray) is = is
  proved (Interrupted phase levels row_levels) is = λ two. is
  proved (Refused step) is = tt

  module _ (limit iterlim : ℕ) where
    ended : (Allowed : Pivot → ℕ → Type 0) (Chosen : ℕ → Type 0) (pivots : ℕ) (d : Dictionary) (end : End F) → EndsSoBy value limit lp iterlim Allowed Chosen pivots d end → Proves end
    ended Allowed Chosen pivots d end (ends_by_kind how last at (inl told)) = proved end told.2
    ended Allowed Chosen pivots d end (ends_by_kind how last at (inr refused)) = subst Proves (sym refused.1) tt
    ended Allowed Chosen pivots d end (limit_is_met most one goes is) = subst Proves (sym is) (λ two. absurd (let e : ◌≡◌ {A = ℕ} 1 2 = two in omega (arith, e)))
    ended Allowed Chosen pivots d end (step_stops less step is stops) = subst Proves (sym is) tt

    pub answer-proves : (rule : Rule) (answer : Answer F) → IsAnswer value limit lp iterlim rule answer → Proves answer.end
    answer-proves rule answer (bounds_cross none crossed) = subst Proves (sym crossed.2) crossed.3
    answer-proves rule answer (form_stops none unformed) = subst Proves (sym unformed.1.1) tt
    answer-proves rule answer (search_ends ordered fit few last way ends) = ended (ByRule rule answer.pivots last) (IsChosen rule last) _ last answer.end ends
