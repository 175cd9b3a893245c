-- An optimum is one under each limit of pivots that it keeps to.
use Rattle.std.proofs.Common.{◌≡◌, ℕ, ◌≤◌, inl, inr, List, length, sym, subst}
use Rattle.gq_number.specs.Number.{Number}
use Rattle.lp_core.specs.declared.answer.Answer.{Answer}
use Rattle.lp_core.specs.declared.answer.End.TheVariants.{Optimal}
use Rattle.lp_core.specs.declared.answer.EndKind.{EndKind}
use Rattle.lp_core.specs.declared.answer.EndKind.TheVariants as kind
use Rattle.lp_core.specs.declared.answer.Pivot.{Pivot}
use Rattle.lp_core.specs.declared.answer.Rule.{Rule}
use Rattle.lp_core.specs.declared.program.Lp.{Lp}
use Rattle.lp_core.specs.StandardForm.{Last}
use Rattle.lp_core.specs.Dictionary.{Dictionary}
use Rattle.lp_core.specs.Pivots.{IsChosen, ByRule}
use Rattle.lp_core.specs.Ends.{IsUnfinishedBy, EndsAt, EndsWith, EndsSoBy, ends_by_kind, limit_is_met, step_stops}
use Rattle.lp_core.specs.Answers.{IsAnswer, bounds_cross, form_stops, search_ends}

module _ {F : Type 0} (value : F → Number) (limit : ℕ) (lp : Lp F) (iterlim : ℕ) where
  -- an optimum does not look at the limit
  optimum_at : (Chosen : ℕ → Type 0) (pivots other : ℕ) (d : Dictionary) (how : EndKind) (last : Last) (levels row_levels duals reduced : List F) → EndsAt Chosen ((pivots ≡ iterlim) × IsUnfinishedBy Chosen d) d how last → EndsWith value limit lp how last (Optimal levels row_levels duals reduced) → EndsAt Chosen ((pivots ≡ other) × IsUnfinishedBy Chosen d) d how last
  optimum_at Chosen pivots other d kind.Optimal last levels row_levels duals reduced at told = at
  optimum_at Chosen pivots other d kind.Infeasible last levels row_levels duals reduced at told = at
  optimum_at Chosen pivots other d kind.Unbounded last levels row_levels duals reduced at told = at
  optimum_at Chosen pivots other d kind.Interrupted last levels row_levels duals reduced at (inl told) = absurd told.0
  optimum_at Chosen pivots other d kind.Interrupted last levels row_levels duals reduced at (inr refused) = absurd (let e = refused.1 in cc)

  optimum_so : (Allowed : Pivot → ℕ → Type 0) (Chosen : ℕ → Type 0) (pivots other : ℕ) (d : Dictionary) (levels row_levels duals reduced : List F) → EndsSoBy value limit lp iterlim Allowed Chosen pivots d (Optimal levels row_levels duals reduced) → EndsSoBy value limit lp other Allowed Chosen pivots d (Optimal levels row_levels duals reduced)
  optimum_so Allowed Chosen pivots other d levels row_levels duals reduced (ends_by_kind how last at told) = ends_by_kind how last (optimum_at Chosen pivots other d how last levels row_levels duals reduced at told) told
  optimum_so Allowed Chosen pivots other d levels row_levels duals reduced (limit_is_met most one goes is) = absurd (cc)
  optimum_so Allowed Chosen pivots other d levels row_levels duals reduced (step_stops less step is stops) = absurd (cc)

  pub optimum_within : (rule : Rule) (answer : Answer F) (levels row_levels duals reduced : List F) (other : ℕ) → answer.end ≡ Optimal levels row_levels duals reduced → length answer.pivots ≤ other → IsAnswer value limit lp iterlim rule answer → IsAnswer value limit lp other rule answer
  optimum_within rule answer levels row_levels duals reduced other is few (bounds_cross none crossed) = bounds_cross none crossed
  optimum_within rule answer levels row_levels duals reduced other is few (form_stops none unformed) = form_stops none unformed
  optimum_within rule answer levels row_levels duals reduced other is few (search_ends ordered fit fewer last way ends) =
      let n = length answer.pivots in
      let Allowed = ByRule rule answer.pivots last in
      let Chosen = IsChosen rule last in
      search_ends ordered fit few last way
      (subst (EndsSoBy value limit lp other Allowed Chosen n last) (sym is) (optimum_so Allowed Chosen n other last levels row_levels duals reduced (subst (EndsSoBy value limit lp iterlim Allowed Chosen n last) is ends)))
