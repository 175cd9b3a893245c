-- What the count of pivots says of answers.
use Rattle.std.proofs.Common.{◌≡◌, ℕ, zero, suc, ◌*◌, ◌<◌, inl, inr, List, [], length, sym, subst, arith}
use Rattle.std.specs.Prelude.{◌^◌}
use Rattle.std.proofs.Math.Nat.{pow-suc}
use Rattle.gq_number.specs.Number.{Number}
use Rattle.lp_core.specs.declared.answer.Answer.{Answer}
use Rattle.lp_core.specs.declared.answer.End.{End}
use Rattle.lp_core.specs.declared.answer.EndKind.{EndKind}
use Rattle.lp_core.specs.declared.answer.EndKind.TheVariants as kind
use Rattle.lp_core.specs.declared.answer.Pivot.{Pivot}
use Rattle.lp_core.specs.declared.answer.StepName.{StepName}
use Rattle.lp_core.specs.declared.answer.End.TheVariants.{Optimal, Infeasible, Unbounded, Interrupted, Refused}
use Rattle.lp_core.specs.declared.answer.Rule.TheVariants.{Bland}
use Rattle.lp_core.specs.declared.program.Lp.{Lp}
use Rattle.lp_core.specs.StandardForm.{Last}
use Rattle.lp_core.specs.Dictionary.{Dictionary}
use Rattle.lp_core.specs.Pivots.{IsChosen, ByRule}
use Rattle.lp_core.specs.Ends.{IsUnfinishedBy, EndsAt, LeadsTo, EndsSoBy, ends_by_kind, limit_is_met, step_stops}
use Rattle.lp_core.specs.Answers.{IsAnswer, bounds_cross, form_stops, search_ends, EndsCrossed}
use Rattle.lp_core.specs.WellFormed.{IsWellFormed}
use Rattle.lp_nocycle.specs.PivotCount.{variable_count, IsInterrupted, HasFewPivots, EndsUninterrupted}
use Rattle.lp_nocycle.proofs.Following.{few_pivots}

power_above : (w : ℕ) → 0 < 2 ^ w
power_above zero = omega arith
power_above (suc w) = let rest = power_above w in let power : 2 ^ suc w ≡ 2 ^ w * 2 = pow-suc 2 w in omega arith

pub two_power_above : (w : ℕ) → 0 < 2 * 2 ^ w
two_power_above w = let rest = power_above w in omega arith

no_pivots : {X : Type 0} (xs : List X) (w : ℕ) → xs ≡ [] → length xs < 2 * 2 ^ w
no_pivots {X} xs w none = subst (λ (ys : List X). length ys < 2 * 2 ^ w) (sym none) (two_power_above w)

module _ {F : Type 0} (value : F → Number) (limit : ℕ) (lp : Lp F) (iterlim : ℕ) where
  pub not_crossed : (end : End F) → IsInterrupted end → ¬ (EndsCrossed value lp end)
  not_crossed end is h = subst IsInterrupted h.2 is

  pub not_refused : (end : End F) (step : StepName) → end ≡ Refused step → IsInterrupted end → ⊥
  not_refused end step refused is = subst IsInterrupted refused is

  -- of a kind of end it is that one alone which an interrupted search tells
  at_kind : (Chosen : ℕ → Type 0) (pivots : ℕ) (d : Dictionary) (how : EndKind) (last : Last) (end : End F) → IsInterrupted end → EndsAt Chosen ((pivots ≡ iterlim) × IsUnfinishedBy Chosen d) d how last → LeadsTo value lp how last end → pivots ≡ iterlim
  at_kind Chosen pivots d kind.Interrupted last end is at leads = at.2.0
  at_kind Chosen pivots d kind.Optimal last (Interrupted phase levels row_levels) is at leads = absurd leads
  at_kind Chosen pivots d kind.Infeasible last (Interrupted phase levels row_levels) is at leads = absurd leads
  at_kind Chosen pivots d kind.Unbounded last (Interrupted phase levels row_levels) is at leads = absurd leads
  at_kind Chosen pivots d how last (Optimal levels row_levels duals reduced) is at leads = absurd is
  at_kind Chosen pivots d how last (Infeasible duals crossed) is at leads = absurd is
  at_kind Chosen pivots d how last (Unbounded levels row_levels ray) is at leads = absurd is
  at_kind Chosen pivots d how last (Refused step) is at leads = absurd is

  pub at_the_limit : (Allowed : Pivot → ℕ → Type 0) (Chosen : ℕ → Type 0) (pivots : ℕ) (d : Dictionary) (end : End F) → IsInterrupted end → EndsSoBy value limit lp iterlim Allowed Chosen pivots d end → pivots ≡ iterlim
  at_the_limit Allowed Chosen pivots d end is (ends_by_kind how last at (inl told)) = at_kind Chosen pivots d how last end is at told.0
  at_the_limit Allowed Chosen pivots d end is (ends_by_kind how last at (inr refused)) = absurd (not_refused end refused.0 refused.1 is)
  at_the_limit Allowed Chosen pivots d end is (limit_is_met most one goes early) = most
  at_the_limit Allowed Chosen pivots d end is (step_stops less step refused stops) = absurd (not_refused end step refused is)

  pub has_few : (answer : Answer F) → IsWellFormed value lp → IsAnswer value limit lp iterlim Bland answer → HasFewPivots value lp answer
  has_few answer formed (bounds_cross none crossed) = no_pivots answer.pivots (variable_count value lp) none
  has_few answer formed (form_stops none stopped) = no_pivots answer.pivots (variable_count value lp) none
  has_few answer formed (search_ends ordered fit most last way ends) = few_pivots value lp answer.pivots last formed way.0

  pub comes_to_end : (answer : Answer F) → IsWellFormed value lp → IsAnswer value limit lp iterlim Bland answer → EndsUninterrupted value lp iterlim answer
  comes_to_end answer formed (bounds_cross none crossed) enough is = not_crossed answer.end is crossed
  comes_to_end answer formed (form_stops none stopped) enough is = not_refused answer.end stopped.1.0 stopped.1.1 is
  comes_to_end answer formed (search_ends ordered fit most last way ends) enough is =
      let few = few_pivots value lp answer.pivots last formed way.0 in
      let same = at_the_limit (ByRule Bland answer.pivots last) (IsChosen Bland last) (length answer.pivots) last answer.end is ends in
      absurd (omega arith)
