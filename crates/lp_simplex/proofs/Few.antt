-- A result found by a rule with the turn to Bland's has few pivots, and with enough of them the
-- search ends.
use Rattle.std.proofs.Common.{ℕ, inl, inr}
use Rattle.std.specs.Prelude.{Result, Ok, Err, IfOk}
use Rattle.gq_number.specs.Number.{Number}
use Rattle.lp_core.specs.declared.answer.Answer.{Answer}
use Rattle.lp_core.specs.declared.program.Lp.{Lp}
use Rattle.lp_core.specs.Dictionary.{Dictionary}
use Rattle.lp_core.specs.WellFormed.{IsWellFormed}
use Rattle.lp_nocycle.specs.Turns.{TurnsToBland, HasFewPivotsByTurn, EndsUninterruptedByTurn}
use Rattle.lp_nocycle.proofs.AnsweringTurn.{has_few_by_turn, comes_to_end_by_turn}
use Rattle.lp_simplex.specs.Turn.{IsNextBy, IsTurningAnswer}

module _ (Picks : Dictionary → ℕ → Type 0) where
  pub next_turns : TurnsToBland (IsNextBy Picks)
  next_turns first pivots d q (inl picked) turned = absurd (picked.0 turned)
  next_turns first pivots d q (inr bland) turned = bland.1

  module _ {F : Type 0} (value : F → Number) (limit : ℕ) (lp : Lp F) (iterlim : ℕ) (formed : IsWellFormed value lp) {E : Type 0} where
    pub few_if_ok : (r : Result (Answer F) E) → IfOk r (IsTurningAnswer value limit Picks lp iterlim) → IfOk r (HasFewPivotsByTurn value lp)
    few_if_ok (Ok answer) answers = has_few_by_turn value limit lp iterlim (IsNextBy Picks) next_turns answer formed answers
    few_if_ok (Err e) answers = answers

    pub ends_if_ok : (r : Result (Answer F) E) → IfOk r (IsTurningAnswer value limit Picks lp iterlim) → IfOk r (EndsUninterruptedByTurn value lp iterlim)
    ends_if_ok (Ok answer) answers = comes_to_end_by_turn value limit lp iterlim (IsNextBy Picks) next_turns answer formed answers
    ends_if_ok (Err e) answers = answers
