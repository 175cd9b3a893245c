-- Bland's choice always finds a variable, and its answer is the answer under Bland's rule: it has
-- few pivots, and with enough of them it ends.
use Rattle.std.proofs.Common.{ℕ, ◌≡◌, ◌≤◌, inl, inr, [], arith}
use Rattle.std.specs.Prelude.{Result, Ok, Err, IfOk}
use Rattle.gq_number.specs.Number.{Number}
use Rattle.lp_core.specs.declared.answer.Answer.{Answer}
use Rattle.lp_core.specs.Pivots.{IsChosen}
use Rattle.lp_core.specs.declared.answer.Rule.TheVariants.{Bland}
use Rattle.lp_core.specs.declared.program.Lp.{Lp}
use Rattle.lp_core.specs.Dictionary.{Dictionary}
use Rattle.lp_core.specs.Answers.{IsAnswer, IsAnswerByChoice}
use Rattle.lp_core.specs.WellFormed.{IsWellFormed}
use Rattle.lp_nocycle.specs.PivotCount.{HasFewPivots, EndsUninterrupted}
use Rattle.lp_nocycle.proofs.Answering.{has_few, comes_to_end}
use Rattle.lp_core.proofs.Rules.{bland_choice, bland_answer, answer_bland}
use Rattle.lp_simplex.proofs.Unique.{one_answer_by}
use Rattle.lp_simplex.specs.Choices.{AlwaysChooses}
use Rattle.lp_simplex.specs.Only.{IsOnly}
use Rattle.lp_simplex.proofs.Deciding.{least_or_none}
use Rattle.lp_simplex.proofs.Existing.{proper_there}

module _ {F : Type 0} (value : F → Number) (limit : ℕ) (lp : Lp F) (iterlim : ℕ) (formed : IsWellFormed value lp) {E : Type 0} where
  pub bland_if_ok : (r : Result (Answer F) E) → IfOk r (IsAnswerByChoice value limit lp iterlim bland_choice) → IfOk r (IsAnswer value limit lp iterlim Bland)
  bland_if_ok (Ok answer) answers = bland_answer value limit lp iterlim answer answers
  bland_if_ok (Err e) answers = answers

  pub few_if_ok : (r : Result (Answer F) E) → IfOk r (IsAnswer value limit lp iterlim Bland) → IfOk r (HasFewPivots value lp)
  few_if_ok (Ok answer) answers = has_few value limit lp iterlim answer formed answers
  few_if_ok (Err e) answers = answers

  pub ends_if_ok : (r : Result (Answer F) E) → IfOk r (IsAnswer value limit lp iterlim Bland) → IfOk r (EndsUninterrupted value lp iterlim)
  ends_if_ok (Ok answer) answers = comes_to_end value limit lp iterlim answer formed answers
  ends_if_ok (Err e) answers = answers

-- Bland's rule chooses one variable
least_once : (d : Dictionary) (q r : ℕ) → IsChosen Bland d q → IsChosen Bland d r → q ≡ r
least_once d q r one two = both_least (one.1 r two.0) (two.1 q one.0)
  where
    both_least : q ≤ r → r ≤ q → q ≡ r
    both_least less more = omega arith

-- so it has one answer
module _ {F : Type 0} (value : F → Number) (inj : (x y : F) → value x ≡ value y → x ≡ y) (limit : ℕ) (lp : Lp F) (iterlim : ℕ) (formed : IsWellFormed value lp) where
  pub one_answer : (a b : Answer F) → IsAnswer value limit lp iterlim Bland a → IsAnswer value limit lp iterlim Bland b → a ≡ b
  one_answer a b one two =
      one_answer_by value inj limit lp iterlim bland_choice (λ first pivots d q chosen. chosen.0) (λ first pivots d q r. least_once d q r) a b formed (answer_bland value limit lp iterlim a one) (answer_bland value limit lp iterlim b two)

  pub only_if_ok : {E : Type 0} (r : Result (Answer F) E) → IfOk r (IsAnswer value limit lp iterlim Bland) → IfOk r (IsOnly (IsAnswer value limit lp iterlim Bland))
  only_if_ok (Ok answer) answers = λ other is. one_answer other answer is answers
  only_if_ok (Err e) answers = answers

-- Bland's rule chooses a variable wherever some improves
pub least_chosen : AlwaysChooses bland_choice
least_chosen first pivots d proper led some =
    elim (least_or_none d (proper_there [] first pivots d proper led)) [
      | inl found ↦ (found.0, (found.1, found.2))
      | inr none ↦ absurd (none some.0 some.1)
    ]
