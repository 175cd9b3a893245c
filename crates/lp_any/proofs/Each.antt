-- If each rule so far is refused and so is the next, each up to it is; and an answer by Bland's
-- rule is one of legal pivots.
use Rattle.std.proofs.Common.{◌≡◌, ℕ, ◌+◌, ◌<◌, Bool, true, inl, inr, subst, arith}
use Rattle.std.proofs.lemmas.Bool.{cases_lt}
use Rattle.std.specs.Prelude.{◌↔◌, Result, Ok, Err, IfOk, IsTrue}
use Rattle.std.specs.declared.alloc.AllocError.{AllocError}
use Rattle.gq_number.specs.Number.{Number}
use Rattle.lp_core.specs.declared.answer.Answer.{Answer}
use Rattle.lp_core.specs.declared.answer.Rule.TheVariants.{Bland, Legal}
use Rattle.lp_core.specs.declared.program.Lp.{Lp}
use Rattle.lp_core.specs.Answers.{IsAnswer}
use Rattle.lp_core.proofs.Rules.{bland_is_legal}
use Rattle.lp_bland.specs.Ends.{IsRefusedEnd}
use Rattle.lp_any.specs.declared.members.Member.{Member}
use Rattle.lp_any.specs.declared.members.Member.TheVariants as member
use Rattle.lp_any.specs.Members.{rule_at, rule_count, IsAnswerOf, IsRefusedBy, AreRefused, IsAnswerInTurn}

module _ {F : Type 0} (value : F → Number) (limit : ℕ) (lp : Lp F) (iterlim : ℕ) where
  pub none_before : AreRefused value limit 0 lp iterlim
  none_before place less = absurd (omega arith)

  -- a rule whose end is found to be Refused has a refused answer
  refused_by : (rule : Member) (answer : Answer F) (found : Bool) → IsAnswerOf value limit rule lp iterlim answer → IsTrue found ↔ IsRefusedEnd answer.end → found ≡ true → IsRefusedBy value limit rule lp iterlim
  refused_by rule answer found is tells so = (answer, is, tells.0 so)

  pub one_more : (n : ℕ) (rule : Member) (answer : Answer F) (found : Bool) → AreRefused value limit n lp iterlim → rule ≡ rule_at n → IsAnswerOf value limit rule lp iterlim answer → IsTrue found ↔ IsRefusedEnd answer.end → found ≡ true → AreRefused value limit (n + 1) lp iterlim
  one_more n rule answer found before is answers tells so place less =
      elim (cases_lt place n) [
        | inl early ↦ before place early
        | inr late ↦
            let same : n ≡ place = omega arith in
            subst (λ p. IsRefusedBy value limit (rule_at p) lp iterlim) same (subst (λ m. IsRefusedBy value limit m lp iterlim) is (refused_by rule answer found answers tells so))
      ]

  pub in_turn : (n : ℕ) (rule : Member) (answer : Answer F) → n < rule_count → AreRefused value limit n lp iterlim → rule ≡ rule_at n → IsAnswerOf value limit rule lp iterlim answer → IsAnswerInTurn value limit lp iterlim answer
  in_turn n rule answer tried before is answers =
      record {
        place = n;
        tried = tried;
        answers = subst (λ m. IsAnswerOf value limit m lp iterlim answer) is answers;
        before = before;
      }

  module _ (all : AreRefused value limit rule_count lp iterlim) where
    before_bland : AreRefused value limit 6 lp iterlim
    before_bland place less = all place (omega arith)

    pub in_turn_if_ok : (result : Result (Answer F) AllocError) → IfOk result (IsAnswerOf value limit member.Bland lp iterlim) → IfOk result (IsAnswerInTurn value limit lp iterlim)
    in_turn_if_ok (Ok answer) bland = record { place = 6; tried = omega arith; answers = bland; before = before_bland }
    in_turn_if_ok (Err e) bland = bland

    pub all_if_ok : (result : Result (Answer F) AllocError) → IfOk result (IsAnswerOf value limit member.Bland lp iterlim) → IfOk result (λ answer. IsRefusedEnd answer.end → AreRefused value limit rule_count lp iterlim)
    all_if_ok (Ok answer) bland = λ refused. all
    all_if_ok (Err e) bland = bland

  pub bland_if_ok : (result : Result (Answer F) AllocError) → IfOk result (IsAnswerOf value limit member.Bland lp iterlim) → IfOk result (λ answer. IsRefusedEnd answer.end → IsAnswer value limit lp iterlim Bland answer)
  bland_if_ok (Ok answer) bland = λ refused. bland
  bland_if_ok (Err e) bland = bland

  pub legal_if_ok : (result : Result (Answer F) AllocError) → IfOk result (IsAnswer value limit lp iterlim Bland) → IfOk result (IsAnswer value limit lp iterlim Legal)
  legal_if_ok (Ok answer) bland = bland_is_legal value limit lp iterlim answer bland
  legal_if_ok (Err e) bland = bland
