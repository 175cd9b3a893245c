-- Answers of a list of linear programs, under some rule and some limit of pivots.
use Rattle.std.specs.Prelude.{◌≡◌, ℕ, List, length, slice_get, IfSome}
use Rattle.gq_number.specs.Number.{Number}
use Rattle.lp_core.specs.declared.answer.Answer.{Answer}
use Rattle.lp_core.specs.declared.answer.Rule.{Rule}
use Rattle.lp_core.specs.declared.program.Lp.{Lp}
use Rattle.lp_core.specs.Answers.{IsAnswer}
use Rattle.lp_core.specs.WellFormed.{IsWellFormed}

module _ {F : Type 0} (value : F → Number) (limit : ℕ) where
  -- The linear program `lp` is well-formed, and `answer` is an answer of it under some limit of
  -- the number of pivots, `iterlim`, and some pivot rule. `value` gives the number that a value of
  -- `F` means, and `limit` is the limit of the size of numbers.
  pub record IsSomeAnswer (lp : Lp F) (answer : Answer F) : Type 0 where
    pub formed : IsWellFormed value lp
    pub iterlim : ℕ
    pub rule : Rule
    pub is_answer : IsAnswer value limit lp iterlim rule answer

  -- There are as many answers as programs, and each is an answer of the program at the same
  -- position of the list.
  pub record AreSomeAnswers (programs : List (Lp F)) (answers : List (Answer F)) : Type 0 where
    pub many : length programs ≡ length answers
    pub each : (place : ℕ) → IfSome (slice_get programs place) (λ lp. IfSome (slice_get answers place) (IsSomeAnswer lp))
