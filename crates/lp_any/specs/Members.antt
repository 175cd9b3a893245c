-- The rules that the solver `any` tries in sequence, and their answers (Chvatal, Linear
-- Programming, chapters 2 and 3).
use Rattle.std.specs.Prelude.{ℕ, zero, suc, ◌<◌, List, [], ◌∷◌}
use Rattle.gq_number.specs.Number.{Number}
use Rattle.lp_core.specs.declared.answer.Answer.{Answer}
use Rattle.lp_core.specs.declared.answer.Rule.TheVariants.{Bland}
use Rattle.lp_core.specs.declared.program.Lp.{Lp}
use Rattle.lp_core.specs.Dictionary.{Improves}
use Rattle.lp_core.specs.Answers.{IsAnswer}
use Rattle.lp_core.specs.LargestCoefficient.{IsLargestAnswer}
use Rattle.lp_simplex.specs.Turn.{IsTurningAnswer}
use Rattle.lp_bland.specs.Ends.{IsRefusedEnd}
use Rattle.lp_any.specs.Costs.{IsCheapest}
use Rattle.lp_any.specs.Measures.{IsCostBy, LengthAt, GainAt, RowAt, BothAt}
use Rattle.lp_any.specs.Shuffles.{ShuffledAt}
use Rattle.lp_any.specs.declared.members.Member.{Member}
use Rattle.lp_any.specs.declared.members.Member.TheVariants as member

-- how many rules for the entering variable are tried at most, the shuffles included
abbrev pub rule_count : ℕ
rule_count = 23

-- the n-th rule of a list, from 0; after the last of them come the shuffles, numbered from 0
abbrev pub rule_after : List Member → ℕ → Member
rule_after [] n = member.Shuffle n
rule_after (rule ∷ rules) zero = rule
rule_after (rule ∷ rules) (suc n) = rule_after rules n

-- the rule that is tried at this place in the sequence, from 0: first the seven in the list, then
-- the shuffles
abbrev pub rule_at : ℕ → Member
rule_at place =
    rule_after (member.Steepest ∷ member.Shortest ∷ member.GainForBits ∷ member.ShortInRow ∷ member.ShortInBoth ∷ member.Largest ∷ member.Bland ∷ []) place

module _ {F : Type 0} (value : F → Number) (limit : ℕ) where
  -- An answer of the program by one of the rules, with at most `iterlim` pivots. After as many
  -- successive degenerate pivots in a phase as there are variables, variable 0 included, Bland's
  -- rule picks the entering variable, to the end of the phase. Before that, Steepest admits any
  -- improving variable, Largest one with the greatest coefficient, Bland the one of Bland's rule,
  -- and each other rule the cheapest by the costs of that rule. `limit` bounds the size of numbers,
  -- and `value` gives the number that a value of `F` means.
  abbrev pub IsAnswerOf : Member → Lp F → ℕ → Answer F → Type 0
  IsAnswerOf member.Steepest lp iterlim answer = IsTurningAnswer value limit Improves lp iterlim answer
  IsAnswerOf member.Shortest lp iterlim answer = IsTurningAnswer value limit (IsCheapest (IsCostBy limit LengthAt)) lp iterlim answer
  IsAnswerOf member.GainForBits lp iterlim answer = IsTurningAnswer value limit (IsCheapest (IsCostBy limit GainAt)) lp iterlim answer
  IsAnswerOf member.ShortInRow lp iterlim answer = IsTurningAnswer value limit (IsCheapest (IsCostBy limit RowAt)) lp iterlim answer
  IsAnswerOf member.ShortInBoth lp iterlim answer = IsTurningAnswer value limit (IsCheapest (IsCostBy limit BothAt)) lp iterlim answer
  IsAnswerOf member.Largest lp iterlim answer = IsLargestAnswer value limit lp iterlim answer
  IsAnswerOf member.Bland lp iterlim answer = IsAnswer value limit lp iterlim Bland answer
  IsAnswerOf (member.Shuffle n) lp iterlim answer = IsTurningAnswer value limit (IsCheapest (IsCostBy limit (ShuffledAt n))) lp iterlim answer

  -- the program has an answer by this rule, with at most `iterlim` pivots, that is Refused, as a
  -- step exceeds the limit of the size of numbers
  abbrev pub IsRefusedBy : Member → Lp F → ℕ → Type 0
  IsRefusedBy rule lp iterlim = (answer : Answer F) × IsAnswerOf rule lp iterlim answer × IsRefusedEnd answer.end

  -- by each of the first `count` rules the program has an answer, with at most `iterlim` pivots,
  -- that is Refused
  abbrev pub AreRefused : ℕ → Lp F → ℕ → Type 0
  AreRefused count lp iterlim = (place : ℕ) → place < count → IsRefusedBy (rule_at place) lp iterlim

  -- An answer, with at most `iterlim` pivots, by one of the rules that are tried, where by each
  -- earlier rule the program has such an answer that is Refused.
  pub record IsAnswerInTurn (lp : Lp F) (iterlim : ℕ) (answer : Answer F) : Type 0 where
    pub place : ℕ
    pub tried : place < rule_count
    pub answers : IsAnswerOf (rule_at place) lp iterlim answer
    pub before : AreRefused place lp iterlim
