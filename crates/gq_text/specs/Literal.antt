-- Which numbers a literal can have under a limit, and the result of reading a text.
use Rattle.std.specs.Prelude.{◌≡◌, ◌≢◌, ℕ, ◌*◌, ◌%◌, ◌^◌, ◌≤◌, ◌⊎◌, List, pos, Result, Ok, Err}
use Rattle.gq_number.specs.Number.{Number, whole, ratio}
use Rattle.gq_text.specs.declared.fault.NumberFault.{NumberFault}
use Rattle.gq_text.specs.declared.fault.NumberFault.TheVariants.{Shape, Limit}
use Rattle.gq_text.specs.Decimal.{MeansNumber}

-- m is 0, or its last digit is not 0
abbrev pub HasNoTrailingZero : ℕ → Type 0
HasNoTrailingZero m = (m ≡ 0) ⊎ (m % 10 ≢ 0)

-- The literal rule: whether a number may be written as a literal under the limit. For some m, which
-- is 0 or does not end in 0, the number is m times 10^e, and this product is within the limit; or
-- it is m over 10^e, and m and 10^e are both within the limit.
pub record FitsLiteral (limit : ℕ) (x : Number) : Type 0 where
  pub m : ℕ
  pub e : ℕ
  pub shortest : HasNoTrailingZero m
  pub within : ((x ≡ whole (pos (m * 10 ^ e))) × (m * 10 ^ e ≤ limit))
      ⊎ ((x ≡ ratio (pos m) (10 ^ e)) × (m ≤ limit) × (10 ^ e ≤ limit))

-- the result of reading a text that means x is right: a value of the number x (`value` gives the
-- number of a value) if x fits by the literal rule, and `Limit` if not; never `Shape`. A number
-- fits if it is a whole number within the limit, or a quotient of a whole number and a power of ten
-- that are both within it
abbrev pub AnswersLiteral : {F : Type 0} → ℕ → (F → Number) → Number → Result F NumberFault → Type 0
AnswersLiteral limit value x (Ok v) = FitsLiteral limit x × (value v ≡ x)
AnswersLiteral limit value x (Err Shape) = ⊥
AnswersLiteral limit value x (Err Limit) = ¬ FitsLiteral limit x

-- the result of reading a text is right: a value of the number that the text means (`value` gives
-- the number of a value), which fits by the literal rule; `Limit` if the text means a number that
-- does not fit; `Shape` if it means no number. A number fits if it is a whole number within the
-- limit, or a quotient of a whole number and a power of ten that are both within it
abbrev pub ReadsLiteral : {F : Type 0} → ℕ → (F → Number) → List ℕ → Result F NumberFault → Type 0
ReadsLiteral limit value text (Ok v) = MeansNumber text (value v) × FitsLiteral limit (value v)
ReadsLiteral limit value text (Err Limit) = (x : Number) × MeansNumber text x × ¬ FitsLiteral limit x
ReadsLiteral limit value text (Err Shape) = (x : Number) → ¬ MeansNumber text x
