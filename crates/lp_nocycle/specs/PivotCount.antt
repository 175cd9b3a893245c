-- The greatest number of pivots under Bland's rule (Chvatal, Linear Programming, chapter 3).
use Rattle.std.specs.Prelude.{ℕ, ◌+◌, ◌*◌, ◌^◌, ◌<◌, ◌≤◌, nat_lt, length, Option, Some, None, if◌then◌else◌}
use Rattle.gq_number.specs.Number.{Number}
use Rattle.lp_core.specs.declared.answer.End.{End}
use Rattle.lp_core.specs.declared.answer.End.TheVariants.{Interrupted}
use Rattle.lp_core.specs.declared.answer.Answer.{Answer}
use Rattle.lp_core.specs.declared.program.Lp.{Lp}
use Rattle.lp_core.specs.StandardForm.{standard_form}
use Rattle.lp_core.specs.Dictionary.{first_dictionary}

-- 2 times 2^n, where n is `variables`: n variables have 2^n subsets, and in each of the two phases
-- any subset may be the basis
abbrev pub twice_sets : ℕ → ℕ
twice_sets variables = 2 * 2 ^ variables

-- how many variables the standard form of a program has, slacks and variable 0 included
abbrev pub variable_count : {F : Type 0} → (F → Number) → Lp F → ℕ
variable_count value lp = (first_dictionary (standard_form value lp)).variables + 1

-- the end is Interrupted
abbrev pub IsInterrupted : {F : Type 0} → End F → Type 0
IsInterrupted (Interrupted phase levels row_levels) = Unit {0}
IsInterrupted other = ⊥

-- an answer has fewer pivots than twice 2^n, where n is the number of variables of the standard
-- form, slacks and variable 0 included
abbrev pub HasFewPivots : {F : Type 0} → (F → Number) → Lp F → Answer F → Type 0
HasFewPivots value lp answer = length answer.pivots < twice_sets (variable_count value lp)

-- if the limit of pivots `iterlim` is at least twice 2^n, where n is the number of variables of the
-- standard form, slacks and variable 0 included, the end is not Interrupted
abbrev pub EndsUninterrupted : {F : Type 0} → (F → Number) → Lp F → ℕ → Answer F → Type 0
EndsUninterrupted value lp iterlim answer = twice_sets (variable_count value lp) ≤ iterlim → ¬ (IsInterrupted answer.end)

-- twice 2^n, where n is `variables`; None if that does not fit in 64 bits
abbrev pub pivot_bound : ℕ → Option ℕ
pivot_bound variables = if nat_lt (twice_sets variables) (2 ^ 64) then Some (twice_sets variables) else None
