-- An answer by Bland's rule has as few pivots as one by a rule that turns to it.
use Rattle.std.proofs.Common.{ℕ, ◌≤◌, ◌<◌, arith}
use Rattle.std.proofs.Math.Nat.{le-mul_of_pos_right}
use Rattle.std.specs.Prelude.{Result, Ok, Err, IfOk}
use Rattle.gq_number.specs.Number.{Number}
use Rattle.lp_core.specs.declared.answer.Answer.{Answer}
use Rattle.lp_core.specs.declared.program.Lp.{Lp}
use Rattle.lp_nocycle.specs.PivotCount.{twice_sets, variable_count, HasFewPivots, EndsUninterrupted}
use Rattle.lp_nocycle.specs.Turns.{pivots_by_turn, HasFewPivotsByTurn, EndsUninterruptedByTurn}

fewer : (variables : ℕ) → twice_sets variables ≤ pivots_by_turn variables
fewer variables = le-mul_of_pos_right (twice_sets variables) (omega arith)

both_at_most : (a b c : ℕ) → a ≤ b → b ≤ c → a ≤ c
both_at_most a b c low high = omega arith

below : (a b c : ℕ) → a < b → b ≤ c → a < c
below a b c low high = omega arith

module _ {F : Type 0} (value : F → Number) (lp : Lp F) (iterlim : ℕ) {E : Type 0} where
  pub bland_few_if_ok : (result : Result (Answer F) E) → IfOk result (HasFewPivots value lp) → IfOk result (HasFewPivotsByTurn value lp)
  bland_few_if_ok (Ok answer) few = below _ (twice_sets (variable_count value lp)) (pivots_by_turn (variable_count value lp)) few (fewer (variable_count value lp))
  bland_few_if_ok (Err e) few = few

  pub bland_ends_if_ok : (result : Result (Answer F) E) → IfOk result (EndsUninterrupted value lp iterlim) → IfOk result (EndsUninterruptedByTurn value lp iterlim)
  bland_ends_if_ok (Ok answer) ends = λ enough. ends (both_at_most (twice_sets (variable_count value lp)) (pivots_by_turn (variable_count value lp)) iterlim (fewer (variable_count value lp)) enough)
  bland_ends_if_ok (Err e) ends = ends
