use Rattle.std.proofs.Common.{◌≡◌, ◌≤◌, ◌+◌, ◌*◌, ◌-◌, ◌^◌, map, drop, length, sum}
use Rattle.gq_frac.specs.declared.frac.Frac.{Frac}
use Rattle.lp_core.specs.declared.answer.Answer.{Answer}
use Rattle.gms_run.proofs.closing.pivots_of.Given as goal

-- the pivots so far and those of the later answers are those of all
abbrev pub invariant-loop-answer : goal.invariant-loop-answer
invariant-loop-answer l =
    (l.count + sum (map (λ (answer : Answer Frac). length answer.pivots) (drop l.answer-index l.answers)) ≡ sum (map (λ (answer : Answer Frac). length answer.pivots) l.answers)) × (l.count ≤ l.answer-index * (2 ^ 64 - 1))
