-- Without digits, or with more after them, there is no exponent.
use Rattle.std.proofs.Common.{arith}
use Rattle.std.proofs.lemmas.Bool.Decides.{nat_tests}
use Rattle.gq_text.proofs.Splits.{no_exponent}
use Rattle.gq_text.proofs.parts.read_exponent.Goals as goal
use Rattle.gq_text.proofs.parts.read_exponent.Goals.{then-is_empty-via-then-is_empty, then-is_empty-via-else-is_empty+then-not-is_empty}

pub returns-then-is_empty-clause-none : goal.returns-then-is_empty-clause-none
returns-then-is_empty-clause-none c e h =
    no_exponent c.args.text.now c.split_sign-negative.result.1.now c.split_digits.result.0.now c.split_digits.result.1.now c.split_sign-negative.result.0 e (omega (arith, c.in-101.len_at_least)) c.split_sign-negative.ensures c.split_digits.ensures
    (λ some. elim c.then-is_empty.branch [ then-is_empty-via-then-is_empty w ↦ (λ none. absurd (let t = w.if-is_empty in grind (arith, nat_tests))) | then-is_empty-via-else-is_empty+then-not-is_empty w ↦ (λ none. absurd (let t = w.if-not-is_empty in let u = w.is_empty-else-is_empty.ensures in grind (arith, nat_tests))) ])
    h
