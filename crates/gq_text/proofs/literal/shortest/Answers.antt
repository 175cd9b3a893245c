-- The zeros at the end of either part.
use Rattle.std.proofs.Common.{arith}
use Rattle.std.proofs.lemmas.Bool.Decides.{nat_tests}
use Rattle.gq_text.proofs.Zeros.{none_after, some_after}
use Rattle.gq_text.proofs.literal.shortest.Goals as goal

pub returns-then-is_empty : goal.returns-then-is_empty
returns-then-is_empty c = none_after c.args.before.now c.args.following.now c.without_zeros.result.now c.without_zeros-following.result.now c.requires.before_digits (let t = c.if-is_empty.true in let e = c.is_empty.ensures in grind (arith, nat_tests)) c.without_zeros-following.ensures.zeros c.without_zeros.ensures.zeros c.without_zeros.ensures.shorter c.without_zeros.ensures.last

pub returns-else-is_empty : goal.returns-else-is_empty
returns-else-is_empty c = some_after c.args.before.now c.args.following.now c.without_zeros-following.result.now c.requires.before_digits c.requires.after_digits (let t = c.if-is_empty.false in let e = c.is_empty.ensures in grind (arith, nat_tests)) c.without_zeros-following.ensures.zeros c.without_zeros-following.ensures.shorter c.without_zeros-following.ensures.last
