-- The numbers so far are taken over.
use Rattle.std.proofs.Common.{◌≡◌, take}
use Rattle.lp_integers.proofs.wide.widened.Given as goal

abbrev pub invariant-loop-n : goal.invariant-loop-n
invariant-loop-n l = l.list.items ≡ take l.n-index l.numbers
