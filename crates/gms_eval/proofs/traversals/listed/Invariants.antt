use Rattle.std.proofs.Common.{◌≡◌, take}
use Rattle.gms_eval.proofs.traversals.listed.Given as goal

abbrev pub invariant-loop-place : goal.invariant-loop-place
invariant-loop-place l = l.list.items ≡ take l.place l.tuples
