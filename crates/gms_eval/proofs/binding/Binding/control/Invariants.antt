use Rattle.std.proofs.Common.{◌≡◌, ◌++◌, take, drop}
use Rattle.gms_eval.specs.Bindings.{paired}
use Rattle.gms_eval.proofs.binding.Binding.control.Given as goal

abbrev pub invariant-loop-place : goal.invariant-loop-place
invariant-loop-place l =
    take l.outer l.fn.self ++ paired l.sets l.labels ≡ l.self-inside.pairs.items ++ paired (drop l.place l.sets) (drop l.place l.labels)
