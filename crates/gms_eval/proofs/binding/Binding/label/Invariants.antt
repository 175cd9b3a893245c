use Rattle.std.proofs.Common.{◌≡◌, drop}
use Rattle.gms_eval.specs.Bindings.{label_of}
use Rattle.gms_eval.proofs.binding.Binding.label.Given as goal

abbrev pub invariant-loop-name : goal.invariant-loop-name
invariant-loop-name l = label_of l.self l.set ≡ label_of (drop l.name-index l.name-items) l.set
