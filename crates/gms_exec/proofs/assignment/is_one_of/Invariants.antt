use Rattle.std.proofs.Common.{◌≡◌, ◌==◌, drop}
use Rattle.std.specs.List.{list_any}
use Rattle.gms_exec.proofs.assignment.is_one_of.Given as goal

abbrev pub invariant-loop-one : goal.invariant-loop-one
invariant-loop-one l = list_any (λ one. one == l.set) l.sets ≡ list_any (λ one. one == l.set) (drop l.one-index l.sets)
