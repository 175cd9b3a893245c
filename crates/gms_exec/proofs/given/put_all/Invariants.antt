use Rattle.std.proofs.Common.{◌≡◌, take}
use Rattle.gms_exec.specs.Given.{after_given}
use Rattle.gms_exec.specs.InnerContracts.{all_given_in}
use Rattle.gms_exec.proofs.given.put_all.Given as goal

abbrev pub invariant-loop-t : goal.invariant-loop-t
invariant-loop-t g l =
    l.store ≡ after_given l.suffix l.name (all_given_in g.F.ExactField.value (take l.t-index l.all)) l.initial.store
