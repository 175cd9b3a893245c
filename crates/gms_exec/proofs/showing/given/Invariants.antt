use Rattle.std.proofs.Common.{◌≡◌, take}
use Rattle.gms_exec.specs.Showing.{entries_shown}
use Rattle.gms_exec.specs.InnerContracts.{entries_in}
use Rattle.gms_exec.proofs.showing.given.Given as goal

abbrev pub invariant-loop-place : goal.invariant-loop-place
invariant-loop-place g l =
    entries_in g.F.ExactField.value l.entries.items ≡ entries_shown l.store l.name l.suffix (take l.place l.given)
