use Rattle.std.proofs.Common.{◌≡◌, take}
use Rattle.gms_exec.specs.Showing.{elements_at, entries_shown}
use Rattle.gms_exec.specs.InnerContracts.{entries_in}
use Rattle.gms_exec.proofs.showing.over_all.Given as goal

abbrev pub invariant-loop-number : goal.invariant-loop-number
invariant-loop-number g l =
    entries_in g.F.ExactField.value l.entries.items ≡ entries_shown l.store l.name l.suffix (take l.number (elements_at l.name_domain.labels l.name_domain.store.now l.name_domain.positions.now))
