use Rattle.std.proofs.Common.{◌≡◌, drop}
use Rattle.gms_rows.specs.InnerContracts.{is_in}
use Rattle.gms_rows.proofs.rows.push_once.Given as goal

abbrev pub invariant-loop-other : goal.invariant-loop-other
invariant-loop-other l = is_in l.other-items l.name ≡ is_in (drop l.other-index l.other-items) l.name
