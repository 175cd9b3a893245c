use Rattle.std.proofs.Common.{◌≡◌, ◌+◌, drop}
use Rattle.gms_rows.specs.Affine.{values_first}
use Rattle.gms_rows.specs.InnerContracts.{parts_in}
use Rattle.gms_rows.proofs.variables.count_before_variables.Given as goal

abbrev pub invariant-loop-place : goal.invariant-loop-place
invariant-loop-place g l =
    values_first l.store (parts_in l.parts) ≡ l.place + values_first l.store (parts_in (drop l.place l.parts))
