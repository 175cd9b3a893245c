use Rattle.std.proofs.Common.{◌≡◌, drop}
use Rattle.gms_rows.specs.Affine.{some_has_variables}
use Rattle.gms_rows.specs.InnerContracts.{parts_in}
use Rattle.gms_rows.proofs.variables.+variables.Given as goal

abbrev pub invariant-some_has_variables-loop-part : goal.invariant-some_has_variables-loop-part
invariant-some_has_variables-loop-part g l =
    some_has_variables l.store (parts_in l.parts) ≡ some_has_variables l.store (parts_in (drop l.part-index l.parts))
