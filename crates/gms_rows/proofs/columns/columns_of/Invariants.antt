use Rattle.std.proofs.Common.{◌≡◌, map, take}
use Rattle.lp_core.specs.Numbers.{column_numbers}
use Rattle.gms_rows.specs.ProgramLp.{column_of}
use Rattle.gms_rows.proofs.columns.columns_of.Given as goal

abbrev pub invariant-loop-key : goal.invariant-loop-key
invariant-loop-key g l =
    map (column_numbers g.F.ExactField.value) l.columns.items ≡ map (column_of l.store) (take l.key-index l.keys)
