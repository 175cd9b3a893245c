use Rattle.std.proofs.Common.{◌≡◌, take}
use Rattle.gms_rows.specs.InnerContracts.{placed_numbers}
use Rattle.gms_rows.proofs.columns.entries_of.Given as goal

abbrev pub invariant-loop-place : goal.invariant-loop-place
invariant-loop-place g l =
    l.entries.items ≡ placed_numbers l.keys (take l.place l.row.form.keys) (take l.place l.row.form.numbers)
