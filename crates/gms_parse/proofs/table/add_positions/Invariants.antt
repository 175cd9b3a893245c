use Rattle.std.proofs.Common.{◌≡◌, ◌++◌, take}
use Rattle.gms_parse.specs.Tables.{labelled_positions}
use Rattle.gms_parse.proofs.table.add_positions.Given as goal

abbrev pub invariant-loop-label : goal.invariant-loop-label
invariant-loop-label l = l.parts.items ≡ l.fn.parts.items ++ labelled_positions (take l.label-index l.labels)
