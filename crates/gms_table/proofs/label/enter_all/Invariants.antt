use Rattle.std.proofs.Common.{take}
use Rattle.gms_table.specs.InnerNames.{read_all, AreEntered}
use Rattle.gms_table.proofs.label.enter_all.Given as goal

-- the labels so far were entered
abbrev pub invariant-loop-label : goal.invariant-loop-label
invariant-loop-label l = AreEntered l.fn.table l.table (read_all (take l.label-index l.labels)) l.numbers.items
