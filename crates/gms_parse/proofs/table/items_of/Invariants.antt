use Rattle.std.proofs.Common.{◌≡◌, map, take}
use Rattle.gms_parse.specs.Tables.{item_of_entry}
use Rattle.gms_parse.proofs.table.items_of.Given as goal

abbrev pub invariant-loop-entry : goal.invariant-loop-entry
invariant-loop-entry g l = l.items.items ≡ map item_of_entry (take l.entry-index l.entries)
