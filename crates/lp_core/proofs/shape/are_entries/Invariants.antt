use Rattle.std.proofs.Common.{◌≡◌, drop}
use Rattle.lp_core.specs.InnerEntries.{are_in_order}
use Rattle.lp_core.proofs.shape.are_entries.Given as goal

abbrev pub invariant-loop-column : goal.invariant-loop-column
invariant-loop-column g l =
    are_in_order g.F.ExactField.value l.columns 0 l.entries ≡ are_in_order g.F.ExactField.value l.columns l.least (drop l.column-index l.entries)
