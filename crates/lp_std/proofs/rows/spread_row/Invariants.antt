use Rattle.std.proofs.Common.{◌≡◌, take}
use Rattle.lp_std.specs.Meaning.{entries_value}
use Rattle.lp_std.specs.InnerSteps.{placed_value, spread_entries}
use Rattle.lp_std.proofs.rows.spread_row.Given as goal

abbrev pub invariant-loop-column : goal.invariant-loop-column
invariant-loop-column g l =
    entries_value g.F.ExactField.value l.spread.items ≡ spread_entries g.F.ExactField.value (placed_value g.F.ExactField.value l.columns) (take l.column-index l.entries)
