use Rattle.std.proofs.Common.{◌≢◌, take}
use Rattle.std.specs.List.{All}
use Rattle.lp_core.proofs.shape.is_new_column.Given as goal

abbrev pub invariant-loop-column : goal.invariant-loop-column
invariant-loop-column g l = All (λ column. l.key ≢ column.key) (take l.column-index l.columns)
