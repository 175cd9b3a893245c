use Rattle.std.proofs.Common.{◌≡◌, map, drop}
use Rattle.gms_list.specs.SolveText.{distinct_names}
use Rattle.gms_list.proofs.Once.{gathered}
use Rattle.lp_core.specs.declared.program.Column.{Column}
use Rattle.gms_list.proofs.equations.variables_of.Given as goal

abbrev pub invariant-loop-column : goal.invariant-loop-column
invariant-loop-column g l =
    gathered l.variables.items (map (λ (column : Column _). column.key.symbol) (drop l.column-index l.columns)) ≡ distinct_names (map (λ (column : Column _). column.key.symbol) l.columns)
