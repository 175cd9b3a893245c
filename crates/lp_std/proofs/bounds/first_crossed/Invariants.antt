use Rattle.std.specs.List.{AllWithin}
use Rattle.lp_core.specs.Proofs.{Crosses}
use Rattle.lp_core.specs.declared.program.Column.{Column}
use Rattle.lp_std.proofs.bounds.first_crossed.Given as goal

abbrev pub invariant-loop-j : goal.invariant-loop-j
invariant-loop-j g l = AllWithin (λ (column : Column _). ¬ (Crosses g.F.ExactField.value column.lower column.upper)) l.columns 0 l.j
