use Rattle.std.proofs.Common.{◌≡◌}
use Rattle.gms_check.proofs.LoadedData.{state_at}
use Rattle.gms_check.proofs.loading.load_statements.Given as goal

abbrev pub invariant-loop-statement : goal.invariant-loop-statement
invariant-loop-statement g l = l.store ≡ state_at g.F.ExactField.value l.program l.statement-index
