use Rattle.std.proofs.Common.{take}
use Rattle.gms_rows.specs.Rows.{definitions}
use Rattle.gms_rows.specs.InnerContracts.{AreNoted}
use Rattle.gms_rows.proofs.equations.noted_statements.Given as goal

abbrev pub invariant-loop-statement : goal.invariant-loop-statement
invariant-loop-statement g l = AreNoted l.noted.items (definitions (take l.statement-index l.statement-items))
