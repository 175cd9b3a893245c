use Rattle.std.proofs.Common.{◌≡◌, drop, take}
use Rattle.gms_rows.specs.Rows.{distinct_numbers, equations_of, equations_from}
use Rattle.gms_rows.proofs.Naming.{declared_in}
use Rattle.gms_rows.proofs.equations.equations_of.Given as goal

abbrev pub invariant-loop-statement : goal.invariant-loop-statement
invariant-loop-statement g l =
    (equations_of l.statement-items l.model ≡ equations_from (declared_in l.model (take l.statement-index l.statement-items)) l.model (drop l.statement-index l.statement-items))
    × (l.declared ≡ distinct_numbers (declared_in l.model (take l.statement-index l.statement-items)))
