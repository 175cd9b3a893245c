use Rattle.std.proofs.Common.{◌≡◌, take}
use Rattle.gms_store.specs.Declarations.{declared_by_all}
use Rattle.gms_store.proofs.store.Store.declare_all.Given as goal

abbrev pub invariant-loop-statement : goal.invariant-loop-statement
invariant-loop-statement g l = l.self ≡ declared_by_all l.fn.self (take l.statement-index l.statements)
