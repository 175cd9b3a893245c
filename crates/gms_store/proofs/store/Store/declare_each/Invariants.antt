use Rattle.std.proofs.Common.{◌≡◌, take}
use Rattle.gms_store.specs.Declarations.{declare_each}
use Rattle.gms_store.proofs.store.Store.declare_each.Given as goal

abbrev pub invariant-loop-item : goal.invariant-loop-item
invariant-loop-item g l = l.self ≡ declare_each l.kind l.fn.self (take l.item-index l.items)
