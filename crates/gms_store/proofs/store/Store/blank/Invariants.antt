use Rattle.std.proofs.Common.{◌≡◌, replicate}
use Rattle.gms_store.specs.State.{no_symbol}
use Rattle.gms_store.proofs.store.Store.blank.Given as goal

abbrev pub invariant-loop : goal.invariant-loop
invariant-loop g l = l.symbols.items ≡ replicate l.counter no_symbol
