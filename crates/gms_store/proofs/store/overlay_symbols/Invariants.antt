use Rattle.std.proofs.Common.{◌≡◌, take}
use Rattle.gms_store.specs.Overlays.{overlaid_symbols}
use Rattle.gms_store.proofs.Overlays.{IsRest}
use Rattle.gms_store.proofs.store.overlay_symbols.Given as goal

abbrev pub invariant-loop-name : goal.invariant-loop-name
invariant-loop-name g l = (l.symbols ≡ overlaid_symbols l.initial.symbols (take l.name l.initial.others)) × IsRest l.name l.initial.others l.others
