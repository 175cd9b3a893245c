use Rattle.std.proofs.Common.{◌≡◌, take}
use Rattle.std.specs.Prelude.{flat_map}
use Rattle.gms_check.specs.InnerChecking.{noted, seen}
use Rattle.gms_check.specs.StatementUses.{show_uses}
use Rattle.gms_check.proofs.checker.Checker.shows.Given as goal

abbrev pub invariant-loop-item : goal.invariant-loop-item
invariant-loop-item g l = seen l.self ≡ noted g.F.ExactField.value (seen l.fn.self) (flat_map show_uses (take l.item-index l.items))
