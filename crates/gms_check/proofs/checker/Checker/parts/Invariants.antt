use Rattle.std.proofs.Common.{◌≡◌, take, map, length}
use Rattle.gms_ast.specs.declared.declaration.Item.{Item}
use Rattle.gms_check.specs.InnerChecking.{noted, seen}
use Rattle.gms_check.specs.Uses.{placing}
use Rattle.gms_check.proofs.checker.Checker.parts.Given as goal

abbrev pub invariant-loop-item : goal.invariant-loop-item
invariant-loop-item g l =
    seen l.self ≡ noted g.F.ExactField.value (seen l.fn.self) (map (λ (item : Item _). (item.at, placing l.expected (length item.parts))) (take l.item-index l.items))
