use Rattle.std.proofs.Common.{◌≡◌, drop}
use Rattle.gms_ast.specs.declared.declaration.DeclKind.TheVariants as declaring
use Rattle.gms_check.specs.InnerChanges.{with_order}
use Rattle.gms_check.specs.InnerChecking.{seen, with_facts}
use Rattle.gms_check.proofs.checker.Checker.remember_order.Given as goal

abbrev pub invariant-loop-item : goal.invariant-loop-item
invariant-loop-item g l =
    with_facts (seen l.self) (with_order declaring.Set (seen l.self).facts (drop l.item-index l.items)) ≡ with_facts (seen l.fn.self) (with_order declaring.Set (seen l.fn.self).facts l.items)
