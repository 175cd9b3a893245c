use Rattle.std.proofs.Common.{◌≡◌, ◌+◌, drop, length, not}
use Rattle.std.specs.Prelude.{take_while}
use Rattle.gms_ast.specs.declared.declaration.Item.{Item}
use Rattle.gms_check.specs.Domains.{is_wrong_count}
use Rattle.gms_check.proofs.declaration.first_whole.Given as goal

abbrev pub invariant-loop-i : goal.invariant-loop-i
invariant-loop-i g l =
    l.i + length (take_while (λ (item : Item _). not (is_wrong_count l.expected (length item.parts))) (drop l.i l.items)) ≡ length (take_while (λ (item : Item _). not (is_wrong_count l.expected (length item.parts))) l.items)
