use Rattle.std.proofs.Common.{◌≡◌, take}
use Rattle.gms_check.specs.InnerChecking.{noted, seen}
use Rattle.gms_check.specs.StatementUses.{index_list}
use Rattle.gms_check.specs.Uses.{shift_uses}
use Rattle.gms_check.proofs.checker.Checker.left_amounts.Given as goal

abbrev pub invariant-loop-index : goal.invariant-loop-index
invariant-loop-index g l =
    seen l.self ≡ noted g.F.ExactField.value (seen l.fn.self) (shift_uses (seen l.fn.self).controlled (index_list (take l.index-index l.indices)))
