use Rattle.std.proofs.Common.{◌≡◌, take}
use Rattle.gms_check.specs.Past.{numbers_of_names}
use Rattle.gms_check.proofs.checker.Checker.list_model.Given as goal

abbrev pub invariant-loop-equation : goal.invariant-loop-equation
invariant-loop-equation g l = l.equations.items ≡ numbers_of_names (take l.equation-index l.equation-items)
