use Rattle.std.proofs.Common.{◌≡◌, take}
use Rattle.std.specs.Prelude.{flat_map}
use Rattle.gms_check.specs.InnerChecking.{noted, seen}
use Rattle.gms_check.specs.StatementUses.{option_uses}
use Rattle.gms_check.proofs.checker.Checker.options.Given as goal

abbrev pub invariant-loop-word : goal.invariant-loop-word
invariant-loop-word g l =
    seen l.self ≡ noted g.F.ExactField.value (seen l.fn.self) (flat_map option_uses (take l.word-index l.settings))
