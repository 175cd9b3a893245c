use Rattle.std.proofs.Common.{◌≡◌, ◌++◌, drop}
use Rattle.gms_check.specs.InnerChecking.{seen}
use Rattle.gms_check.specs.InnerTrials.{trial_names}
use Rattle.gms_check.proofs.TrialDeclarations.{items_checked}
use Rattle.gms_check.proofs.checker.Checker.declared_items.Given as goal

abbrev pub invariant-loop-item : goal.invariant-loop-item
invariant-loop-item g l =
    record {
      noted : items_checked g.F.ExactField.value l.kind (seen l.self) (drop l.item-index l.items) ≡ items_checked g.F.ExactField.value l.kind (seen l.fn.self) l.items;
      given : l.given.items ++ trial_names g.F.ExactField.value (seen l.self).solvers l.kind (seen l.self).facts (drop l.item-index l.items) ≡ trial_names g.F.ExactField.value (seen l.fn.self).solvers l.kind (seen l.fn.self).facts l.items;
    }
