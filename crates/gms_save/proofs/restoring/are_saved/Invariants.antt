use Rattle.std.proofs.Common.{◌<◌, ℕ}
use Rattle.gms_scope.specs.Facts.{marked}
use Rattle.gms_save.specs.InnerRestoreSteps.{IsSavedAt}
use Rattle.gms_save.proofs.restoring.are_saved.Given as goal

abbrev pub invariant-loop-name : goal.invariant-loop-name
invariant-loop-name l = (n : ℕ) → n < l.name → IsSavedAt l.labels (marked l.assigned) l.first l.store n
