use Rattle.std.proofs.lemmas.Bool.{both_ways}
use Rattle.std.proofs.Common.{◌≤◌, true, false, refl, arith, below_more}
use Rattle.gms_scope.specs.Facts.{marked}
use Rattle.gms_save.specs.InnerRestoreSteps.{IsSavedAt}
use Rattle.gms_save.proofs.restoring.are_saved.Goals as goal

pub returns-then-not-branch : goal.returns-then-not-branch
returns-then-not-branch c =
    (λ e. absurd (both_ways false refl e), λ all. absurd (both_ways c.in_ok-is_saved_at.field-0 c.if-not-branch.true (c.in_ok-is_saved_at.ensures.1 (all c.loop-name.name c.loop-name-test.true))))

pub loop-name-preserved : goal.loop-name-preserved
loop-name-preserved c =
    below_more (λ n. IsSavedAt c.args.labels (marked c.args.assigned.now) c.args.first.now c.args.store.now n) c.loop-name.name c.loop-name.invariant (c.in_ok-is_saved_at.ensures.0 c.if-not-branch.false)

pub returns : goal.returns
returns c =
    let past : c.args.names ≤ c.loop-name.name = c.loop-name-test.false in
    (λ _. λ n below. c.loop-name.invariant n (omega (arith, past, below)), λ _. refl)
