use Rattle.std.proofs.Common.{◌∙◌}
use Rattle.gms_run.proofs.Kept.{kept_none, kept_one}
use Rattle.gms_run.proofs.execution.keep_programs.Goals as goal

pub loop-event-preserved-in-Continue-1 : goal.loop-event-preserved-in-Continue-1
loop-event-preserved-in-Continue-1 c =
    c.in_ok-push.ensures.items ∙ kept_one c.args.solved.now.items c.loop-event.solved.items c.loop-event.yielded c.in-Some.event c.in-Some-program_of.lp c.program_of.result c.in-Some-program_of.is c.loop-event.invariant c.program_of.ensures

pub loop-event-preserved : goal.loop-event-preserved
loop-event-preserved c =
    kept_none c.args.solved.now.items c.loop-event.solved.items c.loop-event.yielded c.in-Some.event c.program_of.result c.in_default.not-Some c.loop-event.invariant c.program_of.ensures
