-- What a statement showed is listed, and the programs of its solves are kept if requested.
use Rattle.gms_run.specs.InnerSteps.{programs_in}
use Rattle.gms_run.proofs.Kept.{kept_all, kept_nothing}
use Rattle.gms_run.proofs.execution.show.Goals as goal

pub returns-then-not-keep-clause-kept : goal.returns-then-not-keep-clause-kept
returns-then-not-keep-clause-kept c =
    kept_nothing c.args.keep c.args.solved.now.items (programs_in c.args.events.items) c.if-not-keep.true

pub returns-clause-kept : goal.returns-clause-kept
returns-clause-kept c =
    kept_all c.args.keep c.args.solved.now.items c.keep_programs.new.solved.items (programs_in c.args.events.items) c.if-not-keep.false c.in_ok-keep_programs.ensures
