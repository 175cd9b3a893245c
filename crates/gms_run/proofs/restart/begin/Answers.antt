-- A joint script resumes from the saved state.
use Rattle.gms_run.proofs.Passed.{first_alone, first_joint, none_alone, none_joint}
use Rattle.gms_run.proofs.restart.begin.Goals as goal

pub resume-requires : goal.resume-requires
resume-requires c = none_joint c.args.script.joint c.args.script.line c.args.program.now c.args.store.now c.if-script.true c.requires

pub load-requires : goal.load-requires
load-requires c = none_alone c.args.script.joint c.args.script.line c.args.program.now c.args.store.now c.if-script.false c.requires

pub returns-then-script : goal.returns-then-script
returns-then-script c = first_joint c.args.script.joint c.args.script.line c.args.program.now c.resume.result c.args.store.now c.resume.new.store c.if-script.true c.resume.ensures.ok

pub returns : goal.returns
returns c = first_alone c.args.script.joint c.args.script.line c.args.program.now c.args.store.now c.in_ok-first.first c.if-script.false c.in_ok-first.ensures
