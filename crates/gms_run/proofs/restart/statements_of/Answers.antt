-- Of a joint script, the statements after those of the saved source.
use Rattle.std.proofs.Common.{◌∙◌}
use Rattle.gms_run.proofs.Passed.{statements_alone, statements_sliced}
use Rattle.gms_run.proofs.restart.statements_of.Goals as goal

pub returns-then-script : goal.returns-then-script
returns-then-script c = λ state. statements_sliced c.args.script.joint c.args.script.line c.args.program.now c.as_slice-all.result.now c.count_saved.result state c.if-script.true c.as_slice-all.ensures.value c.count_saved.ensures.count

pub returns : goal.returns
returns c = λ state. c.as_slice-all.ensures.value ∙ statements_alone c.args.script.joint c.args.script.line c.args.program.now state c.if-script.false
