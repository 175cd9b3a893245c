-- A joint script has the errors of a joint program.
use Rattle.std.proofs.Common.{map}
use Rattle.std.specs.Prelude.{string_bytes}
use Rattle.gms_run.proofs.Passed.{errors_alone, errors_joint}
use Rattle.gms_run.proofs.restart.errors_of.Goals as goal

pub returns-then-script : goal.returns-then-script
returns-then-script c = errors_joint c.args.script.joint c.args.script.line c.args.program.now c.joint_errors.result (map string_bytes c.args.solvers.now) c.if-script.true c.joint_errors.ensures

pub returns : goal.returns
returns c = errors_alone c.args.script.joint c.args.script.line c.args.program.now c.check.result (map string_bytes c.args.solvers.now) c.if-script.false c.check.ensures
