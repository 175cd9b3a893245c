use Rattle.std.proofs.Common.{◌≡◌, ◌++◌}
use Rattle.gms_run.specs.InnerSteps.{programs_in}
use Rattle.gms_run.proofs.execution.keep_programs.Given as goal

-- the programs so far are kept
abbrev pub invariant-loop-event : goal.invariant-loop-event
invariant-loop-event l = l.solved.items ≡ l.fn.solved.items ++ programs_in l.yielded
