use Rattle.std.proofs.Common.{◌≡◌, drop}
use Rattle.gms_check.specs.InnerChecking.{seen, with_facts}
use Rattle.gms_check.specs.InnerTrials.{taken_back}
use Rattle.gms_check.proofs.checker.Checker.take_out_all.Given as goal

abbrev pub invariant-loop-name : goal.invariant-loop-name
invariant-loop-name g l =
    with_facts (seen l.self) (taken_back (seen l.self).facts (drop l.name-index l.names)) ≡ with_facts (seen l.fn.self) (taken_back (seen l.fn.self).facts l.names)
