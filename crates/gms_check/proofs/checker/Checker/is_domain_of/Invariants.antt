use Rattle.std.proofs.Common.{◌≡◌, drop}
use Rattle.gms_store.specs.Declarations.{names_of}
use Rattle.gms_scope.specs.Names.{positions}
use Rattle.gms_check.specs.Names.{same_domain}
use Rattle.gms_check.proofs.checker.Checker.is_domain_of.Given as goal

abbrev pub invariant-loop-i : goal.invariant-loop-i
invariant-loop-i g l =
    same_domain l.self.known.state (names_of (drop l.i l.domain)) (drop l.i (positions l.self.known.state l.name)) ≡ same_domain l.self.known.state (names_of l.domain) (positions l.self.known.state l.name)
