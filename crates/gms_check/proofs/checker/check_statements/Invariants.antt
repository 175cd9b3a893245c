use Rattle.std.proofs.Common.{◌≡◌, ◌++◌, drop, None}
use Rattle.gms_scope.specs.Facts.{first_facts}
use Rattle.gms_check.specs.InnerChecking.{seen}
use Rattle.gms_check.proofs.PastErrors.{each_from}
use Rattle.gms_check.proofs.checker.check_statements.Given as goal

abbrev pub invariant-loop-statement : goal.invariant-loop-statement
invariant-loop-statement g l = record {
  solvers : (seen l.checker).solvers ≡ (seen l.fn.checker).solvers;
  first : (seen l.checker).first ≡ None;
  errors : l.errors.items ++ each_from g.F.ExactField.value (seen l.fn.checker).solvers (seen l.checker).facts (drop l.statement-index l.program.statements.items) ≡ each_from g.F.ExactField.value (seen l.fn.checker).solvers (first_facts l.program) l.program.statements.items;
}
