use Rattle.gms_run_laws.proofs.Begins.{begins-with}
use Rattle.gms_run_laws.proofs.Closing.{loaded-closed}
use Rattle.std.proofs.Common.{refl}
use Rattle.gms_run_laws.proofs.ProgramNames.{program-named}
use Rattle.gms_run_laws.proofs.SolvesAlike.{solves-alike}
use Rattle.gms_run_laws.proofs.extensions.extension_laws.Goals as goal

pub returns-clause-names : goal.returns-clause-names
returns-clause-names g c world accepted = program-named g.F.ExactField.value world accepted

pub returns-clause-closed : goal.returns-clause-closed
returns-clause-closed g c program accepted = loaded-closed g.F.ExactField.value program accepted

pub returns-clause-begins : goal.returns-clause-begins
returns-clause-begins g c saved joint others accepted continues =
    begins-with g.F.ExactField.value saved joint saved.program.statements.items others accepted continues.names continues.own continues.statements (λ count. refl) continues.types

pub returns-clause-solves : goal.returns-clause-solves
returns-clause-solves g c saved joint others accepted both continues =
    solves-alike g.F.ExactField.value saved joint others accepted both continues.names continues.own saved.program.statements.items continues.statements (λ m. refl) (λ q. refl) continues.solvers
