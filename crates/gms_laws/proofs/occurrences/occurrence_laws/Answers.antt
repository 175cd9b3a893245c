use Rattle.gms_laws.proofs.Occurring.{set-occurs, variable-occurs}
use Rattle.gms_laws.proofs.occurrences.occurrence_laws.Goals as goal

pub returns-clause-variables : goal.returns-clause-variables
returns-clause-variables g c program solvers before role steps at name indices none o is =
    variable-occurs g.F.ExactField.value program solvers none before role steps at name indices o is

pub returns-clause-sets : goal.returns-clause-sets
returns-clause-sets g c program solvers before role steps at name indices none o is =
    set-occurs g.F.ExactField.value program solvers none before role steps at name indices o is
