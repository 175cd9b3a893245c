use Rattle.gms_check.specs.References.{reads}
use Rattle.gms_check.specs.Uses.{index_sets}
use Rattle.gms_check.proofs.ReferencesRead.{program-meant}
use Rattle.gms_run_laws.proofs.ElementLabels.{element-members}
use Rattle.gms_run_laws.proofs.Labelled.{sets-occur, tuple-past, element-occurs}
use Rattle.gms_run_laws.proofs.accepted.label_laws.Goals as goal

pub returns-clause-occur : goal.returns-clause-occur
returns-clause-occur g c program before statement depth within name suffix indices binding accepted occurs inside all =
    let meant = program-meant g.F.ExactField.value program accepted.0 before statement depth within (reads name suffix indices) accepted.1 occurs inside in
    sets-occur binding within (index_sets indices) all meant.1.controls

pub returns-clause-few : goal.returns-clause-few
returns-clause-few g c program before statement depth within name suffix indices accepted occurs inside =
    (program-meant g.F.ExactField.value program accepted.0 before statement depth within (reads name suffix indices) accepted.1 occurs inside).1.fitting.few

pub returns-clause-tuple : goal.returns-clause-tuple
returns-clause-tuple g c state binding indices those all few e none =
    tuple-past g.F.ExactField.value g.F.ExactField.limit state binding indices those all few e none

pub returns-clause-element : goal.returns-clause-element
returns-clause-element g c state binding around sets element all there = element-occurs state binding around sets element all there

pub returns-clause-members : goal.returns-clause-members
returns-clause-members g c state sets element simple there = element-members state sets element simple there
