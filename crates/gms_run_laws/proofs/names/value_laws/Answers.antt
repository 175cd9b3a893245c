use Rattle.gms_run_laws.proofs.Linear.{affine-same}
use Rattle.gms_run_laws.proofs.Values.{value-same}
use Rattle.gms_run_laws.proofs.names.value_laws.Goals as goal

pub returns-clause-value : goal.returns-clause-value
returns-clause-value g c test one other e binding agree all =
    value-same test one other agree g.F.ExactField.value g.F.ExactField.limit e all binding

pub returns-clause-form : goal.returns-clause-form
returns-clause-form g c test one other e at binding agree all =
    affine-same test one other agree g.F.ExactField.value g.F.ExactField.limit e all at binding
