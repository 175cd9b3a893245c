use Rattle.gms_run_laws.proofs.Lasting.{start-lasts}
use Rattle.gms_run_laws.proofs.LinearDefinitions.{model-linear}
use Rattle.gms_run_laws.proofs.Starting.{begins-lasting}
use Rattle.gms_run_laws.proofs.accepted.linear_laws.Goals as goal

pub returns : goal.returns
returns g c world first state model accepted may reached =
    let v = g.F.ExactField.value in
    let limit = g.F.ExactField.limit in
    model-linear v limit world accepted state (start-lasts v limit world first state (begins-lasting v world.program first may) reached) model
