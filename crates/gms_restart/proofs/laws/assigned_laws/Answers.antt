use Rattle.gms_run_laws.proofs.Lasting.{start-lasts}
use Rattle.gms_run_laws.proofs.Starting.{begins-lasting}
use Rattle.gms_restart.proofs.Assigned.{assigned-long}
use Rattle.gms_restart.proofs.laws.assigned_laws.Goals as goal

pub returns : goal.returns
returns g c world statement target condition right_at right first state binding given accepted of_program is may reached e =
    let v = g.F.ExactField.value in
    let limit = g.F.ExactField.limit in
    let lasts = start-lasts v limit world first state (begins-lasting v world.program first may) reached in
    assigned-long v limit world.program accepted statement target condition right_at right state binding given of_program is lasts.stays e
