use Rattle.gms_run_laws.proofs.Lasting.{start-lasts}
use Rattle.gms_run_laws.proofs.SolvedElements.{solve-elements}
use Rattle.gms_run_laws.proofs.Starting.{begins-lasting}
use Rattle.gms_run_laws.proofs.accepted.element_laws.Goals as goal

pub returns : goal.returns
returns g c world first state statement model word objective maximize lp accepted of_program is may reached e =
    let v = g.F.ExactField.value in
    let limit = g.F.ExactField.limit in
    solve-elements v limit world accepted state (start-lasts v limit world first state (begins-lasting v world.program first may) reached) statement model word objective maximize lp of_program is e
