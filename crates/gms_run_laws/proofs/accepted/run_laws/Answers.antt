use Rattle.gms_run_laws.proofs.Lasting.{start-lasts}
use Rattle.gms_run_laws.proofs.OnceInRuns.{index-simple, run-once}
use Rattle.gms_run_laws.proofs.Reaching.{run-reaches}
use Rattle.gms_run_laws.proofs.Starting.{begins-lasting}
use Rattle.gms_run_laws.proofs.accepted.run_laws.Goals as goal

pub returns-clause-last : goal.returns-clause-last
returns-clause-last g c world state answers =
    run-reaches g.F.ExactField.value g.F.ExactField.limit world state answers

pub returns-clause-once : goal.returns-clause-once
returns-clause-once g c world statement target condition right_at right first state binding given accepted of_program is may reached e =
    let v = g.F.ExactField.value in
    let limit = g.F.ExactField.limit in
    run-once v limit world statement target condition right_at right state binding given accepted of_program is (start-lasts v limit world first state (begins-lasting v world.program first may) reached) e

pub returns-clause-simple : goal.returns-clause-simple
returns-clause-simple g c world before statement set first state occurs one may reached =
    let v = g.F.ExactField.value in
    let limit = g.F.ExactField.limit in
    index-simple v limit world before statement set state occurs one (start-lasts v limit world first state (begins-lasting v world.program first may) reached)
