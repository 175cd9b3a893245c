use Rattle.gms_run_laws.proofs.Starting.{begins-lasting}
use Rattle.gms_laws.proofs.Meant.{answers-are-so}
use Rattle.gms_laws.proofs.Promised.{plans-from_save, plans-from_start}
use Rattle.gms_laws.proofs.plans.plan_laws.Goals as goal

pub returns-clause-start : goal.returns-clause-start
returns-clause-start g c = plans-from_start g.F.ExactField.value g.F.ExactField.limit

pub returns-clause-restarted : goal.returns-clause-restarted
returns-clause-restarted g c = plans-from_save

pub returns-clause-begun : goal.returns-clause-begun
returns-clause-begun g c world first before statements rules answers accepted may parts answered =
    let v = g.F.ExactField.value in
    answers-are-so v g.F.ExactField.limit world accepted first (begins-lasting v world.program first may) before statements parts rules answers answered
