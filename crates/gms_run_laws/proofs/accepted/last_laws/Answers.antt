use Rattle.gms_run_laws.proofs.FewPositions.{few-lasting}
use Rattle.gms_run_laws.proofs.Lasting.{loaded-begins, start-lasts}
use Rattle.gms_run_laws.proofs.LoadedPositions.{loaded-occurs}
use Rattle.gms_run_laws.proofs.Starting.{begins-lasting}
use Rattle.gms_run_laws.proofs.StaticDomains.{loaded-fixed}
use Rattle.gms_run_laws.proofs.TidyLoaded.{loaded-well}
use Rattle.gms_run_laws.proofs.UnsolvedLoaded.{loaded-unsolved}
use Rattle.gms_run_laws.proofs.accepted.last_laws.Goals as goal

pub returns-clause-kept : goal.returns-clause-kept
returns-clause-kept g c world first state may reached =
    let v = g.F.ExactField.value in
    (start-lasts v g.F.ExactField.limit world first state (begins-lasting v world.program first may) reached).later

pub returns-clause-own : goal.returns-clause-own
returns-clause-own g c program = (loaded-begins g.F.ExactField.value program).later

pub returns-clause-few : goal.returns-clause-few
returns-clause-few g c world first state name accepted may reached =
    let v = g.F.ExactField.value in
    few-lasting v world.program state name accepted (start-lasts v g.F.ExactField.limit world first state (begins-lasting v world.program first may) reached)

pub returns-clause-begins : goal.returns-clause-begins
returns-clause-begins g c = loaded-occurs g.F.ExactField.value

pub returns-clause-fixed : goal.returns-clause-fixed
returns-clause-fixed g c = loaded-fixed g.F.ExactField.value

pub returns-clause-unsolved : goal.returns-clause-unsolved
returns-clause-unsolved g c = loaded-unsolved g.F.ExactField.value

pub returns-clause-settings : goal.returns-clause-settings
returns-clause-settings g c program = (loaded-well g.F.ExactField.value program).settings
