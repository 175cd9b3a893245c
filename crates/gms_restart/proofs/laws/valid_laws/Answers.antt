use Rattle.std.proofs.Common.{length}
use Rattle.gms_restart.specs.LastStates.{last_state}
use Rattle.gms_restart.proofs.OwnLoaded.{has-its-labels}
use Rattle.gms_restart.proofs.Runs.{kept-occur}
use Rattle.gms_restart.proofs.Continued.{later-saved, resumed-begins}
use Rattle.gms_restart.proofs.LastSaves.{last-saved}
use Rattle.gms_restart.proofs.Saved.{kept-saved, state-kept}
use Rattle.gms_restart.proofs.laws.valid_laws.Goals as goal

pub returns-clause-occur : goal.returns-clause-occur
returns-clause-occur g c world answers name accepted own =
    let v = g.F.ExactField.value in
    let limit = g.F.ExactField.limit in
    kept-occur v world.program accepted (length world.program.labels) (last_state v limit world answers) (state-kept v limit world accepted own answers) name

pub returns-clause-saved : goal.returns-clause-saved
returns-clause-saved g c world answers most solver accepted own fit named =
    let v = g.F.ExactField.value in
    let limit = g.F.ExactField.limit in
    kept-saved v world.program accepted (last_state v limit world answers) (state-kept v limit world accepted own answers) most solver fit named

pub returns-clause-own : goal.returns-clause-own
returns-clause-own g c limit source program is = has-its-labels limit source program is

pub returns-clause-last : goal.returns-clause-last
returns-clause-last g c limit source world answers solver is none fit named = last-saved limit source world answers solver is none fit named

pub returns-clause-begins : goal.returns-clause-begins
returns-clause-begins g c = resumed-begins

pub returns-clause-later : goal.returns-clause-later
returns-clause-later g c limit source file saved world state solver named answers p q none is fit name =
    later-saved limit source file saved world state solver named answers p q none is fit name
