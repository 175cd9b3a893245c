-- The statements of a saved program begin above the file that follows it, and those of the file in
-- it; what both say.
use Rattle.gms_restart.proofs.Continuing.{continues, says-the-same}
use Rattle.gms_restart.proofs.laws.restart_laws.Goals as goal

pub returns : goal.returns
returns c = record { places = continues; says = says-the-same }
