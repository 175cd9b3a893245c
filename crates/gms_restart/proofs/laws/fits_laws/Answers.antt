-- A saved state fits each joint program of its source.
use Rattle.gms_restart.proofs.SavedFits.{saved_fits}
use Rattle.gms_restart.proofs.laws.fits_laws.Goals as goal

pub returns : goal.returns
returns c = record { fits = saved_fits }
