use Rattle.std.proofs.Common.{◌≡◌, drop}
use Rattle.gms_save_text.specs.Validity.{fits_domain}
use Rattle.gms_save_text.proofs.validity.fits_domain.Given as goal

abbrev pub invariant-loop-place : goal.invariant-loop-place
invariant-loop-place g l = fits_domain l.labels l.store l.domain l.tuple ≡ fits_domain l.labels l.store (drop l.place l.domain) (drop l.place l.tuple)
