use Rattle.std.proofs.lemmas.List.{append_assoc}
use Rattle.gms_list.proofs.AppendedPieces.{untouched, reshaped}
use Rattle.gms_list.proofs.listing.Listing.close.Goals as goal

pub returns-in_err-line : goal.returns-in_err-line
returns-in_err-line c = untouched _ _ c.from_residual.result c.from_residual.ensures.0

pub returns : goal.returns
returns c = reshaped _ _ c.as_str.result.now _ c.push.result (rw (c.as_str.ensures.value, c.in_ok-line.ensures.ok) (simp append_assoc)) c.push.ensures
