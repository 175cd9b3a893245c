use Rattle.std.proofs.Common.{inl, refl}
use Rattle.gms_parse.proofs.Itemized.{after_break}
use Rattle.gms_parse.proofs.reader.Reader.after_last_item.Goals as goal

pub returns-in-Some : goal.returns-in-Some
returns-in-Some c u = after_break u (record { token = _; next = c.in-Some.ensures })

pub returns-in-None : goal.returns-in-None
returns-in-None c u = inl (c.in-None.ensures, refl)
