use Rattle.std.proofs.Common.{◌∙◌, length, sym}
use Rattle.std.proofs.lemmas.Bool.{ltb-true}
use Rattle.gms_tuple.proofs.Ordered.{same_tuple-Decides}
use Rattle.gms_store.proofs.Parts.{occurs_read}
use Rattle.gms_store.proofs.values.is_at_place.Goals as goal

pub returns-in-Some : goal.returns-in-Some
returns-in-Some g c = λ same.
    occurs_read c.args.following.now c.args.place c.args.t.now c.in-Some.entry.now (ltb-true c.args.place (length c.args.following.now) (sym c.in-Some.ensures.lookup.0)) c.in-Some.ensures.lookup.1 ((same_tuple-Decides c.in-Some.entry.now.0 c.args.t.now).0 (sym c.eq.ensures ∙ same))
