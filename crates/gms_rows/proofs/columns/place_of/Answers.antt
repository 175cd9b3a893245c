use Rattle.std.proofs.Common.{arith}
use Rattle.std.proofs.lemmas.Bool.{both_ways}
use Rattle.gms_rows.specs.InnerContracts.{is_among}
use Rattle.gms_rows.proofs.Places.{place-there, not-found}
use Rattle.gms_rows.proofs.columns.place_of.Goals as goal

pub returns-in-Ok : goal.returns-in-Ok
returns-in-Ok c =
    place-there c.args.keys.now c.args.key.now c.in-Ok.place c.requires.ordered (omega (arith, c.in-Ok.ensures.bound)) (c.in-Ok.ensures.ok c.args.key.now)

pub returns-in-Err : goal.returns-in-Err
returns-in-Err c =
    absurd (both_ways (is_among c.args.keys.now c.args.key.now) (not-found c.args.keys.now c.args.key.now c.in-Err.field-0 c.requires.ordered c.in-Err.ensures.position) c.requires.there)
