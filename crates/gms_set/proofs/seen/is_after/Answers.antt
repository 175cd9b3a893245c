use Rattle.gms_store.proofs.Parts.{less_from_index}
use Rattle.std.proofs.Common.{◌∙◌, sym}
use Rattle.gms_set.proofs.LaterTuples.{given-following, none-following}
use Rattle.gms_set.proofs.seen.is_after.Goals as goal

pub returns-in-Some : goal.returns-in-Some
returns-in-Some g c = λ following.
    given-following c.args.given.now c.in-Some.field-0.now c.args.tuple.now (sym c.in-Some.ensures.value) c.requires (sym c.order.ensures ∙ less_from_index c.order.result (sym c.eq.ensures ∙ following))

pub returns-in-None : goal.returns-in-None
returns-in-None g c = λ following. none-following c.args.given.now c.args.tuple.now (sym c.in-None.ensures.value)
