use Rattle.std.proofs.Common.{sym, ◌∙◌}
use Rattle.gms_store.proofs.Parts.{ordered-last, ordered-alone, less_from_index}
use Rattle.gms_store.proofs.values.comes_last.Goals as goal

pub returns-in-Some : goal.returns-in-Some
returns-in-Some g c = λ last.
    ordered-last c.args.following.now c.args.t.now c.in-Some.last.now c.requires c.in-Some.ensures.item.1 (sym c.order.ensures ∙ less_from_index c.order.result (sym c.eq.ensures ∙ last))

pub returns-in-None : goal.returns-in-None
returns-in-None g c = λ _. ordered-alone c.args.following.now c.args.t.now c.in-None.ensures.value
