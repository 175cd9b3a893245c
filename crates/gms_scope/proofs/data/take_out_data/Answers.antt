use Rattle.std.proofs.Common.{◌∙◌, ap}
use Rattle.std.proofs.lemmas.List.{take_all}
use Rattle.gms_scope.proofs.Empties.{taken-out, without}
use Rattle.gms_scope.proofs.data.take_out_data.Goals as goal

pub returns : goal.returns
returns g c =
    c.loop-tuple.invariant
    ∙ ap (without c.args.name c.args.store.now) (take_all c.loop-tuple.tuple-index c.deref-tuple-items.result.now c.loop-tuple-test.false ∙ c.deref-tuple-items.ensures.value ∙ c.in_ok-tuples.ensures.given)
    ∙ taken-out c.args.store.now c.args.name c.given_tuples.ensures.arity
