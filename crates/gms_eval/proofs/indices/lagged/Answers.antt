use Rattle.std.proofs.Common.{ap, sym, ◌∙◌, pos, Some, None, length, to_z, of_z}
use Rattle.std.proofs.lemmas.Int.{to_z-of_z}
use mir.Syntax.{w128}
use Rattle.gms_eval.specs.InnerContracts.{moved_place}
use Rattle.gms_eval.proofs.Lagging.{lagged-there}
use Rattle.gms_eval.proofs.indices.lagged.Goals as goal

pub returns-in-Some-moved : goal.returns-in-Some-moved
returns-in-Some-moved c =
    ap Some c.label_at.ensures
    ∙ lagged-there c.args.members.now c.args.op c.args.amount c.args.label c.in-Some.place (Some c.in-Some-moved.place) (sym c.in-Some.is ∙ c.in_ok-place.ensures.value) (sym c.in-Some-moved.is ∙ c.moved.ensures.value ∙ ap (λ n. moved_place n c.args.op (to_z w128 (of_z w128 c.args.amount)) (pos c.in-Some.place)) c.len.ensures.len ∙ ap (λ z. moved_place (length c.args.members.now) c.args.op z (pos c.in-Some.place)) (to_z-of_z w128 c.args.amount c.ranges.amount))

pub returns-in-None : goal.returns-in-None
returns-in-None c =
    lagged-there c.args.members.now c.args.op c.args.amount c.args.label c.in-Some.place None (sym c.in-Some.is ∙ c.in_ok-place.ensures.value) (sym c.in-None.is ∙ c.moved.ensures.value ∙ ap (λ n. moved_place n c.args.op (to_z w128 (of_z w128 c.args.amount)) (pos c.in-Some.place)) c.len.ensures.len ∙ ap (λ z. moved_place (length c.args.members.now) c.args.op z (pos c.in-Some.place)) (to_z-of_z w128 c.args.amount c.ranges.amount))
