use Rattle.std.proofs.Common.{subst}
use Rattle.std.proofs.lemmas.List.{take_all}
use Rattle.std.proofs.lemmas.List.Elements.{All-more}
use Rattle.gms_tuple.specs.TupleOrder.{IsOrdered}
use Rattle.gms_store.specs.State.{members_of}
use Rattle.gms_rows.specs.ElementRows.{AreInOrder}
use Rattle.gms_rows.proofs.rows.look_at.Goals as goal

pub loop-set-preserved : goal.loop-set-preserved
loop-set-preserved g c =
    All-more (λ set. IsOrdered (members_of c.args.store.now set)) c.args.sets.now c.loop-set.set-index _ c.loop-set-test.true c.loop-set.invariant (subst IsOrdered c.members-members.ensures.value c.members-members.ensures.ordered)

pub returns : goal.returns
returns g c =
    subst (AreInOrder c.args.store.now) (take_all c.loop-set.set-index c.args.sets.now c.loop-set-test.false) c.loop-set.invariant
