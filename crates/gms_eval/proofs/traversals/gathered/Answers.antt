use Rattle.std.proofs.Common.{◌∙◌, ap, sym, ◌&&◌, slice_get, arith}
use Rattle.std.specs.List.{flat_map}
use Rattle.gms_tuple.specs.TupleSet.{has}
use Rattle.gms_store.specs.State.{given_of}
use Rattle.gms_eval.specs.Domain.{elements}
use Rattle.gms_eval.specs.InnerLeading.{spread_over}
use Rattle.gms_eval.proofs.Gathering.{range-end, gathered-more}
use Rattle.gms_eval.proofs.traversals.gathered.Goals as goal

pub returns-clause-members : goal.returns-clause-members
returns-clause-members g c t =
    c.loop-place.invariant.1 t
    ∙ ap (λ tuples. has (flat_map (spread_over c.args.store.now c.args.traversal.now.free.items c.args.traversal.now.places.items) tuples) t && has (elements c.args.store.now c.args.sets.now) t) (range-end (given_of c.args.store.now c.args.traversal.now.name) c.args.traversal.now.from c.args.traversal.now.upto c.loop-place.place c.requires.range c.loop-place-test.false c.loop-place.auto.place-end)

pub loop-place-preserved : goal.loop-place-preserved
loop-place-preserved g c =
    (c.in_ok-found.ensures.ordered, gathered-more (spread_over c.args.store.now c.args.traversal.now.free.items c.args.traversal.now.places.items) (given_of c.args.store.now c.args.traversal.now.name) c.args.traversal.now.from c.loop-place.place c.get.result.now (elements c.args.store.now c.args.sets.now) c.loop-place.found c.in_ok-found.found c.loop-place.auto.place (omega (arith, c.loop-place-test.true, c.requires.within)) (ap (λ ts. slice_get ts c.loop-place.place) (sym c.given-given.ensures.value) ∙ c.get.ensures) c.loop-place.invariant.1 c.in_ok-found.ensures.members)
