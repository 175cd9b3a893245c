use Rattle.std.proofs.Common.{subst}
use Rattle.std.specs.List.{All}
use Rattle.std.proofs.lemmas.List.{take_all}
use Rattle.std.proofs.lemmas.List.Elements.{All-more}
use Rattle.gms_eval.specs.Domain.{IsSimple}
use Rattle.gms_eval.proofs.traversals.are_simple.Goals as goal

pub loop-set-preserved : goal.loop-set-preserved
loop-set-preserved g c =
    All-more (IsSimple c.args.store.now) c.args.sets.now c.loop-set.set-index 0 c.loop-set-test.true c.loop-set.invariant (c.is_simple.ensures.simple c.if-not-is_simple.false)

pub returns-clause-simple : goal.returns-clause-simple
returns-clause-simple g c =
    λ _. subst (λ sets. All (IsSimple c.args.store.now) sets) (take_all c.loop-set.set-index c.args.sets.now c.loop-set-test.false) c.loop-set.invariant
