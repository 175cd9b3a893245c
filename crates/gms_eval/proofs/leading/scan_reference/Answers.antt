use Rattle.std.proofs.Common.{◌-◌, ◌*◌, ◌<◌, refl, subst, arith}
use Rattle.gms_eval.specs.InnerLeading.{IsReaching, indices_tree}
use Rattle.gms_eval.specs.Leaders.{reach}
use Rattle.gms_eval.specs.declared.traversals.Traversal.{Traversal}
use Rattle.gms_eval.proofs.Entries.{at-some}
use Rattle.gms_eval.proofs.Shortness.{short-traversal, short-no_traversal}
use Rattle.gms_eval.proofs.leading.scan_reference.Goals as goal

pub returns-in-Some-clause-short : goal.returns-in-Some-clause-short
returns-in-Some-clause-short g c =
    λ below small.
    let traversal = c.in-Some.traversal in
    let shorter = at-some (λ (w : Traversal). (w.upto - w.from) * w.spread < c.args.bound) c.in_ok-traversal.field-0 traversal c.in-Some.is c.in_ok-traversal.ensures.shorter in
    short-traversal c.args.store.now c.args.b.now c.args.sets.now c.args.bound c.args.name c.args.indices.now _ traversal refl (omega (arith, c.saturating_mul.ensures, shorter, c.ranges.bound.fits)) shorter (λ few. subst (IsReaching c.args.bound (reach c.args.store.now c.args.b.now c.args.sets.now c.args.name (indices_tree c.args.indices.now))) c.in-Some.is (c.in_ok-traversal.ensures.reach below small few))

pub returns-in-None-clause-short : goal.returns-in-None-clause-short
returns-in-None-clause-short g c =
    λ below small. short-no_traversal c.args.store.now c.args.b.now c.args.sets.now c.args.bound c.args.name c.args.indices.now _ refl refl (λ few. subst (IsReaching c.args.bound (reach c.args.store.now c.args.b.now c.args.sets.now c.args.name (indices_tree c.args.indices.now))) c.in-None.is (c.in_ok-traversal.ensures.reach below small few))
