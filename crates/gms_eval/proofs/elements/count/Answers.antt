use Rattle.std.proofs.Common.{◌∙◌, ap, sym, refl, ℕ, ◌*◌, min, length, get_or, lit≤, arith}
use Rattle.gms_eval.specs.Domain.{labels_of}
use Rattle.gms_eval.proofs.Sizes.{counted-start, counted-more, counted-end, elements-few, length-labels}
use Rattle.gms_eval.proofs.elements.count.Goals as goal

pub loop-set-init : goal.loop-set-init
loop-set-init g c = (counted-start (labels_of c.args.store.now) 18446744073709551615 c.args.sets.now, lit≤ tt)

pub loop-set-preserved : goal.loop-set-preserved
loop-set-preserved g c =
    let set : ℕ = get_or c.args.sets.now c.loop-set.set-index 0 in
    let n = length-labels c.args.store.now set c.len.result c.members.result.now c.len.ensures.len c.members.ensures.value in
    (counted-more (labels_of c.args.store.now) _ c.loop-set.count c.saturating_mul-count.result 18446744073709551615 c.args.sets.now c.loop-set.set-index set c.loop-set-test.true refl c.loop-set.invariant.0 (c.saturating_mul-count.ensures ∙ ap (λ k. min (c.loop-set.count * k) 18446744073709551615) n), omega (arith, c.saturating_mul-count.ensures))

pub returns : goal.returns
returns g c =
    sym (ap (λ those. min (length those) 18446744073709551615) (elements-few c.args.store.now c.args.sets.now c.if-sets-gt-MOST_LABELS.false) ∙ c.loop-set.invariant.0 ∙ counted-end (labels_of c.args.store.now) c.loop-set.count 18446744073709551615 c.args.sets.now c.loop-set.set-index c.loop-set-test.false c.loop-set.invariant.1)
