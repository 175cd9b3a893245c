use Rattle.std.proofs.Common.{◌≡◌, ◌<◌, ◌+◌, ◌/◌, ◌%◌, ◌++◌, ◌∷◌, [], ◌∙◌, ap, sym, subst, length, get_or, Some, arith}
use Rattle.std.proofs.lemmas.List.{get_or_read}
use Rattle.std.proofs.lemmas.Option.{slice_get-get_or}
use Rattle.gms_tuple.specs.Products.{tuple_product}
use Rattle.gms_set.proofs.Products.{IsMade, IsMade-more, IsMade-all, next}
use Rattle.gms_set.proofs.product.tuple_at.Goals as goal

pub nonzero_div-rest : goal.nonzero_div-rest
nonzero_div-rest c =
    let labels : c.as_slice-labels.result.now ≡ get_or c.args.parts.now c.loop-part.part-index [] = c.as_slice-labels.ensures ∙ get_or_read c.args.parts.now c.loop-part.part-index c.part-item.result c.loop-part-test.true c.part-item.is [] in
    let n = next c.args.parts.now c.args.place c.loop-part.part-index c.loop-part.below c.loop-part.rest c.loop-part.tuple c.loop-part-test.true c.loop-part.invariant in
    subst (λ ls. 0 < c.loop-part.below / length ls) (sym labels) (subst (λ m. 0 < m) (sym n.share) n.positive)

pub bounds-labels-rest : goal.bounds-labels-rest
bounds-labels-rest c =
    let labels : c.as_slice-labels.result.now ≡ get_or c.args.parts.now c.loop-part.part-index [] = c.as_slice-labels.ensures ∙ get_or_read c.args.parts.now c.loop-part.part-index c.part-item.result c.loop-part-test.true c.part-item.is [] in
    let n = next c.args.parts.now c.args.place c.loop-part.part-index c.loop-part.below c.loop-part.rest c.loop-part.tuple c.loop-part-test.true c.loop-part.invariant in
    subst (λ ls. c.loop-part.rest / (c.loop-part.below / length ls) < length ls) (sym labels) (subst (λ m. c.loop-part.rest / m < length (get_or c.args.parts.now c.loop-part.part-index [])) (sym n.share) n.place)

pub nonzero_rem-rest : goal.nonzero_rem-rest
nonzero_rem-rest c =
    let labels : c.as_slice-labels.result.now ≡ get_or c.args.parts.now c.loop-part.part-index [] = c.as_slice-labels.ensures ∙ get_or_read c.args.parts.now c.loop-part.part-index c.part-item.result c.loop-part-test.true c.part-item.is [] in
    let n = next c.args.parts.now c.args.place c.loop-part.part-index c.loop-part.below c.loop-part.rest c.loop-part.tuple c.loop-part-test.true c.loop-part.invariant in
    subst (λ ls. 0 < c.loop-part.below / length ls) (sym labels) (subst (λ m. 0 < m) (sym n.share) n.positive)

pub loop-part-preserved : goal.loop-part-preserved
loop-part-preserved c =
    let labels : c.as_slice-labels.result.now ≡ get_or c.args.parts.now c.loop-part.part-index [] = c.as_slice-labels.ensures ∙ get_or_read c.args.parts.now c.loop-part.part-index c.part-item.result c.loop-part-test.true c.part-item.is [] in
    rw c.in_ok-push.ensures.ok (subst (λ ls. IsMade c.args.parts.now c.args.place (c.loop-part.part-index + 1) (c.loop-part.below / length ls) (c.loop-part.rest % (c.loop-part.below / length ls)) (c.loop-part.tuple ++ get_or ls (c.loop-part.rest / (c.loop-part.below / length ls)) 0 ∷ [])) (sym labels) (IsMade-more c.args.parts.now c.args.place c.loop-part.part-index c.loop-part.below c.loop-part.rest c.loop-part.tuple c.loop-part-test.true c.loop-part.invariant))

pub returns : goal.returns
returns c =
    let at = IsMade-all c.args.parts.now c.args.place c.loop-part.part-index c.loop-part.below c.loop-part.rest c.loop-part.tuple c.loop-part-test.false c.loop-part.invariant in
    slice_get-get_or (tuple_product c.args.parts.now) c.args.place [] (omega (arith, c.requires.place, c.requires.count)) ∙ ap Some (sym at)
