use Rattle.std.proofs.Common.{◌∙◌, ap, sym, [], ◌∷◌, ◌++◌, take, arith}
use Rattle.std.proofs.lemmas.List.{take_more}
use Rattle.std.proofs.lemmas.Option.{get_or_from_slice_get}
use Rattle.gms_eval.proofs.traversals.listed.Goals as goal

pub loop-place-preserved : goal.loop-place-preserved
loop-place-preserved c =
    c.in_ok-push.ensures.items
    ∙ ap (λ list. list ++ c.in_ok-copy.field-0 ∷ []) c.loop-place.invariant
    ∙ ap (λ x. take c.loop-place.place c.args.tuples.now ++ x ∷ []) (c.in_ok-copy.ensures ∙ sym (get_or_from_slice_get c.args.tuples.now c.loop-place.place c.get.result.now [] c.get.ensures))
    ∙ sym (take_more c.args.tuples.now c.loop-place.place [] (omega (arith, c.loop-place-test.true, c.len-place-end.ensures.len)))
