use Rattle.std.proofs.Common.{◌+◌, ◌++◌, ◌∷◌, [], sym, ap, ◌∙◌}
use Rattle.lp_fraction_dict.proofs.Filling.{range_push}
use Rattle.lp_fraction_dict.proofs.first.numbers_from.Goals as goal

pub loop-place-preserved : goal.loop-place-preserved
loop-place-preserved c =
    c.in_ok-push.ensures.items ∙ ap (λ l. l ++ (c.args.first + c.loop-place.place) ∷ []) c.loop-place.invariant ∙ sym (range_push c.args.first c.loop-place.place)
