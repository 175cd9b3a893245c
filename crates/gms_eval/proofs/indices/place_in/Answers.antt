use Rattle.std.proofs.Common.{◌≡◌, ap, sym, ◌∙◌, [], ◌∷◌, ◌++◌}
use Rattle.std.proofs.lemmas.Option.{slice_get_within}
use Rattle.gms_tuple.specs.TupleSet.{place_of_tuple}
use Rattle.gms_eval.proofs.Places.{place-below, place-none, place-at}
use Rattle.gms_eval.proofs.indices.place_in.Goals as goal

pub returns-then-is_at-clause-value : goal.returns-then-is_at-clause-value
returns-then-is_at-clause-value c =
    sym (place-at c.args.members.now (c.args.label ∷ []) c.likely_place-likely.result c.len-count.ensures.ordered (c.is_at.ensures c.if-is_at.true))

pub returns-then-is_at-clause-within : goal.returns-then-is_at-clause-within
returns-then-is_at-clause-within c =
    slice_get_within c.args.members.now c.likely_place-likely.result (c.args.label ∷ []) (c.is_at.ensures c.if-is_at.true)

pub returns-in-Ok-clause-value : goal.returns-in-Ok-clause-value
returns-in-Ok-clause-value c =
    let element : c.push.new.self ≡ c.args.label ∷ [] = c.in_ok-push.ensures.ok ∙ ap (λ t. t ++ c.args.label ∷ []) c.new-element.ensures in
    sym (ap (place_of_tuple c.args.members.now) (sym element) ∙ c.in-Ok.ensures.member)

pub returns-in-Ok-clause-within : goal.returns-in-Ok-clause-within
returns-in-Ok-clause-within c =
    place-below c.args.members.now c.push.new.self c.in-Ok.place c.in-Ok.ensures.member

pub returns-clause-value : goal.returns-clause-value
returns-clause-value c =
    let element : c.push.new.self ≡ c.args.label ∷ [] = c.in_ok-push.ensures.ok ∙ ap (λ t. t ++ c.args.label ∷ []) c.new-element.ensures in
    sym (ap (place_of_tuple c.args.members.now) (sym element) ∙ place-none c.args.members.now c.push.new.self c.in-Err.ensures.absent.0)
