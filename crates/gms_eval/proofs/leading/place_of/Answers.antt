use Rattle.std.proofs.Common.{◌∙◌, ap, sym, Ok, None}
use Rattle.std.proofs.lemmas.List.{get_or-map}
use Rattle.gms_eval.specs.Value.{label_answer}
use Rattle.gms_eval.proofs.leading.place_of.Goals as goal

pub returns-then-is_set-clause-label : goal.returns-then-is_set-clause-label
returns-then-is_set-clause-label g c =
    λ state binding. get_or-map (label_answer g.F.ExactField.value g.F.ExactField.limit state binding) c.args.indices.now c.loop-place.place c.index-indices-place.result (Ok None) c.loop-place-test.true ∙ ap (label_answer g.F.ExactField.value g.F.ExactField.limit state binding) (sym c.index-indices-place.is) ∙ c.is_set.ensures.label c.if-is_set.true state binding
