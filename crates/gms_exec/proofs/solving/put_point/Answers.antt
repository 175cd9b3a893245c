use Rattle.std.proofs.Common.{◌∙◌, ap}
use Rattle.std.proofs.lemmas.Result.{on_ok_weaker}
use Rattle.gms_store.specs.State.{after_attributes, attributes_of, with_marginal}
use Rattle.gms_exec.proofs.Levels.{point-put}
use Rattle.gms_exec.proofs.solving.put_point.Goals as goal

pub returns : goal.returns
returns g c =
    let v = g.F.ExactField.value in
    let key = c.args.key.now in
    on_ok_weaker c.put_marginal.result (λ put. put ∙ ap (λ s. after_attributes s key.symbol key.tuple (with_marginal (attributes_of s key.symbol key.tuple) (v c.args.marginal))) c.in_ok-put_level.ensures.ok ∙ point-put c.args.store.now key (v c.args.level) (v c.args.marginal)) c.put_marginal.ensures.ok
